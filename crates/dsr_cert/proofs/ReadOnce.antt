-- A text is read as one choice.
use Rattle.std.proofs.Common.{◌≡◌, ◌≤◌, ◌<◌, ◌+◌, ◌-◌, ◌^◌, ◌++◌, ◌∙◌, ℕ, suc, List, [], ◌∷◌, Some, length, map, slice_get, refl, sym, ap, subst, arith}
use Rattle.std.specs.Prelude.{codes, decimal, option_and_then}
use Rattle.std.proofs.lemmas.Fmt.{decimal_injective}
use Rattle.std.proofs.lemmas.List.{length-append}
use Rattle.std.proofs.lemmas.Option.{slice_get_within}
use Rattle.dsr_cert.proofs.Naming.{test_numbers}
use Rattle.dsr_cert.proofs.Numbers.{limit}
use Rattle.dsr_cert.proofs.Saying.{cancel_front, same_ended}
use Rattle.dsr_cert.specs.Certificates.{IsReadAs, NamesWay, before_level, before_way, certificate_lines, conj_lines, conjs_lines, ended, last_line, level_bound, row_lines, rows_lines, way_line, way_text}
use Rattle.dsr_ir.specs.declared.constraints.Conj.{Conj}
use Rattle.dsr_ir.specs.declared.constraints.Constraint.{Constraint}
use Rattle.dsr_ir.specs.declared.constraints.Literal.{Literal}
use Rattle.dsr_ir.specs.declared.declarations.Spec.{Spec}
use Rattle.dsr_ir.specs.declared.updates.Template.{Template}
use Rattle.dsr_graph_theory.proofs.FirstKept.{few_listed}
use Rattle.dsr_plan_laws.proofs.Unique.{listed_one}
use Rattle.dsr_graph_theory.specs.Owners.{Owner}
use Rattle.dsr_meaning.specs.Lists.{each_at}
use Rattle.dsr_plan_theory.specs.Plans.{IsListedAt, owner_at}
use Rattle.dsr_plan_theory.specs.declared.choices.Choice.{Choice}
use Rattle.dsr_plan_theory.specs.declared.choices.Row.{Row}
use Rattle.dsr_plan_theory.specs.declared.choices.Way.{Way}
use Rattle.dsr_plan_theory.specs.declared.choices.Way.TheVariants.{Test, By}

-- ---- lists that are made part by part

split : {L : Type 0} (a b s t : List L) → length a ≡ length b → a ++ s ≡ b ++ t → (a ≡ b) × (s ≡ t)
split [] [] s t long same = (refl, same)
split [] (y ∷ b) s t long same = absurd (omega (arith, long))
split (x ∷ a) [] s t long same = absurd (omega (arith, long))
split (x ∷ a) (y ∷ b) s t long same =
    let head : x ≡ y = cc in
    let tail : a ++ s ≡ b ++ t = cc in
    let rest = split a b s t (omega (arith, long)) tail in
    (ap (λ z. z ∷ a) head ∙ ap (λ l. y ∷ l) rest.0, rest.1)

module _ {S V L : Type 0} (g : ℕ → V → List L) (R : ℕ → S → V → Type 0) where
  -- each item of the second list goes with that of the first, where the first one has the number
  abbrev pub Goes : ℕ → List S → List V → Type 0
  Goes n xs ys =
      (length ys ≡ length xs)
      × ((k i : ℕ) (x : S) (y : V) → k ≡ n + i → slice_get xs i ≡ Some x → slice_get ys i ≡ Some y → R k x y)

  goes_on : (n : ℕ) (x : S) (xs : List S) (y : V) (ys : List V) → Goes n (x ∷ xs) (y ∷ ys) → Goes (suc n) xs ys
  goes_on n x xs y ys goes = (
    (let many = goes.0 in omega (arith, many)),
    λ k i a b is here there. goes.1 k (suc i) a b (omega (arith, is)) here there,
  )

  goes_first : (n : ℕ) (x : S) (xs : List S) (y : V) (ys : List V) → Goes n (x ∷ xs) (y ∷ ys) → R n x y
  goes_first n x xs y ys goes = goes.1 n 0 x y (omega arith) refl refl

  module _ (long : (n : ℕ) (x : S) (a b : V) → R n x a → R n x b → length (g n a) ≡ length (g n b)) where
    pub each_long : (n : ℕ) (xs : List S) (ys zs : List V) → Goes n xs ys → Goes n xs zs → length (each_at g n ys) ≡ length (each_at g n zs)
    each_long n [] [] [] p q = refl
    each_long n [] (y ∷ ys) zs p q = let many = p.0 in absurd (omega (arith, many))
    each_long n [] [] (z ∷ zs) p q = let many = q.0 in absurd (omega (arith, many))
    each_long n (x ∷ xs) [] zs p q = let many = p.0 in absurd (omega (arith, many))
    each_long n (x ∷ xs) (y ∷ ys) [] p q = let many = q.0 in absurd (omega (arith, many))
    each_long n (x ∷ xs) (y ∷ ys) (z ∷ zs) p q =
        let one = long n x y z (goes_first n x xs y ys p) (goes_first n x xs z zs q) in
        let rest = each_long (suc n) xs ys zs (goes_on n x xs y ys p) (goes_on n x xs z zs q) in
        length-append (g n y) (each_at g (suc n) ys)
        ∙ (ap (λ m. m + length (each_at g (suc n) ys)) one ∙ (ap (λ m. length (g n z) + m) rest ∙ sym (length-append (g n z) (each_at g (suc n) zs))))

    module _ (once : (n : ℕ) (x : S) (a b : V) → R n x a → R n x b → g n a ≡ g n b → a ≡ b) where
      pub each_once : (n : ℕ) (xs : List S) (ys zs : List V) → Goes n xs ys → Goes n xs zs → each_at g n ys ≡ each_at g n zs → ys ≡ zs
      each_once n [] [] [] p q same = refl
      each_once n [] (y ∷ ys) zs p q same = let many = p.0 in absurd (omega (arith, many))
      each_once n [] [] (z ∷ zs) p q same = let many = q.0 in absurd (omega (arith, many))
      each_once n (x ∷ xs) [] zs p q same = let many = p.0 in absurd (omega (arith, many))
      each_once n (x ∷ xs) (y ∷ ys) [] p q same = let many = q.0 in absurd (omega (arith, many))
      each_once n (x ∷ xs) (y ∷ ys) (z ∷ zs) p q same =
          let a = goes_first n x xs y ys p in
          let b = goes_first n x xs z zs q in
          let parts = split (g n y) (g n z) (each_at g (suc n) ys) (each_at g (suc n) zs) (long n x y z a b) same in
          let rest = each_once (suc n) xs ys zs (goes_on n x xs y ys p) (goes_on n x xs z zs q) parts.1 in
          ap (λ v. v ∷ ys) (once n x y z a b parts.0) ∙ ap (λ l. z ∷ l) rest

-- ---- ways

module _ (owner : Owner) where
  module _ (conj literal : ℕ) where
    few : (number : ℕ) (template : Template) → IsListedAt owner conj literal number template → number < 2 ^ 64
    few number template its =
        let less = slice_get_within its.templates (number - 1) template its.template_is in
        let most = few_listed owner conj literal its.templates its.listed in
        omega (arith, less, most)

    template_once : (number : ℕ) (t u : Template) → IsListedAt owner conj literal number t → IsListedAt owner conj literal number u → t ≡ u
    template_once number t u a b =
        let lists : a.templates ≡ b.templates = listed_one owner conj literal a.templates b.templates a.listed b.listed in
        let both : Some t ≡ Some u = sym a.template_is ∙ (ap (λ ts. slice_get ts (number - 1)) lists ∙ b.template_is) in
        cc

    way_once : (its : Literal) (a b : Way) → NamesWay owner conj literal its a → NamesWay owner conj literal its b → way_text a ≡ way_text b → a ≡ b
    way_once its Test Test p q same = refl
    way_once its Test (By m u) p q same = absurd (test_numbers (decimal m) same)
    way_once its (By m t) Test p q same = absurd (test_numbers (decimal m) (sym same))
    way_once its (By m t) (By k u) p q same =
        let digits : decimal m ≡ decimal k = cancel_front (codes "way ") (decimal m) (decimal k) same in
        let number : m ≡ k = decimal_injective m k (few m t p.listed) (few k u q.listed) digits in
        let listed = subst (λ x. IsListedAt owner conj literal x t) number p.listed in
        ap (λ x. By x t) number ∙ ap (By k) (template_once k t u listed q.listed)

  -- of a conjunction
  module _ (conj : ℕ) where
    abbrev LiteralLine : ℕ → Way → List (List ℕ)
    LiteralLine literal way = way_line conj literal way ∷ []

    abbrev IsWayOf : ℕ → Literal → Way → Type 0
    IsWayOf literal its way = NamesWay owner conj literal its way

    line_once : (literal : ℕ) (its : Literal) (a b : Way) → IsWayOf literal its a → IsWayOf literal its b → LiteralLine literal a ≡ LiteralLine literal b → a ≡ b
    line_once literal its a b p q same =
        let lines : way_line conj literal a ≡ way_line conj literal b = cc in
        way_once conj literal its a b p q (cancel_front (before_way conj literal) (way_text a) (way_text b) lines)

    abbrev AreWaysOf : Conj → List Way → Type 0
    AreWaysOf its ways = Goes LiteralLine IsWayOf 0 its.literals ways

    conj_long : (its : Conj) (a b : List Way) → AreWaysOf its a → AreWaysOf its b → length (conj_lines conj a) ≡ length (conj_lines conj b)
    conj_long its a b p q = each_long LiteralLine IsWayOf (λ _ _ _ _ _ _. refl) 0 its.literals a b p q

    conj_once : (its : Conj) (a b : List Way) → AreWaysOf its a → AreWaysOf its b → conj_lines conj a ≡ conj_lines conj b → a ≡ b
    conj_once its a b p q same = each_once LiteralLine IsWayOf (λ _ _ _ _ _ _. refl) line_once 0 its.literals a b p q same

  abbrev AreRowsOf : List (List Way) → Type 0
  AreRowsOf rows = Goes conj_lines (λ conj its ways. AreWaysOf conj its ways) 0 owner.constraint.conjs rows

  rows_long : (a b : List (List Way)) → AreRowsOf a → AreRowsOf b → length (conjs_lines a) ≡ length (conjs_lines b)
  rows_long a b p q = each_long conj_lines (λ conj its ways. AreWaysOf conj its ways) conj_long 0 owner.constraint.conjs a b p q

  rows_once : (a b : List (List Way)) → AreRowsOf a → AreRowsOf b → conjs_lines a ≡ conjs_lines b → a ≡ b
  rows_once a b p q same = each_once conj_lines (λ conj its ways. AreWaysOf conj its ways) conj_long conj_once 0 owner.constraint.conjs a b p q same

-- ---- rows

module _ (spec : Spec) where
  bound_low : level_bound spec ≤ 128
  bound_low = limit spec.base.version

  -- a row of the constraint with this number
  record IsRowFor (n : ℕ) (constraint : Constraint) (row : Row) : Type 0 where
    there : slice_get spec.constraints n ≡ Some constraint
    low : row.level < level_bound spec
    rows : Goes conj_lines (λ conj its ways. Goes (λ literal way. way_line conj literal way ∷ []) (λ literal l way. NamesWay (owner_at spec n constraint) conj literal l way) 0 its.literals ways) 0 constraint.conjs row.ways

  row_long : (n : ℕ) (constraint : Constraint) (a b : Row) → IsRowFor n constraint a → IsRowFor n constraint b → length (row_lines spec n a) ≡ length (row_lines spec n b)
  row_long n constraint a b p q = ap suc (rows_long (owner_at spec n constraint) a.ways b.ways p.rows q.rows)

  row_once : (n : ℕ) (constraint : Constraint) (a b : Row) → IsRowFor n constraint a → IsRowFor n constraint b → row_lines spec n a ≡ row_lines spec n b → a ≡ b
  row_once n constraint a b p q same =
      let head : before_level spec n ++ decimal a.level ≡ before_level spec n ++ decimal b.level = cc in
      let tail : conjs_lines a.ways ≡ conjs_lines b.ways = cc in
      let low = bound_low in
      let p_low = p.low in
      let q_low = q.low in
      let level : a.level ≡ b.level = decimal_injective a.level b.level (omega (arith, low, p_low)) (omega (arith, low, q_low)) (cancel_front (before_level spec n) (decimal a.level) (decimal b.level) head) in
      let ways : a.ways ≡ b.ways = rows_once (owner_at spec n constraint) a.ways b.ways p.rows q.rows tail in
      λ i. record { level = level i; ways = ways i }

  module _ (text : List ℕ) (choice : Choice) (its : IsReadAs spec text choice) where
    is_row : (n : ℕ) (constraint : Constraint) (row : Row) → slice_get spec.constraints n ≡ Some constraint → slice_get choice.rows n ≡ Some row → IsRowFor n constraint row
    is_row n constraint row there here =
        let fits = its.fits.are n constraint row there here in
        let named = its.ways n constraint row (record { constraint_is = there; row_is = here }) in
        record {
          there = there;
          low = its.levels n row here;
          rows = (
            fits.as_many,
            λ conj i conj_its ways conj_is at_conj at_ways.
                let same : conj ≡ i = omega (arith, conj_is) in
                let conj_there : slice_get constraint.conjs conj ≡ Some conj_its = ap (slice_get constraint.conjs) same ∙ at_conj in
                let ways_there : slice_get row.ways conj ≡ Some ways = ap (slice_get row.ways) same ∙ at_ways in (
                  fits.are conj conj_its ways conj_there ways_there,
                  λ literal j l way literal_is at_literal at_way.
                      let also : literal ≡ j = omega (arith, literal_is) in
                      named conj literal l way
                      (ap (λ o. option_and_then (λ c. slice_get c.literals literal) o) conj_there ∙ (ap (slice_get conj_its.literals) also ∙ at_literal))
                      (ap (λ o. option_and_then (λ ws. slice_get ws literal) o) ways_there ∙ (ap (slice_get ways) also ∙ at_way)),
                ),
          );
        }

    goes : Goes (row_lines spec) IsRowFor 0 spec.constraints choice.rows
    goes = (
      its.fits.as_many,
      λ n i constraint row n_is there here.
          let same : n ≡ i = omega (arith, n_is) in
          is_row n constraint row (ap (slice_get spec.constraints) same ∙ there) (ap (slice_get choice.rows) same ∙ here),
    )

  ended_once : (a b : List (List ℕ)) → map ended a ≡ map ended b → a ≡ b
  ended_once [] [] same = refl
  ended_once [] (y ∷ b) same = absurd cc
  ended_once (x ∷ a) [] same = absurd cc
  ended_once (x ∷ a) (y ∷ b) same =
      let head : ended x ≡ ended y = cc in
      let tail : map ended a ≡ map ended b = cc in
      ap (λ z. z ∷ a) (same_ended x y head) ∙ ap (λ l. y ∷ l) (ended_once a b tail)

  pub choice_once : (text : List ℕ) (a b : Choice) → IsReadAs spec text a → IsReadAs spec text b → a ≡ b
  choice_once text a b p q =
      let lines : certificate_lines spec a ≡ certificate_lines spec b = ended_once (certificate_lines spec a) (certificate_lines spec b) (sym p.lines_are ∙ q.lines_are) in
      let inner : rows_lines spec a.rows ++ last_line ∷ [] ≡ rows_lines spec b.rows ++ last_line ∷ [] = cc in
      let long = each_long (row_lines spec) IsRowFor row_long 0 spec.constraints a.rows b.rows (goes text a p) (goes text b q) in
      let middle = split (rows_lines spec a.rows) (rows_lines spec b.rows) (last_line ∷ []) (last_line ∷ []) long inner in
      let rows : a.rows ≡ b.rows = each_once (row_lines spec) IsRowFor row_long row_once 0 spec.constraints a.rows b.rows (goes text a p) (goes text b q) middle.0 in
      λ i. record { rows = rows i }
