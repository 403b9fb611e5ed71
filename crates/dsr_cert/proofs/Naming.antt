-- Lines of constraints and of literals, as they are read.
use Rattle.std.proofs.Common.{◌≡◌, ◌≤◌, ◌<◌, ◌+◌, ◌-◌, ◌++◌, ◌⊎◌, ℕ, inl, inr, true, List, [], ◌∷◌, Option, None, Some, Result, Ok, Err, get_or, slice_get, refl, sym, ap, subst, ◌∙◌, arith}
use Rattle.std.specs.Prelude.{codes, decimal, option_and_then}
use Rattle.std.proofs.lemmas.Bool.{false≢true}
use Rattle.dsr_cert.proofs.Joined.{right_line, wrong_line, wrong_template}
use Rattle.dsr_cert.proofs.Saying.{cancel_front, same_ended}
use Rattle.dsr_cert.specs.Certificates.{NamesWay, before_level, before_way, constraint_line, ended, literal_line, way_line, level_bound}
use Rattle.dsr_cert.specs.Forms.{OfConstraint, OfLiteral, IsNoTemplate, IsNumeral, IsOfForm, NamesNone, of_constraint, test, way, numbered}
use Rattle.dsr_cert.specs.Parts.{AtOwner, IsFirstFrom, IsPart, IsWayNamed, Reads, Says, Stands}
use Rattle.dsr_cert.specs.Searches.{literal_in}
use Rattle.dsr_cert.specs.declared.faults.CertFault.{CertFault}
use Rattle.dsr_cert.specs.declared.faults.CertFault.TheVariants as faults
use Rattle.dsr_ir.specs.declared.constraints.Constraint.{Constraint}
use Rattle.dsr_ir.specs.declared.constraints.Literal.{Literal}
use Rattle.dsr_ir.specs.declared.declarations.Spec.{Spec}
use Rattle.dsr_ir.specs.declared.updates.Template.{Template}
use Rattle.dsr_cert.proofs.Taken.{found_there}
use Rattle.dsr_graph.specs.Graphs.{IsOwnerIn, ways_of}
use Rattle.dsr_graph.specs.declared.graphs.Graph.{Graph}
use Rattle.dsr_graph_theory.specs.Owners.{Owner}
use Rattle.dsr_placement.proofs.Counted.{few_ways}
use Rattle.std.proofs.lemmas.Fmt.{decimal_injective}
use Rattle.std.proofs.lemmas.Option.{slice_get_within}
use Rattle.dsr_plan_theory.specs.Plans.{IsListedAt, owner_at}
use Rattle.dsr_plan_theory.specs.declared.choices.Way.{Way}
use Rattle.dsr_plan_theory.specs.declared.choices.Way.TheVariants.{Test, By}
use Rattle.dsr_update_theory.specs.Templates.{literal_at}

pub test_numbers : (digits : List ℕ) → codes "test" ≡ numbered digits → ⊥
test_numbers digits e = let clash : 116 ≡ 119 = ap (λ xs. get_or xs 0 0) e in absurd (omega (arith, clash))

-- ---- listed templates by their digits

module _ (graph : Graph) (n : ℕ) (owner : Owner) (in_graph : IsOwnerIn graph n owner) (conj literal : ℕ) (digits : List ℕ) where
  few_listed : (number : ℕ) (template : Template) → IsListedAt owner conj literal number template → number ≤ 64
  few_listed number template its =
      let there = found_there graph n owner in_graph conj literal number template its in
      let less = slice_get_within (ways_of graph n conj literal) (number - 1) template there in
      let few = few_ways graph n owner in_graph conj literal in
      omega (arith, less, few)

  pub none_below : ((k : ℕ) → k < 65 → digits ≡ decimal k → ⊥) → NamesNone owner conj literal digits
  none_below none number template its same = let few = few_listed number template its in none number (omega (arith, few)) same

  pub none_other : (k : ℕ) → k < 65 → digits ≡ decimal k → ((template : Template) → IsListedAt owner conj literal k template → ⊥) → NamesNone owner conj literal digits
  none_other k less is never number template its same =
      let few = few_listed number template its in
      let one : number ≡ k = decimal_injective number k (omega (arith, few)) (omega (arith, less)) (sym same ∙ is) in
      never template (subst (λ m. IsListedAt owner conj literal m template) one its)

module _ (spec : Spec) (lines : List (List ℕ)) (at : ℕ) where
  -- ---- levels

  module _ (n : ℕ) (stands : Stands spec at (OfConstraint n ∷ [])) where
    pub level_right : (level : ℕ) → level < level_bound spec → Says lines at (before_level spec n) (decimal level) → IsPart spec lines at (OfConstraint n ∷ []) (constraint_line spec n level ∷ [])
    level_right level less said = right_line spec lines at (OfConstraint n) (constraint_line spec n level) stands (record { line_is = said; of_form = of_constraint n level less; named = λ m c l e. absurd cc })

    no_level : ((level : ℕ) → level < level_bound spec → Says lines at (before_level spec n) (decimal level) → ⊥) → (line : List ℕ) → slice_get lines at ≡ Some (ended line) → IsOfForm spec (OfConstraint n) line → ⊥
    no_level none _ there (of_constraint _ level le) = none level le there

    pub level_wrong : ((level : ℕ) → level < level_bound spec → Says lines at (before_level spec n) (decimal level) → ⊥) → IsFirstFrom spec lines at (faults.Text (at + 1))
    level_wrong none = wrong_line spec lines at (OfConstraint n) stands (no_level none)

  -- ---- ways

  module _ (n conj literal : ℕ) (stands : Stands spec at (OfLiteral n conj literal ∷ [])) where
    abbrev Said : List ℕ → Type 0
    Said text = Says lines at (before_way conj literal) text

    no_way : (Said (codes "test") → ⊥) → ((digits : List ℕ) → IsNumeral digits → Said (numbered digits) → ⊥) → (line : List ℕ) → slice_get lines at ≡ Some (ended line) → IsOfForm spec (OfLiteral n conj literal) line → ⊥
    no_way tests numbers _ there (test _ _ _) = tests there
    no_way tests numbers _ there (way _ _ _ digits numeral) = numbers digits numeral there

    pub way_wrong : (Said (codes "test") → ⊥) → ((digits : List ℕ) → IsNumeral digits → Said (numbered digits) → ⊥) → IsFirstFrom spec lines at (faults.Text (at + 1))
    way_wrong tests numbers = wrong_line spec lines at (OfLiteral n conj literal) stands (no_way tests numbers)

    -- where a line names no template, it says a way with these digits
    told_by : (m c l : ℕ) → OfLiteral n conj literal ≡ OfLiteral m c l → (text other : List ℕ) → ended other ≡ ended (literal_line conj literal text) → (none : IsNoTemplate spec m c l other) → text ≡ numbered none.digits
    told_by m c l e text other same none =
        let one : conj ≡ c = cc in
        let two : literal ≡ l = cc in
        cancel_front (before_way conj literal) text (numbered none.digits)
        (sym (same_ended other (literal_line conj literal text) same) ∙ (none.line_is ∙ λ i. before_way (sym one i) (sym two i) ++ numbered none.digits))

    pub test_right : Said (codes "test") → IsPart spec lines at (OfLiteral n conj literal ∷ []) (literal_line conj literal (codes "test") ∷ [])
    test_right said = right_line spec lines at (OfLiteral n conj literal) (literal_line conj literal (codes "test")) stands (record {
      line_is = said;
      of_form = test n conj literal;
      named = λ m c l e other same none. test_numbers none.digits (told_by m c l e (codes "test") other same none);
    })

    module _ (its : Literal) (literal_is : literal_in spec n conj literal ≡ Some its) (digits : List ℕ) (numeral : IsNumeral digits) (said : Said (numbered digits)) where
      same_its : (m c l : ℕ) → OfLiteral n conj literal ≡ OfLiteral m c l → (constraint : Constraint) → slice_get spec.constraints m ≡ Some constraint → (other : Literal) → literal_at constraint c l ≡ Some other → other ≡ its
      same_its m c l e constraint is other there =
          let zero_is : n ≡ m = cc in
          let one : conj ≡ c = cc in
          let two : literal ≡ l = cc in
          let found : literal_in spec m c l ≡ Some other = ap (option_and_then (λ x. literal_at x c l)) is ∙ there in
          let moved : literal_in spec n conj literal ≡ Some other = (λ i. literal_in spec (zero_is i) (one i) (two i)) ∙ found in
          let both : Some other ≡ Some its = sym moved ∙ literal_is in
          cc

      names : (number : ℕ) (template : Template) → digits ≡ decimal number → AtOwner spec n (λ owner. NamesWay owner conj literal its (By number template)) → (m c l : ℕ) → OfLiteral n conj literal ≡ OfLiteral m c l → (other : List ℕ) → ended other ≡ ended (literal_line conj literal (numbered digits)) → IsNoTemplate spec m c l other → ⊥
      names number template is named m c l e other same none = by none.not_there where
        at_owner : (none.its.given ≡ true) ⊎ NamesNone (owner_at spec n none.constraint) conj literal none.digits → ⊥
        at_owner (inl given) = false≢true (sym (named none.constraint here).free ∙ (sym (ap (λ x. x.given) (same_its m c l e none.constraint none.constraint_is none.its none.literal_is)) ∙ given)) where
          here : slice_get spec.constraints n ≡ Some none.constraint
          here = let zero_is : n ≡ m = cc in ap (slice_get spec.constraints) zero_is ∙ none.constraint_is
        at_owner (inr nothing) = nothing number template (named none.constraint here).listed (sym (cancel_front (codes "way ") digits none.digits (told_by m c l e (numbered digits) other same none)) ∙ is) where
          here : slice_get spec.constraints n ≡ Some none.constraint
          here = let zero_is : n ≡ m = cc in ap (slice_get spec.constraints) zero_is ∙ none.constraint_is

        by : (none.its.given ≡ true) ⊎ NamesNone (owner_at spec m none.constraint) c l none.digits → ⊥
        by not_there =
            let zero_is : n ≡ m = cc in
            let one : conj ≡ c = cc in
            let two : literal ≡ l = cc in
            at_owner (subst (λ k. (none.its.given ≡ true) ⊎ NamesNone (owner_at spec n none.constraint) conj k none.digits) (sym two)
            (subst (λ k. (none.its.given ≡ true) ⊎ NamesNone (owner_at spec n none.constraint) k l none.digits) (sym one)
            (subst (λ k. (none.its.given ≡ true) ⊎ NamesNone (owner_at spec k none.constraint) c l none.digits) (sym zero_is) not_there)))

      way_is : (number : ℕ) (template : Template) → numbered (decimal number) ≡ numbered digits → AtOwner spec n (λ owner. NamesWay owner conj literal its (By number template)) → IsPart spec lines at (OfLiteral n conj literal ∷ []) (way_line conj literal (By number template) ∷ [])
      way_is number template same named =
          let digits_are : digits ≡ decimal number = cancel_front (codes "way ") digits (decimal number) (sym same) in
          subst (λ ds. IsPart spec lines at (OfLiteral n conj literal ∷ []) (literal_line conj literal (numbered ds) ∷ [])) digits_are
          (right_line spec lines at (OfLiteral n conj literal) (literal_line conj literal (numbered digits)) stands (record {
            line_is = said;
            of_form = way n conj literal digits numeral;
            named = names number template digits_are named;
          }))

      found_at : (o : Option Constraint) → slice_get spec.constraints n ≡ o → option_and_then (λ x. literal_at x conj literal) o ≡ Some its → AtOwner spec n (λ owner. (its.given ≡ true) ⊎ NamesNone owner conj literal digits) → IsNoTemplate spec n conj literal (literal_line conj literal (numbered digits))
      found_at None is there nothing = absurd cc
      found_at (Some constraint) is there nothing = record {
        constraint = constraint;
        constraint_is = is;
        its = its;
        literal_is = there;
        digits = digits;
        numeral = numeral;
        line_is = refl;
        not_there = nothing constraint is;
      }

      abbrev Read : Result Way CertFault → Type 0
      Read r = Reads spec lines at (OfLiteral n conj literal ∷ []) (λ its_way. way_line conj literal its_way ∷ []) (λ its_way. AtOwner spec n (λ owner. NamesWay owner conj literal its its_way)) r

      pub way_read : (r : Result Way CertFault) → IsWayNamed spec n conj literal its digits r → Read r
      way_read (Ok Test) told = absurd (test_numbers digits told.0)
      way_read (Ok (By number template)) told = (way_is number template told.0 told.1, told.1)
      way_read (Err faults.NoMemory) told = tt
      way_read (Err (faults.NotATemplate a b c)) told =
          subst (IsFirstFrom spec lines at) (sym told.0) (wrong_template spec lines at n conj literal (literal_line conj literal (numbered digits)) stands said (found_at (slice_get spec.constraints n) refl literal_is told.1))
      way_read (Err (faults.Text k)) told = let clash = told.0 in absurd cc
      way_read (Err (faults.Coverage k)) told = let clash = told.0 in absurd cc
      way_read (Err (faults.Falsifies a b c)) told = let clash = told.0 in absurd cc
      way_read (Err (faults.Edge a b)) told = let clash = told.0 in absurd cc
      way_read (Err (faults.Reliance a b)) told = let clash = told.0 in absurd cc
