-- A specification has one plan that is taken: by rounds from the highest level down, what stands on a level is told by what stands on
-- it and below.
use Rattle.std.proofs.Common.{◌≡◌, ◌≤◌, ◌<◌, ◌+◌, ◌-◌, ◌∙◌, ℕ, zero, suc, true, false, nat_le, nat_lt, List, [], ◌∷◌, Option, None, Some, length, slice_get, refl, sym, ap, subst, arith}
use Rattle.std.specs.Prelude.{option_and_then}
use Rattle.std.proofs.lemmas.Bool.Decides.{nat_tests}
use Rattle.std.proofs.lemmas.Option.{same_Some, slice_get_past, slice_get_within}
use Rattle.dsr_ir.specs.declared.constraints.Constraint.{Constraint}
use Rattle.dsr_ir.specs.declared.constraints.Literal.{Literal}
use Rattle.dsr_ir.specs.declared.declarations.Spec.{Spec}
use Rattle.dsr_ir.specs.declared.updates.Template.{Template}
use Rattle.dsr_graph_theory.specs.Breaks.{Relies}
use Rattle.dsr_plan_laws.proofs.Unique.{listed_one}
use Rattle.dsr_graph_theory.specs.Owners.{Owner}
use Rattle.dsr_plan_theory.proofs.Grown.{held_more, not_both, repair_fewer}
use Rattle.dsr_plan_theory.specs.Plans.{AreWaysFor, Covers, IsListedAt, IsRowOf, IsTested, owner_at, way_at}
use Rattle.dsr_plan_theory.specs.Stuck.{CanRepair, IsHeld, MayBeFirst, MustTest, SparesMembers}
use Rattle.dsr_plan_theory.specs.Taken.{HasLevel, IsFirstFor, IsTaken, IsTakenWay, IsUpTo}
use Rattle.dsr_plan_theory.specs.declared.choices.Choice.{Choice}
use Rattle.dsr_plan_theory.specs.declared.choices.Row.{Row}
use Rattle.dsr_plan_theory.specs.declared.choices.Way.{Way}
use Rattle.dsr_plan_theory.specs.declared.choices.Way.TheVariants.{Test, By}
use Rattle.dsr_update_theory.specs.Templates.{literal_at}
use Rattle.dsr_meaning.proofs.Items.{item_there}

-- ---- lists

pub same_items : {T : Type 0} (xs ys : List T) → ((k : ℕ) → slice_get xs k ≡ slice_get ys k) → xs ≡ ys
same_items [] [] same = refl
same_items [] (y ∷ ys) same = absurd (let e = same 0 in cc)
same_items (x ∷ xs) [] same = absurd (let e = same 0 in cc)
same_items (x ∷ xs) (y ∷ ys) same =
    let first : x ≡ y = same_Some x y (same 0) in
    let rest = same_items xs ys (λ k. same (suc k)) in
    λ i. first i ∷ rest i

-- lists of one length are the same where items with one place are
pub same_pairs : {T : Type 0} (xs ys : List T) → length xs ≡ length ys → ((k : ℕ) (x y : T) → slice_get xs k ≡ Some x → slice_get ys k ≡ Some y → x ≡ y) → xs ≡ ys
same_pairs [] [] many same = refl
same_pairs [] (y ∷ ys) many same = absurd (omega (arith, many))
same_pairs (x ∷ xs) [] many same = absurd (omega (arith, many))
same_pairs (x ∷ xs) (y ∷ ys) many same =
    let first : x ≡ y = same 0 x y refl refl in
    let rest = same_pairs xs ys (omega (arith, many)) (λ k. same (suc k)) in
    λ i. first i ∷ rest i

-- ---- the highest level

pub record IsTop (rows : List Row) (level : ℕ) : Type 0 where
  pub above : (n : ℕ) (row : Row) → slice_get rows n ≡ Some row → row.level ≤ level
  pub number : ℕ
  pub row : Row
  pub row_is : slice_get rows number ≡ Some row
  pub level_is : row.level ≡ level

level_same : (row other : Row) → Some row ≡ Some other → row.level ≡ other.level
level_same row other same = ap (λ r. r.level) (same_Some row other same)

top_over : (row next : Row) (rows : List Row) (low level : ℕ) → IsTop (next ∷ rows) low → low ≤ level → row.level ≤ level → (n : ℕ) (other : Row) → slice_get (row ∷ next ∷ rows) n ≡ Some other → other.level ≤ level
top_over row next rows low level rest far near zero other is = let same = level_same row other is in omega (arith, same, near)
top_over row next rows low level rest far near (suc n) other is = let below = rest.above n other is in omega (arith, below, far)

higher : (row next : Row) (rows : List Row) → (level : ℕ) × IsTop (next ∷ rows) level → (level : ℕ) × IsTop (row ∷ next ∷ rows) level
higher row next rows rest = elim (nat_le rest.0 row.level) as (λ t. nat_le rest.0 row.level ≡ t → (level : ℕ) × IsTop (row ∷ next ∷ rows) level) [
  | true ↦ λ e.
      let low : rest.0 ≤ row.level = grind (arith, nat_tests) in
      (row.level, record { above = top_over row next rows rest.0 row.level rest.1 low (omega arith); number = 0; row = row; row_is = refl; level_is = refl })
  | false ↦ λ e.
      let high : row.level ≤ rest.0 = grind (arith, nat_tests) in
      (rest.0, record { above = top_over row next rows rest.0 rest.0 rest.1 (omega arith) high; number = suc rest.1.number; row = rest.1.row; row_is = rest.1.row_is; level_is = rest.1.level_is })
] refl

pub top_of : (row : Row) (rows : List Row) → (level : ℕ) × IsTop (row ∷ rows) level
top_of row [] = (row.level, record { above = above; number = 0; row = row; row_is = refl; level_is = refl }) where
  above : (n : ℕ) (other : Row) → slice_get (row ∷ []) n ≡ Some other → other.level ≤ row.level
  above zero other is = let same = level_same row other is in omega (arith, same)
  above (suc n) other is = absurd cc
top_of row (next ∷ rows) = higher row next rows (top_of next rows)

-- ---- what stands so far below the highest level

pub record IsFrom (choice : Choice) (top k n : ℕ) : Type 0 where
  pub row : Row
  pub row_is : slice_get choice.rows n ≡ Some row
  pub low : row.level + k ≤ top

module _ (spec : Spec) (choice : Choice) (its : IsTaken spec choice) where
  -- a constraint may be first by those on its level and below
  pub first_at : (n : ℕ) (constraint : Constraint) (row : Row) → IsRowOf spec choice n constraint row → MayBeFirst spec (IsUpTo choice row.level) n constraint
  first_at n constraint row here = record { relied_by_none = none; covered = covered } where
    none : (m : ℕ) → IsUpTo choice row.level m → Relies spec m n → ⊥
    none m up relies =
        let less = slice_get_within choice.rows m up.row up.row_is in
        let many = its.plan.as_many in
        let c = item_there spec.constraints m (omega (arith, less, many)) in
        let higher = its.plan.relies m n c.0 constraint up.row row (record { constraint_is = c.1; row_is = up.row_is }) here relies in
        let low = up.low in
        absurd (omega (arith, higher, low))

    tested : (conj literal : ℕ) (l : Literal) → literal_at constraint conj literal ≡ Some l → (way : Way) → way_at row conj literal ≡ Some way → MustTest (owner_at spec n constraint) (IsUpTo choice row.level) conj literal → IsTested row conj literal
    tested conj literal l literal_is Test way_is must = way_is
    tested conj literal l literal_is (By number template) way_is must =
        let taken = its.ways n constraint row conj literal l (By number template) here literal_is way_is in
        absurd (must (record { its = l; literal_is = literal_is; number = number; template = template; may = taken.may; spares = taken.spares }))

    covered : Covers constraint (MustTest (owner_at spec n constraint) (IsUpTo choice row.level))
    covered truth =
        let passes = its.plan.covers n constraint row here truth in
        record {
          number = passes.number;
          conj = passes.conj;
          conj_is = passes.conj_is;
          passes = λ literal l is must.
              let at : literal_at constraint passes.number literal ≡ Some l = ap (option_and_then (λ c. slice_get c.literals literal)) passes.conj_is ∙ is in
              let way = (its.plan.ways n constraint row here).ways passes.number literal l at in
              passes.passes literal l is (tested passes.number literal l at way.0 way.1 must);
        }

-- a level that isn't above the highest one isn't empty
pub has_level : (spec : Spec) (choice : Choice) → IsTaken spec choice → (top level : ℕ) → IsTop choice.rows top → level ≤ top → HasLevel choice level
has_level spec choice its top level is low =
    let same = is.level_is in
    its.filled is.number is.row level is.row_is (omega (arith, same, low))

-- ---- two plans

abbrev pub AllFrom : Choice → ℕ → Choice → ℕ → ℕ → Type 0
AllFrom a top b other_top k = (n : ℕ) → IsFrom a top k n → IsFrom b other_top k n

module _ (spec : Spec) (a b : Choice) (taken_a : IsTaken spec a) (taken_b : IsTaken spec b) (top other_top : ℕ) (a_top : IsTop a.rows top) (b_top : IsTop b.rows other_top) where
  row_there : (n : ℕ) (row : Row) → slice_get a.rows n ≡ Some row → (other : Row) × (slice_get b.rows n ≡ Some other)
  row_there n row is =
      let less = slice_get_within a.rows n row is in
      let many = taken_a.plan.as_many in
      let also = taken_b.plan.as_many in
      item_there b.rows n (omega (arith, less, many, also))

  all_at_first : AllFrom a top b other_top 0
  all_at_first n from =
      let other = row_there n from.row from.row_is in
      let low = b_top.above n other.0 other.1 in
      record { row = other.0; row_is = other.1; low = omega (arith, low) }

  -- what isn't on the lowest of these levels in the one plan isn't so in the other, which holds it there
  held : (k n : ℕ) (constraint : Constraint) → slice_get spec.constraints n ≡ Some constraint → AllFrom a top b other_top k → (from : IsFrom a top (suc k) n) (row : Row) → row.level + k ≡ other_top → IsHeld spec (IsUpTo b row.level) n constraint
  held k n constraint at all from row level_is =
      let low = from.low in
      let level : ℕ = top - k in
      let has = has_level spec a taken_a top level a_top (omega arith) in
      let its = taken_a.highest n constraint from.row level (record { constraint_is = at; row_is = from.row_is }) (omega (arith, low)) has in
      held_more (IsUpTo a level) (IsUpTo b row.level) (λ m up.
      let up_low = up.low in
      let there = all m (record { row = up.row; row_is = up.row_is; low = omega (arith, up_low, low) }) in
      let there_low = there.low in
      record { row = there.row; row_is = there.row_is; low = omega (arith, there_low, level_is) })
      spec n constraint its

  next_from : (k : ℕ) → AllFrom a top b other_top k → AllFrom a top b other_top (suc k)
  next_from k all n from =
      let low = from.low in
      let other = all n (record { row = from.row; row_is = from.row_is; low = omega (arith, low) }) in
      let other_low = other.low in
      let less = slice_get_within a.rows n from.row from.row_is in
      let many = taken_a.plan.as_many in
      let c = item_there spec.constraints n (omega (arith, less, many)) in
      elim (nat_le (other.row.level + suc k) other_top) as (λ t. nat_le (other.row.level + suc k) other_top ≡ t → IsFrom b other_top (suc k) n) [
        | true ↦ λ e. record { row = other.row; row_is = other.row_is; low = grind (arith, nat_tests) }
        | false ↦ λ e.
            let above : other_top < other.row.level + suc k = grind (arith, nat_tests) in
            let level_is : other.row.level + k ≡ other_top = omega (arith, above, other_low) in
            absurd (not_both spec (IsUpTo b other.row.level) n c.0 (first_at spec b taken_b n c.0 other.row (record { constraint_is = c.1; row_is = other.row_is })) (held k n c.0 c.1 all from other.row level_is))
      ] refl

  pub all_from : (k : ℕ) → AllFrom a top b other_top k
  all_from zero = all_at_first
  all_from (suc k) = next_from k (all_from k)

  -- so the other plan has as many levels
  pub top_below : top ≤ other_top
  top_below =
      let has = has_level spec a taken_a top 0 a_top (omega arith) in
      let level_is = has.level_is in
      let there = all_from top has.number (record { row = has.row; row_is = has.row_is; low = omega (arith, level_is) }) in
      let low = there.low in
      omega (arith, low)

  -- and no constraint on a higher one
  pub level_below : other_top ≤ top → (n : ℕ) (row other : Row) → slice_get a.rows n ≡ Some row → slice_get b.rows n ≡ Some other → other.level ≤ row.level
  level_below tops n row other is also =
      let high = a_top.above n row is in
      let there = all_from (top - row.level) n (record { row = row; row_is = is; low = omega (arith, high) }) in
      let low = there.low in
      let same = ap (λ r. r.level) (same_Some there.row other (sym there.row_is ∙ also)) in
      omega (arith, low, same, tops, high)

-- ---- ways

spares_fewer : (owner : Owner) (M N : ℕ → Type 0) → ((n : ℕ) → M n → N n) → (template : Template) → SparesMembers owner N template → SparesMembers owner M template
spares_fewer owner M N more template spares n other reason member = spares n other reason (more n member)

module _ (owner : Owner) (M N : ℕ → Type 0) (to : (n : ℕ) → M n → N n) (back : (n : ℕ) → N n → M n) (conj literal : ℕ) (its : Literal) (is : literal_at owner.constraint conj literal ≡ Some its) where
  can_repair : (P : ℕ → Type 0) (number : ℕ) (template : Template) → IsFirstFor owner P conj literal its number template → CanRepair owner P conj literal
  can_repair P number template first = record { its = its; literal_is = is; number = number; template = template; may = first.may; spares = first.spares }

  template_one : (number : ℕ) (t u : Template) → IsListedAt owner conj literal number t → IsListedAt owner conj literal number u → t ≡ u
  template_one number t u one other =
      let same = listed_one owner conj literal one.templates other.templates one.listed other.listed in
      same_Some t u (sym one.template_is ∙ (ap (λ ts. slice_get ts (number - 1)) same ∙ other.template_is))

  number_one : (n m : ℕ) (t u : Template) → IsFirstFor owner M conj literal its n t → IsFirstFor owner N conj literal its m u → n ≡ m
  number_one n m t u first other = elim (nat_lt n m) as (λ b. nat_lt n m ≡ b → n ≡ m) [
    | true ↦ λ e. absurd (other.none_before n t (grind (arith, nat_tests)) first.may (spares_fewer owner N M back t first.spares))
    | false ↦ λ e. elim (nat_lt m n) as (λ b. nat_lt m n ≡ b → n ≡ m) [
      | true ↦ λ f. absurd (first.none_before m u (grind (arith, nat_tests)) other.may (spares_fewer owner M N to u other.spares))
      | false ↦ λ f. grind (arith, nat_tests)
    ] refl
  ] refl

  way_one : (way other : Way) → IsTakenWay owner M conj literal its way → IsTakenWay owner N conj literal its other → way ≡ other
  way_one Test Test must also = refl
  way_one Test (By number template) must first = absurd (must (repair_fewer M N to owner conj literal (can_repair N number template first)))
  way_one (By number template) Test first must = absurd (must (repair_fewer N M back owner conj literal (can_repair M number template first)))
  way_one (By n t) (By m u) first other =
      let same : n ≡ m = number_one n m t u first other in
      let templates = template_one m t u (subst (λ k. IsListedAt owner conj literal k t) same first.may.listed) other.may.listed in
      λ i. By (same i) (templates i)

-- rows of which each literal's ways are the same
module _ (owner : Owner) (row other : Row) (ways : AreWaysFor owner row) (others : AreWaysFor owner other)
    (same : (conj literal : ℕ) (its : Literal) (way another : Way) → literal_at owner.constraint conj literal ≡ Some its → way_at row conj literal ≡ Some way → way_at other conj literal ≡ Some another → way ≡ another) where
  same_way : (conj literal : ℕ) → way_at row conj literal ≡ way_at other conj literal
  same_way conj literal = by (literal_at owner.constraint conj literal) refl where
    by : (o : Option Literal) → literal_at owner.constraint conj literal ≡ o → way_at row conj literal ≡ way_at other conj literal
    by None none = ways.no_more conj literal none ∙ sym (others.no_more conj literal none)
    by (Some its) is =
        let way = ways.ways conj literal its is in
        let another = others.ways conj literal its is in
        way.1 ∙ (ap Some (same conj literal its way.0 another.0 is way.1 another.1) ∙ sym another.1)

  pub ways_same : row.ways ≡ other.ways
  ways_same =
      let many = ways.as_many in
      let also = others.as_many in
      same_pairs row.ways other.ways (omega (arith, many, also))
      (λ conj its theirs is are. same_items its theirs (λ literal.
      sym (ap (option_and_then (λ ws. slice_get ws literal)) is) ∙ (same_way conj literal ∙ ap (option_and_then (λ ws. slice_get ws literal)) are)))

-- ---- the whole

up_to : (a b : Choice) → ((n : ℕ) (row other : Row) → slice_get a.rows n ≡ Some row → slice_get b.rows n ≡ Some other → other.level ≤ row.level)
    → ((n : ℕ) (row : Row) → slice_get a.rows n ≡ Some row → (other : Row) × (slice_get b.rows n ≡ Some other)) → (level other_level : ℕ) → level ≡ other_level → (n : ℕ) → IsUpTo a level n → IsUpTo b other_level n
up_to a b below there level other_level same n up =
    let other = there n up.row up.row_is in
    let lower = below n up.row other.0 up.row_is other.1 in
    let low = up.low in
    record { row = other.0; row_is = other.1; low = omega (arith, lower, low, same) }

module _ (spec : Spec) (a b : Choice) (taken_a : IsTaken spec a) (taken_b : IsTaken spec b) (top other_top : ℕ) (a_top : IsTop a.rows top) (b_top : IsTop b.rows other_top) where
  below : (n : ℕ) (row other : Row) → slice_get a.rows n ≡ Some row → slice_get b.rows n ≡ Some other → other.level ≤ row.level
  below = level_below spec a b taken_a taken_b top other_top a_top b_top (top_below spec b a taken_b taken_a other_top top b_top a_top)

  above : (n : ℕ) (other row : Row) → slice_get b.rows n ≡ Some other → slice_get a.rows n ≡ Some row → row.level ≤ other.level
  above = level_below spec b a taken_b taken_a other_top top b_top a_top (top_below spec a b taken_a taken_b top other_top a_top b_top)

  row_one : (n : ℕ) (row other : Row) → slice_get a.rows n ≡ Some row → slice_get b.rows n ≡ Some other → row ≡ other
  row_one n row other is also =
      let less = slice_get_within a.rows n row is in
      let many = taken_a.plan.as_many in
      let c = item_there spec.constraints n (omega (arith, less, many)) in
      let one = below n row other is also in
      let two = above n other row also is in
      let levels : row.level ≡ other.level = omega (arith, one, two) in
      let here : IsRowOf spec a n c.0 row = record { constraint_is = c.1; row_is = is } in
      let there : IsRowOf spec b n c.0 other = record { constraint_is = c.1; row_is = also } in
      let to = up_to a b below (row_there spec a b taken_a taken_b top other_top a_top b_top) row.level other.level levels in
      let back = up_to b a above (row_there spec b a taken_b taken_a other_top top b_top a_top) other.level row.level (sym levels) in
      let ways = ways_same (owner_at spec n c.0) row other (taken_a.plan.ways n c.0 row here) (taken_b.plan.ways n c.0 other there)
      (λ conj literal its way another literal_is way_is another_is.
      way_one (owner_at spec n c.0) (IsUpTo a row.level) (IsUpTo b other.level) to back conj literal its literal_is way another
      (taken_a.ways n c.0 row conj literal its way here literal_is way_is) (taken_b.ways n c.0 other conj literal its another there literal_is another_is)) in
      λ i. record { level = levels i; ways = ways i }

  rows_one : a.rows ≡ b.rows
  rows_one =
      let many = taken_a.plan.as_many in
      let also = taken_b.plan.as_many in
      same_pairs a.rows b.rows (omega (arith, many, also)) row_one

pub one_plan : (spec : Spec) (a b : Choice) → IsTaken spec a → IsTaken spec b → a ≡ b
one_plan spec a b taken_a taken_b =
    let many = taken_a.plan.as_many in
    let also = taken_b.plan.as_many in
    let same = by a.rows b.rows refl refl (omega (arith, many, also)) in
    λ i. record { rows = same i }
  where
    by : (xs ys : List Row) → a.rows ≡ xs → b.rows ≡ ys → length a.rows ≡ length b.rows → a.rows ≡ b.rows
    by [] [] is are long = is ∙ sym are
    by [] (y ∷ ys) is are long = let none = ap length is in let some = ap length are in absurd (omega (arith, none, some, long))
    by (x ∷ xs) [] is are long = let none = ap length are in let some = ap length is in absurd (omega (arith, none, some, long))
    by (x ∷ xs) (y ∷ ys) is are long =
        let top = top_of x xs in
        let other = top_of y ys in
        rows_one spec a b taken_a taken_b top.0 other.0 (subst (λ rows. IsTop rows top.0) (sym is) top.1) (subst (λ rows. IsTop rows other.0) (sym are) other.1)
