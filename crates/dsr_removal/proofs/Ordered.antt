-- Rounds that place all give the plan that is taken, and others leave none.
use Rattle.std.proofs.Common.{◌≡◌, ◌<◌, ◌≤◌, ◌+◌, ◌-◌, ◌∙◌, ℕ, nat_le, true, false, List, Option, None, Some, slice_get, refl, sym, ap, subst, arith}
use Rattle.std.specs.Option.{option_map_or}
use Rattle.std.specs.Prelude.{option_and_then}
use Rattle.std.proofs.lemmas.Bool.Decides.{nat_tests}
use Rattle.std.proofs.lemmas.Option.{slice_get_within}
use Rattle.dsr_graph.proofs.Paired.{paired_back, paired_got}
use Rattle.dsr_ir.specs.declared.constraints.Conj.{Conj}
use Rattle.dsr_ir.specs.declared.constraints.Constraint.{Constraint}
use Rattle.dsr_ir.specs.declared.constraints.Literal.{Literal}
use Rattle.dsr_ir.specs.declared.declarations.Spec.{Spec}
use Rattle.dsr_graph_theory.specs.Owners.{Owner}
use Rattle.dsr_plan_theory.proofs.Grown.{covers_fewer, held_more}
use Rattle.dsr_plan_theory.specs.Plans.{AreWaysFor, IsPlan, IsRowOf, IsTested, IsWayFor, owner_at, way_at}
use Rattle.dsr_plan_theory.specs.Stuck.{MustTest}
use Rattle.dsr_plan_theory.specs.Taken.{IsTaken, IsTakenWay, IsUpTo}
use Rattle.dsr_plan_theory.specs.declared.choices.Choice.{Choice}
use Rattle.dsr_plan_theory.specs.declared.choices.Row.{Row}
use Rattle.dsr_plan_theory.specs.declared.choices.Way.{Way}
use Rattle.dsr_plan_theory.specs.declared.choices.Way.TheVariants.{Test, By}
use Rattle.dsr_removal.proofs.FirstWays.{taken_same}
use Rattle.dsr_removal.proofs.Staying.{entry}
use Rattle.dsr_removal.specs.Rounds.{AreRounds, IsLeftAt, IsPlacedIn, is_late, is_left_at}
use Rattle.dsr_removal.specs.Taking.{AreRowsOf, AreTakenIn, AreTakenWays, IsRowAt}
use Rattle.dsr_update_theory.specs.Templates.{literal_at}
use Rattle.dsr_meaning.proofs.Items.{item_there}

-- ---- ways of a literal

-- a literal with its conjunction
literal_of : (o : Option Conj) (literal : ℕ) (its : Literal) → option_and_then (λ c. slice_get c.literals literal) o ≡ Some its → (conj : Conj) × (o ≡ Some conj) × (slice_get conj.literals literal ≡ Some its)
literal_of None literal its is = absurd cc
literal_of (Some conj) literal its is = (conj, refl, is)

-- a way with its list
way_of : (o : Option (List Way)) (literal : ℕ) (way : Way) → option_and_then (λ ways. slice_get ways literal) o ≡ Some way → (ways : List Way) × (o ≡ Some ways) × (slice_get ways literal ≡ Some way)
way_of None literal way is = absurd cc
way_of (Some ways) literal way is = (ways, refl, is)

module _ (owner : Owner) (Member : ℕ → Type 0) (row : Row) (taken : AreTakenWays owner Member row.ways) where
  -- what is taken for each literal
  way_for : (conj literal : ℕ) (its : Literal) → literal_at owner.constraint conj literal ≡ Some its → (way : Way) × (way_at row conj literal ≡ Some way) × IsTakenWay owner Member conj literal its way
  way_for conj literal its is =
      let c = literal_of (slice_get owner.constraint.conjs conj) literal its is in
      let ways = paired_got (λ n conj ways. AreTakenIn owner Member n conj ways) owner.constraint.conjs row.ways conj c.0 taken c.1 in
      let way = paired_got (λ n literal way. IsTakenWay owner Member conj n literal way) c.0.literals ways.0 literal its ways.2 c.2 in
      (way.0, ap (option_and_then (λ ws. slice_get ws literal)) ways.1 ∙ way.1, way.2)

  -- and for which literal it is
  literal_for : (conj literal : ℕ) (way : Way) → way_at row conj literal ≡ Some way → (its : Literal) × (literal_at owner.constraint conj literal ≡ Some its) × IsTakenWay owner Member conj literal its way
  literal_for conj literal way is =
      let w = way_of (slice_get row.ways conj) literal way is in
      let c = paired_back (λ n conj ways. AreTakenIn owner Member n conj ways) owner.constraint.conjs row.ways conj w.0 taken w.1 in
      let l = paired_back (λ n literal way. IsTakenWay owner Member conj n literal way) c.0.literals w.0 literal way c.2 w.2 in
      (l.0, ap (option_and_then (λ x. slice_get x.literals literal)) c.1 ∙ l.1, l.2)

  is_way : (conj literal : ℕ) (its : Literal) (way : Way) → IsTakenWay owner Member conj literal its way → IsWayFor owner conj literal its way
  is_way conj literal its Test must = _
  is_way conj literal its (By number template) first = first.may

  no_way : (conj literal : ℕ) (o : Option Way) → way_at row conj literal ≡ o → literal_at owner.constraint conj literal ≡ None → way_at row conj literal ≡ None
  no_way conj literal None is none = is
  no_way conj literal (Some way) is none =
      let its = literal_for conj literal way is in
      let both : Some its.0 ≡ None = sym its.1 ∙ none in
      absurd cc

  ways_for : AreWaysFor owner row
  ways_for = record {
    as_many = taken.as_many;
    ways = λ conj literal its is. let way = way_for conj literal its is in (way.0, way.1, is_way conj literal its way.0 way.2);
    no_more = λ conj literal none. no_way conj literal (way_at row conj literal) refl none;
  }

  -- what is tested has to be
  tests_must : (conj literal : ℕ) → IsTested row conj literal → MustTest owner Member conj literal
  tests_must conj literal tested = let its = literal_for conj literal Test tested in its.2

-- ---- levels

module _ (spec : Spec) (rounds : List (Option ℕ)) (count : ℕ) (all : AreRounds spec rounds count) (rows : List Row) (are : AreRowsOf spec rounds count rows) where
  abbrev pub IsRow : ℕ → Constraint → Row → Type 0
  IsRow n constraint row = IsRowAt spec rounds count n constraint row

  abbrev pub choice : Choice
  choice = record { rows = rows }

  -- a constraint that isn't left when a round begins came before
  late_of : (r k n : ℕ) → IsPlacedIn rounds k n → r ≤ k → IsLeftAt rounds r n
  late_of r k n placed low =
      let told : is_left_at rounds r n ≡ nat_le r k = ap (λ o. option_map_or (is_late r) o false) placed in
      let is : nat_le r k ≡ true = grind (arith, nat_tests) in
      told ∙ is

  came : (r k n : ℕ) → IsPlacedIn rounds k n → IsLeftAt rounds r n → r ≤ k
  came r k n placed left =
      let told : is_left_at rounds r n ≡ nat_le r k = ap (λ o. option_map_or (is_late r) o false) placed in
      let is : nat_le r k ≡ true = sym told ∙ left in
      grind (arith, nat_tests)

  row_of : (n : ℕ) (constraint : Constraint) (row : Row) → IsRowOf spec choice n constraint row → IsRow n constraint row
  row_of n constraint row here = are.are n constraint row here.constraint_is here.row_is

  -- what is left when a round begins stands on the round's level or below
  to_level : (r level m : ℕ) → level + r + 1 ≡ count → IsLeftAt rounds r m → IsUpTo choice level m
  to_level r level m sum left =
      let its = entry r m rounds left in
      let below = slice_get_within rounds m its.0 its.1 in
      let many = all.as_many in
      let also = are.as_many in
      let row = item_there rows m (omega (arith, below, many, also)) in
      let its_row = paired_back IsRow spec.constraints rows m row.0 are row.1 in
      let low = came r its_row.2.round m its_row.2.placed left in
      let its_sum = its_row.2.level_is in
      record { row = row.0; row_is = row.1; low = omega (arith, sum, its_sum, low) }

  from_level : (r level m : ℕ) → level + r + 1 ≡ count → IsUpTo choice level m → IsLeftAt rounds r m
  from_level r level m sum up =
      let its = paired_back IsRow spec.constraints rows m up.row are up.row_is in
      let low = up.low in
      let its_sum = its.2.level_is in
      late_of r its.2.round m its.2.placed (omega (arith, sum, its_sum, low))

  lower : (n m : ℕ) (constraint other : Constraint) (row other_row : Row) (its : IsRow n constraint row) (others : IsRow m other other_row) → (its.round ≤ others.round → ⊥) → row.level < other_row.level
  lower n m constraint other row other_row its others not_before =
      elim (nat_le its.round others.round) as (λ t. nat_le its.round others.round ≡ t → row.level < other_row.level) [
        | true ↦ λ e. absurd (not_before (grind (arith, nat_tests)))
        | false ↦ λ e.
            let less : others.round < its.round = grind (arith, nat_tests) in
            let one = its.level_is in
            let two = others.level_is in
            omega (arith, less, one, two)
      ] refl

  plan : IsPlan spec choice
  plan = record {
    as_many = are.as_many;
    ways = λ n constraint row here. let its = row_of n constraint row here in ways_for (owner_at spec n constraint) (IsLeftAt rounds its.round) row its.ways;
    covers = λ n constraint row here.
        let its = row_of n constraint row here in
        let first = all.first n its.round constraint its.placed here.constraint_is in
        covers_fewer constraint (MustTest (owner_at spec n constraint) (IsLeftAt rounds its.round)) (IsTested row) (tests_must (owner_at spec n constraint) (IsLeftAt rounds its.round) row its.ways) first.covered;
    breaks = λ n m constraint other row other_row conj literal template reason here there has breaks.
        let its = row_of n constraint row here in
        let others = row_of m other other_row there in
        let taken = literal_for (owner_at spec n constraint) (IsLeftAt rounds its.round) row its.ways conj literal (By has.number template) has.way_is in
        lower n m constraint other row other_row its others (λ low. taken.2.spares m other reason (late_of its.round others.round m others.placed low) there.constraint_is breaks);
    relies = λ n on constraint other row other_row here there relies.
        let its = row_of n constraint row here in
        let others = row_of on other other_row there in
        let first = all.first on others.round other others.placed there.constraint_is in
        lower on n other constraint other_row row others its (λ low. first.relied_by_none n (late_of others.round its.round n its.placed low) relies);
  }

  same_literal : (owner : Owner) (M : ℕ → Type 0) (conj literal : ℕ) (way : Way) (x y : Literal) (o : Option Literal) → o ≡ Some x → o ≡ Some y → IsTakenWay owner M conj literal x way → IsTakenWay owner M conj literal y way
  same_literal owner M conj literal way x y o is also its =
      let both : Some x ≡ Some y = sym is ∙ also in
      let same : x ≡ y = cc in
      subst (λ l. IsTakenWay owner M conj literal l way) same its

  same_round : (r k : ℕ) (o : Option (Option ℕ)) → o ≡ Some (Some r) → o ≡ Some (Some k) → r ≡ k
  same_round r k o is also = let both : Some (Some r) ≡ Some (Some k) = sym is ∙ also in cc

  pub taken : IsTaken spec choice
  taken = record {
    plan = plan;
    ways = λ n constraint row conj literal its way here is way_is.
        let r = row_of n constraint row here in
        let owner = owner_at spec n constraint in
        let l = literal_for owner (IsLeftAt rounds r.round) row r.ways conj literal way way_is in
        taken_same (IsLeftAt rounds r.round) (IsUpTo choice row.level) (λ m. to_level r.round row.level m r.level_is) (λ m. from_level r.round row.level m r.level_is) owner conj literal its way
        (same_literal owner (IsLeftAt rounds r.round) conj literal way l.0 its (literal_at constraint conj literal) l.1 is l.2);
    highest = λ n constraint row level here less has.
        let r = row_of n constraint row here in
        let other = paired_back IsRow spec.constraints rows has.number has.row are has.row_is in
        let one = r.level_is in
        let two = other.2.level_is in
        let level_is = has.level_is in
        let sum : level + other.2.round + 1 ≡ count = omega (arith, two, level_is) in
        let held = all.held n other.2.round constraint (omega (arith, sum)) (late_of (other.2.round + 1) r.round n r.placed (omega (arith, one, sum, less))) here.constraint_is in
        held_more (IsLeftAt rounds other.2.round) (IsUpTo choice level) (λ m. to_level other.2.round level m sum) spec n constraint held;
    filled = λ n row level row_is low.
        let r = paired_back IsRow spec.constraints rows n row are row_is in
        let one = r.2.level_is in
        let k : ℕ = count - (level + 1) in
        let sum : level + k + 1 ≡ count = omega (arith, one, low) in
        let used = all.used k (omega (arith, sum)) in
        let below = slice_get_within rounds used.0 (Some k) used.1 in
        let many = all.as_many in
        let also = are.as_many in
        let other = item_there rows used.0 (omega (arith, below, many, also)) in
        let its = paired_back IsRow spec.constraints rows used.0 other.0 are other.1 in
        let same = same_round its.2.round k (slice_get rounds used.0) its.2.placed used.1 in
        let two = its.2.level_is in
        record { number = used.0; row = other.0; row_is = other.1; level_is = omega (arith, two, same, sum) };
  }
