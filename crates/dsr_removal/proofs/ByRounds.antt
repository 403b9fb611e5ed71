-- The plan that is taken is one that rounds give: what stands on the highest level is placed in the first round, and so on.
use Rattle.std.proofs.Common.{◌≡◌, ◌≤◌, ◌<◌, ◌+◌, ◌-◌, ◌∙◌, ℕ, nat_le, true, false, IsTrue, List, [], ◌∷◌, Option, None, Some, length, map, slice_get, refl, sym, ap, subst, arith}
use Rattle.std.specs.Option.{option_map_or}
use Rattle.std.specs.Prelude.{option_and_then}
use Rattle.std.proofs.lemmas.Bool.Decides.{nat_tests}
use Rattle.dsr_graph.proofs.Paired.{made_item, made_length, paired_none}
use Rattle.dsr_graph.specs.Paired.{ArePaired}
use Rattle.dsr_ir.specs.declared.constraints.Conj.{Conj}
use Rattle.dsr_ir.specs.declared.constraints.Constraint.{Constraint}
use Rattle.dsr_ir.specs.declared.constraints.Literal.{Literal}
use Rattle.dsr_ir.specs.declared.declarations.Spec.{Spec}
use Rattle.dsr_graph_theory.specs.Owners.{Owner}
use Rattle.dsr_meaning.proofs.Items.{mapped_at}
use Rattle.dsr_plan_theory.proofs.Fitting.{ways_many}
use Rattle.dsr_plan_theory.proofs.Grown.{first_fewer, held_more}
use Rattle.dsr_plan_laws.proofs.OnePlan.{IsTop, first_at, has_level, top_of}
use Rattle.dsr_plan_theory.specs.Plans.{IsRowOf, owner_at, way_at}
use Rattle.dsr_plan_theory.specs.Taken.{HasLevel, IsTaken, IsTakenWay, IsUpTo}
use Rattle.dsr_plan_theory.specs.declared.choices.Choice.{Choice}
use Rattle.dsr_plan_theory.specs.declared.choices.Row.{Row}
use Rattle.dsr_plan_theory.specs.declared.choices.Way.{Way}
use Rattle.dsr_removal.proofs.FirstWays.{taken_same}
use Rattle.dsr_removal.proofs.Staying.{entry}
use Rattle.dsr_removal.specs.Rounds.{AreRounds, AreSettled, IsLeftAt, IsPlacedIn, is_late}
use Rattle.dsr_removal.specs.Taking.{AreRowsOf, AreTakenIn, AreTakenWays, IsOfRounds, IsRowAt}
use Rattle.dsr_update_theory.specs.Templates.{literal_at}

-- the round of a row
abbrev round_of : ℕ → Row → Option ℕ
round_of top row = Some (top - row.level)

abbrev rounds_of : ℕ → List Row → List (Option ℕ)
rounds_of top rows = map (round_of top) rows

module _ (spec : Spec) (choice : Choice) (its : IsTaken spec choice) (top : ℕ) (is_top : IsTop choice.rows top) where
  abbrev rounds : List (Option ℕ)
  rounds = rounds_of top choice.rows

  round_there : (n round : ℕ) → IsPlacedIn rounds round n → (row : Row) × ((slice_get choice.rows n ≡ Some row) × (round ≡ top - row.level))
  round_there n round placed =
      let from = mapped_at (round_of top) choice.rows n (Some round) placed in
      let same : Some round ≡ Some (top - from.0.level) = from.1.1 in
      (from.0, (from.1.0, let is : round ≡ top - from.0.level = cc in is))

  placed_at : (n round : ℕ) (row : Row) → slice_get choice.rows n ≡ Some row → round ≡ top - row.level → IsPlacedIn rounds round n
  placed_at n round row is same = made_item (round_of top) choice.rows n row is ∙ ap (λ k. Some (Some k)) (sym same)

  -- what is left when a round begins stands as far below the highest level
  left_low : (round n : ℕ) → IsLeftAt rounds round n → (row : Row) × ((slice_get choice.rows n ≡ Some row) × (row.level + round ≤ top))
  left_low round n left =
      let at = entry round n rounds left in
      let from = mapped_at (round_of top) choice.rows n at.0 at.1 in
      let late : IsTrue (is_late round (round_of top from.0)) = subst (λ o. IsTrue (is_late round o)) from.1.1 at.2 in
      let low : round ≤ top - from.0.level = grind (arith, nat_tests) in
      let high = is_top.above n from.0 from.1.0 in
      (from.0, (from.1.0, omega (arith, low, high)))

  left_up : (round level n : ℕ) → level + round ≡ top → IsLeftAt rounds round n → IsUpTo choice level n
  left_up round level n sum left =
      let at = left_low round n left in
      let low = at.1.1 in
      record { row = at.0; row_is = at.1.0; low = omega (arith, low, sum) }

  up_left : (round level n : ℕ) → level + round ≡ top → IsUpTo choice level n → IsLeftAt rounds round n
  up_left round level n sum up =
      let low = up.low in
      let late : nat_le round (top - up.row.level) ≡ true = late_by round (top - up.row.level) (omega (arith, low, sum)) in
      ap (λ o. option_map_or (is_late round) o false) (made_item (round_of top) choice.rows n up.row up.row_is) ∙ late
    where
      late_by : (a b : ℕ) → a ≤ b → nat_le a b ≡ true
      late_by a b low = grind (arith, nat_tests)

  are_rounds : AreRounds spec rounds (top + 1)
  are_rounds = record {
    as_many = made_length (round_of top) choice.rows ∙ its.plan.as_many;
    below = λ n round placed. let at = round_there n round placed in let same = at.1.1 in omega (arith, same);
    first = λ n round constraint placed constraint_is.
        let at = round_there n round placed in
        let same = at.1.1 in
        let high = is_top.above n at.0 at.1.0 in
        first_fewer (IsLeftAt rounds round) (IsUpTo choice at.0.level) (λ m left. left_up round at.0.level m (omega (arith, same, high)) left) spec n constraint
        (first_at spec choice its n constraint at.0 (record { constraint_is = constraint_is; row_is = at.1.0 }));
    held = λ n round constraint less left constraint_is.
        let at = left_low (round + 1) n left in
        let low = at.1.1 in
        let level : ℕ = top - round in
        let has = has_level spec choice its top level is_top (omega arith) in
        held_more (IsUpTo choice level) (IsLeftAt rounds round) (λ m up. up_left round level m (omega (arith, less)) up) spec n constraint
        (its.highest n constraint at.0 level (record { constraint_is = constraint_is; row_is = at.1.0 }) (omega (arith, low)) has);
    used = λ round less.
        let has = has_level spec choice its top (top - round) is_top (omega arith) in
        let same = has.level_is in
        (has.number, placed_at has.number round has.row has.row_is (omega (arith, same, less)));
  }

  are_settled : AreSettled spec rounds (top + 1)
  are_settled = record {
    rounds_are = are_rounds;
    ends = λ n constraint left constraint_is. let at = left_low (top + 1) n left in let low = at.1.1 in absurd (omega (arith, low));
  }

  module _ (n : ℕ) (constraint : Constraint) (row : Row) (here : IsRowOf spec choice n constraint row) (round : ℕ) (sum : row.level + round ≡ top) where
    abbrev owner : Owner
    owner = owner_at spec n constraint

    way_taken : (conj literal : ℕ) (l : Literal) (way : Way) → literal_at constraint conj literal ≡ Some l → way_at row conj literal ≡ Some way → IsTakenWay owner (IsLeftAt rounds round) conj literal l way
    way_taken conj literal l way literal_is way_is =
        taken_same (IsUpTo choice row.level) (IsLeftAt rounds round) (λ m. up_left round row.level m sum) (λ m. left_up round row.level m sum) owner conj literal l way
        (its.ways n constraint row conj literal l way here literal_is way_is)

    ways_taken : AreTakenWays owner (IsLeftAt rounds round) row.ways
    ways_taken =
        let fits = its.plan.ways n constraint row here in
        record {
          as_many = fits.as_many;
          are = λ k conj ways conj_is ways_are. record {
            as_many = ways_many owner row fits k conj ways conj_is ways_are;
            are = λ l literal way literal_is way_is. way_taken k l literal way
                (ap (option_and_then (λ c. slice_get c.literals l)) conj_is ∙ literal_is) (ap (option_and_then (λ ws. slice_get ws l)) ways_are ∙ way_is);
          };
        }

  are_rows : AreRowsOf spec rounds (top + 1) choice.rows
  are_rows = record {
    as_many = its.plan.as_many;
    are = λ n constraint row constraint_is row_is.
        let high = is_top.above n row row_is in
        let round : ℕ = top - row.level in
        record {
          round = round;
          placed = placed_at n round row row_is refl;
          level_is = omega (arith, high);
          ways = ways_taken n constraint row (record { constraint_is = constraint_is; row_is = row_is }) round (omega (arith, high));
        };
  }

  of_top : IsOfRounds spec choice
  of_top = record { rounds = rounds; count = top + 1; settled = are_settled; rows = are_rows }

abbrev AreRowsIn : Spec → List Constraint → List Row → Type 0
AreRowsIn spec cs rows = ArePaired (λ n constraint row. IsRowAt spec [] 0 n constraint row) cs rows

-- where there is no constraint, there is no round
none_placed : (spec : Spec) (choice : Choice) → spec.constraints ≡ [] → choice.rows ≡ [] → IsOfRounds spec choice
none_placed spec choice no_constraint no_row = record {
  rounds = [];
  count = 0;
  settled = record {
    rounds_are = record {
      as_many = ap length (sym no_constraint);
      below = λ n round placed. absurd cc;
      first = λ n round constraint placed constraint_is. absurd cc;
      held = λ n round constraint less left constraint_is. absurd (omega (arith, less));
      used = λ round less. absurd (omega (arith, less));
    };
    ends = λ n constraint left constraint_is. absurd (let at = entry 0 n [] left in let none = at.1 in cc);
  };
  rows = subst (λ cs. AreRowsIn spec cs choice.rows) (sym no_constraint) (subst (λ rows. AreRowsIn spec [] rows) (sym no_row) (paired_none (λ n constraint row. IsRowAt spec [] 0 n constraint row)));
}

pub of_rounds : (spec : Spec) (choice : Choice) → IsTaken spec choice → IsOfRounds spec choice
of_rounds spec choice its = by choice.rows refl its.plan.as_many where
  no_item : (cs : List Constraint) → length {A = Row} [] ≡ length cs → cs ≡ []
  no_item [] many = refl
  no_item (c ∷ cs) many = absurd (omega (arith, many))

  by : (rows : List Row) → choice.rows ≡ rows → length choice.rows ≡ length spec.constraints → IsOfRounds spec choice
  by [] is many = none_placed spec choice (no_item spec.constraints (sym (ap length is) ∙ many)) is
  by (row ∷ rows) is many = let top = top_of row rows in of_top spec choice its top.0 (subst (λ rs. IsTop rs top.0) (sym is) top.1)
