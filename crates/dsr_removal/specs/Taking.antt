-- Rows of the plan that rounds give.
use Rattle.std.specs.Prelude.{◌≡◌, ◌+◌, ℕ, Option, List}
use Rattle.dsr_graph.specs.Paired.{ArePaired}
use Rattle.dsr_ir.specs.declared.constraints.Conj.{Conj}
use Rattle.dsr_ir.specs.declared.constraints.Constraint.{Constraint}
use Rattle.dsr_ir.specs.declared.declarations.Spec.{Spec}
use Rattle.dsr_graph_theory.specs.Owners.{Owner}
use Rattle.dsr_plan_theory.specs.Plans.{owner_at}
use Rattle.dsr_plan_theory.specs.Taken.{IsTakenWay}
use Rattle.dsr_plan_theory.specs.declared.choices.Choice.{Choice}
use Rattle.dsr_plan_theory.specs.declared.choices.Row.{Row}
use Rattle.dsr_plan_theory.specs.declared.choices.Way.{Way}
use Rattle.dsr_removal.specs.Rounds.{AreSettled, IsLeftAt, IsPlacedIn}

-- for each literal of the conjunction with this number its way
abbrev pub AreTakenIn : Owner → (ℕ → Type 0) → ℕ → Conj → List Way → Type 0
AreTakenIn owner Member number conj ways =
    ArePaired (λ n literal way. IsTakenWay owner Member number n literal way) conj.literals ways

-- for each conjunction the ways of its literals
abbrev pub AreTakenWays : Owner → (ℕ → Type 0) → List (List Way) → Type 0
AreTakenWays owner Member rows =
    ArePaired (λ n conj ways. AreTakenIn owner Member n conj ways) owner.constraint.conjs rows

-- the constraint is placed in a round, and has its level and its ways
pub record IsRowAt (spec : Spec) (rounds : List (Option ℕ)) (count n : ℕ) (constraint : Constraint) (row : Row) : Type 0 where
  pub round : ℕ
  pub placed : IsPlacedIn rounds round n
  pub level_is : row.level + round + 1 ≡ count
  pub ways : AreTakenWays (owner_at spec n constraint) (IsLeftAt rounds round) row.ways

abbrev pub AreRowsOf : Spec → List (Option ℕ) → ℕ → List Row → Type 0
AreRowsOf spec rounds count rows =
    ArePaired (λ n constraint row. IsRowAt spec rounds count n constraint row) spec.constraints rows

-- rounds place all constraints, and each has the row that its round gives it
pub record IsOfRounds (spec : Spec) (choice : Choice) : Type 0 where
  pub rounds : List (Option ℕ)
  pub count : ℕ
  pub settled : AreSettled spec rounds count
  pub rows : AreRowsOf spec rounds count choice.rows
