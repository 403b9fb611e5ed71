-- What keeps a choice from being a plan, and the first such flaw.
use Rattle.std.specs.Prelude.{◌≡◌, ◌⊎◌, ◌<◌, ℕ, true, List, [], ◌∷◌, Some}
use Rattle.dsr_graph_theory.specs.Breaks.{Breaks, Falsifies, Relies}
use Rattle.dsr_graph_theory.specs.declared.causes.Reason.{Reason}
use Rattle.dsr_cert.specs.declared.faults.CertFault.{CertFault}
use Rattle.dsr_cert.specs.declared.faults.CertFault.TheVariants.{Coverage, NotATemplate, Edge, Reliance, NoMemory}
use Rattle.dsr_cert.specs.declared.faults.CertFault.TheVariants as faults
use Rattle.dsr_ir.specs.declared.constraints.Constraint.{Constraint}
use Rattle.dsr_ir.specs.declared.constraints.Literal.{Literal}
use Rattle.dsr_ir.specs.declared.declarations.Spec.{Spec}
use Rattle.dsr_ir.specs.declared.updates.Template.{Template}
use Rattle.dsr_plan_theory.specs.Plans.{Covers, IsListedAt, IsRowOf, IsTested, owner_at, way_at}
use Rattle.dsr_plan_theory.specs.declared.choices.Choice.{Choice}
use Rattle.dsr_plan_theory.specs.declared.choices.Row.{Row}
use Rattle.dsr_plan_theory.specs.declared.choices.Way.TheVariants.{By}
use Rattle.dsr_update_theory.specs.Templates.{literal_at}

-- of a constraint, of the template of one of its literals, of such a template and another
-- constraint, or of two constraints
pub data Flaw : Type 0 where
  Uncovered : (n : ℕ) → Flaw
  Unlisted : (n conj literal : ℕ) → Flaw
  Falsifying : (n conj literal : ℕ) → Flaw
  Breaking : (n conj literal other : ℕ) → Flaw
  Relying : (n on : ℕ) → Flaw

-- ---- flaws of a choice

-- the row's tests don't cover the constraint
pub record IsUncovered (spec : Spec) (choice : Choice) (n : ℕ) : Type 0 where
  pub constraint : Constraint
  pub row : Row
  pub row_of : IsRowOf spec choice n constraint row
  pub uncovered : Covers constraint (IsTested row) → ⊥

-- the choice has this template, with this number, for a literal of the constraint
pub record HasWay (spec : Spec) (choice : Choice) (n conj literal : ℕ) : Type 0 where
  pub constraint : Constraint
  pub row : Row
  pub row_of : IsRowOf spec choice n constraint row
  pub its : Literal
  pub literal_is : literal_at constraint conj literal ≡ Some its
  pub number : ℕ
  pub template : Template
  pub way_is : way_at row conj literal ≡ Some (By number template)

-- the literal is `given`, or the template isn't listed for it
pub record IsUnlisted (spec : Spec) (choice : Choice) (n conj literal : ℕ) : Type 0 where
  pub way : HasWay spec choice n conj literal
  pub unlisted :
      (way.its.given ≡ true)
      ⊎ (IsListedAt (owner_at spec n way.constraint) conj literal way.number way.template → ⊥)

-- the template falsifies another literal
pub record IsFalsifying (spec : Spec) (choice : Choice) (n conj literal : ℕ) : Type 0 where
  pub way : HasWay spec choice n conj literal
  pub falsified : ℕ
  pub falsifies : Falsifies (owner_at spec n way.constraint) conj literal way.template (Some falsified)

-- the template breaks a constraint whose level isn't higher
pub record IsBreaking (spec : Spec) (choice : Choice) (n conj literal m : ℕ) : Type 0 where
  pub way : HasWay spec choice n conj literal
  pub other : Constraint
  pub other_row : Row
  pub other_of : IsRowOf spec choice m other other_row
  pub reason : Reason
  pub breaks : Breaks (owner_at spec n way.constraint) (owner_at spec m other) way.template (Some reason)
  pub not_higher : way.row.level < other_row.level → ⊥

-- the constraint relies on one whose level isn't lower
pub record IsRelying (spec : Spec) (choice : Choice) (n on : ℕ) : Type 0 where
  pub constraint : Constraint
  pub row : Row
  pub row_of : IsRowOf spec choice n constraint row
  pub other : Constraint
  pub other_row : Row
  pub other_of : IsRowOf spec choice on other other_row
  pub relies : Relies spec n on
  pub not_lower : other_row.level < row.level → ⊥

abbrev pub IsFlaw : Spec → Choice → Flaw → Type 0
IsFlaw spec choice (Uncovered n) = IsUncovered spec choice n
IsFlaw spec choice (Unlisted n conj literal) = IsUnlisted spec choice n conj literal
IsFlaw spec choice (Falsifying n conj literal) = IsFalsifying spec choice n conj literal
IsFlaw spec choice (Breaking n conj literal other) = IsBreaking spec choice n conj literal other
IsFlaw spec choice (Relying n on) = IsRelying spec choice n on

abbrev pub HasNoFlaw : Spec → Choice → Type 0
HasNoFlaw spec choice = (flaw : Flaw) → IsFlaw spec choice flaw → ⊥

-- ---- their order

-- by kind, and within a kind by its numbers
abbrev pub rank : Flaw → List ℕ
rank (Uncovered n) = 0 ∷ n ∷ []
rank (Unlisted n conj literal) = 1 ∷ n ∷ conj ∷ literal ∷ []
rank (Falsifying n conj literal) = 2 ∷ n ∷ conj ∷ literal ∷ []
rank (Breaking n conj literal other) = 3 ∷ n ∷ conj ∷ literal ∷ other ∷ []
rank (Relying n on) = 4 ∷ n ∷ on ∷ []

-- at the first place where they differ, the number is less
abbrev pub RanksBefore : List ℕ → List ℕ → Type 0
RanksBefore [] ys = ⊥
RanksBefore (x ∷ xs) [] = ⊥
RanksBefore (x ∷ xs) (y ∷ ys) = (x < y) ⊎ ((x ≡ y) × RanksBefore xs ys)

abbrev pub FlawComes : Flaw → Flaw → Type 0
FlawComes a b = RanksBefore (rank a) (rank b)

-- ---- what is told

abbrev pub told_as : Flaw → CertFault
told_as (Uncovered n) = Coverage n
told_as (Unlisted n conj literal) = NotATemplate n conj literal
told_as (Falsifying n conj literal) = faults.Falsifies n conj literal
told_as (Breaking n conj literal other) = Edge n other
told_as (Relying n on) = Reliance n on

-- a flaw that no other comes before is told as this fault
pub record IsFirstFlaw (spec : Spec) (choice : Choice) (fault : CertFault) : Type 0 where
  pub flaw : Flaw
  pub is : IsFlaw spec choice flaw
  pub first : (other : Flaw) → IsFlaw spec choice other → FlawComes other flaw → ⊥
  pub told : told_as flaw ≡ fault

-- the fault is so, where it isn't want of memory
abbrev pub Tells : (CertFault → Type 0) → CertFault → Type 0
Tells So NoMemory = Unit {0}
Tells So fault = So fault
