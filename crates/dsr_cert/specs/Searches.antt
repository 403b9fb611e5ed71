-- Searches for the first flaw: of a kind, of a constraint, of a conjunction, of a literal.
use Rattle.std.specs.Prelude.{◌≡◌, ℕ, Bool, true, false, List, [], ◌∷◌, map, Option, Some, Result, Ok, Err, ◌≤◌, option_and_then, slice_get}
use Rattle.dsr_cert.specs.Flaws.{Flaw, FlawComes, HasWay, IsFlaw, Tells, rank, told_as}
use Rattle.dsr_cert.specs.declared.faults.CertFault.{CertFault}
use Rattle.dsr_cert.specs.declared.flaws.Wrong.{Wrong}
use Rattle.dsr_cert.specs.declared.flaws.Wrong.TheVariants as wrongs
use Rattle.dsr_ir.specs.declared.constraints.Literal.{Literal}
use Rattle.dsr_ir.specs.declared.declarations.Spec.{Spec}
use Rattle.dsr_ir.specs.declared.updates.Template.{Template}
use Rattle.dsr_plan_theory.specs.Plans.{way_at}
use Rattle.dsr_plan_theory.specs.declared.choices.Choice.{Choice}
use Rattle.dsr_plan_theory.specs.declared.choices.Row.{Row}
use Rattle.dsr_plan_theory.specs.declared.choices.Way.{Way}
use Rattle.dsr_plan_theory.specs.declared.choices.Way.TheVariants.{Test, By}
use Rattle.dsr_update_theory.specs.Templates.{literal_at}

abbrev pub BeginsWith : List ℕ → List ℕ → Type 0
BeginsWith [] ys = Unit {0}
BeginsWith (x ∷ xs) [] = ⊥
BeginsWith (x ∷ xs) (y ∷ ys) = (x ≡ y) × BeginsWith xs ys

-- a flaw whose rank begins with these numbers
pub record IsFlawUnder (spec : Spec) (choice : Choice) (front : List ℕ) (flaw : Flaw) : Type 0 where
  pub is : IsFlaw spec choice flaw
  pub begins : BeginsWith front (rank flaw)

abbrev pub NoneUnder : Spec → Choice → List ℕ → Type 0
NoneUnder spec choice front = (flaw : Flaw) → IsFlawUnder spec choice front flaw → ⊥

-- the first of them is told as this fault
pub record IsFirstUnder (spec : Spec) (choice : Choice) (front : List ℕ) (fault : CertFault) : Type 0 where
  pub flaw : Flaw
  pub its : IsFlawUnder spec choice front flaw
  pub first : (other : Flaw) → IsFlawUnder spec choice front other → FlawComes other flaw → ⊥
  pub told : told_as flaw ≡ fault

-- it is, or there is none
abbrev pub Searches : Spec → Choice → List ℕ → Result (Unit {0}) CertFault → Type 0
Searches spec choice front (Ok done) = NoneUnder spec choice front
Searches spec choice front (Err fault) = Tells (IsFirstUnder spec choice front) fault

-- ---- templates

abbrev pub kind_of : Wrong → ℕ
kind_of wrongs.Unlisted = 1
kind_of wrongs.Falsifying = 2
kind_of wrongs.Breaking = 3

-- the others are asked for only where all templates are listed
abbrev pub MayAsk : Spec → Choice → Wrong → Type 0
MayAsk spec choice wrongs.Unlisted = Unit {0}
MayAsk spec choice wrongs.Falsifying = NoneUnder spec choice (1 ∷ [])
MayAsk spec choice wrongs.Breaking = NoneUnder spec choice (1 ∷ [])

-- the choice has the template, with this number, for this literal
pub record IsTakenFor (spec : Spec) (choice : Choice) (n conj literal : ℕ) (its : Literal) (number : ℕ) (template : Template) : Type 0 where
  pub way : HasWay spec choice n conj literal
  pub its_is : way.its ≡ its
  pub number_is : way.number ≡ number
  pub template_is : way.template ≡ template

-- ---- look-ups

abbrev pub literal_in : Spec → ℕ → ℕ → ℕ → Option Literal
literal_in spec n conj literal =
    option_and_then (λ constraint. literal_at constraint conj literal) (slice_get spec.constraints n)

abbrev pub way_in : Choice → ℕ → ℕ → ℕ → Option Way
way_in choice n conj literal =
    option_and_then (λ row. way_at row conj literal) (slice_get choice.rows n)

-- there are rows with these numbers, and the level of the first isn't higher
pub record IsNotAbove (choice : Choice) (n m : ℕ) : Type 0 where
  pub row : Row
  pub row_is : slice_get choice.rows n ≡ Some row
  pub other : Row
  pub other_is : slice_get choice.rows m ≡ Some other
  pub not_above : row.level ≤ other.level

-- ---- tests

abbrev pub is_test : Way → Bool
is_test Test = true
is_test (By number template) = false

-- which literals are tested
abbrev pub marks_of : Row → List (List Bool)
marks_of row = map (λ ways. map is_test ways) row.ways
