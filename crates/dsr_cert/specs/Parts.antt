-- Lines of a certificate that are read one part after the other.
use Rattle.std.specs.Prelude.{◌≡◌, ◌≤◌, ◌<◌, ◌+◌, ◌++◌, ◌⊎◌, ℕ, true, List, map, Result, Ok, Err, Option, Some, length, codes, option_and_then, slice_get}
use Rattle.std.specs.Borrow.{Bor}
use Rattle.dsr_cert.specs.Certificates.{NamesWay, certificate_lines, ended, way_text, level_bound}
use Rattle.dsr_cert.specs.Flaws.{Tells}
use Rattle.dsr_cert.specs.Forms.{Form, IsNumeral, IsWrongIn, NamesNone, forms, numbered}
use Rattle.dsr_cert.specs.declared.faults.CertFault.{CertFault}
use Rattle.dsr_cert.specs.declared.faults.CertFault.TheVariants.{NotATemplate}
use Rattle.dsr_cert.specs.declared.lines.Said.{Said}
use Rattle.dsr_cert.specs.declared.lines.Said.TheVariants as saids
use Rattle.dsr_graph.specs.Paired.{ArePaired}
use Rattle.dsr_ir.specs.declared.constraints.Conj.{Conj}
use Rattle.dsr_ir.specs.declared.constraints.Constraint.{Constraint}
use Rattle.dsr_ir.specs.declared.constraints.Literal.{Literal}
use Rattle.dsr_ir.specs.declared.declarations.Spec.{Spec}
use Rattle.dsr_graph_theory.specs.Owners.{Owner}
use Rattle.dsr_plan_theory.specs.Plans.{owner_at}
use Rattle.dsr_plan_theory.specs.declared.choices.Choice.{Choice}
use Rattle.dsr_plan_theory.specs.declared.choices.Row.{Row}
use Rattle.dsr_plan_theory.specs.declared.choices.Way.{Way}

-- what the borrowed lines are
abbrev pub texts_of : List (Bor (List ℕ)) → List (List ℕ)
texts_of lines = map (λ line. line.now) lines

-- ---- what a literal's line says

abbrev pub IsSaid : List ℕ → Said → Type 0
IsSaid text saids.Test = text ≡ codes "test"
IsSaid text (saids.Numbered digits) = (text ≡ numbered digits.now) × IsNumeral digits.now
IsSaid text saids.Other =
    (text ≡ codes "test" → ⊥) × ((digits : List ℕ) → IsNumeral digits → text ≡ numbered digits → ⊥)

-- the line with this place says it behind the front
abbrev pub Says : List (List ℕ) → ℕ → List ℕ → List ℕ → Type 0
Says lines at front text = slice_get lines at ≡ Some (ended (front ++ text))

abbrev pub IsSaidAt : List (List ℕ) → ℕ → List ℕ → Said → Type 0
IsSaidAt lines at front saids.Test = Says lines at front (codes "test")
IsSaidAt lines at front (saids.Numbered digits) =
    Says lines at front (numbered digits.now) × IsNumeral digits.now
IsSaidAt lines at front saids.Other =
    (Says lines at front (codes "test") → ⊥)
    × ((digits : List ℕ) → IsNumeral digits → Says lines at front (numbered digits) → ⊥)

-- ---- parts

-- the forms stand among the specification's from this place on
pub record Stands (spec : Spec) (at : ℕ) (part : List Form) : Type 0 where
  pub inside : at + length part ≤ length (forms spec)
  pub are :
      (k : ℕ) (form : Form) → slice_get part k ≡ Some form
      → slice_get (forms spec) (at + k) ≡ Some form

-- from this place on the lines are these, each with its line feed
abbrev pub AreLinesAt : List (List ℕ) → ℕ → List (List ℕ) → Type 0
AreLinesAt lines at texts =
    (k : ℕ) (text : List ℕ) → slice_get texts k ≡ Some text → slice_get lines (at + k) ≡ Some (ended text)

-- from one place up to another no line has a fault
abbrev pub NoneWrong : Spec → List (List ℕ) → ℕ → ℕ → Type 0
NoneWrong spec lines from to =
    (k : ℕ) (fault : CertFault) → from ≤ k → k < to → IsWrongIn spec lines k fault → ⊥

-- the part is there, as these texts
pub record IsPart (spec : Spec) (lines : List (List ℕ)) (at : ℕ) (part : List Form) (texts : List (List ℕ)) : Type 0 where
  pub lines_are : AreLinesAt lines at texts
  pub as_many : length texts ≡ length part
  pub right : NoneWrong spec lines at (at + length part)

-- the first fault from this place on
pub record IsFirstFrom (spec : Spec) (lines : List (List ℕ)) (at : ℕ) (fault : CertFault) : Type 0 where
  pub k : ℕ
  pub behind : at ≤ k
  pub wrong : IsWrongIn spec lines k fault
  pub none_before : NoneWrong spec lines at k

-- such a value was read, whose texts are there as the part, or the first fault is told
abbrev pub Reads : {T : Type 0} → Spec → List (List ℕ) → ℕ → List Form → (T → List (List ℕ)) → (T → Type 0) → Result T CertFault → Type 0
Reads spec lines at part texts Such (Ok x) = IsPart spec lines at part (texts x) × Such x
Reads spec lines at part texts Such (Err fault) = Tells (IsFirstFrom spec lines at) fault

-- ---- values

abbrev pub conj_in : Spec → ℕ → ℕ → Option Conj
conj_in spec n conj = option_and_then (λ c. slice_get c.conjs conj) (slice_get spec.constraints n)

-- so for the constraint with this number
abbrev pub AtOwner : Spec → ℕ → (Owner → Type 0) → Type 0
AtOwner spec n Such =
    (constraint : Constraint) → slice_get spec.constraints n ≡ Some constraint
    → Such (owner_at spec n constraint)

-- the way with these digits, or the fault that there is none
abbrev pub IsWayNamed : Spec → ℕ → ℕ → ℕ → Literal → List ℕ → Result Way CertFault → Type 0
IsWayNamed spec n conj literal its digits (Ok way) =
    (way_text way ≡ numbered digits) × AtOwner spec n (λ owner. NamesWay owner conj literal its way)
IsWayNamed spec n conj literal its digits (Err fault) =
    Tells (λ f. (f ≡ NotATemplate n conj literal)
    × AtOwner spec n (λ owner. (its.given ≡ true) ⊎ NamesNone owner conj literal digits)) fault

abbrev pub AreNamedIn : Owner → ℕ → Conj → List Way → Type 0
AreNamedIn owner conj its ways =
    ArePaired (λ literal l way. NamesWay owner conj literal l way) its.literals ways

abbrev pub AreNamed : Owner → List (List Way) → Type 0
AreNamed owner rows =
    ArePaired (λ conj its ways. AreNamedIn owner conj its ways) owner.constraint.conjs rows

pub record IsNamedRow (spec : Spec) (n : ℕ) (constraint : Constraint) (row : Row) : Type 0 where
  pub level : row.level < level_bound spec
  pub ways : AreNamed (owner_at spec n constraint) row.ways

abbrev pub AreNamedRows : Spec → List Row → Type 0
AreNamedRows spec rows = ArePaired (λ n constraint row. IsNamedRow spec n constraint row) spec.constraints rows

-- the choice of all lines, or the first fault
abbrev pub ReadsAll : Spec → List (List ℕ) → Result Choice CertFault → Type 0
ReadsAll spec lines (Ok choice) =
    AreNamedRows spec choice.rows × (lines ≡ map ended (certificate_lines spec choice))
    × ((k : ℕ) (fault : CertFault) → IsWrongIn spec lines k fault → ⊥)
ReadsAll spec lines (Err fault) = Tells (IsFirstFrom spec lines 0) fault
