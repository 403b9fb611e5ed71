-- As which entries a report is read. Its text names the fields that were set, so of fields that
-- have one name a reader takes the first.
use Rattle.std.specs.Prelude.{◌≡◌, ℕ, List, [], ◌∷◌, is_some}
use Rattle.dsr_ir.specs.declared.declarations.Field.{Field}
use Rattle.dsr_ir.specs.declared.declarations.FieldRef.{FieldRef}
use Rattle.dsr_ir.specs.declared.declarations.Spec.{Spec}
use Rattle.dsr_ir.specs.declared.declarations.Structures.{Structures}
use Rattle.dsr_ir.specs.declared.layouts.Layout.{Layout}
use Rattle.dsr_plan_theory.specs.Plans.{IsPlan}
use Rattle.dsr_plan_theory.specs.declared.choices.Choice.{Choice}
use Rattle.dsr_repair_theory.specs.Runs.{IsPartRun}
use Rattle.dsr_repair_theory.specs.declared.entries.CellSet.{CellSet}
use Rattle.dsr_repair_theory.specs.declared.entries.Entry.{Entry}
use Rattle.dsr_report_read.specs.Forms.{IsPoolField, head_told}
use Rattle.dsr_step_theory.specs.Images.{IsImageOf}

-- ---- fields that a report doesn't tell apart

-- two fields of the pool's records with one name, both of them arrays or neither
pub record AreNamedAlike (base : Structures) (pool : ℕ) (place other : FieldRef) : Type 0 where
  pub field : Field
  pub its : Field
  pub is_field : IsPoolField base pool place field
  pub is_other : IsPoolField base pool other its
  pub name : its.name ≡ field.name
  pub shape : is_some its.len ≡ is_some field.len

-- no two fields are such
abbrev pub HasOwnFieldNames : Spec → Type 0
HasOwnFieldNames spec =
    (pool : ℕ) (place other : FieldRef) → AreNamedAlike spec.base pool place other → other ≡ place

-- ---- what is read

-- it is so of each item of the one list with the one that stands at its place in the other
abbrev pub EachWith : {T : Type 0} → (T → T → Type 0) → List T → List T → Type 0
EachWith With [] [] = Unit {0}
EachWith With (x ∷ xs) (y ∷ ys) = With x y × EachWith With xs ys
EachWith With xs ys = ⊥

-- the same value of the same record, set in a field that is named alike
pub record IsSetReadAs (spec : Spec) (set other : CellSet) : Type 0 where
  pub elem : other.elem ≡ set.elem
  pub fields : AreNamedAlike spec.base set.elem.pool set.path.field other.path.field
  pub indexed : other.path.indexed ≡ set.path.indexed
  pub index : other.index ≡ set.index
  pub old : other.old ≡ set.old
  pub new : other.new ≡ set.new

-- the same entry, but for the fields that it tells
pub record IsReadAs (spec : Spec) (entry other : Entry) : Type 0 where
  pub head : head_told other ≡ head_told entry
  pub reset : other.reset ≡ entry.reset
  pub sets : EachWith (IsSetReadAs spec) entry.sets other.sets
  pub bytes : other.bytes ≡ entry.bytes

abbrev pub AreReadAs : Spec → List Entry → List Entry → Type 0
AreReadAs spec entries others = EachWith (IsReadAs spec) entries others

-- ---- runs

-- the entries tell steps of a repair of an image by a plan, from the first on
pub record AreOfRun (spec : Spec) (entries : List Entry) : Type 0 where
  pub choice : Choice
  pub layout : Layout
  pub old : List ℕ
  pub new : List ℕ
  pub plan : IsPlan spec choice
  pub image : IsImageOf spec layout old
  pub steps : IsPartRun spec choice layout old entries new
