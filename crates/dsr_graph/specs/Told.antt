-- What is told of an update's effect, and of the records that two constraints read.
use Rattle.std.specs.Prelude.{◌≡◌, ◌↔◌, ◌||◌, Bool, false, not, IsTrue}
use Rattle.dsr_graph_theory.specs.Causes.{symbol_of, direction_of}
use Rattle.dsr_graph_theory.specs.Excuses.{AreDifferentRecords, AreTargetsApart, IsBoundOnce}
use Rattle.dsr_graph_theory.specs.declared.causes.Cause.{Cause}
use Rattle.dsr_graph_theory.specs.declared.causes.Reason.{Reason}
use Rattle.dsr_graph.specs.declared.excuses.Excuses.{Excuses}
use Rattle.dsr_graph.specs.declared.variables.BoundOnce.{BoundOnce}
use Rattle.dsr_graph.specs.declared.variables.Different.{Different}
use Rattle.dsr_facts.specs.declared.gathering.Facts.{Facts}
use Rattle.dsr_ir.specs.declared.constraints.Var.{Var}
use Rattle.dsr_ir.specs.declared.constraints.Var.TheVariants.{Head, First, Second}
use Rattle.dsr_ir.specs.declared.declarations.Structures.{Structures}
use Rattle.dsr_graph_theory.specs.Owners.{Owner}
use Rattle.dsr_update_theory.specs.Changes.{Change}
use Rattle.dsr_update_theory.specs.Effects.{InTable, IsDeclared, has_tag}
use Rattle.dsr_update_theory.specs.Facts as said
use Rattle.dsr_update_theory.specs.declared.effects.Tag.{Tag}
use Rattle.dsr_update_theory.specs.declared.effects.Tags.{Tags}

-- the set or the relation that changes is declared
abbrev pub IsOfDeclared : Structures → Cause → Type 0
IsOfDeclared base cause = IsDeclared base (symbol_of cause.reason)

-- the records at which the update may do it
abbrev pub AreTagsOf : Change → Reason → Tags → Type 0
AreTagsOf c reason tags =
    (tag : Tag) → IsTrue (has_tag tag tags) ↔ InTable c (direction_of reason) (symbol_of reason) tag

-- there is such a record
abbrev pub is_some : Tags → Bool
is_some tags = tags.written || tags.entry || tags.fresh || tags.any

-- there is none but the one that is written
abbrev pub is_only_written : Tags → Bool
is_only_written tags = not (tags.entry || tags.fresh || tags.any)

-- there is none but the slot of the entry that is written
abbrev pub is_only_entry : Tags → Bool
is_only_entry tags = not (tags.written || tags.fresh || tags.any)

-- the facts are those that the constraint uses
pub record AreFactsOf (owner : Owner) (facts : Facts) : Type 0 where
  pub injective : facts.injective ≡ said.injective owner.spec owner.number
  pub exclusive : facts.exclusive ≡ said.exclusive owner.spec owner.number
  pub apart : facts.apart ≡ said.apart owner.spec owner.number

-- ---- tables on variables

abbrev pub once_by : BoundOnce → Var → Bool
once_by once Head = once.head
once_by once First = once.first
once_by once Second = once.second

-- of the head nothing is known
abbrev pub different_by : Different → Var → Var → Bool
different_by d First First = d.first_first
different_by d First Second = d.first_second
different_by d Second First = d.second_first
different_by d Second Second = d.second_second
different_by d _ _ = false

-- what is told of the two constraints is so
pub record TellsExcuses (owner other : Owner) (e : Excuses) : Type 0 where
  pub is_same : IsTrue e.is_same ↔ (owner.number ≡ other.number)
  pub once : (v : Var) → IsTrue (once_by e.once v) ↔ IsBoundOnce owner owner.constraint.quant v
  pub different : (v at : Var) → IsTrue (different_by e.different v at) ↔ AreDifferentRecords owner other v at
  pub apart : IsTrue e.targets_apart ↔ AreTargetsApart owner other
  pub entries : IsTrue e.entries ↔ (owner.spec.base.version ≡ 2)
