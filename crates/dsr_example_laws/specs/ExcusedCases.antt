-- Applications by which another constraint would be broken, but for an excuse of each kind.
use Rattle.std.specs.Prelude.{◌≡◌, ◌≢◌, ℕ, nat_eq, None, Some, slice_get}
use Rattle.dsr_graph_theory.specs.Breaks.{Breaks}
use Rattle.dsr_graph_theory.specs.Causes.{constraint_causes}
use Rattle.dsr_graph_theory.specs.Excuses.{AreDifferentRecords, AreSecondsApart, HappensOnlyAt, IsSameBinding, MayHappen}
use Rattle.dsr_graph_theory.specs.declared.causes.Cause.{Cause}
use Rattle.dsr_ir.specs.declared.constraints.Constraint.{Constraint}
use Rattle.dsr_ir.specs.declared.constraints.Var.{Var}
use Rattle.dsr_ir.specs.declared.tuples.Binding.{Binding}
use Rattle.dsr_ir.specs.declared.updates.At.TheVariants.{SlotOf}
use Rattle.dsr_ir.specs.declared.updates.Place.TheVariants.{Of}
use Rattle.dsr_graph_theory.specs.Owners.{Owner}
use Rattle.dsr_meaning.specs.Consistency.{IsBinding, IsViolated}
use Rattle.dsr_meaning.specs.Counting.{IsIn}
use Rattle.dsr_meaning.specs.Models.{IsFact}
use Rattle.dsr_plan_theory.specs.Plans.{owner_at}
use Rattle.dsr_template_laws.specs.Judging.{Application, change_in, owner_of}
use Rattle.dsr_template_laws.specs.Tried.{IsTried}
use Rattle.dsr_update_theory.specs.Changes.{Change}
use Rattle.dsr_update_theory.specs.declared.effects.Tag.TheVariants.{Written, Entry}

-- Why a change is excused: it is at the record of the binding for which the update is made, which
-- no other binding has; at another record than the one that is read; at a target of one relation,
-- where a target of another is read; or at the entry of another record's slot.
pub data Kind : Type 0 where
  own_binding different_records targets_apart other_entry : Kind

-- a change is excused so, where it is at the record of the variable `v`, or at the entry of its
-- slot, and the other constraint reads at its variable `at`
abbrev pub IsExcuseOf : Kind → Owner → Owner → Change → Cause → Var → Var → Type 0
IsExcuseOf own_binding owner other c cause v at =
    HappensOnlyAt c cause.reason Written × (c.update.place ≡ Of v) × IsSameBinding owner other v at
IsExcuseOf different_records owner other c cause v at =
    HappensOnlyAt c cause.reason Written × (c.update.place ≡ Of v)
    × AreDifferentRecords owner other v at
IsExcuseOf targets_apart owner other c cause v at =
    HappensOnlyAt c cause.reason Written × (c.update.place ≡ Of v)
    × AreSecondsApart owner other v at
IsExcuseOf other_entry owner other c cause v at =
    HappensOnlyAt c cause.reason Entry × (c.update.at ≡ SlotOf v) × (owner.spec.base.version ≡ 2)
    × AreDifferentRecords owner other v at

-- An update is applied that may do what breaks the constraint with this number, but for an excuse
-- of the kind. So the template breaks it for no reason, and another binding of it, which isn't
-- violated, isn't so afterwards.
pub record ExcusedCase (kind : Kind) : Type 0 where
  pub application : Application
  pub tried : IsTried application
  pub number : ℕ
  pub constraint : Constraint
  pub declared : slice_get application.spec.constraints number ≡ Some constraint
  pub cause : Cause
  pub among : IsIn cause (constraint_causes (nat_eq application.step.constraint number) constraint)
  pub happens : MayHappen (change_in application) cause.reason
  pub own : Var
  pub at : Var
  pub read_at : cause.at ≡ Some at
  pub excuse :
      IsExcuseOf kind (owner_of application) (owner_at application.spec number constraint)
      (change_in application) cause own at
  pub spared :
      Breaks (owner_of application) (owner_at application.spec number constraint)
      application.template None
  pub binding : Binding
  pub other : binding ≢ application.step.binding
  pub is_binding :
      IsBinding (IsFact application.spec application.layout application.old) constraint.quant
      binding
  pub holds :
      IsViolated (IsFact application.spec application.layout application.old) application.spec
      (record { constraint = number; binding = binding })
      → ⊥
  pub holds_then :
      IsViolated (IsFact application.spec application.layout application.new) application.spec
      (record { constraint = number; binding = binding })
      → ⊥
