-- What the updates of a constraint are judged by, as the code keeps it.
use Rattle.std.specs.Prelude.{◌≡◌, ◌<◌, ◌↔◌, ℕ, List, false, IsTrue, length, slice_index_or}
use Rattle.dsr_effect.specs.declared.context.Context.{Context}
use Rattle.dsr_ir.specs.declared.constraints.Quant.{Quant}
use Rattle.dsr_ir.specs.declared.constraints.Var.{Var}
use Rattle.dsr_ir.specs.declared.constraints.Var.TheVariants.{First, Second}
use Rattle.dsr_ir.specs.declared.declarations.Spec.{Spec}
use Rattle.dsr_ir.specs.declared.updates.Goal.{Goal}
use Rattle.dsr_ir.specs.declared.updates.Update.{Update}
use Rattle.dsr_meaning.specs.Counting.{IsIn}
use Rattle.dsr_meaning.specs.Typed.{IsTyped, IsTypedQuant}
use Rattle.dsr_update_theory.specs.Changes.{Change}
use Rattle.dsr_update_theory.specs.KnownSets.{IsKnown}

-- the variable's record is known to be a member of a set with which this one has no member in
-- common
abbrev pub IsApartFrom : Spec → Quant → List (ℕ × ℕ) → Var → ℕ → Type 0
IsApartFrom spec quant exclusive v set =
    (other : ℕ) × IsKnown spec quant v other × IsIn (set, other) exclusive

-- the context is of this specification, these pairs of sets and this quantifier
pub record IsContextOf (spec : Spec) (exclusive : List (ℕ × ℕ)) (quant : Quant) (c : Context) : Type 0 where
  pub spec_is : c.spec.now ≡ spec
  pub exclusive_is : c.exclusive.now ≡ exclusive
  pub quant_is : c.quant.now ≡ quant

-- what was found for it is right
pub record IsSound (c : Context) : Type 0 where
  pub typed : IsTyped c.spec.now
  pub quantifier : IsTypedQuant c.spec.now.base c.quant.now
  pub first :
      (set : ℕ) → set < length c.spec.now.base.sets
      → IsTrue (slice_index_or c.first set false) ↔ IsApartFrom c.spec.now c.quant.now c.exclusive.now First set
  pub second :
      (set : ℕ) → set < length c.spec.now.base.sets
      → IsTrue (slice_index_or c.second set false) ↔ IsApartFrom c.spec.now c.quant.now c.exclusive.now Second set

-- an update under these
abbrev pub change_for : Spec → List (ℕ × ℕ) → Quant → Goal → Update → Change
change_for spec exclusive quant goal update = record {
  spec = spec;
  exclusive = exclusive;
  quant = quant;
  goal = goal;
  update = update;
}

-- an update in the context
abbrev pub change_in : Context → Goal → Update → Change
change_in c goal update = change_for c.spec.now c.exclusive.now c.quant.now goal update
