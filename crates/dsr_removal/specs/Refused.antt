-- Why no choice is taken.
use Rattle.dsr_ir.specs.declared.declarations.Spec.{Spec}
use Rattle.dsr_plan_theory.specs.StuckSets.{HasNoPlan, IsStuckSet}
use Rattle.dsr_removal.specs.declared.refusals.Stuck.{Stuck}
use Rattle.dsr_removal.specs.declared.refusals.Stuck.TheVariants.{Set, NoMemory}

-- the whole stuck set, and there is no plan; want of memory says nothing
abbrev pub IsRefusal : Spec → Stuck → Type 0
IsRefusal spec (Set set) = IsStuckSet spec set × HasNoPlan spec
IsRefusal spec NoMemory = Unit {0}
