-- What a refusal says.
use Rattle.std.specs.Prelude.{◌≡◌, List}
use Rattle.dsr_tree.specs.Faults.{kind_number}
use Rattle.dsr_tree.specs.declared.faults.Condition.{Condition}
use Rattle.dsr_tree.specs.declared.faults.Fault.{Fault}
use Rattle.dsr_language_theory.specs.Faults.{IsToldOf}
use Rattle.dsr_names.specs.declared.refusals.SpecFault.{SpecFault}
use Rattle.dsr_names.specs.declared.refusals.SpecFault.TheVariants as spec_faults

-- the refusal tells the kind and the place of the fault of a list that is told; want of memory says
-- nothing
abbrev pub Tells : List Fault → SpecFault → Type 0
Tells faults (spec_faults.At kind place) =
    (c : Condition) × (kind ≡ kind_number c)
    × IsToldOf faults (record { place = place; condition = c })
Tells faults spec_faults.NoMemory = Unit {0}
