-- How refusals are told.
use Rattle.std.specs.Prelude.{◌≡◌, ◌⊎◌, List, Option, Some, option_map}
use Rattle.dsr_layout.specs.declared.faults.LayoutFault.{LayoutFault}
use Rattle.dsr_layout.specs.declared.faults.LayoutFault.TheVariants as faults
use Rattle.dsr_meaning.specs.Refusals as refusals
use Rattle.dsr_meaning.specs.Refusals.{Refusal, first_of}

abbrev pub told_as : Refusal → LayoutFault
told_as refusals.Short = faults.Short
told_as refusals.Arith = faults.Arith
told_as (refusals.Outside pool) = faults.Outside pool
told_as (refusals.Overlap first second) = faults.Overlap first second
told_as (refusals.Subtype pool structure) = faults.Subtype pool structure
told_as (refusals.Zero pool) = faults.Zero pool
told_as (refusals.NoneIsCode pool) = faults.NoneIsCode pool
told_as (refusals.CodeTooWide pool structure field) = faults.CodeTooWide pool structure field
told_as (refusals.CountTooWide constraint) = faults.CountTooWide constraint
told_as refusals.Instances = faults.Instances

-- what is told of refusals: the first one
abbrev pub told_of : List Refusal → Option LayoutFault
told_of rs = option_map told_as (first_of rs)

-- the fault tells the first of the refusals, or that memory is wanting
abbrev pub Tells : List Refusal → LayoutFault → Type 0
Tells rs e = (e ≡ faults.NoMemory) ⊎ (told_of rs ≡ Some e)
