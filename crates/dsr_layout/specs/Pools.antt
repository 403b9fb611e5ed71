-- What the checks ask of pools and structures.
use Rattle.std.specs.Prelude.{◌<◌, ◌≤◌, length, IsTrue, Option, None, Some, option_and_then, if◌then◌else◌}
use Rattle.dsr_ir.specs.declared.declarations.Structure.{Structure}
use Rattle.dsr_ir.specs.declared.layouts.PoolNumbers.{PoolNumbers}
use Rattle.dsr_meaning.specs.Refusals.{is_computable}
use Rattle.dsr_meaning.specs.Limits.{most_fields}

-- the end of the pool has a value, and its last code where it has a slot
abbrev pub IsComputable : PoolNumbers → Type 0
IsComputable n = IsTrue (is_computable n)

-- the numbers of a pool, where it is such a one
abbrev pub computed : Option PoolNumbers → Option PoolNumbers
computed numbers = option_and_then (λ n. if is_computable n then Some n else None) numbers

abbrev pub HasStep : PoolNumbers → Type 0
HasStep n = 0 < n.step

abbrev pub HasFewFields : Structure → Type 0
HasFewFields s = length s.fields ≤ most_fields
