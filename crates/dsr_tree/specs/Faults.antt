-- The order in which faults of a specification are told.
use Rattle.std.specs.Prelude.{ℕ, Bool, ◌&&◌, ◌||◌, nat_eq, nat_lt}
use Rattle.dsr_tree.specs.declared.faults.Condition.{Condition}
use Rattle.dsr_tree.specs.declared.faults.Condition.TheVariants as conditions
use Rattle.dsr_tree.specs.declared.faults.Fault.{Fault}

-- the number of a condition
abbrev pub kind_number : Condition → ℕ
kind_number conditions.NameTwice = 1
kind_number conditions.UnknownName = 2
kind_number conditions.Align = 3
kind_number conditions.FixedPlace = 4
kind_number conditions.SubtypeLoop = 5
kind_number conditions.Limit = 6
kind_number conditions.PoolMismatch = 7
kind_number conditions.LengthMismatch = 8
kind_number conditions.BadIndex = 9
kind_number conditions.Width = 10
kind_number conditions.NegatedValue = 11
kind_number conditions.TooManyConjunctions = 12
kind_number conditions.TooManyAtoms = 13

-- the least place comes first, and at one place the condition of the least number
abbrev pub is_before : Fault → Fault → Bool
is_before f g =
    nat_lt f.place g.place || (nat_eq f.place g.place && nat_lt (kind_number f.condition) (kind_number g.condition))
