-- The fault that is to be told, among those that were found so far.
use Rattle.std.specs.Prelude.{◌≡◌, List, [], ◌∷◌, Option, None, Some, if◌then◌else◌}
use Rattle.dsr_tree.specs.Faults.{is_before}
use Rattle.dsr_tree.specs.declared.faults.Fault.{Fault}

-- the one of two faults that is told; the earlier found one where neither is before the other
abbrev pub told_of : Option Fault → Fault → Option Fault
told_of None g = Some g
told_of (Some f) g = if is_before g f then Some g else Some f

-- the one that is told after more were found
abbrev pub told_after : Option Fault → List Fault → Option Fault
told_after found [] = found
told_after found (g ∷ gs) = told_after (told_of found g) gs

-- these faults were found, in any order of their places
pub record Finds (faults : List Fault) (old new : Option Fault) : Type 0 where
  pub is : new ≡ told_after old faults
