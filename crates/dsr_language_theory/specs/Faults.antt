-- The faults of a specification, and the one that is told.
use Rattle.std.specs.Prelude.{◌≡◌, ℕ, Bool, true, false, List, [], ◌∷◌}
use Rattle.dsr_tree.specs.Faults.{is_before}
use Rattle.dsr_tree.specs.declared.faults.Condition.{Condition}
use Rattle.dsr_tree.specs.declared.faults.Fault.{Fault}
use Rattle.dsr_meaning.specs.Counting.{IsIn}

-- the fault of a condition at a place where a test holds
abbrev pub when : Bool → Condition → ℕ → List Fault
when true condition place = record { place = place; condition = condition } ∷ []
when false condition place = []

-- the fault is one of the list, and none of the list is told rather than it
pub record IsToldOf (faults : List Fault) (f : Fault) : Type 0 where
  pub held : IsIn f faults
  pub none_before : (g : Fault) → IsIn g faults → is_before g f ≡ false
