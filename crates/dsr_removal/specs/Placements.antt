-- What comes of putting all constraints in an order of repair.
use Rattle.std.specs.Prelude.{◌≡◌, ℕ, Bool, List, length}
use Rattle.dsr_ir.specs.declared.declarations.Spec.{Spec}
use Rattle.dsr_meaning.specs.Counting.{IsIn}
use Rattle.dsr_placement.specs.Placing.{IsLeft}
use Rattle.dsr_plan_theory.specs.Stuck.{IsStuck}
use Rattle.dsr_plan_theory.specs.Taken.{IsTaken}
use Rattle.dsr_removal.specs.declared.taking.Placement.{Placement}
use Rattle.dsr_removal.specs.declared.taking.Placement.TheVariants.{Taken, Stuck}

-- the marks are those of the largest stuck set, and it has a member
pub record AreLargest (spec : Spec) (left : List Bool) : Type 0 where
  pub as_many : length left ≡ length spec.constraints
  pub some : (n : ℕ) × IsLeft left n
  pub stuck : IsStuck spec (IsLeft left)
  pub all : (set : List ℕ) (n : ℕ) → IsStuck spec (λ m. IsIn m set) → IsIn n set → IsLeft left n

abbrev pub IsPlacementFor : Spec → Placement → Type 0
IsPlacementFor spec (Taken choice) = IsTaken spec choice
IsPlacementFor spec (Stuck left) = AreLargest spec left.items
