-- What rules read of an image.
use Rattle.std.specs.Prelude.{◌≡◌, ◌⊎◌, ℕ, List, Some}
use Rattle.dsr_ir.specs.Rules.{target_of}
use Rattle.dsr_ir.specs.declared.declarations.Spec.{Spec}
use Rattle.dsr_ir.specs.declared.layouts.Layout.{Layout}
use Rattle.dsr_ir.specs.declared.rules.Guard.{Guard}
use Rattle.dsr_ir.specs.declared.rules.Path.{Path}
use Rattle.dsr_ir.specs.declared.rules.Rule.{Rule}
use Rattle.dsr_ir.specs.declared.tuples.Instance.{Instance}
use Rattle.dsr_meaning.specs.Cells.{value_at}
use Rattle.dsr_meaning.specs.Counting.{IsIn}
use Rattle.dsr_meaning.specs.Instances.{IsInstance}

-- a guard of the rule tests the path
abbrev pub Tests : Rule → Path → Type 0
Tests rule path = (guard : Guard) × IsIn guard rule.guards × (guard.path ≡ path)

-- the rule reads the path, for a guard or for the target of its inclusion
abbrev pub Reads : Rule → Path → Type 0
Reads rule path = Tests rule path ⊎ (target_of rule.inc ≡ Some path)

-- at each instance of a rule, each path that the rule reads has the same value in both images, or
-- none in both
abbrev pub ReadTheSame : Spec → Layout → List ℕ → List ℕ → Type 0
ReadTheSame spec layout a b =
    (rule : Rule) (i : Instance) (path : Path) → IsIn rule spec.rules
    → IsInstance spec layout i rule → Reads rule path
    → value_at layout a i.elem i.index path ≡ value_at layout b i.elem i.index path
