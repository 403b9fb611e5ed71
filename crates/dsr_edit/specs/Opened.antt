-- Why no session begins.
use Rattle.std.specs.Prelude.{◌≢◌, ℕ, List, [], map}
use Rattle.dsr_edit.specs.declared.faults.OpenFault.{OpenFault}
use Rattle.dsr_edit.specs.declared.faults.OpenFault.TheVariants as faults
use Rattle.dsr_ir.specs.declared.declarations.Spec.{Spec}
use Rattle.dsr_ir.specs.declared.layouts.Layout.{Layout}
use Rattle.dsr_meaning.specs.Consistency.{AreViolations, bound_constraint}
use Rattle.dsr_meaning.specs.Models.{IsFact}

-- why no session begins: some binding is violated, and all that are, are told; want of memory says
-- nothing of the image
abbrev pub IsOpenFault : Spec → Layout → List ℕ → OpenFault → Type 0
IsOpenFault spec layout bytes (faults.Violated vs) =
    AreViolations (IsFact spec layout bytes) spec (map bound_constraint vs.items) × (vs.items ≢ [])
IsOpenFault spec layout bytes faults.NoMemory = Unit {0}
