-- Levels that a certificate may say.
use Rattle.std.specs.Prelude.{◌≡◌, ◌<◌, ℕ, Some, slice_get}
use Rattle.dsr_cert.specs.Certificates.{level_bound}
use Rattle.dsr_ir.specs.declared.declarations.Spec.{Spec}
use Rattle.dsr_plan_theory.specs.declared.choices.Choice.{Choice}
use Rattle.dsr_plan_theory.specs.declared.choices.Row.{Row}

-- each level is below the bound, which a plan needn't heed
abbrev pub HasLowLevels : Spec → Choice → Type 0
HasLowLevels spec choice =
    (n : ℕ) (row : Row) → slice_get choice.rows n ≡ Some row → row.level < level_bound spec
