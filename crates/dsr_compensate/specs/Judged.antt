-- What is known of an update when it is asked whether it serves.
use Rattle.std.specs.Prelude.{◌↔◌, IsTrue}
use Rattle.dsr_ir.specs.declared.updates.Symbol.{Symbol}
use Rattle.dsr_update_theory.specs.Changes.{Change}
use Rattle.dsr_update_theory.specs.Effects.{InTable, IsDeclared, changes}
use Rattle.dsr_update_theory.specs.declared.effects.Effect.{Effect}
use Rattle.dsr_update_theory.specs.declared.effects.Tag.{Tag}
use Rattle.dsr_update_theory.specs.declared.effects.Direction.{Direction}

-- the effect is exactly what the update may change
abbrev pub IsEffectOf : Change → Effect → Type 0
IsEffectOf c effect =
    (direction : Direction) (symbol : Symbol) (tag : Tag) → IsDeclared c.spec.base symbol
    → IsTrue (changes c.spec.base effect direction symbol tag) ↔ InTable c direction symbol tag
