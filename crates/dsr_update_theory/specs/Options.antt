-- In which ways an instance of a rule can be made to give nothing.
use Rattle.std.specs.Prelude.{ℕ, false, List, [], ◌∷◌, ◌++◌, Option, None, option_map, option_and_then, if◌then◌else◌}
use Rattle.std.specs.List.{filter_map}
use Rattle.std.specs.Option.{option_map_or}
use Rattle.dsr_ir.specs.Rules.{target_of}
use Rattle.dsr_ir.specs.declared.declarations.Field.{Field}
use Rattle.dsr_ir.specs.declared.declarations.Structures.{Structures}
use Rattle.dsr_ir.specs.declared.rules.Path.{Path}
use Rattle.dsr_ir.specs.declared.rules.Rule.{Rule}
use Rattle.dsr_ir.specs.declared.updates.Pick.{Pick}
use Rattle.dsr_ir.specs.declared.updates.Pick.TheVariants.{NoneCode}
use Rattle.dsr_ir.specs.declared.updates.Write.{Write}
use Rattle.dsr_meaning.specs.Instances.{declared_field, kind_pool}
use Rattle.dsr_update_theory.specs.Guards.{guard_write}

-- the pool to which the target's field refers, where it isn't fixed
abbrev pub open_pool : Field → Option ℕ
open_pool f = if f.fixed then None else kind_pool f.kind

-- the write of what is picked to a path, where the path's field is a reference that may be written
abbrev pub reference_write : Structures → Pick → Path → Option Write
reference_write base pick path =
    option_and_then
    (λ f. option_map (λ pool. record { path = path; pick = pick; wants = None }) (open_pool f))
    (declared_field base path.field)

-- a reference that is the target is written none
abbrev pub target_option : Structures → Rule → List Write
target_option base rule =
    option_map_or (λ write. write ∷ [])
    (option_and_then (reference_write base NoneCode) (target_of rule.inc)) []

-- each guard that can be made false, in order, and then the target
abbrev pub options : Structures → Rule → List Write
options base rule = filter_map (guard_write base false) rule.guards ++ target_option base rule
