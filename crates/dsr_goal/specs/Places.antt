-- Where a removal by a rule writes, in parts.
use Rattle.std.specs.Prelude.{is_some, if◌then◌else◌}
use Rattle.dsr_ir.specs.declared.constraints.Var.{Var}
use Rattle.dsr_ir.specs.declared.rules.Rule.{Rule}
use Rattle.dsr_ir.specs.declared.updates.Place.{Place}
use Rattle.dsr_ir.specs.declared.updates.Place.TheVariants.{Head, Of, Deriver}
use Rattle.dsr_update_theory.specs.Givers.{is_own}

-- the record of the instance that gives what is to be removed
abbrev pub instance_place : Rule → Place
instance_place rule = if is_some rule.premise then Deriver else Head

-- that of a variable, where the rule gives the record itself
abbrev pub variable_place : Var → Rule → Place
variable_place var rule = if is_own rule.inc then Of var else instance_place rule
