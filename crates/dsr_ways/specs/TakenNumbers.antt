-- What is told of the ways that a plan takes.
use Rattle.std.specs.Prelude.{ℕ}
use Rattle.dsr_plan_theory.specs.declared.choices.Way.{Way}
use Rattle.dsr_plan_theory.specs.declared.choices.Way.TheVariants.{Test, By}

-- the number of the template, counted from 1; 0 where the literal is tested
abbrev pub told_number : Way → ℕ
told_number Test = 0
told_number (By number template) = number
