use Rattle.std.proofs.Common.{◌≡◌, map, take}
use Rattle.dsr_language_theory.specs.TypedConstraints.{without_complement}
use Rattle.dsr_constraint.proofs.typed_forms.without_complements.Given as goal

abbrev pub invariant-loop-literal : goal.invariant-loop-literal
invariant-loop-literal l = l.literals.items ≡ map (without_complement l.base) (take l.literal-index l.literal-items)
