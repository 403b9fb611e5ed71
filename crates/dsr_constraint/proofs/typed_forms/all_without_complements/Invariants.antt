use Rattle.std.proofs.Common.{◌≡◌, map, take}
use Rattle.dsr_language_theory.specs.TypedConstraints.{without_complements}
use Rattle.dsr_constraint.proofs.typed_forms.all_without_complements.Given as goal

abbrev pub invariant-loop-conj : goal.invariant-loop-conj
invariant-loop-conj l = l.typed.items ≡ map (without_complements l.base) (take l.conj-index l.conjs)
