use Rattle.std.proofs.Common.{◌≡◌, drop}
use Rattle.dsr_affected.specs.Marking.{has_mark, is_conj_marked}
use Rattle.dsr_affected_laws.specs.Affected.{atom_symbols}
use Rattle.dsr_meaning.specs.Lists.{any_of}
use Rattle.dsr_affected.proofs.constraints.is_conj_marked.Given as goal

-- those that are left tell the same
abbrev pub invariant-loop-literal : goal.invariant-loop-literal
invariant-loop-literal l =
    any_of (λ literal. any_of (has_mark l.marks) (atom_symbols literal.atom)) (drop l.literal-index l.literal-items)
    ≡ is_conj_marked l.marks l.conj
