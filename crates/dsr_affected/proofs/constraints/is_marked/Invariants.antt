use Rattle.std.proofs.Common.{◌≡◌, drop}
use Rattle.dsr_affected.specs.Marking.{is_conj_marked}
use Rattle.dsr_meaning.specs.Lists.{any_of}
use Rattle.dsr_affected.proofs.constraints.is_marked.Given as goal

-- those that are left tell the same
abbrev pub invariant-loop-conj : goal.invariant-loop-conj
invariant-loop-conj l =
    any_of (is_conj_marked l.marks) (drop l.conj-index l.conj-items)
    ≡ any_of (is_conj_marked l.marks) l.constraint.conjs
