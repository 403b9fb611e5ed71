use Rattle.std.proofs.Common.{◌≡◌}
use Rattle.dsr_compensate.proofs.Each.{EachBefore}
use Rattle.dsr_removal.proofs.cycles.next.Given as goal

-- none of those so far has the number
abbrev pub invariant-loop-member : goal.invariant-loop-member
invariant-loop-member l = EachBefore (λ _ member. member.constraint ≡ l.number → ⊥) l.members l.member-index
