use Rattle.std.proofs.Common.{◌≡◌}
use Rattle.dsr_compensate.proofs.Each.{EachBefore}
use Rattle.dsr_removal.proofs.cycles.place_in.Given as goal

-- none of those so far is the number
abbrev pub invariant-loop-place : goal.invariant-loop-place
invariant-loop-place l = EachBefore (λ _ other. other ≡ l.number → ⊥) l.path l.place
