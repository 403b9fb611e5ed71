use Rattle.std.proofs.Common.{◌≡◌}
use Rattle.dsr_compensate.proofs.Each.{EachBefore}
use Rattle.dsr_compensate.proofs.listing.is_among.Given as goal

-- none of those so far is the template
abbrev pub invariant-loop-judged : goal.invariant-loop-judged
invariant-loop-judged l = EachBefore (λ _ judged. judged.template ≡ l.template → ⊥) l.listed l.judged-index
