use Rattle.std.proofs.Common.{[], ◌∷◌}
use Rattle.dsr_cert.proofs.Ranks.{NoneBelow}
use Rattle.dsr_cert.proofs.flaws.Chosen.check_reliance.Given as goal

-- none so far
abbrev pub invariant-loop-on : goal.invariant-loop-on
invariant-loop-on l = NoneBelow l.self.spec.now l.self.choice.now (4 ∷ l.number ∷ []) l.on
