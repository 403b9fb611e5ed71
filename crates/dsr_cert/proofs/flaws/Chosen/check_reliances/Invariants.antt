use Rattle.std.proofs.Common.{[], ◌∷◌}
use Rattle.dsr_cert.proofs.Ranks.{NoneBelow}
use Rattle.dsr_cert.proofs.flaws.Chosen.check_reliances.Given as goal

-- none so far
abbrev pub invariant-loop-number : goal.invariant-loop-number
invariant-loop-number l = NoneBelow l.self.spec.now l.self.choice.now (4 ∷ []) l.number
