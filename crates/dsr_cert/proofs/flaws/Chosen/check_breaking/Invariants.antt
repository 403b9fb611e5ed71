use Rattle.std.proofs.Common.{[], ◌∷◌}
use Rattle.dsr_cert.proofs.Ranks.{NoneBelow}
use Rattle.dsr_cert.proofs.flaws.Chosen.check_breaking.Given as goal

-- none so far
abbrev pub invariant-loop-other : goal.invariant-loop-other
invariant-loop-other l = NoneBelow l.self.spec.now l.self.choice.now (3 ∷ l.at.constraint ∷ l.at.conj ∷ l.at.literal ∷ []) l.other
