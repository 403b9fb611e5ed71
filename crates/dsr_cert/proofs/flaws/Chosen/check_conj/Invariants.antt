use Rattle.std.proofs.Common.{[], ◌∷◌}
use Rattle.dsr_cert.proofs.Ranks.{NoneBelow}
use Rattle.dsr_cert.specs.Searches.{kind_of}
use Rattle.dsr_cert.proofs.flaws.Chosen.check_conj.Given as goal

-- none so far
abbrev pub invariant-loop-literal : goal.invariant-loop-literal
invariant-loop-literal l = NoneBelow l.self.spec.now l.self.choice.now (kind_of l.wrong ∷ l.constraint ∷ l.conj ∷ []) l.literal
