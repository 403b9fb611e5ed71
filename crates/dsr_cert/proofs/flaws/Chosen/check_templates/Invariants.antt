use Rattle.std.proofs.Common.{[], ◌∷◌}
use Rattle.dsr_cert.proofs.Ranks.{NoneBelow}
use Rattle.dsr_cert.specs.Searches.{kind_of}
use Rattle.dsr_cert.proofs.flaws.Chosen.check_templates.Given as goal

-- none so far
abbrev pub invariant-loop-constraint : goal.invariant-loop-constraint
invariant-loop-constraint l = NoneBelow l.self.spec.now l.self.choice.now (kind_of l.wrong ∷ []) l.constraint
