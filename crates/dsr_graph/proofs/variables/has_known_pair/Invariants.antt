use Rattle.std.proofs.Common.{take, IsTrue}
use Rattle.dsr_effect.proofs.Guards.{NoneIn}
use Rattle.dsr_goal.specs.Knowing.{known_by}
use Rattle.dsr_graph.proofs.variables.has_known_pair.Given as goal

-- none of the pairs so far is known
abbrev pub invariant-loop-pair : goal.invariant-loop-pair
invariant-loop-pair l = NoneIn (λ pair. IsTrue (known_by l.known l.var pair.0) × IsTrue (known_by l.other l.at pair.1)) (take l.pair-index l.pairs)
