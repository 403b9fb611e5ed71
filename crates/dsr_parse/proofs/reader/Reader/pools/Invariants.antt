use Rattle.std.proofs.Common.{length}
use Rattle.dsr_syntax_theory.specs.Grammar.{pool}
use Rattle.dsr_parse.specs.Reading.{ReadsItems, said_pool}
use Rattle.dsr_parse.proofs.reader.Reader.pools.Given as goal

abbrev pub invariant-loop-pools : goal.invariant-loop-pools
invariant-loop-pools l = ReadsItems pool said_pool l.pools.items l.fn.self l.self

abbrev pub decreases-loop-pools : goal.decreases-loop-pools
decreases-loop-pools l = length l.self.rest
