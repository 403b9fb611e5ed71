use Rattle.dsr_language_theory.specs.Declarations.{unknown_name}
use Rattle.dsr_language_theory.specs.Names.{plain_set}
use Rattle.dsr_struct.specs.Known.{known_of}
use Rattle.dsr_names.proofs.Finding.{finds_next_from}
use Rattle.dsr_struct.proofs.lookups.Names.check_plain_sets.Goals as goal

pub loop-name-preserved : goal.loop-name-preserved
loop-name-preserved c = finds_next_from (λ _ q. unknown_name (plain_set (known_of c.args.self.now)) q) 1 c.args.names.now c.loop-name.name-index c.name-item.result c.loop-name-test.true c.name-item.is c.loop-name.invariant c.check_plain_set.ensures
