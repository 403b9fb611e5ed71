use Rattle.dsr_language_theory.specs.Declarations.{supply_faults}
use Rattle.dsr_struct.specs.Known.{known_of}
use Rattle.dsr_names.proofs.Finding.{finds_next_of}
use Rattle.dsr_struct.proofs.lookups.Names.check_supplies.Goals as goal

pub loop-number-preserved : goal.loop-number-preserved
loop-number-preserved c = finds_next_of (supply_faults (known_of c.args.self.now)) c.args.supplies.now c.loop-number.number c.index-supplies-number.result c.loop-number-test.true c.index-supplies-number.is c.loop-number.invariant c.check_supply.ensures
