use Rattle.dsr_language_theory.specs.Declarations.{relation_faults}
use Rattle.dsr_struct.specs.Known.{known_of}
use Rattle.dsr_names.proofs.Finding.{finds_next_of}
use Rattle.dsr_struct.proofs.lookups.Names.check_relations.Goals as goal

pub loop-number-preserved : goal.loop-number-preserved
loop-number-preserved c = finds_next_of (relation_faults (known_of c.args.self.now)) c.args.relations.now c.loop-number.number c.index-relations-number.result c.loop-number-test.true c.index-relations-number.is c.loop-number.invariant c.check_relation.ensures
