use Rattle.dsr_tree.specs.Trees.{structure_shape}
use Rattle.dsr_language_theory.specs.Declarations.{structure_faults}
use Rattle.dsr_struct.specs.Known.{known_of}
use Rattle.dsr_names.proofs.Finding.{finds_next}
use Rattle.dsr_struct.proofs.lookups.Names.check_structures.Goals as goal

pub loop-number-preserved : goal.loop-number-preserved
loop-number-preserved c = finds_next (structure_faults (known_of c.args.self.now)) structure_shape c.args.structures.now c.loop-number.number c.index-structures-number.result c.loop-number-test.true c.index-structures-number.is c.loop-number.invariant c.check_structure.ensures
