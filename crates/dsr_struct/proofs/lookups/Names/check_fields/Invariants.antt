use Rattle.dsr_tree.specs.Trees.{structure_shape}
use Rattle.dsr_struct.specs.Known.{known_of}
use Rattle.dsr_struct.proofs.Fields.{IsBefore}
use Rattle.dsr_struct.proofs.lookups.Names.check_fields.Given as goal

abbrev pub invariant-loop-j : goal.invariant-loop-j
invariant-loop-j l = IsBefore (known_of l.self) l.number (structure_shape l.structure) l.field-items l.j l.bit l.behind_open l.fn.told.fault l.told.fault
