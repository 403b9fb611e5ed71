use Rattle.std.proofs.Common.{◌≡◌, drop}
use Rattle.dsr_names.specs.Tables.{first_field}
use Rattle.dsr_names.proofs.known.Known.first_field.Given as goal

abbrev pub invariant-loop-structure : goal.invariant-loop-structure
invariant-loop-structure l = first_field l.fn.self.tables.now l.fn.name (drop l.structure-index l.structures) ≡ first_field l.fn.self.tables.now l.fn.name l.structures
