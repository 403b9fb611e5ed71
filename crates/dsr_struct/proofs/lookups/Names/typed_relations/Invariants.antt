use Rattle.std.proofs.Common.{◌≡◌, map, take}
use Rattle.dsr_language_theory.specs.Tables.{typed_relation}
use Rattle.dsr_struct.specs.Known.{known_of}
use Rattle.dsr_struct.proofs.lookups.Names.typed_relations.Given as goal

abbrev pub invariant-loop-relation : goal.invariant-loop-relation
invariant-loop-relation l = l.typed.items ≡ map (typed_relation (known_of l.fn.self)) (take l.relation-index l.relation-items)
