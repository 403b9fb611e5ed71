use Rattle.std.proofs.Common.{◌∙◌}
use Rattle.dsr_language_theory.specs.Tables.{typed_relation}
use Rattle.dsr_struct.specs.Known.{known_of}
use Rattle.dsr_struct.proofs.Growing.{all_made, one_more}
use Rattle.dsr_struct.proofs.lookups.Names.typed_relations.Goals as goal

pub loop-relation-preserved : goal.loop-relation-preserved
loop-relation-preserved c = one_more (typed_relation (known_of c.args.self.now)) c.items-relation-items.result.now c.loop-relation.relation-index c.relation-item.result c.loop-relation-test.true c.relation-item.is c.loop-relation.invariant c.in_ok-push.ensures.items c.in_ok-entry.ensures

pub returns : goal.returns
returns c = c.new.ensures ∙ all_made (typed_relation (known_of c.args.self.now)) (known_of c.args.self.now).tree.relations _ c.items-relation-items.ensures c.loop-relation.relation-index c.loop-relation-test.false c.loop-relation.invariant
