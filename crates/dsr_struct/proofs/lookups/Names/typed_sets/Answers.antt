use Rattle.std.proofs.Common.{◌∙◌}
use Rattle.dsr_language_theory.specs.Tables.{typed_set}
use Rattle.dsr_struct.specs.Known.{known_of}
use Rattle.dsr_struct.proofs.Growing.{all_made, one_more}
use Rattle.dsr_struct.proofs.lookups.Names.typed_sets.Goals as goal

pub loop-set-preserved : goal.loop-set-preserved
loop-set-preserved c = one_more (typed_set (known_of c.args.self.now)) c.items-set-items.result.now c.loop-set.set-index c.set-item.result c.loop-set-test.true c.set-item.is c.loop-set.invariant c.in_ok-push.ensures.items c.in_ok-entry.ensures

pub returns : goal.returns
returns c = c.new.ensures ∙ all_made (typed_set (known_of c.args.self.now)) (known_of c.args.self.now).tree.sets _ c.items-set-items.ensures c.loop-set.set-index c.loop-set-test.false c.loop-set.invariant
