use Rattle.std.proofs.Common.{◌∙◌}
use Rattle.dsr_language_theory.specs.Tables.{number_in}
use Rattle.dsr_struct.specs.Known.{known_of}
use Rattle.dsr_struct.proofs.Growing.{all_made_behind, one_more_behind}
use Rattle.dsr_struct.proofs.lookups.Names.avoided_by.Goals as goal

pub number_in-requires : goal.number_in-requires
number_in-requires c = c.requires.fit.set

pub number_in-requires-in-loop-set : goal.number_in-requires-in-loop-set
number_in-requires-in-loop-set c = c.requires.fit.set

pub loop-set-preserved : goal.loop-set-preserved
loop-set-preserved c = one_more_behind (number_in (known_of c.args.self.now).set) c.items-set-items.result.now c.loop-set.set-index c.set-item.result c.loop-set-test.true c.set-item.is c.loop-set.invariant c.in_ok-push-2.ensures.items c.number_in-in-loop-set.ensures

pub returns : goal.returns
returns c = c.new.ensures ∙ all_made_behind (number_in (known_of c.args.self.now).set) c.args.supply.now.rest _ c.items-set-items.ensures c.loop-set.set-index c.loop-set-test.false c.loop-set.invariant
