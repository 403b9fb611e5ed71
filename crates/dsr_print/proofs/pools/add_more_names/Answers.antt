use Rattle.dsr_syntax_theory.specs.TreeTexts.{more_name_text}
use Rattle.dsr_print.proofs.Steps.{adds_item, adds_then}
use Rattle.dsr_print.proofs.pools.add_more_names.Goals as goal

pub loop-name-preserved : goal.loop-name-preserved
loop-name-preserved c = adds_item more_name_text c.args.names.now c.loop-name.name-index c.name-item.result c.loop-name-test.true c.name-item.is c.loop-name.invariant (adds_then c.in_ok-add_sign.ensures c.in_ok-add_name.ensures)
