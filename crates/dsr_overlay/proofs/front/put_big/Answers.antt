use Rattle.std.proofs.Common.{arith}
use Rattle.dsr_overlay.proofs.Eights.{big_others, big_stands}
use Rattle.dsr_overlay.proofs.front.put_big.Goals as goal

pub returns-clause-got : goal.returns-clause-got
returns-clause-got c = big_stands c.args.count c.args.value c.args.bytes.now c.write_uint.new.buf (omega arith) c.requires.fits c.write_uint.ensures

pub returns-clause-others : goal.returns-clause-others
returns-clause-others c = big_others c.args.count c.args.value c.args.bytes.now c.write_uint.new.buf (omega arith) c.requires.fits c.write_uint.ensures
