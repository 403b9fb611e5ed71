use Rattle.std.proofs.Common.{arith, rules}
use Rattle.dsr_overlay.proofs.Eights.{bits_stand, bits_stay}
use Rattle.dsr_overlay.proofs.front.put_bits.Goals as goal

pub returns-clause-got : goal.returns-clause-got
returns-clause-got c =
    bits_stand c.args.shift c.args.width c.args.value c.read_u64-number.result c.args.bytes.now c.write_u64.new.buf c.requires.shift c.requires.width c.requires.fits (search rules) (search rules) (omega arith) c.read_u64-number.ensures c.write_u64.ensures

pub returns-clause-others : goal.returns-clause-others
returns-clause-others c =
    bits_stay c.args.shift c.args.width c.args.value c.read_u64-number.result c.args.bytes.now c.write_u64.new.buf c.requires.shift c.requires.width c.requires.fits (search rules) (search rules) (omega arith) c.read_u64-number.ensures c.write_u64.ensures
