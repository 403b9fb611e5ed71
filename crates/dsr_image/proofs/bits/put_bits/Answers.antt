use Rattle.std.proofs.Common.{arith, rules}
use Rattle.dsr_image.proofs.Written.{changed_fits, value_stands, others_stay}
use Rattle.dsr_image.proofs.bits.put_bits.Goals as goal

pub write_bytes-requires-clause-fits : goal.write_bytes-requires-clause-fits
write_bytes-requires-clause-fits c =
    changed_fits c.args.bit c.args.width c.args.value c.reach-count.result c.read_bytes-number.result c.args.bytes.now c.requires.few c.requires.within c.requires.fits
    (omega (arith, c.div_ceil.ensures, c.reach-count.ensures.enough)) c.reach-count.ensures.few (omega (arith, c.reach-count.ensures.there)) (search rules) c.read_bytes-number.ensures

pub returns-clause-got : goal.returns-clause-got
returns-clause-got c =
    value_stands c.args.bit c.args.width c.args.value c.reach-count.result c.read_bytes-number.result c.args.bytes.now c.requires.few c.requires.within c.requires.fits
    (omega (arith, c.div_ceil.ensures, c.reach-count.ensures.enough)) c.reach-count.ensures.few (omega (arith, c.reach-count.ensures.there)) (search rules) c.read_bytes-number.ensures c.write_bytes.new.bytes c.write_bytes.ensures (λ q. omega (arith, c.type_inv.bytes q))

pub returns-clause-others : goal.returns-clause-others
returns-clause-others c =
    others_stay c.args.bit c.args.width c.args.value c.reach-count.result c.read_bytes-number.result c.args.bytes.now c.requires.few c.requires.within c.requires.fits
    (omega (arith, c.div_ceil.ensures, c.reach-count.ensures.enough)) c.reach-count.ensures.few (omega (arith, c.reach-count.ensures.there)) (search rules) c.read_bytes-number.ensures c.write_bytes.new.bytes c.write_bytes.ensures (λ q. omega (arith, c.type_inv.bytes q))
