use Rattle.std.proofs.Common.{◌/◌, ◌%◌, ◌^◌, length, ap, ◌∙◌, arith, le_refl, pow_pos}
use Rattle.std.proofs.Math.Nat.{mod-lt}
use Rattle.std.proofs.lemmas.Nat.{and_mask, one_shl}
use Rattle.std.proofs.lemmas.Slice.{between_to_end}
use Rattle.byteorder.specs.Endian.{little_number}
use Rattle.dsr_image.proofs.Ranges.{value_by_number}
use Rattle.dsr_image.proofs.bits.get_bits.Goals as goal

pub returns-clause-value : goal.returns-clause-value
returns-clause-value c =
    let xs = c.args.bytes.now in
    let n = c.reach-count.result in
    let number = c.read_bytes-number.ensures ∙ ap (little_number n) (between_to_end xs (c.args.bit / 8) (length xs) (le_refl (length xs))) in
    rw (one_shl c.args.width 64 (omega arith), number) (and_mask _ c.args.width
    ∙ value_by_number c.args.bit c.args.width n xs (λ q. omega (arith, c.type_inv.bytes q)) (omega (arith, c.div_ceil.ensures, c.reach-count.ensures.enough)))

pub returns-clause-fits : goal.returns-clause-fits
returns-clause-fits c = rw (one_shl c.args.width 64 (omega arith), and_mask (c.read_bytes-number.result / 2 ^ (c.args.bit % 8)) c.args.width) (mod-lt (c.read_bytes-number.result / 2 ^ (c.args.bit % 8)) (pow_pos c.args.width))
