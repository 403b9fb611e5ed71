use Rattle.std.proofs.Common.{◌+◌, ◌*◌, ◌≤◌, ◌≡◌, ◌/◌, ◌%◌, ◌^◌, min, length, ◌∙◌, arith, pow_pos}
use Rattle.std.proofs.Math.Nat.{mod-lt}
use Rattle.std.proofs.lemmas.Nat.{and_mask, one_shl}
use Rattle.dsr_image.proofs.Ranges.{value_by_number}
use Rattle.dsr_overlay.proofs.front.front_bits.Goals as goal

pub returns-clause-value : goal.returns-clause-value
returns-clause-value c =
    let xs = c.args.bytes.now in
    let byte : c.args.shift / 8 ≡ 0 = omega arith in
    let bit : c.args.shift % 8 ≡ c.args.shift = omega arith in
    let enough : c.args.shift % 8 + c.args.width ≤ 8 * min 8 (length xs) = omega arith in
    let value = value_by_number c.args.shift c.args.width (min 8 (length xs)) xs (λ q. omega (arith, c.type_inv.bytes q)) enough in
    rw (one_shl c.args.width 64 (omega arith), c.front_number-number.ensures) (and_mask _ c.args.width ∙ rw (byte, bit) at value)

pub returns-clause-fits : goal.returns-clause-fits
returns-clause-fits c = rw (one_shl c.args.width 64 (omega arith), and_mask (c.front_number-number.result / 2 ^ c.args.shift) c.args.width) (mod-lt (c.front_number-number.result / 2 ^ c.args.shift) (pow_pos c.args.width))
