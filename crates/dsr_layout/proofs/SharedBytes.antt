-- Bytes that lie in two ranges.
use Rattle.std.proofs.Common.{◌≡◌, ◌<◌, ℕ, true, min, max, arith}
use Rattle.std.proofs.lemmas.Bool.Decides.{nat_tests}
use Rattle.dsr_layout.specs.Laws.{HasByte}
use Rattle.dsr_meaning.specs.Refusals.{ByteRange, share_byte}

-- the later start is such a byte
pub shared_byte : (a b : ByteRange) → share_byte a b ≡ true → (at : ℕ) × HasByte a at × HasByte b at
shared_byte a b e =
    let lt : max a.first b.first < min a.behind b.behind = grind (arith, nat_tests) in
    (max a.first b.first, (omega arith, omega (arith, lt)), (omega arith, omega (arith, lt)))

pub byte_shared : (a b : ByteRange) (at : ℕ) → HasByte a at → HasByte b at → share_byte a b ≡ true
byte_shared a b at in_a in_b =
    let lt : max a.first b.first < min a.behind b.behind = omega (arith, in_a.0, in_a.1, in_b.0, in_b.1) in
    grind (arith, nat_tests)
