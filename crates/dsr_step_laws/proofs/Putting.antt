-- What a step writes, byte by byte.
use Rattle.std.proofs.Common.{◌≡◌, ◌≤◌, ◌<◌, ◌+◌, ◌*◌, ◌/◌, ◌%◌, ◌^◌, ◌⊎◌, ℕ, zero, suc, nat_eq, true, false, List, length, set, inl, inr, refl, sym, ap, subst, get_or, get_or-set_other, arith}
use Rattle.std.proofs.lemmas.Bool.Decides.{nat_tests}
use Rattle.std.proofs.lemmas.Grind.{get_or-set_at}
use Rattle.dsr_ir.specs.declared.layouts.Cell.{Cell}
use Rattle.dsr_meaning.specs.Cells.{cell_value}
use Rattle.dsr_meaning.specs.Writes.{AreBytes, OthersStay, Puts}
use Rattle.dsr_meaning.proofs.Values.{beside}
use Rattle.dsr_step_theory.specs.Puts.{ArePut, IsPut}
use Rattle.dsr_step_theory.specs.Puts.ArePut.{done, put}
use Rattle.dsr_step_theory.specs.Resets.{byte_cell, reset_puts}
use Rattle.dsr_step_laws.proofs.Given.{base, image, layout, slot}

-- each byte of the image is below 256
pub bytes_of_image : AreBytes image
bytes_of_image zero = omega arith
bytes_of_image (suc zero) = omega arith
bytes_of_image (suc (suc zero)) = omega arith
bytes_of_image (suc (suc (suc zero))) = omega arith
bytes_of_image (suc (suc (suc (suc zero)))) = omega arith
bytes_of_image (suc (suc (suc (suc (suc zero))))) = omega arith
bytes_of_image (suc (suc (suc (suc (suc (suc zero)))))) = omega arith
bytes_of_image (suc (suc (suc (suc (suc (suc (suc zero))))))) = omega arith
bytes_of_image (suc (suc (suc (suc (suc (suc (suc (suc n)))))))) = omega arith

-- so is each where a byte is written
bytes_with : (bytes : List ℕ) (at value : ℕ) → AreBytes bytes → at < length bytes → value < 256 → AreBytes (set bytes at value)
bytes_with bytes at value small within fits n =
    elim (nat_eq n at) as (λ b. nat_eq n at ≡ b → get_or (set bytes at value) n 0 < 256) [
      | true ↦ λ is. subst (λ v. v < 256) (sym (get_or-set_at bytes at n value 0 (grind (arith, nat_tests, is)) within)) fits
      | false ↦ λ is. subst (λ v. v < 256) (sym (get_or-set_other bytes at n value 0 (λ same. grind (arith, nat_tests, is, same)))) (small n)
    ] refl

-- a bit outside of a byte is one of another byte
other_byte : (at j : ℕ) → (j < 8 * at) ⊎ (8 * at + 8 ≤ j) → j / 8 ≡ at → ⊥
other_byte at j (inl before) same = omega (arith, before, same)
other_byte at j (inr behind) same = omega (arith, behind, same)

-- so it stays where the byte is written
others_stay : (bytes : List ℕ) (at value : ℕ) → OthersStay (8 * at) 8 bytes (set bytes at value)
others_stay bytes at value j outside =
    ap (λ byte. byte / 2 ^ (j % 8) % 2) (get_or-set_other bytes at (j / 8) value 0 (other_byte at j outside))

-- the byte gets the value, and cells beside it keep theirs
written : (at value : ℕ) → at < 8 → value < 256 → cell_value (set image at value) (byte_cell at) ≡ value → length (set image at value) ≡ 8 → IsPut (byte_cell at) value image (set image at value)
written at value within fits got long =
    let puts : Puts (byte_cell at) value image (set image at value) = record { got = got; others = others_stay image at value; length = long } in
    record {
      puts = puts;
      beside = λ other form apart.
          beside image (set image at value) other (byte_cell at) value puts form apart bytes_of_image
          (bytes_with image at value bytes_of_image within fits);
      bytes = bytes_with image at value bytes_of_image within fits;
    }

-- where a cell has its value already, nothing changes
same : (cell : Cell) (bytes : List ℕ) (value : ℕ) → AreBytes bytes → cell_value bytes cell ≡ value → IsPut cell value bytes bytes
same cell bytes value small got = record {
  puts = record { got = got; others = λ j outside. refl; length = refl };
  beside = λ other form apart. refl;
  bytes = small;
}

-- the reset of slot 2 changes no byte: all that it writes is 0 already
pub reset_of_free : ArePut (reset_puts base layout (slot 2)) image image
reset_of_free =
    put (byte_cell 6) 0 (same (byte_cell 6) image 0 bytes_of_image refl)
    (put (byte_cell 7) 0 (same (byte_cell 7) image 0 bytes_of_image refl)
    (put (byte_cell 6) 0 (same (byte_cell 6) image 0 bytes_of_image refl)
    (put (byte_cell 7) 0 (same (byte_cell 7) image 0 bytes_of_image refl) done)))

-- ---- the bytes that steps write

-- byte 1 is the second field of the head, 2 and 3 are slot 0, 4 and 5 slot 1
pub puts_byte_1 : IsPut (byte_cell 1) 0 image (set image 1 0)
puts_byte_1 = written 1 0 (omega arith) (omega arith) refl refl

-- to slot 0
pub puts_byte_2 : IsPut (byte_cell 2) 1 image (set image 2 1)
puts_byte_2 = written 2 1 (omega arith) (omega arith) refl refl

-- to slot 2
pub puts_free_at_2 : IsPut (byte_cell 2) 3 image (set image 2 3)
puts_free_at_2 = written 2 3 (omega arith) (omega arith) refl refl

pub puts_byte_3 : IsPut (byte_cell 3) 1 image (set image 3 1)
puts_byte_3 = written 3 1 (omega arith) (omega arith) refl refl

pub puts_byte_4 : IsPut (byte_cell 4) 0 image (set image 4 0)
puts_byte_4 = written 4 0 (omega arith) (omega arith) refl refl

pub puts_byte_5 : IsPut (byte_cell 5) 0 image (set image 5 0)
puts_byte_5 = written 5 0 (omega arith) (omega arith) refl refl
