-- The bytes in which two images differ, taken back from the second, lead to the first.
use Rattle.std.proofs.Common.{◌≡◌, ◌<◌, ◌+◌, ◌*◌, ◌/◌, ◌%◌, ◌^◌, ◌∙◌, ℕ, suc, true, false, nat_eq, List, [], ◌∷◌, ◌++◌, length, set, slice_get, slice_index, Some, if◌then◌else◌, refl, sym, ap, subst, append_assoc, length-append, arith}
use Rattle.std.proofs.Math.Seq.{set-append_seam}
use Rattle.std.proofs.lemmas.Bool.Decides.{nat_tests}
use Rattle.dsr_ir.specs.declared.declarations.Structures.{Structures}
use Rattle.dsr_ir.specs.declared.layouts.Cell.{Cell}
use Rattle.dsr_meaning.specs.Cells.{bit_of}
use Rattle.dsr_meaning.specs.FixedFields.{fixed_cell}
use Rattle.dsr_meaning.specs.Writes.{IsBitOf}
use Rattle.dsr_repair_theory.specs.Entries.{changes, changes_from}
use Rattle.dsr_undo_laws.specs.TakingBack.{AreLinesBack, ChangesFixed, IsLineBack}
use Rattle.dsr_undo_laws.specs.TakingBack.AreLinesBack.{none, then_line}

-- the item behind a front
found_behind : {A : Type 0} (front rest : List A) (x : A) → slice_get (front ++ x ∷ rest) (length front) ≡ Some x
found_behind [] rest x = refl
found_behind (y ∷ front) rest x = found_behind front rest x

-- one more item in front
moved : {A : Type 0} (front rest : List A) (x : A) → (front ++ x ∷ []) ++ rest ≡ front ++ x ∷ rest
moved front rest x = append_assoc front (x ∷ []) rest

module _ (base : Structures) where
  -- the line at a place with these bytes changes no bit of a fixed field
  abbrev IsUnfixed : ℕ → ℕ → ℕ → Type 0
  IsUnfixed place old new = ChangesFixed base (record { place = place; old = old; new = new }) → ⊥

  line_back : (at : ℕ) (front rest : List ℕ) (a b : ℕ) → length front ≡ at → IsUnfixed at a b → IsLineBack base (record { place = at; old = a; new = b }) (front ++ b ∷ rest) (front ++ a ∷ rest)
  line_back at front rest a b long unfixed = record {
    there = ap (slice_get (front ++ b ∷ rest)) (sym long) ∙ found_behind front rest b;
    unfixed = unfixed;
    put = sym (set-append_seam front b rest a) ∙ ap (λ n. set (front ++ b ∷ rest) n a) long;
  }

  -- the lines behind a front, which stays
  lines_behind : (at : ℕ) (front old new : List ℕ) → length front ≡ at → length new ≡ length old → ((i : ℕ) → i < length old → IsUnfixed (at + i) (slice_index old i) (slice_index new i)) → AreLinesBack base (changes_from at old new) (front ++ new) (front ++ old)
  lines_behind at front [] [] here long each = none
  lines_behind at front [] (b ∷ new) here long each = absurd (omega (arith, long))
  lines_behind at front (a ∷ old) [] here long each = absurd (omega (arith, long))
  lines_behind at front (a ∷ old) (b ∷ new) here long each =
      let next : length (front ++ b ∷ []) ≡ suc at = length-append front (b ∷ []) ∙ omega (arith, here) in
      let later = lines_behind (suc at) (front ++ b ∷ []) old new next (omega (arith, long))
      (λ i below. let same : at + suc i ≡ suc at + i = omega arith in subst (λ p. IsUnfixed p (slice_index old i) (slice_index new i)) same (each (suc i) (omega (arith, below)))) in
      let behind : AreLinesBack base (changes_from (suc at) old new) (front ++ b ∷ new) (front ++ b ∷ old) =
      subst (λ xs. AreLinesBack base (changes_from (suc at) old new) (front ++ b ∷ new) xs) (moved front old b)
      (subst (λ xs. AreLinesBack base (changes_from (suc at) old new) xs ((front ++ b ∷ []) ++ old)) (moved front new b) later) in
      elim (nat_eq a b) as (λ t. nat_eq a b ≡ t → AreLinesBack base (if t then changes_from (suc at) old new else record { place = at; old = a; new = b } ∷ changes_from (suc at) old new) (front ++ b ∷ new) (front ++ a ∷ old)) [
        | true ↦ λ test.
            let equal : b ≡ a = grind (arith, nat_tests, test) in
            subst (λ x. AreLinesBack base (changes_from (suc at) old new) (front ++ b ∷ new) (front ++ x ∷ old)) equal behind
        | false ↦ λ _.
            let first : at + 0 ≡ at = omega arith in
            then_line (record { place = at; old = a; new = b }) behind (line_back at front old a b here (subst (λ p. IsUnfixed p a b) first (each 0 (omega arith))))
      ] refl

  module _ (old new : List ℕ) (same : (k : ℕ) (cell : Cell) → fixed_cell base k ≡ Some cell → (j : ℕ) → IsBitOf cell.bit cell.width j → bit_of new j ≡ bit_of old j) where
    -- where the bits of fixed fields are the same, no line changes one
    unfixed : (i : ℕ) → IsUnfixed i (slice_index old i) (slice_index new i)
    unfixed i changes =
        let byte : (8 * i + changes.bit) / 8 ≡ i = omega (arith, changes.in_byte) in
        let within : (8 * i + changes.bit) % 8 ≡ changes.bit = omega (arith, changes.in_byte) in
        let bits : bit_of new (8 * i + changes.bit) ≡ bit_of old (8 * i + changes.bit) = same changes.field changes.cell changes.cell_is (8 * i + changes.bit) changes.of in
        changes.differs (subst (λ m. slice_index new i / 2 ^ m % 2 ≡ slice_index old i / 2 ^ m % 2) within
        (subst (λ n. slice_index new n / 2 ^ ((8 * i + changes.bit) % 8) % 2 ≡ slice_index old n / 2 ^ ((8 * i + changes.bit) % 8) % 2) byte bits))

    pub changes_back : length new ≡ length old → AreLinesBack base (changes old new) new old
    changes_back long = lines_behind 0 [] old new refl long (λ i _. let same_place : i ≡ 0 + i = omega arith in subst (λ p. IsUnfixed p (slice_index old i) (slice_index new i)) same_place (unfixed i))
