-- A byte that is put into the list of bytes.
use Rattle.std.proofs.Common.{◌≡◌, ◌<◌, ◌∙◌, ◌*◌, ℕ, zero, suc, List, [], ◌∷◌, length, length-set, get_or, set, inl, inr, refl, sym, ap, arith, get_or-set_other, get_or-set_same}
use Rattle.std.specs.Prelude.{slice_index}
use Rattle.std.proofs.lemmas.Bool.{cases_lt}
use Rattle.dsr_meaning.specs.Cells.{IsFieldCell}
use Rattle.dsr_meaning.specs.Writes.{BesideStay, Puts}
use Rattle.dsr_step_theory.specs.Resets.{byte_cell}
use Rattle.dsr_update.proofs.ByteCells.{byte_value}

-- lists of one length that have the same at each place are the same
same_bytes : (xs ys : List ℕ) → length xs ≡ length ys → ((i : ℕ) → slice_index xs i ≡ slice_index ys i) → xs ≡ ys
same_bytes [] [] long each = refl
same_bytes [] (y ∷ ys) long each = absurd (omega (arith, long))
same_bytes (x ∷ xs) [] long each = absurd (omega (arith, long))
same_bytes (x ∷ xs) (y ∷ ys) long each =
    let rest = same_bytes xs ys (omega (arith, long)) (λ i. each (suc i)) in
    λ k. each 0 k ∷ rest k

-- a byte is a cell that a field may have
pub byte_form : (at : ℕ) → IsFieldCell (byte_cell at)
byte_form at = (inl refl, omega arith)

module _ (p v : ℕ) (old new : List ℕ) (within : p < length old) (puts : Puts (byte_cell p) v old new) (beside : BesideStay (byte_cell p) old new) where
  -- each other byte stays
  others : (i : ℕ) → (i < p) → slice_index new i ≡ slice_index old i
  others i less = sym (byte_value new i) ∙ (beside (byte_cell i) (byte_form i) (inl (omega (arith, less))) ∙ byte_value old i)

  later : (i : ℕ) → (p < i) → slice_index new i ≡ slice_index old i
  later i more = sym (byte_value new i) ∙ (beside (byte_cell i) (byte_form i) (inr (omega (arith, more))) ∙ byte_value old i)

  each : (i : ℕ) → slice_index new i ≡ slice_index (set old p v) i
  each i = elim (cases_lt i p) [
    | inl less ↦ others i less ∙ sym (get_or-set_other old p i v 0 (λ e. omega (arith, less, e)))
    | inr from ↦ elim (cases_lt p i) [
      | inl more ↦ later i more ∙ sym (get_or-set_other old p i v 0 (λ e. omega (arith, more, e)))
      | inr to ↦
          let same : i ≡ p = omega (arith, from, to) in
          ap (slice_index new) same ∙ (sym (byte_value new p) ∙ (puts.got ∙ (sym (get_or-set_same old p v 0 within) ∙ ap (λ k. slice_index (set old p v) k) (sym same))))
    ]
  ]

  pub is_set : new ≡ set old p v
  is_set = same_bytes new (set old p v) (puts.length ∙ sym (length-set old p v)) each
