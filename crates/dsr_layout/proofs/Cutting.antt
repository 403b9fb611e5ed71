-- The fixed fields behind which the image ends.
use Rattle.std.proofs.Common.{◌≡◌, ◌<◌, ◌≤◌, ◌+◌, ◌*◌, ◌-◌, ◌^◌, ℕ, zero, suc, Bool, true, false, ltb, min, List, [], ◌∷◌, ◌++◌, length, drop, Some, None, Option, refl, ap, ◌∙◌, arith}
use Rattle.std.specs.Prelude.{slice_get, option_map}
use Rattle.std.specs.Option.{option_map_or}
use Rattle.std.proofs.lemmas.Bool.Decides.{nat_tests}
use Rattle.std.proofs.lemmas.List.{drop_all}
use Rattle.dsr_ir.specs.declared.declarations.Field.{Field}
use Rattle.dsr_ir.specs.declared.layouts.Cell.{Cell}
use Rattle.dsr_meaning.specs.Lists.{each_at}
use Rattle.dsr_meaning.specs.Refusals.{Refusal, Short, refused_when, ends_behind, cut_refusals}
use Rattle.dsr_layout.proofs.Looking.{each_item, quiet}
use Rattle.dsr_layout.specs.Tables.{clip_cell}
use Rattle.dsr_layout.specs.Telling.{told_of, told_as}

-- whether the image ends before a cell does
abbrev pub cuts : ℕ → Option Cell → Bool
cuts bytes cell = option_map_or (λ c. ends_behind bytes c.bit c.width) cell false

-- what fields from a number on give
abbrev pub cut_from : (ℕ → Option Cell) → ℕ → ℕ → List Field → List Refusal
cut_from cell bytes n fields = each_at (λ k _. refused_when (cuts bytes (cell k)) Short) n fields

-- a clipped cell ends behind an image where the cell itself does
clip_cuts : (bytes : ℕ) (o : Option Cell) → bytes ≤ 67108864 → cuts bytes (option_map clip_cell o) ≡ cuts bytes o
clip_cuts bytes None small = refl
clip_cuts bytes (Some c) small = same c.bit c.width where
  same : (bit width : ℕ) → ltb (8 * bytes) (min bit (2 ^ 64 - 1) + width) ≡ ltb (8 * bytes) (bit + width)
  same bit width = grind (arith, nat_tests)

-- so the refusals are the same
pub same_cuts : (table cell : ℕ → Option Cell) (bytes : ℕ) → bytes ≤ 67108864 → ((k : ℕ) → table k ≡ option_map clip_cell (cell k)) → (n : ℕ) (fields : List Field) → cut_from table bytes n fields ≡ cut_from cell bytes n fields
same_cuts table cell bytes small same n [] = refl
same_cuts table cell bytes small same n (f ∷ fs) =
    ap (λ b. refused_when b Short ++ cut_from table bytes (suc n) fs) (ap (cuts bytes) (same n) ∙ clip_cuts bytes (cell n) small)
    ∙ ap (λ rs. refused_when (cuts bytes (cell n)) Short ++ rs) (same_cuts table cell bytes small same (suc n) fs)

-- where nothing is refused, no cell of a field ends behind the image
pub uncut : (cell : ℕ → Option Cell) (bytes : ℕ) (fields : List Field) → cut_refusals cell fields bytes ≡ [] → (k : ℕ) (f : Field) → slice_get fields k ≡ Some f → cuts bytes (cell k) ≡ false
uncut cell bytes fields e k f is = quiet (cuts bytes (cell k)) Short (each_item (λ j _. refused_when (cuts bytes (cell j)) Short) 0 fields e k k f (omega arith) is)

-- what is left from an item on begins with it
left_from : {X : Type 0} (xs : List X) (i : ℕ) → i < length xs → (x : X) × (drop i xs ≡ x ∷ drop (suc i) xs)
left_from [] i lt = absurd (omega arith)
left_from (x ∷ xs) zero lt = (x, refl)
left_from (x ∷ xs) (suc i) lt = left_from xs i (omega arith)

module _ (cell : ℕ → Option Cell) (bytes : ℕ) (fields : List Field) (i : ℕ) where
  -- the next field, where its cell lies in the image
  pub cut_next : i < length fields → cuts bytes (cell i) ≡ false → cut_from cell bytes i (drop i fields) ≡ cut_from cell bytes (i + 1) (drop (i + 1) fields)
  cut_next lt whole =
      let more : suc i ≡ i + 1 = omega arith in
      ap (cut_from cell bytes i) (left_from fields i lt).1
      ∙ ap (λ b. refused_when b Short ++ cut_from cell bytes (suc i) (drop (suc i) fields)) whole
      ∙ ap (λ n. cut_from cell bytes n (drop n fields)) more

  -- the first field whose cell doesn't
  pub cut_here : i < length fields → cuts bytes (cell i) ≡ true → told_of (cut_from cell bytes i (drop i fields)) ≡ Some (told_as Short)
  cut_here lt is =
      ap (λ fs. told_of (cut_from cell bytes i fs)) (left_from fields i lt).1
      ∙ ap (λ b. told_of (refused_when b Short ++ cut_from cell bytes (suc i) (drop (suc i) fields))) is

  -- no field is left
  pub cut_all : length fields ≤ i → cut_from cell bytes i (drop i fields) ≡ []
  cut_all past = ap (cut_from cell bytes i) (drop_all i fields past)
