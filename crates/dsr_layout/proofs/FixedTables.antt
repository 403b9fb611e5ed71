-- The table of the cells of fixed fields.
use Rattle.std.proofs.Common.{◌≡◌, ◌<◌, ◌≤◌, ◌+◌, ◌^◌, ℕ, zero, suc, true, false, eqb, ltb, List, [], ◌∷◌, ◌++◌, length, take, Some, None, Option, refl, sym, ap, ◌∙◌, arith}
use Rattle.std.specs.Prelude.{IfSome, slice_get, option_map}
use Rattle.std.specs.Option.{option_and_then}
use Rattle.std.proofs.lemmas.Bool.Decides.{nat_tests}
use Rattle.std.proofs.lemmas.Option.{slice_get_past}
use Rattle.std.proofs.lemmas.Grind.{common_steps}
use Rattle.dsr_ir.specs.declared.declarations.Field.{Field}
use Rattle.dsr_ir.specs.declared.declarations.Order.{Order}
use Rattle.dsr_ir.specs.declared.layouts.Cell.{Cell}
use Rattle.dsr_meaning.specs.Extents.{bit_behind}
use Rattle.dsr_meaning.specs.Places.{extent_of, bit_behind_fields}
use Rattle.dsr_layout.specs.FixedCells.{cell_from, clipped_cell, next_bit}
use Rattle.dsr_layout.specs.Tables.{known, clip}
use Rattle.dsr_layout.proofs.Clipping.{behind_same, clip_small, clip_twice}
use Rattle.dsr_layout.proofs.Items.{take_found}

module _ (fixed : ℕ → Option ℕ) where
  -- the clipped bit behind fields
  abbrev behind : ℕ → List Field → Option ℕ
  behind s fs = option_map clip (bit_behind_fields fixed s fs)

  -- behind fields and one more
  behind_more : (s : ℕ) (fs : List Field) (f : Field) → bit_behind_fields fixed s (fs ++ f ∷ []) ≡ option_and_then (λ b. bit_behind_fields fixed b (f ∷ [])) (bit_behind_fields fixed s fs)
  behind_more s [] f = refl
  behind_more s (g ∷ gs) f = elim (extent_of fixed g) as (λ o. option_and_then (λ e. bit_behind_fields fixed (bit_behind s e) (gs ++ f ∷ [])) o ≡ option_and_then (λ b. bit_behind_fields fixed b (f ∷ [])) (option_and_then (λ e. bit_behind_fields fixed (bit_behind s e) gs) o)) [
    | None ↦ refl
    | Some e ↦ behind_more (bit_behind s e) gs f
  ]

  -- the clipped bit behind them, by the clipped bit before the last
  behind_pushed : (s : ℕ) (fs : List Field) (f : Field) → behind s (fs ++ f ∷ []) ≡ option_and_then (λ b. behind b (f ∷ [])) (behind s fs)
  behind_pushed s fs f = ap (option_map clip) (behind_more s fs f) ∙ last (bit_behind_fields fixed s fs) where
    last : (o : Option ℕ) → option_map clip (option_and_then (λ b. bit_behind_fields fixed b (f ∷ [])) o) ≡ option_and_then (λ b. behind b (f ∷ [])) (option_map clip o)
    last None = refl
    last (Some b) = behind_same fixed (f ∷ []) b (clip b) (clip_twice b)

-- the clipped bit at which a field begins
abbrev pub bit_at : Option ℕ → List Field → ℕ → Option ℕ
bit_at start fields i = option_and_then (λ s. behind (known []) s (take i fields)) start

-- the table has the cells of the first fields, and the bit is the one at which the next one begins
pub record HoldsCells (order : Order) (start : Option ℕ) (fields : List Field) (i : ℕ) (bit : Option ℕ) (cells : List (Option Cell)) : Type 0 where
  pub many : length cells ≡ i
  pub next : bit ≡ bit_at start fields i
  pub held : (k : ℕ) → k < i → known cells k ≡ clipped_cell order start fields k

-- before the first field
pub holds_none : (order : Order) (start : Option ℕ) (fields : List Field) → IfSome start (λ s. s < 2 ^ 64) → HoldsCells order start fields 0 start []
holds_none order start fields small = record {
  many = refl;
  next = first start small;
  held = λ k lt. absurd (omega arith);
} where
  first : (o : Option ℕ) → IfSome o (λ s. s < 2 ^ 64) → o ≡ bit_at o fields 0
  first None h = refl
  first (Some s) h = ap Some (sym (clip_small s h))

-- an item before one that was pushed, the one itself, and none behind it
known_before : {T : Type 0} (xs : List (Option T)) (x : Option T) (k : ℕ) → k < length xs → known (xs ++ x ∷ []) k ≡ known xs k
known_before [] x k lt = absurd (omega arith)
known_before (y ∷ ys) x zero lt = refl
known_before (y ∷ ys) x (suc k) lt = known_before ys x k (omega arith)

known_last : {T : Type 0} (xs : List (Option T)) (x : Option T) → known (xs ++ x ∷ []) (length xs) ≡ x
known_last [] x = refl
known_last (y ∷ ys) x = known_last ys x

known_past : {T : Type 0} (xs : List (Option T)) (k : ℕ) → length xs ≤ k → known xs k ≡ None
known_past xs k past = ap (option_and_then (λ v. v)) (slice_get_past xs k past)

-- one field more
pub holds_more : (order : Order) (start : Option ℕ) (fields : List Field) (i : ℕ) (bit : Option ℕ) (cells : List (Option Cell)) (f : Field) → slice_get fields i ≡ Some f → HoldsCells order start fields i bit cells → HoldsCells order start fields (i + 1) (next_bit bit f) (cells ++ cell_from order bit f ∷ [])
holds_more order start fields i bit cells f is h = record {
  many = grind (arith, common_steps, h.many);
  next = ap (λ b. next_bit b f) h.next ∙ bit_more start;
  held = λ k lt. elim (eqb k i) as (λ b. eqb k i ≡ b → known (cells ++ cell_from order bit f ∷ []) k ≡ clipped_cell order start fields k) [
    | true ↦ λ e.
        let at : k ≡ i = grind (arith, nat_tests) in
        ap (known (cells ++ cell_from order bit f ∷ [])) (at ∙ sym h.many) ∙ known_last cells (cell_from order bit f)
        ∙ ap (λ b. cell_from order b f) h.next ∙ sym (ap (option_and_then (λ g. cell_from order (bit_at start fields i) g)) is)
        ∙ ap (clipped_cell order start fields) (sym at)
    | false ↦ λ e. let before : k < i = grind (arith, nat_tests) in known_before cells (cell_from order bit f) k (omega (arith, h.many)) ∙ h.held k before
  ] refl;
} where
  bit_more : (o : Option ℕ) → next_bit (bit_at o fields i) f ≡ bit_at o fields (i + 1)
  bit_more None = refl
  bit_more (Some s) = sym (behind_pushed (known []) s (take i fields) f) ∙ ap (behind (known []) s) (sym (take_found fields i f is))

-- behind the last field
pub holds_all : (order : Order) (start : Option ℕ) (fields : List Field) (i : ℕ) (bit : Option ℕ) (cells : List (Option Cell)) → length fields ≤ i → HoldsCells order start fields i bit cells → (k : ℕ) → known cells k ≡ clipped_cell order start fields k
holds_all order start fields i bit cells all h k = elim (ltb k i) as (λ b. ltb k i ≡ b → known cells k ≡ clipped_cell order start fields k) [
  | true ↦ λ e. let before : k < i = grind (arith, nat_tests) in h.held k before
  | false ↦ λ e.
      let behind_cells : length cells ≤ k = grind (arith, nat_tests, h.many) in
      let behind_fields : length fields ≤ k = grind (arith, nat_tests, all) in
      known_past cells k behind_cells ∙ sym (ap (option_and_then (λ f. cell_from order (bit_at start fields k) f)) (slice_get_past fields k behind_fields))
] refl
