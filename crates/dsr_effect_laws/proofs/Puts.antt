-- Lists of values that are put into cells, and what they leave in one cell.
use Rattle.std.proofs.Common.{◌≡◌, ◌≤◌, ◌<◌, ◌+◌, ◌⊎◌, ◌∙◌, ℕ, zero, suc, List, [], ◌∷◌, ◌++◌, None, Some, inl, inr, refl, sym, ap, subst, arith}
use Rattle.std.specs.Prelude.{option_map, slice_get}
use Rattle.std.specs.List.{cons_option, filter_map, flat_map, range_with_len}
use Rattle.std.proofs.lemmas.Option.{same_Some}
use Rattle.dsr_ir.specs.declared.declarations.FieldRef.{FieldRef}
use Rattle.dsr_ir.specs.declared.layouts.Cell.{Cell}
use Rattle.dsr_ir.specs.declared.layouts.Layout.{Layout}
use Rattle.dsr_ir.specs.declared.tuples.Element.{Element}
use Rattle.dsr_meaning.specs.Cells.{IsFieldCell, cell_of, cell_value}
use Rattle.dsr_meaning.specs.Counting.{IsIn}
use Rattle.dsr_meaning.specs.Lists.{each_at}
use Rattle.dsr_meaning.specs.Writes.{AreCellsApart}
use Rattle.std.proofs.lemmas.Bool.{cases_eq}
use Rattle.dsr_repair_laws.proofs.EachPut.{AreEach, Put}
use Rattle.dsr_step_theory.specs.Puts.{ArePut, IsPut}
use Rattle.dsr_step_theory.specs.Puts.ArePut.{done, put}

-- one of them is of the kind
abbrev pub HasSome : (Put → Type 0) → List Put → Type 0
HasSome P [] = ⊥
HasSome P (p ∷ puts) = P p ⊎ HasSome P puts

module _ (P : Put → Type 0) where
  front_has : (xs ys : List Put) → HasSome P xs → HasSome P (xs ++ ys)
  front_has [] ys h = absurd h
  front_has (x ∷ xs) ys (inl p) = inl p
  front_has (x ∷ xs) ys (inr later) = inr (front_has xs ys later)

  back_has : (xs ys : List Put) → HasSome P ys → HasSome P (xs ++ ys)
  back_has [] ys h = h
  back_has (x ∷ xs) ys h = inr (back_has xs ys h)

  pub at_has : {S : Type 0} (f : ℕ → S → List Put) (n : ℕ) (xs : List S) (k m : ℕ) (x : S) → m ≡ n + k → slice_get xs k ≡ Some x → HasSome P (f m x) → HasSome P (each_at f n xs)
  at_has f n [] k m x at found h = absurd cc
  at_has f n (y ∷ xs) zero m x at found h =
      let same : n ≡ m = omega (arith, at) in
      front_has (f n y) (each_at f (suc n) xs) (subst (λ z. HasSome P (f n z)) (sym (same_Some y x found)) (subst (λ j. HasSome P (f j x)) (sym same) h))
  at_has f n (y ∷ xs) (suc k) m x at found h = back_has (f n y) (each_at f (suc n) xs) (at_has f (suc n) xs k m x (omega (arith, at)) found h)

  pub flat_has : {S : Type 0} (f : S → List Put) (xs : List S) (x : S) → IsIn x xs → HasSome P (f x) → HasSome P (flat_map f xs)
  flat_has f [] x i h = absurd i
  flat_has f (y ∷ xs) x (inl e) h = front_has (f y) (flat_map f xs) (subst (λ z. HasSome P (f z)) e h)
  flat_has f (y ∷ xs) x (inr later) h = back_has (f y) (flat_map f xs) (flat_has f xs x later h)

  -- entries of a field
  module _ (layout : Layout) (e : Element) (place : FieldRef) (value : ℕ) where
    abbrev Entries : ℕ → ℕ → List Put
    Entries from count = filter_map (λ i. option_map (λ d. (d, value)) (cell_of layout e place i)) (range_with_len from count)

    pub entries_has : (from count i : ℕ) (d : Cell) → from ≤ i → i < from + count → cell_of layout e place i ≡ Some d → P (d, value) → HasSome P (Entries from count)
    entries_has from zero i d low high is p = absurd (omega (arith, low, high))
    entries_has from (suc count) i d low high is p =
        let later : (from ≡ i → ⊥) → HasSome P (Entries (from + 1) count) = λ (other : from ≡ i → ⊥). entries_has (from + 1) count i d (omega (arith, low, other)) (omega (arith, high)) is p in
        elim (cell_of layout e place from) as (λ o. cell_of layout e place from ≡ o → HasSome P (cons_option (option_map (λ x. (x, value)) o) (Entries (from + 1) count))) [
          | None ↦ λ none. later (λ same. let both : None ≡ Some d = sym none ∙ (ap (cell_of layout e place) same ∙ is) in absurd cc)
          | Some x ↦ λ some. elim (cases_eq from i) as (λ _. HasSome P ((x, value) ∷ Entries (from + 1) count)) [
            | inl same ↦ inl (subst (λ z. P (z, value)) (same_Some d x (sym is ∙ (sym (ap (cell_of layout e place) same) ∙ some))) p)
            | inr other ↦ inr (later other)
          ]
        ] refl

-- ---- one cell

-- the value goes into the cell
abbrev pub IsInto : Cell → ℕ → Put → Type 0
IsInto cell value p = (p.0 ≡ cell) × (p.1 ≡ value)

-- it does, or goes beside the cell
abbrev pub IsIntoOrBeside : Cell → ℕ → Put → Type 0
IsIntoOrBeside cell value p = IsInto cell value p ⊎ AreCellsApart cell p.0

module _ (cell : Cell) (form : IsFieldCell cell) (value : ℕ) where
  one_keeps : (d : Cell) (n : ℕ) (old new : List ℕ) → IsIntoOrBeside cell value (d, n) → IsPut d n old new → cell_value old cell ≡ value → cell_value new cell ≡ value
  one_keeps d n old new (inl into) one is = subst (λ x. cell_value new x ≡ value) into.0 (one.puts.got ∙ into.1)
  one_keeps d n old new (inr beside) one is = one.beside cell form beside ∙ is

  one_gives : (d : Cell) (n : ℕ) (old new : List ℕ) → IsInto cell value (d, n) → IsPut d n old new → cell_value new cell ≡ value
  one_gives d n old new into one = subst (λ x. cell_value new x ≡ value) into.0 (one.puts.got ∙ into.1)

  keeps : (puts : List Put) (old new : List ℕ) → AreEach (IsIntoOrBeside cell value) puts → ArePut puts old new → cell_value old cell ≡ value → cell_value new cell ≡ value
  keeps [] old new each done is = is
  keeps (p ∷ puts) old new each (put d n one rest) is = keeps puts _ new each.1 rest (one_keeps d n old _ each.0 one is)

  -- once the value was put into it, the cell has it
  pub gives : (puts : List Put) (old new : List ℕ) → AreEach (IsIntoOrBeside cell value) puts → HasSome (IsInto cell value) puts → ArePut puts old new → cell_value new cell ≡ value
  gives [] old new each has are = absurd has
  gives (p ∷ puts) old new each (inl into) (put d n one rest) = keeps puts _ new each.1 rest (one_gives d n old _ into one)
  gives (p ∷ puts) old new each (inr later) (put d n one rest) = gives puts _ new each.1 later rest

-- puts in two rows
pub split : (xs ys : List Put) (old new : List ℕ) → ArePut (xs ++ ys) old new → (middle : List ℕ) × ArePut xs old middle × ArePut ys middle new
split [] ys old new are = (old, done, are)
split (x ∷ xs) ys old new (put d n one rest) =
    let later = split xs ys _ new rest in
    (later.0, put d n one later.1, later.2)
