-- Clipped cells have the same bits where a line may stand.
use Rattle.std.proofs.Common.{◌≡◌, ◌<◌, ◌≤◌, ◌+◌, ◌*◌, ◌^◌, ◌∙◌, ℕ, Bool, true, false, List, [], ◌∷◌, ◌++◌, length, take, None, Some, Option, option_map, slice_get, if◌then◌else◌, inl, inr, refl, sym, ap, subst, arith}
use Rattle.std.specs.Option.{option_and_then}
use Rattle.std.specs.Prelude.{IfSome, MatchBool}
use Rattle.std.proofs.lemmas.Option.{slice_get_within}
use Rattle.std.proofs.lemmas.Bool.{cases_lt}
use Rattle.dsr_ir.specs.declared.declarations.Field.{Field}
use Rattle.dsr_ir.specs.declared.declarations.Order.{Order}
use Rattle.dsr_ir.specs.declared.declarations.Structure.{Structure}
use Rattle.dsr_ir.specs.declared.declarations.Structures.{Structures}
use Rattle.dsr_ir.specs.declared.layouts.Cell.{Cell}
use Rattle.dsr_fixed_bits.specs.Bits.{AreFixedBefore, ChangesCell, ChangesOneOf, ChangesSome, IsBefore, ancestors, start_of}
use Rattle.dsr_layout.proofs.Clipping.{behind_same, clip_small, clip_twice}
use Rattle.dsr_layout.proofs.FixedHeads.{head_is, no_head}
use Rattle.dsr_layout.proofs.FixedTables.{HoldsCells, bit_at, holds_more, holds_none}
use Rattle.dsr_layout.proofs.Lineages.{lineage_of}
use Rattle.dsr_layout.specs.FixedCells.{cell_from, clipped_cell, next_bit}
use Rattle.dsr_layout.specs.Tables.{clip, clip_cell, known}
use Rattle.dsr_meaning.specs.FixedFields.{cell_at, fixed_cell, is_fixed, own_bit}
use Rattle.dsr_meaning.specs.Places.{bit_behind_fields, end_of, lineage}
use Rattle.dsr_meaning.specs.Writes.{IsBitOf}
use Rattle.dsr_repair_theory.specs.declared.entries.ByteChange.{ByteChange}
use Rattle.dsr_undo_laws.specs.TakingBack.{ChangesFixed}

-- ---- clipping

module _ (cell : Cell) (j : ℕ) (small : j < 18446744073709551615) where
  unclipped : IsBitOf (clip cell.bit) cell.width j → IsBitOf cell.bit cell.width j
  unclipped of = elim (cases_lt cell.bit 18446744073709551616) [
    | inl less ↦ let same = clip_small cell.bit less in record { from = omega (arith, of.from, same); before = omega (arith, of.before, same) }
    | inr more ↦ let high : clip cell.bit ≡ 18446744073709551615 = omega (arith, more) in absurd (omega (arith, of.from, high, small))
  ]

  clipped : IsBitOf cell.bit cell.width j → IsBitOf (clip cell.bit) cell.width j
  clipped of =
      let same = clip_small cell.bit (omega (arith, of.from, small)) in
      record { from = omega (arith, of.from, same); before = omega (arith, of.before, same) }

module _ (line : ByteChange) (low : line.place ≤ 67108864) where
  changes_clipped : (cell : Cell) → ChangesCell cell line → ChangesCell (clip_cell cell) line
  changes_clipped cell c = let below = c.1 in (c.0, c.1, record { of = clipped cell (8 * line.place + c.0) (omega (arith, low, below)) c.2.of; differs = c.2.differs })

  changes_unclipped : (cell : Cell) → ChangesCell (clip_cell cell) line → ChangesCell cell line
  changes_unclipped cell c = let below = c.1 in (c.0, c.1, record { of = unclipped cell (8 * line.place + c.0) (omega (arith, low, below)) c.2.of; differs = c.2.differs })

-- ---- one field after the other

-- so it is of each fixed field so far
pub record IsSearched (Is : Cell → Type 0) (order : Order) (start : Option ℕ) (fields : List Field) (i : ℕ) (bit : Option ℕ) : Type 0 where
  pub cells : List (Option Cell)
  pub holds : HoldsCells order start fields i bit cells
  pub each : (k : ℕ) (cell : Cell) → k < i → clipped_cell order start fields k ≡ Some cell → Is cell

-- the line doesn't change the cell
abbrev pub IsUnchanged : ByteChange → Cell → Type 0
IsUnchanged line cell = ChangesCell cell line → ⊥

module _ (order : Order) (start : Option ℕ) (fields : List Field) (i : ℕ) (bit : Option ℕ) (f : Field) (is : slice_get fields i ≡ Some f) where
  here : (cells : List (Option Cell)) → HoldsCells order start fields i bit cells → clipped_cell order start fields i ≡ cell_from order bit f
  here cells holds = ap (option_and_then (λ g. cell_from order (bit_at start fields i) g)) is ∙ ap (λ b. cell_from order b f) (sym holds.next)

  module _ (Is : Cell → Type 0) (searched : IsSearched Is order start fields i bit) where
    pub searched_more : IfSome (cell_from order bit f) Is → IsSearched Is order start fields (i + 1) (next_bit bit f)
    searched_more one = record {
      cells = searched.cells ++ cell_from order bit f ∷ [];
      holds = holds_more order start fields i bit searched.cells f is searched.holds;
      each = λ k cell below cell_is. elim (cases_lt k i) [
        | inl earlier ↦ searched.each k cell earlier cell_is
        | inr later ↦
            let same : k ≡ i = omega (arith, below, later) in
            let at : cell_from order bit f ≡ Some cell = sym (here searched.cells searched.holds) ∙ (ap (clipped_cell order start fields) (sym same) ∙ cell_is) in
            subst (λ o. IfSome o Is) at one
      ];
    }

  module _ (line : ByteChange) (searched : IsSearched (IsUnchanged line) order start fields i bit) where
    pub found_here : ChangesSome (cell_from order bit f) line → ChangesOneOf order start fields line
    found_here changes = elim (cell_from order bit f) as (λ o. cell_from order bit f ≡ o → ChangesSome o line → ChangesOneOf order start fields line) [
      | None ↦ λ _ nothing. absurd nothing
      | Some cell ↦ λ at its. record { field = i; cell = cell; cell_is = here searched.cells searched.holds ∙ at; changes = its }
    ] refl changes

    pub unchanged_here : (ChangesSome (cell_from order bit f) line → ⊥) → IfSome (cell_from order bit f) (IsUnchanged line)
    unchanged_here never = elim (cell_from order bit f) as (λ o. (ChangesSome o line → ⊥) → IfSome o (IsUnchanged line)) [
      | None ↦ λ _. tt
      | Some cell ↦ λ no. no
    ] never

pub searched_none : (Is : Cell → Type 0) (order : Order) (start : Option ℕ) (fields : List Field) → IfSome start (λ s. s < 2 ^ 64) → IsSearched Is order start fields 0 start
searched_none Is order start fields small = record { cells = []; holds = holds_none order start fields small; each = λ k cell below. absurd (omega (arith, below)) }

-- of each fixed field, where all were looked at
pub searched_all : (Is : Cell → Type 0) (order : Order) (start : Option ℕ) (fields : List Field) (i : ℕ) (bit : Option ℕ) → length fields ≤ i → IsSearched Is order start fields i bit → (k : ℕ) (cell : Cell) → clipped_cell order start fields k ≡ Some cell → Is cell
searched_all Is order start fields i bit all searched k cell cell_is =
    let within : k < length fields = elim (slice_get fields k) as (λ o. slice_get fields k ≡ o → option_and_then (λ f. cell_from order (bit_at start fields k) f) o ≡ Some cell → k < length fields) [
      | None ↦ λ _ none. absurd (let both : None ≡ Some cell = none in cc)
      | Some f ↦ λ found _. slice_get_within fields k f found
    ] refl cell_is in
    searched.each k cell (omega (arith, within, all)) cell_is

-- what is so of fewer is so
pub searched_still : (Is Was : Cell → Type 0) (order : Order) (start : Option ℕ) (fields : List Field) (i : ℕ) (bit : Option ℕ) → ((cell : Cell) → Was cell → Is cell) → IsSearched Was order start fields i bit → IsSearched Is order start fields i bit
searched_still Is Was order start fields i bit to searched = record { cells = searched.cells; holds = searched.holds; each = λ k cell below cell_is. to cell (searched.each k cell below cell_is) }

-- a later end is behind what an earlier one is
pub before_later : (end later : ℕ) → end ≤ later → (cell : Cell) → IsBefore end cell → IsBefore later cell
before_later end later further cell before = λ j of low. let less = before j of low in omega (arith, less, further)

-- ---- the fields of the head

-- behind fields from a clipped start
bit_at_clipped : (fields : List Field) (k : ℕ) (o : Option ℕ) → bit_at (option_map clip o) fields k ≡ option_map clip (option_and_then (λ s. bit_behind_fields (known []) s (take k fields)) o)
bit_at_clipped fields k None = refl
bit_at_clipped fields k (Some s) = behind_same (known []) (take k fields) (clip s) s (sym (clip_twice s))

cell_clipped : (order : Order) (f : Field) (o : Option ℕ) → cell_from order (option_map clip o) f ≡ option_map clip_cell (if is_fixed f then option_map (cell_at order f) o else None)
cell_clipped order f o = elim (is_fixed f) as (λ b. (if b then option_map (cell_at order f) (option_map clip o) else None) ≡ option_map clip_cell (if b then option_map (cell_at order f) o else None)) [
  | true ↦ both o
  | false ↦ refl
] where
  both : (p : Option ℕ) → option_map (cell_at order f) (option_map clip p) ≡ option_map clip_cell (option_map (cell_at order f) p)
  both None = refl
  both (Some b) = refl

from_clipped : (order : Order) (fields : List Field) (k : ℕ) (start : Option ℕ) → clipped_cell order (option_map clip start) fields k ≡ option_map clip_cell (option_and_then (λ f. if is_fixed f then option_map (cell_at order f) (option_and_then (λ s. bit_behind_fields (known []) s (take k fields)) start) else None) (slice_get fields k))
from_clipped order fields k start = ap (λ b. option_and_then (λ f. cell_from order b f) (slice_get fields k)) (bit_at_clipped fields k start) ∙ each (slice_get fields k) where
  bit : Option ℕ
  bit = option_and_then (λ s. bit_behind_fields (known []) s (take k fields)) start

  each : (o : Option Field) → option_and_then (λ f. cell_from order (option_map clip bit) f) o ≡ option_map clip_cell (option_and_then (λ f. if is_fixed f then option_map (cell_at order f) bit else None) o)
  each None = refl
  each (Some f) = cell_clipped order f bit

cell_is : (base : Structures) (s : Structure) (k : ℕ) → slice_get base.structures base.head ≡ Some s → fixed_cell base k ≡ option_and_then (λ f. if is_fixed f then option_map (cell_at base.order f) (own_bit (s ∷ ancestors base.structures base.head s.parent) k) else None) (slice_get s.fields k)
cell_is base s k e =
    ap (λ fs. option_and_then (λ f. if is_fixed f then option_map (cell_at base.order f) (own_bit (lineage base.structures base.head) k) else None) (slice_get fs k)) (head_is base s e)
    ∙ ap (λ ss. option_and_then (λ f. if is_fixed f then option_map (cell_at base.order f) (own_bit ss k) else None) (slice_get s.fields k)) (lineage_of base.structures base.head s e)

head_cell : (base : Structures) (s : Structure) → slice_get base.structures base.head ≡ Some s → (k : ℕ) → clipped_cell base.order (start_of base.structures base.head s.parent) s.fields k ≡ option_map clip_cell (fixed_cell base k)
head_cell base s e k =
    from_clipped base.order s.fields k (end_of (known []) (ancestors base.structures base.head s.parent))
    ∙ ap (option_map clip_cell) (sym (cell_is base s k e))

unclip : (o : Option Cell) (c : Cell) → option_map clip_cell o ≡ Some c → (cell : Cell) × (o ≡ Some cell) × (c ≡ clip_cell cell)
unclip None c is = absurd (let both : None ≡ Some c = is in cc)
unclip (Some cell) c is = (cell, refl, (let both : Some (clip_cell cell) ≡ Some c = is in cc))

module _ (base : Structures) (s : Structure) (is : slice_get base.structures base.head ≡ Some s) (line : ByteChange) (low : line.place ≤ 67108864) where
  pub one_changes : ChangesOneOf base.order (start_of base.structures base.head s.parent) s.fields line → ChangesFixed base line
  one_changes one =
      let found = unclip (fixed_cell base one.field) one.cell (sym (head_cell base s is one.field) ∙ one.cell_is) in
      let changes = changes_unclipped line low found.0 (subst (λ c. ChangesCell c line) found.2 one.changes) in
      record { field = one.field; cell = found.0; cell_is = found.1; bit = changes.0; in_byte = changes.1; of = changes.2.of; differs = changes.2.differs }

  pub changes_one : ChangesFixed base line → ChangesOneOf base.order (start_of base.structures base.head s.parent) s.fields line
  changes_one fixed = record {
    field = fixed.field;
    cell = clip_cell fixed.cell;
    cell_is = head_cell base s is fixed.field ∙ ap (option_map clip_cell) fixed.cell_is;
    changes = changes_clipped line low fixed.cell (fixed.bit, fixed.in_byte, record { of = fixed.of; differs = fixed.differs });
  }

pub no_head_unchanged : (base : Structures) (line : ByteChange) → slice_get base.structures base.head ≡ None → ChangesFixed base line → ⊥
no_head_unchanged base line none fixed =
    let no_cell : fixed_cell base fixed.field ≡ None = ap (λ fs. option_and_then (λ f. if is_fixed f then option_map (cell_at base.order f) (own_bit (lineage base.structures base.head) fixed.field) else None) (slice_get fs fixed.field)) (no_head base none) in
    let both : None ≡ Some fixed.cell = sym no_cell ∙ fixed.cell_is in cc

-- a test for the one is one for the other
pub match_both : {P Q : Type 0} (b : Bool) → (P → Q) → (Q → P) → MatchBool b P (P → ⊥) → MatchBool b Q (Q → ⊥)
match_both true to from is = to is
match_both false to from is = λ q. is (from q)

-- ---- behind the end

module _ (base : Structures) (end : ℕ) where
  -- the clipped cells of the head end there, so the cells do
  pub ends_unclipped : (s : Structure) → slice_get base.structures base.head ≡ Some s → AreFixedBefore base.order (start_of base.structures base.head s.parent) s.fields end → (k : ℕ) (cell : Cell) → fixed_cell base k ≡ Some cell → IsBefore end cell
  ends_unclipped s is before k cell fixed = λ j of low.
      let at : clipped_cell base.order (start_of base.structures base.head s.parent) s.fields k ≡ Some (clip_cell cell) = head_cell base s is k ∙ ap (option_map clip_cell) fixed in
      before k (clip_cell cell) at j (clipped cell j (omega (arith, low)) of) low

  -- without a head there are none
  pub ends_headless : slice_get base.structures base.head ≡ None → (k : ℕ) (cell : Cell) → fixed_cell base k ≡ Some cell → IsBefore end cell
  ends_headless none k cell fixed =
      let no_cell : fixed_cell base k ≡ None = ap (λ fs. option_and_then (λ f. if is_fixed f then option_map (cell_at base.order f) (own_bit (lineage base.structures base.head) k) else None) (slice_get fs k)) (no_head base none) in
      absurd (let both : None ≡ Some cell = sym no_cell ∙ fixed in cc)

  -- a byte behind the end has no bit of a fixed field
  pub unchanged_behind : (line : ByteChange) → ((k : ℕ) (cell : Cell) → fixed_cell base k ≡ Some cell → IsBefore end cell) → line.place ≤ 67108864 → end ≤ 8 * line.place → ChangesFixed base line → ⊥
  unchanged_behind line before low past fixed =
      let below = fixed.in_byte in
      let less = before fixed.field fixed.cell fixed.cell_is (8 * line.place + fixed.bit) fixed.of (omega (arith, low, below)) in
      absurd (omega (arith, less, past))
