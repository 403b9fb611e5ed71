-- The cells of the fixed fields of `Head`, by the table of ends.
use Rattle.std.proofs.Common.{◌≡◌, ℕ, true, false, List, [], ◌∷◌, take, Some, None, Option, if◌then◌else◌, refl, sym, ap, ◌∙◌}
use Rattle.std.specs.Prelude.{slice_get, option_map}
use Rattle.std.specs.Option.{option_and_then}
use Rattle.dsr_ir.specs.declared.declarations.Field.{Field}
use Rattle.dsr_ir.specs.declared.declarations.Structure.{Structure}
use Rattle.dsr_ir.specs.declared.declarations.Structures.{Structures}
use Rattle.dsr_ir.specs.declared.declarations.Order.{Order}
use Rattle.dsr_ir.specs.declared.layouts.Cell.{Cell}
use Rattle.dsr_meaning.specs.FixedFields.{own_bit, head_fields, is_fixed, cell_at, fixed_cell}
use Rattle.dsr_meaning.specs.Places.{lineage, end_of, bit_behind_fields}
use Rattle.dsr_layout.specs.Ends.{start_in}
use Rattle.dsr_layout.specs.FixedCells.{cell_from, clipped_cell}
use Rattle.dsr_layout.specs.Tables.{known, clip, clip_cell, HoldsEnds}
use Rattle.dsr_layout.proofs.Clipping.{behind_same, clip_twice}
use Rattle.dsr_layout.proofs.FixedTables.{bit_at}
use Rattle.dsr_layout.proofs.Lineages.{ancestors, lineage_of}
use Rattle.dsr_layout.proofs.Sizes.{start_is}

-- the fields that `Head` declares
pub head_is : (base : Structures) (s : Structure) → slice_get base.structures base.head ≡ Some s → head_fields base ≡ s.fields
head_is base s e = rw e refl

-- none where there is no `Head`
pub no_head : (base : Structures) → slice_get base.structures base.head ≡ None → head_fields base ≡ []
no_head base e = rw e refl

-- behind fields from a clipped start
bit_at_clipped : (fields : List Field) (k : ℕ) (o : Option ℕ) → bit_at (option_map clip o) fields k ≡ option_map clip (option_and_then (λ s. bit_behind_fields (known []) s (take k fields)) o)
bit_at_clipped fields k None = refl
bit_at_clipped fields k (Some s) = behind_same (known []) (take k fields) (clip s) s (sym (clip_twice s))

-- the cell from a clipped bit
cell_clipped : (order : Order) (f : Field) (o : Option ℕ) → cell_from order (option_map clip o) f ≡ option_map clip_cell (if is_fixed f then option_map (cell_at order f) o else None)
cell_clipped order f o = elim (is_fixed f) as (λ b. (if b then option_map (cell_at order f) (option_map clip o) else None) ≡ option_map clip_cell (if b then option_map (cell_at order f) o else None)) [
  | true ↦ both o
  | false ↦ refl
] where
  both : (p : Option ℕ) → option_map (cell_at order f) (option_map clip p) ≡ option_map clip_cell (option_map (cell_at order f) p)
  both None = refl
  both (Some b) = refl

-- the cell of one of several fields, from a clipped start
from_clipped : (order : Order) (fields : List Field) (k : ℕ) (start : Option ℕ) → clipped_cell order (option_map clip start) fields k ≡ option_map clip_cell (option_and_then (λ f. if is_fixed f then option_map (cell_at order f) (option_and_then (λ s. bit_behind_fields (known []) s (take k fields)) start) else None) (slice_get fields k))
from_clipped order fields k start = ap (λ b. option_and_then (λ f. cell_from order b f) (slice_get fields k)) (bit_at_clipped fields k start) ∙ each (slice_get fields k) where
  bit : Option ℕ
  bit = option_and_then (λ s. bit_behind_fields (known []) s (take k fields)) start

  each : (o : Option Field) → option_and_then (λ f. cell_from order (option_map clip bit) f) o ≡ option_map clip_cell (option_and_then (λ f. if is_fixed f then option_map (cell_at order f) bit else None) o)
  each None = refl
  each (Some f) = cell_clipped order f bit

-- the cell of a fixed field, by the ancestors of `Head`
cell_is : (base : Structures) (s : Structure) (k : ℕ) → slice_get base.structures base.head ≡ Some s → fixed_cell base k ≡ option_and_then (λ f. if is_fixed f then option_map (cell_at base.order f) (own_bit (s ∷ ancestors base.structures base.head s.parent) k) else None) (slice_get s.fields k)
cell_is base s k e =
    ap (λ fs. option_and_then (λ f. if is_fixed f then option_map (cell_at base.order f) (own_bit (lineage base.structures base.head) k) else None) (slice_get fs k)) (head_is base s e)
    ∙ ap (λ ss. option_and_then (λ f. if is_fixed f then option_map (cell_at base.order f) (own_bit ss k) else None) (slice_get s.fields k)) (lineage_of base.structures base.head s e)

-- the clipped cells of the fixed fields
pub head_cells : (base : Structures) (ends : List (Option ℕ)) (s : Structure) → HoldsEnds (known []) base.structures ends → slice_get base.structures base.head ≡ Some s → (k : ℕ) → clipped_cell base.order (start_in ends base.head s.parent) s.fields k ≡ option_map clip_cell (fixed_cell base k)
head_cells base ends s holds e k =
    ap (λ o. clipped_cell base.order o s.fields k) (start_is (known []) ends base.structures base.head s.parent holds)
    ∙ from_clipped base.order s.fields k (end_of (known []) (ancestors base.structures base.head s.parent))
    ∙ ap (option_map clip_cell) (sym (cell_is base s k e))

-- none where there is no `Head`
pub no_cells : (base : Structures) → slice_get base.structures base.head ≡ None → (k : ℕ) → None ≡ option_map clip_cell (fixed_cell base k)
no_cells base e k = ap (λ fs. option_map clip_cell (option_and_then (λ f. if is_fixed f then option_map (cell_at base.order f) (own_bit (lineage base.structures base.head) k) else None) (slice_get fs k))) (sym (no_head base e))

-- a table that was filled from the start of the own fields of `Head`
pub head_table : (base : Structures) (ends table : List (Option ℕ)) (s : Structure) (start : Option ℕ) (fields : List Field) → HoldsEnds (known []) base.structures ends → slice_get base.structures base.head ≡ Some s → table ≡ ends → start ≡ start_in table base.head s.parent → fields ≡ s.fields → (cells : List (Option Cell)) → ((k : ℕ) → known cells k ≡ clipped_cell base.order start fields k) → (k : ℕ) → known cells k ≡ option_map clip_cell (fixed_cell base k)
head_table base ends table s start fields holds e same is own cells held k =
    held k
    ∙ ap (λ o. clipped_cell base.order o fields k) (is ∙ ap (λ t. start_in t base.head s.parent) same)
    ∙ ap (λ fs. clipped_cell base.order (start_in ends base.head s.parent) fs k) own
    ∙ head_cells base ends s holds e k
