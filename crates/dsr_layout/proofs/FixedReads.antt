-- The cells of fixed fields that lie in the image, and their values.
use Rattle.std.proofs.Common.{◌≡◌, ◌≤◌, ◌+◌, ◌*◌, ℕ, Bool, true, false, ltb, List, [], map, get_or, Some, None, Option, if◌then◌else◌, refl, sym, ap, ◌∙◌, subst, arith}
use Rattle.std.specs.Prelude.{All, IfSome, slice_get, option_map}
use Rattle.std.specs.Option.{option_and_then}
use Rattle.std.proofs.lemmas.Bool.Decides.{nat_tests}
use Rattle.std.proofs.lemmas.Option.{slice_get-map, slice_get-get_or}
use Rattle.dsr_ir.specs.declared.declarations.Field.{Field}
use Rattle.dsr_ir.specs.declared.declarations.Structures.{Structures}
use Rattle.dsr_ir.specs.declared.declarations.Width.{Width}
use Rattle.dsr_ir.specs.declared.declarations.Width.TheVariants.{U8, U16, U32, U64, Bits}
use Rattle.dsr_ir.specs.declared.layouts.Cell.{Cell}
use Rattle.dsr_meaning.specs.Cells.{width_bits, cell_value}
use Rattle.dsr_meaning.specs.FixedFields.{own_bit, head_fields, is_fixed, cell_at, fixed_cell, fixed_value}
use Rattle.dsr_meaning.specs.Places.{lineage}
use Rattle.dsr_meaning.specs.Refusals.{cut_refusals}
use Rattle.dsr_meaning.specs.Placeable.{ArePlaceable, IsLegalWidth, HasLegalWidth, IsPlaceableStructure}
use Rattle.dsr_layout.specs.FixedCells.{IsReadable}
use Rattle.dsr_layout.specs.Tables.{known, clip, clip_cell}
use Rattle.dsr_layout.specs.Telling.{told_of}
use Rattle.dsr_layout.specs.declared.faults.LayoutFault.{LayoutFault}
use Rattle.dsr_layout.proofs.Cutting.{cuts, uncut, same_cuts}
use Rattle.dsr_layout.proofs.FixedHeads.{head_is, no_head}
use Rattle.dsr_layout.proofs.Meanings.{found_holds}

-- a legal entry has 64 bits at most
narrow_of : (w : Width) → IsLegalWidth w → width_bits w ≤ 64
narrow_of U8 legal = omega arith
narrow_of U16 legal = omega arith
narrow_of U32 legal = omega arith
narrow_of U64 legal = omega arith
narrow_of (Bits n) legal = omega (arith, legal.1)

-- the fields of `Head` are legal ones
legal_head : (base : Structures) → ArePlaceable base → (k : ℕ) (f : Field) → slice_get (head_fields base) k ≡ Some f → IsLegalWidth f.width
legal_head base placeable k f is = elim (slice_get base.structures base.head) as (λ o. slice_get base.structures base.head ≡ o → IsLegalWidth f.width) [
  | None ↦ λ e. let nothing : slice_get (head_fields base) k ≡ None = ap (λ fs. slice_get fs k) (no_head base e) in absurd (let both : None ≡ Some f = sym nothing ∙ is in cc)
  | Some s ↦ λ e.
      let placeable_head = found_holds IsPlaceableStructure base.structures base.head s placeable.structures e in
      found_holds HasLegalWidth s.fields k f placeable_head.widths (sym (ap (λ fs. slice_get fs k) (head_is base s e)) ∙ is)
] refl

-- the cell is read as it is
record IsRead (bytes : ℕ) (table cell : Option Cell) : Type 0 where
  same : table ≡ cell
  readable : IfSome cell (IsReadable bytes)

-- a cell that lies in the image is not clipped
whole_cell : (bytes : ℕ) (c : Cell) → bytes ≤ 67108864 → c.width ≤ 64 → ltb (8 * bytes) (c.bit + c.width) ≡ false → IsRead bytes (Some (clip_cell c)) (Some c)
whole_cell bytes c small narrow inside =
    let within : c.bit + c.width ≤ 8 * bytes = grind (arith, nat_tests) in
    let bit : clip c.bit ≡ c.bit = omega arith in
    record { same = ap (λ b. Some (record { bit = b; width = c.width; bytewise = c.bytewise; order = c.order })) bit; readable = record { within = within; narrow = narrow } }

-- the cell of a field, where it has one
field_read : (base : Structures) (bytes : ℕ) (f : Field) (bit : Option ℕ) → bytes ≤ 67108864 → width_bits f.width ≤ 64 → (b : Bool) → cuts bytes (if b then option_map (cell_at base.order f) bit else None) ≡ false → IsRead bytes (option_map clip_cell (if b then option_map (cell_at base.order f) bit else None)) (if b then option_map (cell_at base.order f) bit else None)
field_read base bytes f bit small narrow false e = record { same = refl; readable = tt }
field_read base bytes f None small narrow true e = record { same = refl; readable = tt }
field_read base bytes f (Some at) small narrow true e = whole_cell bytes (cell_at base.order f at) small narrow e

-- the cell of a fixed field, where none ends behind the image
fixed_read : (base : Structures) (bytes : ℕ) → ArePlaceable base → bytes ≤ 67108864 → cut_refusals (fixed_cell base) (head_fields base) bytes ≡ [] → (k : ℕ) → IsRead bytes (option_map clip_cell (fixed_cell base k)) (fixed_cell base k)
fixed_read base bytes placeable small whole k = go (slice_get (head_fields base) k) refl where
  cell : Option Field → Option Cell
  cell o = option_and_then (λ f. if is_fixed f then option_map (cell_at base.order f) (own_bit (lineage base.structures base.head) k) else None) o

  go : (o : Option Field) → slice_get (head_fields base) k ≡ o → IsRead bytes (option_map clip_cell (cell o)) (cell o)
  go None e = record { same = refl; readable = tt }
  go (Some f) e =
      let inside : cuts bytes (cell (Some f)) ≡ false = sym (ap (λ o. cuts bytes (cell o)) e) ∙ uncut (fixed_cell base) bytes (head_fields base) whole k f e in
      field_read base bytes f (own_bit (lineage base.structures base.head) k) small (narrow_of f.width (legal_head base placeable k f e)) (is_fixed f) inside

-- the table has the cells of the fixed fields
pub read_cell : (base : Structures) (bytes : ℕ) (cells : List (Option Cell)) → ArePlaceable base → bytes ≤ 67108864 → cut_refusals (fixed_cell base) (head_fields base) bytes ≡ [] → ((k : ℕ) → known cells k ≡ option_map clip_cell (fixed_cell base k)) → (k : ℕ) → known cells k ≡ fixed_cell base k
read_cell base bytes cells placeable small whole held k = held k ∙ (fixed_read base bytes placeable small whole k).same

-- all cells of the table can be read
pub all_readable : (base : Structures) (bytes : ℕ) (cells : List (Option Cell)) → ArePlaceable base → bytes ≤ 67108864 → cut_refusals (fixed_cell base) (head_fields base) bytes ≡ [] → ((k : ℕ) → known cells k ≡ option_map clip_cell (fixed_cell base k)) → All (λ c. IfSome c (IsReadable bytes)) cells
all_readable base bytes cells placeable small whole held i d lt =
    let here : known cells i ≡ get_or cells i d = ap (option_and_then (λ v. v)) (slice_get-get_or cells i d lt) in
    subst (λ o. IfSome o (IsReadable bytes)) (sym (read_cell base bytes cells placeable small whole held i) ∙ here) (fixed_read base bytes placeable small whole i).readable

-- what is told of the table is told of the cells
same_told : (base : Structures) (bytes : ℕ) (cells : List (Option Cell)) (fields : List Field) → bytes ≤ 67108864 → ((k : ℕ) → known cells k ≡ option_map clip_cell (fixed_cell base k)) → fields ≡ head_fields base → cut_refusals (known cells) fields bytes ≡ cut_refusals (fixed_cell base) (head_fields base) bytes
same_told base bytes cells fields small held is = ap (λ fs. cut_refusals (known cells) fs bytes) is ∙ same_cuts (known cells) (fixed_cell base) bytes small held 0 (head_fields base)

-- the same where the code's table is equal to one that has them
pub cut_told : (base : Structures) (bytes : ℕ) {table cells : List (Option Cell)} {fields : List Field} {told : Option LayoutFault} → bytes ≤ 67108864 → table ≡ cells → ((k : ℕ) → known cells k ≡ option_map clip_cell (fixed_cell base k)) → fields ≡ head_fields base → told ≡ told_of (cut_refusals (known table) fields bytes) → told ≡ told_of (cut_refusals (fixed_cell base) (head_fields base) bytes)
cut_told base bytes {table} {cells} {fields} small same held are is =
    is
    ∙ ap (λ cs. told_of (cut_refusals (known cs) fields bytes)) same
    ∙ ap told_of (same_told base bytes cells fields small held are)

-- the table of values
pub read_values : (base : Structures) (bytes : List ℕ) (cells : List (Option Cell)) (values : List (Option ℕ)) → ((k : ℕ) → known cells k ≡ fixed_cell base k) → values ≡ map (option_map (cell_value bytes)) cells → (k : ℕ) → known values k ≡ fixed_value base bytes k
read_values base bytes cells values held is k =
    ap (λ vs. known vs k) is
    ∙ ap (option_and_then (λ v. v)) (slice_get-map (option_map (cell_value bytes)) cells k)
    ∙ inner (slice_get cells k)
    ∙ ap (option_map (cell_value bytes)) (held k)
  where
    inner : (o : Option (Option Cell)) → option_and_then (λ v. v) (option_map (option_map (cell_value bytes)) o) ≡ option_map (cell_value bytes) (option_and_then (λ v. v) o)
    inner None = refl
    inner (Some c) = refl
