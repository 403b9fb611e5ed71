-- A structure's fields, one after another.
use Rattle.std.proofs.Common.{◌≡◌, ◌<◌, ◌≤◌, ◌+◌, ◌%◌, ℕ, Bool, ◌||◌, nat_eq, List, [], ◌∷◌, ◌++◌, map, take, length, get_or, Option, refl, sym, ap, ◌∙◌, arith}
use Rattle.std.proofs.Math.Bool.{or-false, or_assoc}
use Rattle.std.proofs.Math.Nat.{mod-lt}
use Rattle.std.proofs.lemmas.List.{map-append, map_more, take-map, take_all}
use Rattle.dsr_tree.specs.Trees.{FieldTree, field_shape, StructureTree}
use Rattle.dsr_tree.specs.declared.faults.Fault.{Fault}
use Rattle.dsr_tree.specs.declared.tree.Field.{Field}
use Rattle.dsr_language_theory.specs.Declarations.{extent_of, is_open, has_open, inherits_open, field_faults, position_of}
use Rattle.dsr_meaning.specs.Extents.{bit_behind, bit_behind_all}
use Rattle.dsr_meaning.specs.Lists.{each_at}
use Rattle.dsr_language_theory.specs.Names.{Names, is_head}
use Rattle.dsr_meaning.proofs.Bits.{bit_behind_next}
use Rattle.dsr_names.proofs.Finding.{finds_nothing, finds_same, finds_next}
use Rattle.dsr_names.specs.Telling.{Finds}

-- what is known before the j-th field: the faults of those up to it, the bit of a byte at which it begins, and whether a length that isn't a number stands before it
pub record IsBefore (names : Names) (number : ℕ) (s : StructureTree) (fields : List Field) (j bit : ℕ) (behind_open : Bool) (old new : Option Fault) : Type 0 where
  pub found : Finds (each_at (λ i f. field_faults names (position_of names number s i) f) 0 (map field_shape (take j fields))) old new
  pub bit_is : bit ≡ bit_behind_all 0 (map extent_of (map field_shape (take j fields))) % 8
  pub open_is : behind_open ≡ (inherits_open names number || has_open (map field_shape (take j fields)))

-- whether fields, or one more at the end, are such
open_append : (fields : List FieldTree) (f : FieldTree) → has_open (fields ++ f ∷ []) ≡ (has_open fields || is_open f)
open_append [] f = or-false (is_open f)
open_append (g ∷ fields) f = ap (λ b. is_open g || b) (open_append fields f) ∙ sym (or_assoc (is_open g) (has_open fields) (is_open f))

module _ {names : Names} {number : ℕ} {s : StructureTree} {fields : List Field} {behind_open : Bool} {old : Option Fault} where
  -- before the first field
  pub field_first : behind_open ≡ inherits_open names number → IsBefore names number s fields 0 0 behind_open old old
  field_first opens = record { found = finds_nothing; bit_is = refl; open_is = opens ∙ sym (or-false (inherits_open names number)) }

  -- a byte has eight bits
  pub in_byte : {j bit : ℕ} {new : Option Fault} → IsBefore names number s fields j bit behind_open old new → bit < 8
  in_byte {j} p = rw p.bit_is (mod-lt (bit_behind_all 0 (map extent_of (map field_shape (take j fields)))) (omega arith))

  -- behind the last field
  pub field_last : s.fields ≡ map field_shape fields → {j bit : ℕ} {new : Option Fault} → length fields ≤ j → IsBefore names number s fields j bit behind_open old new → Finds (each_at (λ i f. field_faults names (position_of names number s i) f) 0 s.fields) old new
  field_last same {j} all p = finds_same (ap (each_at (λ i f. field_faults names (position_of names number s i) f) 0) (ap (map field_shape) (take_all j fields all) ∙ sym same)) p.found

  -- the position of the j-th field
  position_is : s.fields ≡ map field_shape fields → {j bit : ℕ} {in_head : Bool} {new : Option Fault} → in_head ≡ is_head s.name.name → IsBefore names number s fields j bit behind_open old new → record { structure = number; number = j; in_head = in_head; on_byte = nat_eq bit 0; behind_open = behind_open } ≡ position_of names number s j
  position_is same {j} head p =
      let shapes : map field_shape (take j fields) ≡ take j s.fields = sym (ap (take j) same ∙ take-map field_shape j fields) in
      let bits = p.bit_is ∙ ap (λ fs. bit_behind_all 0 (map extent_of fs) % 8) shapes in
      let opens = p.open_is ∙ ap (λ fs. inherits_open names number || has_open fs) shapes in
      λ k. record { structure = number; number = j; in_head = head k; on_byte = nat_eq (bits k) 0; behind_open = opens k }

  -- one field more
  pub field_next : s.fields ≡ map field_shape fields → {j bit bit' : ℕ} {behind_open' in_head : Bool} {now new : Option Fault} (x : Field) → j < length fields → x ≡ get_or fields j x → in_head ≡ is_head s.name.name → IsBefore names number s fields j bit behind_open old now → Finds (field_faults names (record { structure = number; number = j; in_head = in_head; on_byte = nat_eq bit 0; behind_open = behind_open }) (field_shape x)) now new → bit' ≡ bit_behind bit (extent_of (field_shape x)) % 8 → behind_open' ≡ (behind_open || is_open (field_shape x)) → IsBefore names number s fields (j + 1) bit' behind_open' old new
  field_next same {j} x lt is head p q bits opens =
      let before = map field_shape (take j fields) in
      let shapes : map field_shape (take (j + 1) fields) ≡ before ++ field_shape x ∷ [] = map_more field_shape fields j x lt ∙ ap (λ y. before ++ field_shape y ∷ []) (sym is) in
      record {
        found = finds_next (λ i f. field_faults names (position_of names number s i) f) field_shape fields j x lt is p.found (finds_same (ap (λ at. field_faults names at (field_shape x)) (position_is same head p)) q);
        bit_is = bits ∙ ap (λ n. bit_behind n (extent_of (field_shape x)) % 8) p.bit_is ∙ bit_behind_next (map extent_of before) (extent_of (field_shape x)) ∙ ap (λ es. bit_behind_all 0 es % 8) (sym (ap (map extent_of) shapes ∙ map-append extent_of before (field_shape x ∷ [])));
        open_is = opens ∙ ap (λ b. b || is_open (field_shape x)) p.open_is ∙ or_assoc (inherits_open names number) (has_open before) (is_open (field_shape x)) ∙ ap (λ b. inherits_open names number || b) (sym (ap has_open shapes ∙ open_append before (field_shape x)));
      }
