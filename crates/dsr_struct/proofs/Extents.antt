-- A field of the tree and the same field of the tables: their widths, and the bits that they take up.
use Rattle.std.proofs.Common.{◌≡◌, ◌≤◌, ℕ, false, not, ◌&&◌, ◌||◌, nat_le, [], Option, None, Some, is_some, option_map, refl, arith}
use Rattle.std.proofs.lemmas.Bool.Decides.{nat_tests}
use Rattle.dsr_tree.specs.Trees.{FieldTree, named, skipped}
use Rattle.dsr_tree.specs.declared.faults.Condition.TheVariants as conditions
use Rattle.dsr_tree.specs.declared.tree.Width.{Width}
use Rattle.dsr_tree.specs.declared.tree.Width.TheVariants as widths
use Rattle.dsr_meaning.specs.Cells.{width_bits, is_bytewise as reads_bytes}
use Rattle.dsr_language_theory.specs.Declarations.{entry_bits, is_bytewise, width_faults, extent_of}
use Rattle.dsr_language_theory.specs.Names.{Names}
use Rattle.dsr_language_theory.specs.Tables.{typed_expr, typed_field, typed_width}
use Rattle.dsr_meaning.specs.Placeable.{IsLegalWidth, HasLegalWidth as IsLegal, plain_extent}
use Rattle.dsr_struct.specs.Known.{HasLegalWidth}
use Rattle.dsr_language_theory.proofs.Absent.{when_absent}

legal_bits : (n : ℕ) → not (nat_le 1 n && nat_le n 32) ≡ false → (1 ≤ n) × (n ≤ 32)
legal_bits n e = (grind (arith, nat_tests), grind (arith, nat_tests))

-- a width without fault is legal in the tables
legal_same : (w : Width) → width_faults w ≡ [] → IsLegalWidth (typed_width w)
legal_same (widths.U8 place) e = tt
legal_same (widths.U16 place) e = tt
legal_same (widths.U32 place) e = tt
legal_same (widths.U64 place) e = tt
legal_same (widths.Bits place number) e = legal_bits number.number (when_absent (not (nat_le 1 number.number && nat_le number.number 32)) conditions.Width number.place e)

pub bits_same : (w : Width) → width_bits (typed_width w) ≡ entry_bits w
bits_same (widths.U8 place) = refl
bits_same (widths.U16 place) = refl
bits_same (widths.U32 place) = refl
bits_same (widths.U64 place) = refl
bits_same (widths.Bits place number) = refl

bytes_same : (w : Width) → reads_bytes (typed_width w) ≡ is_bytewise w
bytes_same (widths.U8 place) = refl
bytes_same (widths.U16 place) = refl
bytes_same (widths.U32 place) = refl
bytes_same (widths.U64 place) = refl
bytes_same (widths.Bits place number) = refl

mapped_is_some : {A B : Type 0} (g : A → B) (o : Option A) → is_some (option_map g o) ≡ is_some o
mapped_is_some g None = refl
mapped_is_some g (Some x) = refl

entries_same : {A B : Type 0} (g : A → B) (o : Option A) → option_map {U = ℕ} (λ _. 0) (option_map g o) ≡ option_map {U = ℕ} (λ _. 0) o
entries_same g None = refl
entries_same g (Some x) = refl

-- whether a field is one whose beginning matters, before and after
pub begins_same : (w : Width) {A B : Type 0} (g : A → B) (o : Option A) → (reads_bytes (typed_width w) || is_some (option_map g o)) ≡ (is_bytewise w || is_some o)
begins_same w g o = λ i. bytes_same w i || mapped_is_some g o i

module _ (names : Names) where
  pub legal_field : (f : FieldTree) → HasLegalWidth f → IsLegal (typed_field names f)
  legal_field (named f) e = legal_same f.width e
  legal_field (skipped place l) e = tt

  pub extent_same : (f : FieldTree) → plain_extent (typed_field names f) ≡ extent_of f
  extent_same (named f) = λ i. record { bits = bits_same f.width i; entries = entries_same (typed_expr names.fixed) f.length i }
  extent_same (skipped place l) = refl
