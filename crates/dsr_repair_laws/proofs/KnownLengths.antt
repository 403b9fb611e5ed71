-- What has a value where no fixed field has one has the same always: where fields stand behind known lengths.
use Rattle.std.proofs.Common.{◌≡◌, ◌∙◌, ℕ, List, [], ◌∷◌, Option, None, Some, option_map, option_and_then, refl, ap}
use Rattle.dsr_ir.specs.Exprs.{ExprShape, NumOf, FixedOf, SumOf, LessOf, TimesOf, OverOf}
use Rattle.dsr_ir.specs.declared.declarations.Field.{Field}
use Rattle.dsr_ir.specs.declared.declarations.Structure.{Structure}
use Rattle.dsr_meaning.specs.Cells.{width_bits}
use Rattle.dsr_meaning.specs.Expressions.{difference, of_both, product, quotient, sum, value_of}
use Rattle.dsr_meaning.specs.Extents.{bit_behind, up_to_byte}
use Rattle.dsr_meaning.specs.FixedFields.{no_values}
use Rattle.dsr_meaning.specs.Places.{bit_behind_fields, end_of, entries_of, extent_of}

-- the second one has what the first one has
abbrev pub Keeps : {A : Type 0} → Option A → Option A → Type 0
Keeps {A} o p = (x : A) → o ≡ Some x → p ≡ Some x

pub then_keeps : {A B : Type 0} (f g : A → Option B) (o p : Option A) → Keeps o p → ((x : A) → Keeps (f x) (g x)) → Keeps (option_and_then f o) (option_and_then g p)
then_keeps f g None p first rest y is = absurd cc
then_keeps f g (Some x) p first rest y is = ap (option_and_then g) (first x refl) ∙ rest x y is

map_keeps : {A B : Type 0} (f : A → B) (o p : Option A) → Keeps o p → Keeps (option_map f o) (option_map f p)
map_keeps f None p first y is = absurd cc
map_keeps f (Some x) p first y is = ap (option_map f) (first x refl) ∙ is

both_keep : (operation : ℕ → ℕ → Option ℕ) (l r m s : Option ℕ) → Keeps l m → Keeps r s → Keeps (of_both operation l r) (of_both operation m s)
both_keep operation l r m s left right =
    then_keeps (λ a. option_and_then (operation a) r) (λ a. option_and_then (operation a) s) l m left
    (λ a. then_keeps (operation a) (operation a) r s right (λ b x is. is))

module _ (fixed : ℕ → Option ℕ) where
  value_keeps : (e : ExprShape) → Keeps (value_of no_values e) (value_of fixed e)
  value_keeps (NumOf n) = λ x is. is
  value_keeps (FixedOf k) = λ x is. absurd cc
  value_keeps (SumOf l r) = both_keep sum (value_of no_values l) (value_of no_values r) (value_of fixed l) (value_of fixed r) (value_keeps l) (value_keeps r)
  value_keeps (LessOf l r) = both_keep difference (value_of no_values l) (value_of no_values r) (value_of fixed l) (value_of fixed r) (value_keeps l) (value_keeps r)
  value_keeps (TimesOf l r) = both_keep product (value_of no_values l) (value_of no_values r) (value_of fixed l) (value_of fixed r) (value_keeps l) (value_keeps r)
  value_keeps (OverOf l r) = both_keep quotient (value_of no_values l) (value_of no_values r) (value_of fixed l) (value_of fixed r) (value_keeps l) (value_keeps r)

  entries_keep : (len : Option ExprShape) → Keeps (entries_of no_values len) (entries_of fixed len)
  entries_keep None = λ x is. is
  entries_keep (Some e) = map_keeps Some (value_of no_values e) (value_of fixed e) (value_keeps e)

  extent_keeps : (f : Field) → Keeps (extent_of no_values f) (extent_of fixed f)
  extent_keeps f = map_keeps (λ entries. record { bits = width_bits f.width; entries = entries }) (entries_of no_values f.len) (entries_of fixed f.len) (entries_keep f.len)

  pub behind_keeps : (fs : List Field) (bit : ℕ) → Keeps (bit_behind_fields no_values bit fs) (bit_behind_fields fixed bit fs)
  behind_keeps [] bit = λ x is. is
  behind_keeps (f ∷ fs) bit =
      then_keeps (λ e. bit_behind_fields no_values (bit_behind bit e) fs) (λ e. bit_behind_fields fixed (bit_behind bit e) fs) (extent_of no_values f) (extent_of fixed f) (extent_keeps f)
      (λ e. behind_keeps fs (bit_behind bit e))

  pub end_keeps : (line : List Structure) → Keeps (end_of no_values line) (end_of fixed line)
  end_keeps [] = λ x is. is
  end_keeps (s ∷ line) =
      then_keeps (λ start. option_map up_to_byte (bit_behind_fields no_values start s.fields)) (λ start. option_map up_to_byte (bit_behind_fields fixed start s.fields)) (end_of no_values line) (end_of fixed line) (end_keeps line)
      (λ start. map_keeps up_to_byte (bit_behind_fields no_values start s.fields) (bit_behind_fields fixed start s.fields) (behind_keeps s.fields start))
