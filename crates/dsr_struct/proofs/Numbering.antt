-- Numbers of the items that pass a test, in a list that grows at its end.
use Rattle.std.proofs.Common.{◌≡◌, ◌<◌, ◌+◌, ℕ, Bool, List, map, take, length, get_or, Option, refl, sym, ap, ◌∙◌, zero-add}
use Rattle.std.specs.List.{position_from}
use Rattle.dsr_tree.specs.Trees.{field_shape}
use Rattle.dsr_tree.specs.declared.tree.Field.{Field}
use Rattle.dsr_tree.specs.declared.tree.Field.TheVariants as fields
use Rattle.dsr_language_theory.specs.Names.{has_name}
use Rattle.dsr_names.specs.Tables.{is_named}
use Rattle.dsr_names.proofs.Numbering.{known_or, position_map, position_next}
use Rattle.dsr_names.specs.FieldNames.{field_name}

-- what is known of the items up to one, and then of that one too, where they are counted from 0
pub number_next : {X : Type 0} (t : X → Bool) (xs : List X) (i : ℕ) (x : X) → i < length xs → x ≡ get_or xs i x → {known : Option ℕ} {passes : Bool} → known ≡ position_from t 0 (take i xs) → passes ≡ t x → known_or known i passes ≡ position_from t 0 (take (i + 1) xs)
number_next t xs i x lt is {known} {passes} k p = ap (λ n. known_or known n passes) (sym (zero-add i)) ∙ position_next t 0 xs i x lt is k p

-- the number of a field by its name, as tables of any items have it
pub field_numbers : (q : List ℕ) (fs : List Field) → position_from (λ f. is_named (field_name f) q) 0 fs ≡ position_from (has_name q) 0 (map field_shape fs)
field_numbers q fs =
    ap (λ test. position_from test 0 fs) (λ i f. same f i)
    ∙ sym (position_map (has_name q) field_shape 0 fs)
  where
    same : (f : Field) → is_named (field_name f) q ≡ has_name q (field_shape f)
    same (fields.Named f) = refl
    same (fields.Skip place length) = refl
