-- Bits and places where sums and products stop at the last number of 64 bits.
use Rattle.std.proofs.Common.{◌≡◌, ◌<◌, ◌≤◌, ◌+◌, ◌*◌, ◌^◌, ℕ, List, [], ◌∷◌, ◌++◌, map, drop, length, get_or, Option, None, Some, option_map, Result, Err, ok_or, refl, sym, ap, ◌∙◌, arith}
use Rattle.std.specs.Option.{option_and_then, option_map_or}
use Rattle.std.proofs.lemmas.List.{append_assoc, append-nil, drop_all}
use Rattle.dsr_ir.specs.declared.declarations.Field.{Field}
use Rattle.dsr_ir.specs.declared.layouts.FieldPlace.{FieldPlace}
use Rattle.dsr_meaning.specs.Cells.{width_bits}
use Rattle.dsr_meaning.specs.Extents.{Extent, up_to_byte, bit_behind}
use Rattle.dsr_meaning.specs.Places.{entries_of, extent_of, bit_behind_fields, placed}
use Rattle.dsr_layout.specs.Tables.{clip, clip_place}
use Rattle.dsr_layout.specs.declared.faults.LayoutFault.{LayoutFault}
use Rattle.dsr_layout.proofs.Items.{drop_item}

clip_sum : (b n : ℕ) → clip (clip b + n) ≡ clip (b + n)
clip_sum b n = omega arith

pub clip_byte : (b : ℕ) → clip (up_to_byte (clip b)) ≡ clip (up_to_byte b)
clip_byte b = omega arith

-- the bit behind a field is the same where the bits at which it begins are, up to clipping
clip_behind : (b c : ℕ) (e : Extent) → clip b ≡ clip c → clip (bit_behind b e) ≡ clip (bit_behind c e)
clip_behind b c e same = elim e.entries as (λ o. clip (option_map_or (λ n. up_to_byte (b + n * e.bits)) o (b + e.bits)) ≡ clip (option_map_or (λ n. up_to_byte (c + n * e.bits)) o (c + e.bits))) [
  | None ↦ behind e.bits
  | Some n ↦ sym (clip_byte (b + n * e.bits)) ∙ ap (λ x. clip (up_to_byte x)) (behind (n * e.bits)) ∙ clip_byte (c + n * e.bits)
]
  where
    behind : (n : ℕ) → clip (b + n) ≡ clip (c + n)
    behind n = sym (clip_sum b n) ∙ ap (λ x. clip (x + n)) same ∙ clip_sum c n

-- clipping goes over one place more
pub clipped_first : (p : FieldPlace) (o : Option (List FieldPlace)) → option_map (map clip_place) (option_map (λ ps. p ∷ ps) o) ≡ option_map (λ ps. clip_place p ∷ ps) (option_map (map clip_place) o)
clipped_first p None = refl
clipped_first p (Some ps) = refl

-- one item more in front, or one more behind those before
pub one_more : {T : Type 0} (old : List T) (y : T) (o : Option (List T)) → option_map (λ ys. old ++ ys) (option_map (λ ys. y ∷ ys) o) ≡ option_map (λ ys. (old ++ y ∷ []) ++ ys) o
one_more old y None = refl
one_more old y (Some ys) = ap Some (sym (append_assoc old (y ∷ []) ys))

pub nothing_before : {T : Type 0} (o : Option (List T)) → option_map (λ ys. [] ++ ys) o ≡ o
nothing_before None = refl
nothing_before (Some ys) = refl

pub none_clipped : (o : Option (List FieldPlace)) → option_map (map clip_place) o ≡ None → o ≡ None
none_clipped None e = refl
none_clipped (Some ps) e = absurd cc

-- a number of 64 bits is its own clip
pub clip_small : (n : ℕ) → n < 2 ^ 64 → clip n ≡ n
clip_small n small = omega arith

pub clip_twice : (b : ℕ) → clip b ≡ clip (clip b)
clip_twice b = omega arith

module _ (fixed : ℕ → Option ℕ) where
  pub behind_same : (fs : List Field) (b c : ℕ) → clip b ≡ clip c → option_map clip (bit_behind_fields fixed b fs) ≡ option_map clip (bit_behind_fields fixed c fs)
  behind_same [] b c same = ap Some same
  behind_same (f ∷ fs) b c same = elim (extent_of fixed f) as (λ o. option_map clip (option_and_then (λ e. bit_behind_fields fixed (bit_behind b e) fs) o) ≡ option_map clip (option_and_then (λ e. bit_behind_fields fixed (bit_behind c e) fs) o)) [
    | None ↦ refl
    | Some e ↦ behind_same fs (bit_behind b e) (bit_behind c e) (clip_behind b c e same)
  ]

  placed_same : (fs : List Field) (b c : ℕ) → clip b ≡ clip c → option_map (map clip_place) (placed fixed b fs) ≡ option_map (map clip_place) (placed fixed c fs)
  placed_same [] b c same = refl
  placed_same (f ∷ fs) b c same = elim (extent_of fixed f) as (λ o. option_map (map clip_place) (option_and_then (λ e. option_map (λ ps. record { bit = b; width = f.width; length = e.entries } ∷ ps) (placed fixed (bit_behind b e) fs)) o) ≡ option_map (map clip_place) (option_and_then (λ e. option_map (λ ps. record { bit = c; width = f.width; length = e.entries } ∷ ps) (placed fixed (bit_behind c e) fs)) o)) [
    | None ↦ refl
    | Some e ↦
        clipped_first (record { bit = b; width = f.width; length = e.entries }) (placed fixed (bit_behind b e) fs)
        ∙ ap (option_map (λ ps. record { bit = clip b; width = f.width; length = e.entries } ∷ ps)) (placed_same fs (bit_behind b e) (bit_behind c e) (clip_behind b c e same))
        ∙ ap (λ x. option_map (λ ps. record { bit = x; width = f.width; length = e.entries } ∷ ps) (option_map (map clip_place) (placed fixed (bit_behind c e) fs))) same
        ∙ sym (clipped_first (record { bit = c; width = f.width; length = e.entries }) (placed fixed (bit_behind c e) fs))
  ]

  -- what is left of the fields, where one more is done
  module _ (xs : List Field) (i : ℕ) (x : Field) (lt : i < length xs) (is : x ≡ get_or xs i x) where
    left : drop i xs ≡ x ∷ drop (i + 1) xs
    left = drop_item xs i x lt is

    pub behind_next : (bit : ℕ) {new : ℕ} {entries : Option ℕ} {all : Option ℕ} → entries_of fixed x.len ≡ Some entries → new ≡ clip (bit_behind bit (record { bits = width_bits x.width; entries = entries })) → option_map clip (bit_behind_fields fixed bit (drop i xs)) ≡ all → option_map clip (bit_behind_fields fixed new (drop (i + 1) xs)) ≡ all
    behind_next bit {new} {entries} {all} known made before =
        let behind = bit_behind bit (record { bits = width_bits x.width; entries = entries }) in
        behind_same (drop (i + 1) xs) new behind (ap clip made ∙ sym (clip_twice behind))
        ∙ sym (ap (λ o. option_map clip (option_and_then (λ e. bit_behind_fields fixed (bit_behind bit e) (drop (i + 1) xs)) (option_map (λ n. record { bits = width_bits x.width; entries = n }) o))) known)
        ∙ sym (ap (λ ys. option_map clip (bit_behind_fields fixed bit ys)) left)
        ∙ before

    pub behind_missing : (bit : ℕ) {all : Option ℕ} → entries_of fixed x.len ≡ None → option_map clip (bit_behind_fields fixed bit (drop i xs)) ≡ all → None ≡ all
    behind_missing bit {all} unknown before =
        sym (ap (λ o. option_map clip (option_and_then (λ e. bit_behind_fields fixed (bit_behind bit e) (drop (i + 1) xs)) (option_map (λ n. record { bits = width_bits x.width; entries = n }) o))) unknown)
        ∙ sym (ap (λ ys. option_map clip (bit_behind_fields fixed bit ys)) left)
        ∙ before

    pub placed_next : (bit : ℕ) (old : List FieldPlace) {new : ℕ} {entries : Option ℕ} {places : List FieldPlace} {all : Option (List FieldPlace)} → bit < 2 ^ 64 → entries_of fixed x.len ≡ Some entries → places ≡ old ++ record { bit = bit; width = x.width; length = entries } ∷ [] → new ≡ clip (bit_behind bit (record { bits = width_bits x.width; entries = entries })) → option_map (λ ps. old ++ ps) (option_map (map clip_place) (placed fixed bit (drop i xs))) ≡ all → option_map (λ ps. places ++ ps) (option_map (map clip_place) (placed fixed new (drop (i + 1) xs))) ≡ all
    placed_next bit old {new} {entries} {places} {all} small known pushed made before =
        let behind = bit_behind bit (record { bits = width_bits x.width; entries = entries }) in
        let rest = drop (i + 1) xs in
        ap (λ qs. option_map (λ ps. qs ++ ps) (option_map (map clip_place) (placed fixed new rest))) pushed
        ∙ ap (option_map (λ ps. (old ++ record { bit = bit; width = x.width; length = entries } ∷ []) ++ ps)) (placed_same rest new behind (ap clip made ∙ sym (clip_twice behind)))
        ∙ sym (one_more old (record { bit = bit; width = x.width; length = entries }) (option_map (map clip_place) (placed fixed behind rest)))
        ∙ ap (λ b. option_map (λ ps. old ++ ps) (option_map (λ ps. record { bit = b; width = x.width; length = entries } ∷ ps) (option_map (map clip_place) (placed fixed behind rest)))) (sym (clip_small bit small))
        ∙ ap (option_map (λ ps. old ++ ps)) (sym (clipped_first (record { bit = bit; width = x.width; length = entries }) (placed fixed behind rest)))
        ∙ sym (ap (λ o. option_map (λ ps. old ++ ps) (option_map (map clip_place) (option_and_then (λ e. option_map (λ ps. record { bit = bit; width = x.width; length = e.entries } ∷ ps) (placed fixed (bit_behind bit e) rest)) (option_map (λ n. record { bits = width_bits x.width; entries = n }) o)))) known)
        ∙ sym (ap (λ ys. option_map (λ ps. old ++ ps) (option_map (map clip_place) (placed fixed bit ys))) left)
        ∙ before

    pub placed_missing : (bit : ℕ) (old : List FieldPlace) {all : Option (List FieldPlace)} → entries_of fixed x.len ≡ None → option_map (λ ps. old ++ ps) (option_map (map clip_place) (placed fixed bit (drop i xs))) ≡ option_map (map clip_place) all → all ≡ None
    placed_missing bit old {all} unknown before = none_clipped all (
        sym before
        ∙ ap (λ ys. option_map (λ ps. old ++ ps) (option_map (map clip_place) (placed fixed bit ys))) left
        ∙ ap (λ o. option_map (λ ps. old ++ ps) (option_map (map clip_place) (option_and_then (λ e. option_map (λ ps. record { bit = bit; width = x.width; length = e.entries } ∷ ps) (placed fixed (bit_behind bit e) (drop (i + 1) xs))) (option_map (λ n. record { bits = width_bits x.width; entries = n }) o)))) unknown)

  -- nothing is left
  pub behind_last : (bit : ℕ) {all : Option ℕ} (xs : List Field) (i : ℕ) → length xs ≤ i → bit < 2 ^ 64 → option_map clip (bit_behind_fields fixed bit (drop i xs)) ≡ all → Some bit ≡ all
  behind_last bit {all} xs i past small before =
      ap Some (sym (clip_small bit small)) ∙ sym (ap (λ ys. option_map clip (bit_behind_fields fixed bit ys)) (drop_all i xs past)) ∙ before

  pub placed_last : (bit : ℕ) {places : List FieldPlace} {all : Option (List FieldPlace)} (xs : List Field) (i : ℕ) → length xs ≤ i → option_map (λ ps. places ++ ps) (option_map (map clip_place) (placed fixed bit (drop i xs))) ≡ all → all ≡ Some places
  placed_last bit {places} {all} xs i past before =
      sym before
      ∙ ap (λ ys. option_map (λ ps. places ++ ps) (option_map (map clip_place) (placed fixed bit ys))) (drop_all i xs past)
      ∙ ap Some (append-nil places)

-- a fault that stands for a missing value
pub fault_of : {T : Type 0} {e f : LayoutFault} (o : Option T) → ◌≡◌ {A = Result T LayoutFault} (Err f) (ok_or o e) → o ≡ None → f ≡ e
fault_of {T} {e} {f} o told none = let q : ◌≡◌ {A = Result T LayoutFault} (Err f) (Err e) = told ∙ ap (λ x. ok_or x e) none in cc
