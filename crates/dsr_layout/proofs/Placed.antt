-- The places of the fields of structures that have a size.
use Rattle.std.proofs.Common.{◌≡◌, ◌<◌, ◌≤◌, ◌+◌, ◌*◌, ◌^◌, ◌⊎◌, ℕ, suc, List, [], ◌∷◌, ◌++◌, map, drop, length, get_or, inl, inr, Option, None, Some, IsSome, is_none, option_map, slice_get, refl, sym, ap, ◌∙◌, subst, add-one, arith}
use Rattle.std.specs.Option.{option_and_then, option_map_or}
use Rattle.std.proofs.lemmas.List.{append-nil, drop_all}
use Rattle.dsr_ir.specs.declared.declarations.Field.{Field}
use Rattle.dsr_ir.specs.declared.declarations.Structure.{Structure}
use Rattle.dsr_ir.specs.declared.layouts.FieldPlace.{FieldPlace}
use Rattle.dsr_meaning.specs.Extents.{Extent, up_to_byte, bit_behind}
use Rattle.dsr_meaning.specs.Lists.{each_at}
use Rattle.dsr_meaning.specs.Layouts.{collect_at, places_of}
use Rattle.dsr_meaning.specs.Places.{lineage, extent_of, bit_behind_fields, placed, end_of, own_places}
use Rattle.dsr_meaning.specs.Refusals.{Arith, refused_when, size_refusals}
use Rattle.dsr_layout.specs.Ends.{start_in, end_behind, clipped_places}
use Rattle.dsr_layout.specs.Tables.{clip, clip_place, end_in, size_in, HoldsEnds}
use Rattle.dsr_layout.specs.Telling.{Tells, told_of}
use Rattle.dsr_layout.specs.declared.faults.LayoutFault.{LayoutFault}
use Rattle.dsr_layout.specs.declared.faults.LayoutFault.TheVariants as faults
use Rattle.dsr_layout.proofs.Clipping.{clipped_first, none_clipped, one_more, nothing_before}
use Rattle.dsr_layout.proofs.Items.{drop_item, item_at}
use Rattle.dsr_layout.proofs.Lineages.{ancestors, lineage_of}
use Rattle.dsr_layout.proofs.Sizes.{size_at, size_below, start_is, end_same}

pub byte_behind : (b : ℕ) → b ≤ up_to_byte b
byte_behind b = omega arith

-- a field ends at no lower bit than it begins
behind_from : (b : ℕ) (e : Extent) → b ≤ bit_behind b e
behind_from b e = elim e.entries as (λ o. b ≤ option_map_or (λ n. up_to_byte (b + n * e.bits)) o (b + e.bits)) [
  | None ↦ omega arith
  | Some n ↦ let byte = byte_behind (b + n * e.bits) in omega arith
]

module _ (fixed : ℕ → Option ℕ) where
  pub rising : (fs : List Field) (b e : ℕ) → bit_behind_fields fixed b fs ≡ Some e → b ≤ e
  rising [] b e is = let q : b ≡ e = cc in omega arith
  rising (f ∷ fs) b e is = elim (extent_of fixed f) as (λ o. option_and_then (λ x. bit_behind_fields fixed (bit_behind b x) fs) o ≡ Some e → b ≤ e) [
    | None ↦ λ h. absurd cc
    | Some x ↦ λ h. let first = behind_from b x in let rest = rising fs (bit_behind b x) e h in omega arith
  ] is

  -- places in front of a bit of 64 bits are as they are
  unclipped : (fs : List Field) (b e : ℕ) → bit_behind_fields fixed b fs ≡ Some e → e < 2 ^ 64 → option_map (map clip_place) (placed fixed b fs) ≡ placed fixed b fs
  unclipped [] b e is fits = refl
  unclipped (f ∷ fs) b e is fits =
      let from = rising (f ∷ fs) b e is in
      let whole : clip b ≡ b = omega arith in
      elim (extent_of fixed f) as (λ o. option_and_then (λ x. bit_behind_fields fixed (bit_behind b x) fs) o ≡ Some e → option_map (map clip_place) (option_and_then (λ x. option_map (λ ps. record { bit = b; width = f.width; length = x.entries } ∷ ps) (placed fixed (bit_behind b x) fs)) o) ≡ option_and_then (λ x. option_map (λ ps. record { bit = b; width = f.width; length = x.entries } ∷ ps) (placed fixed (bit_behind b x) fs)) o) [
        | None ↦ λ h. refl
        | Some x ↦ λ h.
            clipped_first (record { bit = b; width = f.width; length = x.entries }) (placed fixed (bit_behind b x) fs)
            ∙ ap (option_map (λ ps. record { bit = clip b; width = f.width; length = x.entries } ∷ ps)) (unclipped fs (bit_behind b x) e h fits)
            ∙ ap (λ k. option_map (λ ps. record { bit = k; width = f.width; length = x.entries } ∷ ps) (placed fixed (bit_behind b x) fs)) whole
      ] is

  -- fields without places have no end
  endless : (fs : List Field) (b : ℕ) → placed fixed b fs ≡ None → bit_behind_fields fixed b fs ≡ None
  endless [] b none = absurd cc
  endless (f ∷ fs) b none = elim (extent_of fixed f) as (λ o. option_and_then (λ x. option_map (λ ps. record { bit = b; width = f.width; length = x.entries } ∷ ps) (placed fixed (bit_behind b x) fs)) o ≡ None → option_and_then (λ x. bit_behind_fields fixed (bit_behind b x) fs) o ≡ None) [
    | None ↦ λ h. refl
    | Some x ↦ λ h. endless fs (bit_behind b x) (rest_none (record { bit = b; width = f.width; length = x.entries }) (placed fixed (bit_behind b x) fs) h)
  ] none
    where
      rest_none : (p : FieldPlace) (o : Option (List FieldPlace)) → option_map (λ ps. p ∷ ps) o ≡ None → o ≡ None
      rest_none p None e = refl
      rest_none p (Some ps) e = absurd cc

  endless_behind : (start : Option ℕ) (fs : List Field) → clipped_places fixed start fs ≡ None → end_behind fixed start fs ≡ None
  endless_behind None fs none = refl
  endless_behind (Some b) fs none = ap (option_map (λ e. clip (up_to_byte (clip e)))) (endless fs b (none_clipped (placed fixed b fs) none))

  -- where there is a size, nothing was clipped
  sized_places : (start : Option ℕ) (fs : List Field) → IsSome (size_at (option_map clip (option_and_then (λ b. option_map up_to_byte (bit_behind_fields fixed b fs)) start))) → clipped_places fixed (option_map clip start) fs ≡ option_and_then (λ b. placed fixed b fs) start
  sized_places None fs sized = refl
  sized_places (Some b) fs sized = elim (bit_behind_fields fixed b fs) as (λ o. bit_behind_fields fixed b fs ≡ o → IsSome (size_at (option_map clip (option_map up_to_byte o))) → option_map (map clip_place) (placed fixed (clip b) fs) ≡ placed fixed b fs) [
    | None ↦ λ is h. absurd cc
    | Some e ↦ λ is h.
        let below = size_below (up_to_byte e) h in
        let from = rising fs b e is in
        let byte = byte_behind e in
        let whole : clip b ≡ b = omega arith in
        ap (λ k. option_map (map clip_place) (placed fixed k fs)) whole ∙ unclipped fs b e is (omega arith)
  ] refl sized

  module _ (ends : List (Option ℕ)) (ss : List Structure) (holds : HoldsEnds fixed ss ends) (i : ℕ) (s : Structure) (found : slice_get ss i ≡ Some s) where
    starts_there : start_in ends i s.parent ≡ option_map clip (end_of fixed (ancestors ss i s.parent))
    starts_there = start_is fixed ends ss i s.parent holds

    ends_at : end_in ends i ≡ option_map clip (end_of fixed (s ∷ ancestors ss i s.parent))
    ends_at = holds i ∙ ap (λ line. option_map clip (end_of fixed line)) (lineage_of ss i s found)

    -- where a structure has a size, its places in the table are its own
    own_found : IsSome (size_in ends i) → clipped_places fixed (start_in ends i s.parent) s.fields ≡ own_places fixed (lineage ss i)
    own_found sized =
        ap (λ start. clipped_places fixed start s.fields) starts_there
        ∙ sized_places (end_of fixed (ancestors ss i s.parent)) s.fields (subst (λ end. IsSome (size_at end)) ends_at sized)
        ∙ sym (ap (own_places fixed) (lineage_of ss i s found))

    -- where it has none, or no places, it has no size
    own_missing : (size_in ends i ≡ None) ⊎ (clipped_places fixed (start_in ends i s.parent) s.fields ≡ None) → size_in ends i ≡ None
    own_missing (inl none) = none
    own_missing (inr none) =
        ap size_at (ends_at
        ∙ sym (end_same fixed (end_of fixed (ancestors ss i s.parent)) s.fields)
        ∙ ap (λ start. end_behind fixed start s.fields) (sym starts_there)
        ∙ endless_behind (start_in ends i s.parent) s.fields none)

-- the places so far with those of the structures that are left are all places, and their refusals are all
pub record PlacesSoFar (fixed : ℕ → Option ℕ) (ends : List (Option ℕ)) (xs : List Structure) (i : ℕ) (places : List (List FieldPlace)) : Type 0 where
  pub placed : option_map (λ ps. places ++ ps) (collect_at (λ k _. own_places fixed (lineage xs k)) i (drop i xs)) ≡ places_of fixed xs
  pub sized : each_at (λ k _. refused_when (is_none (size_in ends k)) Arith) i (drop i xs) ≡ size_refusals (size_in ends) xs

not_refused : (size : Option ℕ) → IsSome size → refused_when (is_none size) Arith ≡ []
not_refused None sized = absurd cc
not_refused (Some n) sized = refl

module _ (fixed : ℕ → Option ℕ) (ends : List (Option ℕ)) (xs : List Structure) where
  pub places_first : (places : List (List FieldPlace)) → places ≡ [] → PlacesSoFar fixed ends xs 0 places
  places_first places empty = record {
    placed = ap (λ qs. option_map (λ ps. qs ++ ps) (places_of fixed xs)) empty ∙ nothing_before (places_of fixed xs);
    sized = refl;
  }

  pub places_last : (i : ℕ) (places : List (List FieldPlace)) → length xs ≤ i → PlacesSoFar fixed ends xs i places → (places_of fixed xs ≡ Some places) × (size_refusals (size_in ends) xs ≡ [])
  places_last i places past before = (
    sym before.placed
        ∙ ap (λ ys. option_map (λ ps. places ++ ps) (collect_at (λ k _. own_places fixed (lineage xs k)) i ys)) (drop_all i xs past)
        ∙ ap Some (append-nil places),
    sym before.sized
        ∙ ap (λ ys. each_at (λ k _. refused_when (is_none (size_in ends k)) Arith) i ys) (drop_all i xs past),
  )

  module _ (holds : HoldsEnds fixed xs ends) (i : ℕ) (x : Structure) (lt : i < length xs) (is : x ≡ get_or xs i x) where
    left : drop i xs ≡ x ∷ drop (i + 1) xs
    left = drop_item xs i x lt is

    found_is : slice_get xs i ≡ Some x
    found_is = item_at xs i x lt is

    pub places_next : (old : List (List FieldPlace)) (own : List FieldPlace) {places : List (List FieldPlace)} → PlacesSoFar fixed ends xs i old → IsSome (size_in ends i) → clipped_places fixed (start_in ends i x.parent) x.fields ≡ Some own → places ≡ old ++ own ∷ [] → PlacesSoFar fixed ends xs (i + 1) places
    places_next old own {places} before sized found pushed =
        let ss = xs in
        let rest = drop (i + 1) xs in
        let owned : own_places fixed (lineage ss i) ≡ Some own = sym (own_found fixed ends ss holds i x found_is sized) ∙ found in
        let next : i + 1 ≡ suc i = add-one i in
        record {
          placed =
              ap (λ qs. option_map (λ ps. qs ++ ps) (collect_at (λ k _. own_places fixed (lineage ss k)) (i + 1) rest)) pushed
              ∙ ap (λ n. option_map (λ ps. (old ++ own ∷ []) ++ ps) (collect_at (λ k _. own_places fixed (lineage ss k)) n rest)) next
              ∙ sym (one_more old own (collect_at (λ k _. own_places fixed (lineage ss k)) (suc i) rest))
              ∙ sym (ap (λ o. option_map (λ ps. old ++ ps) (option_and_then (λ y. option_map (λ ys. y ∷ ys) (collect_at (λ k _. own_places fixed (lineage ss k)) (suc i) rest)) o)) owned)
              ∙ sym (ap (λ ys. option_map (λ ps. old ++ ps) (collect_at (λ k _. own_places fixed (lineage ss k)) i ys)) left)
              ∙ before.placed;
          sized =
              ap (λ n. each_at (λ k _. refused_when (is_none (size_in ends k)) Arith) n rest) next
              ∙ sym (ap (λ rs. rs ++ each_at (λ k _. refused_when (is_none (size_in ends k)) Arith) (suc i) rest) (not_refused (size_in ends i) sized))
              ∙ sym (ap (λ ys. each_at (λ k _. refused_when (is_none (size_in ends k)) Arith) i ys) left)
              ∙ before.sized;
        }

    -- the first structure without a size is told
    pub places_refused : (old : List (List FieldPlace)) (e : LayoutFault) → PlacesSoFar fixed ends xs i old → (e ≡ faults.NoMemory) ⊎ ((e ≡ faults.Arith) × ((size_in ends i ≡ None) ⊎ (clipped_places fixed (start_in ends i x.parent) x.fields ≡ None))) → Tells (size_refusals (size_in ends) xs) e
    places_refused old e before (inl memory) = inl memory
    places_refused old e before (inr told) =
        let rest = each_at (λ k _. refused_when (is_none (size_in ends k)) Arith) (suc i) (drop (i + 1) xs) in
        let none = own_missing fixed ends xs holds i x found_is told.1 in
        inr (ap told_of (
        sym before.sized
        ∙ ap (λ ys. each_at (λ k _. refused_when (is_none (size_in ends k)) Arith) i ys) left
        ∙ ap (λ o. refused_when (is_none o) Arith ++ rest) none)
        ∙ ap Some (sym told.0))
