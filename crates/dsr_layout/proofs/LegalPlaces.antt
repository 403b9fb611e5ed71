-- What is known of the places of fields that are aligned.
use Rattle.std.proofs.Common.{◌≡◌, ◌+◌, ◌*◌, ◌%◌, ℕ, zero, suc, true, false, ◌||◌, nat_eq, List, [], ◌∷◌, ◌++◌, reverse, length, All, Option, None, Some, IfSome, is_some, option_map, option_and_then, if◌then◌else◌, refl, sym, ap, ◌∙◌, subst, arith}
use Rattle.std.specs.Option.{option_map_or}
use Rattle.std.proofs.lemmas.List.{reverse-append}
use Rattle.std.proofs.lemmas.Option.{IfSome_then}
use Rattle.dsr_ir.specs.Exprs.{ExprShape}
use Rattle.dsr_ir.specs.declared.declarations.Field.{Field}
use Rattle.dsr_ir.specs.declared.declarations.Structure.{Structure}
use Rattle.dsr_meaning.proofs.Bits.{byte_begins, bit_behind_in_byte}
use Rattle.dsr_meaning.specs.Cells.{width_bits}
use Rattle.dsr_meaning.specs.Expressions.{value_of}
use Rattle.dsr_meaning.specs.Extents.{Extent, up_to_byte, bit_behind}
use Rattle.dsr_meaning.specs.Layouts.{collect_at, places_of}
use Rattle.dsr_meaning.specs.Legal.{IsLegalPlace}
use Rattle.dsr_meaning.specs.Places.{lineage_in, lineage, entries_of, extent_of, bit_behind_fields, placed, end_of, own_places}
use Rattle.dsr_meaning.specs.Placeable.{HasLegalWidth, plain_extent, AreAligned, IsPlaceableStructure}

-- what holds of each item, by the items one after the other
abbrev pub Each : {T : Type 0} → (T → Type 0) → List T → Type 0
Each P [] = Unit {0}
Each P (x ∷ xs) = P x × Each P xs

module _ {T : Type 0} (P : T → Type 0) where
  each_of : (xs : List T) → All P xs → Each P xs
  each_of [] all = tt
  each_of (x ∷ xs) all = (all zero x (omega arith), each_of xs (λ k d lt. all (suc k) d (omega (arith, lt))))

  pub all_of : (xs : List T) → Each P xs → All P xs
  all_of [] each k d lt = absurd (omega (arith, lt))
  all_of (x ∷ xs) each zero d lt = each.0
  all_of (x ∷ xs) each (suc k) d lt = all_of xs each.1 k d (omega (arith, lt))

  each_append : (xs ys : List T) → Each P xs → Each P ys → Each P (xs ++ ys)
  each_append [] ys a b = b
  each_append (x ∷ xs) ys a b = (a.0, each_append xs ys a.1 b)

  each_reverse : (xs : List T) → Each P xs → Each P (reverse xs)
  each_reverse [] each = tt
  each_reverse (x ∷ xs) each = subst (Each P) (sym (reverse-append (x ∷ []) xs)) (each_append (reverse xs) (x ∷ []) (each_reverse xs each.1) (each.0, tt))

-- the place of a bit in its byte after a field depends on its place before
same_behind : (a b : ℕ) (e : Extent) → a % 8 ≡ b % 8 → bit_behind a e % 8 ≡ bit_behind b e % 8
same_behind a b e same = sym (bit_behind_in_byte a e) ∙ (ap (λ n. bit_behind n e % 8) same ∙ bit_behind_in_byte b e)

-- how many entries an array has is no matter for it
plain_behind : (fixed : ℕ → Option ℕ) (bit : ℕ) (f : Field) → IfSome (extent_of fixed f) (λ e. bit_behind bit e % 8 ≡ bit_behind bit (plain_extent f) % 8)
plain_behind fixed bit f = by_length f.len
  where
    bits : ℕ
    bits = width_bits f.width

    by_length : (len : Option ExprShape) → IfSome (option_map (λ entries. record { bits = bits; entries = entries }) (entries_of fixed len)) (λ e. bit_behind bit e % 8 ≡ bit_behind bit (record { bits = bits; entries = option_map (λ _. 0) len }) % 8)
    by_length None = refl
    by_length (Some e) = elim (value_of fixed e) as (λ o. IfSome (option_map (λ entries. record { bits = bits; entries = entries }) (option_map Some o)) (λ x. bit_behind bit x % 8 ≡ bit_behind bit (record { bits = bits; entries = Some 0 }) % 8)) [
      | None ↦ tt
      | Some n ↦ byte_begins (bit + n * bits) ∙ sym (byte_begins (bit + 0 * bits))
    ]

-- fields that are aligned have legal places, wherever they begin in the same way
placed_legal : (fixed : ℕ → Option ℕ) (bit plain : ℕ) (fs : List Field) → bit % 8 ≡ plain % 8 → Each HasLegalWidth fs → AreAligned plain fs → IfSome (placed fixed bit fs) (Each IsLegalPlace)
placed_legal fixed bit plain [] same widths aligned = tt
placed_legal fixed bit plain (f ∷ fs) same widths aligned =
    elim (extent_of fixed f) as (λ o. IfSome o (λ e. bit_behind bit e % 8 ≡ bit_behind bit (plain_extent f) % 8) → IfSome (option_and_then (λ e. option_map (λ places. record { bit = bit; width = f.width; length = e.entries } ∷ places) (placed fixed (bit_behind bit e) fs)) o) (Each IsLegalPlace)) [
      | None ↦ λ _. tt
      | Some e ↦ λ behind. elim (placed fixed (bit_behind bit e) fs) as (λ o. IfSome o (Each IsLegalPlace) → IfSome (option_map (λ places. record { bit = bit; width = f.width; length = e.entries } ∷ places) o) (Each IsLegalPlace)) [
        | None ↦ λ _. tt
        | Some places ↦ λ rest. (record { width = widths.0; aligned = λ whole. same ∙ aligned.0 (ap (λ b. b || is_some f.len) whole) }, rest)
      ] (placed_legal fixed (bit_behind bit e) (bit_behind plain (plain_extent f)) fs (behind ∙ same_behind bit plain (plain_extent f) same) widths.1 aligned.1)
    ] (plain_behind fixed bit f)

-- a structure ends at a byte
pub ends_at_byte : (fixed : ℕ → Option ℕ) (line : List Structure) → IfSome (end_of fixed line) (λ e. e % 8 ≡ 0)
ends_at_byte fixed [] = refl
ends_at_byte fixed (s ∷ line) = elim (end_of fixed line) as (λ o. IfSome (option_and_then (λ start. option_map up_to_byte (bit_behind_fields fixed start s.fields)) o) (λ e. e % 8 ≡ 0)) [
  | None ↦ tt
  | Some start ↦ elim (bit_behind_fields fixed start s.fields) as (λ o. IfSome (option_map up_to_byte o) (λ e. e % 8 ≡ 0)) [
    | None ↦ tt
    | Some bit ↦ byte_begins bit
  ]
]

own_legal : (fixed : ℕ → Option ℕ) (line : List Structure) → Each IsPlaceableStructure line → IfSome (own_places fixed line) (All IsLegalPlace)
own_legal fixed [] placeable = tt
own_legal fixed (s ∷ line) placeable = elim (end_of fixed line) as (λ o. IfSome o (λ e. e % 8 ≡ 0) → IfSome (option_and_then (λ start. placed fixed start s.fields) o) (All IsLegalPlace)) [
  | None ↦ λ _. tt
  | Some start ↦ λ at_byte. IfSome_then (placed fixed start s.fields) (placed_legal fixed start 0 s.fields at_byte (each_of HasLegalWidth s.fields placeable.0.widths) placeable.0.aligned) (all_of IsLegalPlace)
] (ends_at_byte fixed line)

-- a lineage is made of declared structures
lineage_each : (P : Structure → Type 0) (ss : List Structure) → Each P ss → (i : ℕ) → Each P (lineage_in ss i)
lineage_each P [] each i = tt
lineage_each P (s ∷ earlier) each i = elim (nat_eq i (length earlier)) as (λ b. Each P (if b then s ∷ option_map_or (lineage_in earlier) s.parent [] else lineage_in earlier i)) [
  | true ↦ (each.0, elim s.parent as (λ o. Each P (option_map_or (lineage_in earlier) o [])) [ None ↦ tt | Some p ↦ lineage_each P earlier each.1 p ])
  | false ↦ lineage_each P earlier each.1 i
]

collect_each : {S T : Type 0} (f : ℕ → S → Option T) (P : T → Type 0) → ((n : ℕ) (x : S) → IfSome (f n x) P) → (n : ℕ) (xs : List S) → IfSome (collect_at f n xs) (Each P)
collect_each f P h n [] = tt
collect_each f P h n (x ∷ xs) = elim (f n x) as (λ o. IfSome o P → IfSome (option_and_then (λ y. option_map (λ ys. y ∷ ys) (collect_at f (suc n) xs)) o) (Each P)) [
  | None ↦ λ _. tt
  | Some y ↦ λ p. elim (collect_at f (suc n) xs) as (λ o. IfSome o (Each P) → IfSome (option_map (λ ys. y ∷ ys) o) (Each P)) [
    | None ↦ λ _. tt
    | Some ys ↦ λ rest. (p, rest)
  ] (collect_each f P h (suc n) xs)
] (h n x)

-- the places of the fields of placeable structures are legal
pub legal_places : (fixed : ℕ → Option ℕ) (structures : List Structure) → All IsPlaceableStructure structures → IfSome (places_of fixed structures) (All (All IsLegalPlace))
legal_places fixed structures placeable =
    IfSome_then (places_of fixed structures) (collect_each (λ i _. own_places fixed (lineage structures i)) (All IsLegalPlace) (λ i _. own_legal fixed (lineage structures i) (lineage_each IsPlaceableStructure (reverse structures) (each_reverse IsPlaceableStructure structures (each_of IsPlaceableStructure structures placeable)) i)) 0 structures) (all_of (All IsLegalPlace))
