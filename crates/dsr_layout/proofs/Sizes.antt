-- The ends and sizes of structures by the table of their ends.
use Rattle.std.proofs.Common.{◌≡◌, ◌<◌, ◌≤◌, ◌+◌, ◌-◌, ◌^◌, ℕ, true, false, nat_lt, List, [], ◌∷◌, ◌++◌, take, length, get_or, inl, inr, Option, None, Some, IsSome, option_map, if◌then◌else◌, refl, sym, ap, ◌∙◌, arith}
use Rattle.std.specs.Option.{option_and_then}
use Rattle.std.proofs.lemmas.Bool.{cases_lt, cases_order, lt-ltb, le-ltb, ltb-true, cond-true, cond-false}
use Rattle.std.proofs.lemmas.List.{get_or_append_left, get_or_at, get_or_past, length-append, length-take-le}
use Rattle.dsr_ir.specs.declared.declarations.Field.{Field}
use Rattle.dsr_ir.specs.declared.declarations.Structure.{Structure}
use Rattle.dsr_meaning.specs.Expressions.{in_range}
use Rattle.dsr_meaning.specs.Extents.{up_to_byte}
use Rattle.dsr_meaning.specs.Places.{lineage, bit_behind_fields, end_of, size_of}
use Rattle.dsr_layout.specs.Ends.{start_in, end_behind}
use Rattle.dsr_layout.specs.Tables.{clip, end_in, size_in, HoldsEnds}
use Rattle.dsr_layout.proofs.Clipping.{behind_same, clip_byte, clip_twice}
use Rattle.dsr_layout.proofs.Items.{take_item}
use Rattle.dsr_layout.proofs.Lineages.{ancestors, lineage_other, lineage_last}

-- the size that an end in the table gives
abbrev pub size_at : Option ℕ → Option ℕ
size_at end = option_and_then (λ e. if nat_lt e (2 ^ 64 - 1) then Some e else None) end

-- an end is a byte boundary, so it isn't clipped where it is below the last number of 64 bits
size_of_byte : (b : ℕ) → size_at (Some (clip (up_to_byte b))) ≡ in_range (up_to_byte b)
size_of_byte b = elim (cases_lt (up_to_byte b) (2 ^ 64)) [
  | inl fits ↦
      let whole : clip (up_to_byte b) ≡ up_to_byte b = omega arith in
      let below : up_to_byte b < 2 ^ 64 - 1 = omega arith in
      ap (λ e. size_at (Some e)) whole
      ∙ cond-true (nat_lt (up_to_byte b) (2 ^ 64 - 1)) (Some (up_to_byte b)) None (lt-ltb (up_to_byte b) (2 ^ 64 - 1) below)
      ∙ sym (cond-true (nat_lt (up_to_byte b) (2 ^ 64)) (Some (up_to_byte b)) None (lt-ltb (up_to_byte b) (2 ^ 64) fits))
  | inr past ↦
      let last : 2 ^ 64 - 1 ≤ clip (up_to_byte b) = omega arith in
      cond-false (nat_lt (clip (up_to_byte b)) (2 ^ 64 - 1)) (Some (clip (up_to_byte b))) None (le-ltb (clip (up_to_byte b)) (2 ^ 64 - 1) last)
      ∙ sym (cond-false (nat_lt (up_to_byte b) (2 ^ 64)) (Some (up_to_byte b)) None (le-ltb (up_to_byte b) (2 ^ 64) past))
]

-- a size that an end gives is below the last number of 64 bits
pub size_below : (e : ℕ) → IsSome (size_at (Some (clip e))) → e < 2 ^ 64 - 1
size_below e sized = elim (nat_lt (clip e) (2 ^ 64 - 1)) as (λ t. nat_lt (clip e) (2 ^ 64 - 1) ≡ t → IsSome (if t then Some (clip e) else None) → e < 2 ^ 64 - 1) [
  | true ↦ λ is h. let below = ltb-true (clip e) (2 ^ 64 - 1) is in omega arith
  | false ↦ λ is h. absurd cc
] refl sized

module _ (fixed : ℕ → Option ℕ) where
  size_same : (line : List Structure) → size_at (option_map clip (end_of fixed line)) ≡ option_and_then in_range (end_of fixed line)
  size_same [] = refl
  size_same (s ∷ line) = elim (end_of fixed line) as (λ o. size_at (option_map clip (option_and_then (λ start. option_map up_to_byte (bit_behind_fields fixed start s.fields)) o)) ≡ option_and_then in_range (option_and_then (λ start. option_map up_to_byte (bit_behind_fields fixed start s.fields)) o)) [
    | None ↦ refl
    | Some start ↦ elim (bit_behind_fields fixed start s.fields) as (λ o. size_at (option_map clip (option_map up_to_byte o)) ≡ option_and_then in_range (option_map up_to_byte o)) [
      | None ↦ refl
      | Some b ↦ size_of_byte b
    ]
  ]

  -- the table of ends tells the sizes of all structures
  pub sizes_are : (structures : List Structure) (ends : List (Option ℕ)) → HoldsEnds fixed structures ends → (i : ℕ) → size_in ends i ≡ size_of fixed structures i
  sizes_are structures ends holds i = ap size_at (holds i) ∙ size_same (lineage structures i)

  -- the end behind fields, whose start may be clipped
  pub end_same : (start : Option ℕ) (fs : List Field) → end_behind fixed (option_map clip start) fs ≡ option_map clip (option_and_then (λ b. option_map up_to_byte (bit_behind_fields fixed b fs)) start)
  end_same None fs = refl
  end_same (Some b) fs =
      inside (bit_behind_fields fixed (clip b) fs)
      ∙ ap (option_map (λ e. clip (up_to_byte e))) (behind_same fixed fs (clip b) b (sym (clip_twice b)))
      ∙ outside (bit_behind_fields fixed b fs)
    where
      inside : (o : Option ℕ) → option_map (λ e. clip (up_to_byte (clip e))) o ≡ option_map (λ e. clip (up_to_byte e)) (option_map clip o)
      inside None = refl
      inside (Some e) = refl

      outside : (o : Option ℕ) → option_map (λ e. clip (up_to_byte e)) (option_map clip o) ≡ option_map clip (option_map up_to_byte o)
      outside None = refl
      outside (Some e) = ap Some (clip_byte e)

  -- the own fields of a structure begin at the end of its parent, if that is declared before it
  pub start_is : (ends : List (Option ℕ)) (ss : List Structure) (i : ℕ) (parent : Option ℕ) → HoldsEnds fixed ss ends → start_in ends i parent ≡ option_map clip (end_of fixed (ancestors ss i parent))
  start_is ends ss i None holds = refl
  start_is ends ss i (Some p) holds = elim (nat_lt p i) as (λ b. (if b then end_in ends p else Some 0) ≡ option_map clip (end_of fixed (if b then lineage ss p else []))) [
    | true ↦ holds p
    | false ↦ refl
  ]

  -- the ends of structures, where one more stands behind
  ends_push : (ends : List (Option ℕ)) (ss : List Structure) (s : Structure) (end : Option ℕ) → length ends ≡ length ss → HoldsEnds fixed ss ends → end ≡ end_behind fixed (start_in ends (length ss) s.parent) s.fields → HoldsEnds fixed (ss ++ s ∷ []) (ends ++ end ∷ [])
  ends_push ends ss s end many holds is i = elim (cases_order i (length ss)) [
    | inl last ↦
        get_or_at ends end [] (Some 0) i (many ∙ sym last)
        ∙ is
        ∙ ap (λ start. end_behind fixed start s.fields) (start_is ends ss (length ss) s.parent holds)
        ∙ end_same (end_of fixed (ancestors ss (length ss) s.parent)) s.fields
        ∙ sym (ap (λ line. option_map clip (end_of fixed line)) (lineage_last ss s i last))
    | inr (inl lt) ↦
        get_or_append_left ends (end ∷ []) (Some 0) i (rw many lt)
        ∙ holds i
        ∙ sym (ap (λ line. option_map clip (end_of fixed line)) (lineage_other ss s i (λ e. omega arith)))
    | inr (inr gt) ↦
        let more : length (ends ++ end ∷ []) ≡ length ends + 1 = length-append ends (end ∷ []) in
        get_or_past (ends ++ end ∷ []) i (Some 0) (omega arith)
        ∙ sym (get_or_past ends i (Some 0) (omega arith))
        ∙ holds i
        ∙ sym (ap (λ line. option_map clip (end_of fixed line)) (lineage_other ss s i (λ e. omega arith)))
  ]

  -- the ends of the structures up to one, and then of that one too
  pub ends_next : (xs : List Structure) (i : ℕ) (x : Structure) → i < length xs → x ≡ get_or xs i x → (old : List (Option ℕ)) {ends : List (Option ℕ)} {end : Option ℕ} → length old ≡ i → HoldsEnds fixed (take i xs) old → ends ≡ old ++ end ∷ [] → end ≡ end_behind fixed (start_in old (length old) x.parent) x.fields → (length ends ≡ i + 1) × HoldsEnds fixed (take (i + 1) xs) ends
  ends_next xs i x lt is old {ends} {end} many holds pushed made =
      let ss = take i xs in
      let taken : length ss ≡ i = length-take-le i xs (omega arith) in
      let made_at = made ∙ ap (λ n. end_behind fixed (start_in old n x.parent) x.fields) (many ∙ sym taken) in
      let more : take (i + 1) xs ≡ ss ++ x ∷ [] = take_item xs i x lt is in (
        ap length pushed ∙ length-append old (end ∷ []) ∙ ap (λ n. n + 1) many,
        λ k. ap (λ es. end_in es k) pushed ∙ ends_push old ss x end (many ∙ sym taken) holds made_at k ∙ sym (ap (λ ys. option_map clip (end_of fixed (lineage ys k))) more),
      )
