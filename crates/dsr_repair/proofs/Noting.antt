-- Bytes that are noted, by rising place.
use Rattle.std.proofs.Common.{◌≡◌, ◌≤◌, ◌<◌, ◌+◌, ◌-◌, ◌∙◌, ℕ, zero, suc, Bool, true, false, not, nat_eq, List, [], ◌∷◌, ◌++◌, All, Some, length, map, take, drop, get_or, set, slice_index, inl, inr, refl, sym, ap, subst, append_assoc, arith, if◌then◌else◌}
use Rattle.std.proofs.Math.Seq.{drop-cons}
use Rattle.std.proofs.lemmas.Bool.{cases_lt}
use Rattle.std.proofs.lemmas.Bool.Decides.{nat_tests}
use Rattle.std.proofs.lemmas.List.{append-nil, drop_all, drop-drop, get_or-drop, length-drop, length-map, take-append-le, take_all}
use Rattle.std.proofs.lemmas.List.Edits.{map_over_more}
use Rattle.std.proofs.lemmas.List.Elements.{All-nil, All-cons}
use Rattle.std.proofs.lemmas.List.Sums.{count_by-le-length, length-filter}
use Rattle.std.proofs.lemmas.Option.{slice_get-get_or}
use Rattle.dsr_repair.specs.Notes.{AreNoted, changed, is_change, note_of, notes_of, renewed}
use Rattle.dsr_repair.specs.Spans.{IsClear}
use Rattle.dsr_repair.specs.declared.spans.Span.{Span}
use Rattle.dsr_repair_theory.specs.Entries.{changes, changes_from}
use Rattle.dsr_repair_theory.specs.declared.entries.ByteChange.{ByteChange}

-- ---- a row of bytes, one after the other

pub notes_next : (bytes : List ℕ) (notes : List ByteChange) (place end : ℕ) → place < end → (notes ++ note_of bytes place ∷ []) ++ notes_of bytes (place + 1) (end - (place + 1)) ≡ notes ++ notes_of bytes place (end - place)
notes_next bytes notes place end below =
    let more : end - place ≡ suc (end - (place + 1)) = omega (arith, below) in
    append_assoc notes (note_of bytes place ∷ []) (notes_of bytes (place + 1) (end - (place + 1)))
    ∙ sym (ap (λ n. notes ++ notes_of bytes place n) more)

-- ---- all that are noted

module _ (spans : List Span) (bytes : List ℕ) where
  -- from a place before, where no byte between is in a span
  begins_sooner : (place start : ℕ) (notes : List ByteChange) → place ≤ start → ((j : ℕ) → place ≤ j → j < start → IsClear spans j) → AreNoted spans bytes start notes → AreNoted spans bytes place notes
  begins_sooner place start [] below clear none = λ j from. elim (cases_lt j start) as (λ _. IsClear spans j) [
    | inl before ↦ clear j from before
    | inr behind ↦ none j behind
  ]
  begins_sooner place start (note ∷ notes) below clear are = (
    record {
      from = let later = are.0.from in omega (arith, below, later);
      before = λ j from before. elim (cases_lt j start) as (λ _. IsClear spans j) [
        | inl less ↦ clear j from less
        | inr behind ↦ are.0.before j behind before
      ];
      below = are.0.below;
      old_is = are.0.old_is;
    },
    are.1,
  )

  -- a row of bytes, and then others
  row_noted : (count start : ℕ) (notes : List ByteChange) → start + count ≤ length bytes → AreNoted spans bytes (start + count) notes → AreNoted spans bytes start (notes_of bytes start count ++ notes)
  row_noted zero start notes within are = let same : start + 0 ≡ start = omega arith in subst (λ n. AreNoted spans bytes n notes) same are
  row_noted (suc count) start notes within are =
      let same : start + suc count ≡ (start + 1) + count = omega arith in
      let next : start + 1 ≡ suc start = omega arith in (
        record {
          from = omega arith;
          before = λ j from before. absurd (omega (arith, from, before));
          below = omega (arith, within);
          old_is = refl;
        },
        subst (λ n. AreNoted spans bytes n (notes_of bytes (start + 1) count ++ notes)) next
            (row_noted count (start + 1) notes (omega (arith, within)) (subst (λ n. AreNoted spans bytes n notes) same are)),
      )

  -- the bytes of the span that comes next
  pub span_noted : (place start end : ℕ) (so_far : List ByteChange)
      → place ≤ start → start ≤ end → end ≤ length bytes → ((j : ℕ) → place ≤ j → j < start → IsClear spans j)
      → ((rest : List ByteChange) → AreNoted spans bytes place rest → AreNoted spans bytes 0 (so_far ++ rest))
      → (notes : List ByteChange) → notes ≡ so_far ++ notes_of bytes start (end - start)
      → (rest : List ByteChange) → AreNoted spans bytes end rest → AreNoted spans bytes 0 (notes ++ rest)
  span_noted place start end so_far from ordered within clear goes_on notes notes_are rest are =
      let whole : start + (end - start) ≡ end = omega (arith, ordered) in
      let row = notes_of bytes start (end - start) in
      subst (λ ns. AreNoted spans bytes 0 (ns ++ rest)) (sym notes_are)
      (subst (AreNoted spans bytes 0) (sym (append_assoc so_far row rest))
      (goes_on (row ++ rest)
      (begins_sooner place start (row ++ rest) from clear
      (row_noted (end - start) start rest (omega (arith, whole, within)) (subst (λ n. AreNoted spans bytes n rest) (sym whole) are)))))

  -- each is a byte of the image
  pub noted_below : (place : ℕ) (notes : List ByteChange) → AreNoted spans bytes place notes → All (λ n. n.place < length bytes) notes
  noted_below place [] are = All-nil (λ n. n.place < length bytes)
  noted_below place (note ∷ notes) are = All-cons (λ n. n.place < length bytes) note notes are.0.below (noted_below (suc note.place) notes are.1)

-- ---- the noted bytes that are others now are those that differ

-- where all is the same up to a place, what differs differs from there on
skip : (count at : ℕ) (old new : List ℕ) → length new ≡ length old → ((j : ℕ) → j < count → slice_index new j ≡ slice_index old j) → changes_from at old new ≡ changes_from (at + count) (drop count old) (drop count new)
skip zero at old new long same = let is : at ≡ at + 0 = omega arith in ap (λ n. changes_from n old new) is
skip (suc count) at [] [] long same = refl
skip (suc count) at [] (b ∷ new) long same = absurd (omega (arith, long))
skip (suc count) at (a ∷ old) [] long same = absurd (omega (arith, long))
skip (suc count) at (a ∷ old) (b ∷ new) long same =
    let first : b ≡ a = same 0 (omega arith) in
    let equal : nat_eq a b ≡ true = grind (arith, nat_tests, first) in
    let next : suc at + count ≡ at + suc count = omega arith in
    ap (λ t. if t then changes_from (suc at) old new else record { place = at; old = a; new = b } ∷ changes_from (suc at) old new) equal
    ∙ (skip count (suc at) old new (omega (arith, long)) (λ j below. same (suc j) (omega (arith, below)))
    ∙ ap (λ n. changes_from n (drop count old) (drop count new)) next)

-- where all is the same, nothing differs
none_differ : (at : ℕ) (old new : List ℕ) → length new ≡ length old → ((j : ℕ) → j < length old → slice_index new j ≡ slice_index old j) → changes_from at old new ≡ []
none_differ at [] [] long same = refl
none_differ at [] (b ∷ new) long same = absurd (omega (arith, long))
none_differ at (a ∷ old) [] long same = absurd (omega (arith, long))
none_differ at (a ∷ old) (b ∷ new) long same =
    let first : b ≡ a = same 0 (omega arith) in
    let equal : nat_eq a b ≡ true = grind (arith, nat_tests, first) in
    ap (λ t. if t then changes_from (suc at) old new else record { place = at; old = a; new = b } ∷ changes_from (suc at) old new) equal
    ∙ none_differ (suc at) old new (omega (arith, long)) (λ j below. same (suc j) (omega (arith, below)))

-- one noted byte, and the first that may differ
one_kept : (place a b noted : ℕ) (kept rest : List ByteChange) → noted ≡ a → kept ≡ rest
    → (if not (nat_eq noted b) then record { place = place; old = noted; new = b } ∷ kept else kept)
    ≡ (if nat_eq a b then rest else record { place = place; old = a; new = b } ∷ rest)
one_kept place a b noted kept rest same later =
    (λ i. if not (nat_eq (same i) b) then record { place = place; old = same i; new = b } ∷ later i else later i) ∙ by_test (nat_eq a b)
  where
    by_test : (t : Bool) → (if not t then record { place = place; old = a; new = b } ∷ rest else rest) ≡ (if t then rest else record { place = place; old = a; new = b } ∷ rest)
    by_test true = refl
    by_test false = refl

module _ (spans : List Span) (old new : List ℕ) (long : length new ≡ length old) (stays : (j : ℕ) → IsClear spans j → slice_index new j ≡ slice_index old j) where
  as_long : (at : ℕ) → length (drop at new) ≡ length (drop at old)
  as_long at = omega (arith, length-drop at new, length-drop at old, long)

  same_behind : (at j : ℕ) → IsClear spans (at + j) → slice_index (drop at new) j ≡ slice_index (drop at old) j
  same_behind at j clear = get_or-drop at new j 0 ∙ (stays (at + j) clear ∙ sym (get_or-drop at old j 0))

  differ_behind : (place p : ℕ) → place ≤ p → ((j : ℕ) → place ≤ j → j < p → IsClear spans j) → changes_from place (drop place old) (drop place new) ≡ changes_from p (drop p old) (drop p new)
  differ_behind place p behind clear =
      let count = p - place in
      let whole : place + (p - place) ≡ p = omega (arith, behind) in
      skip count place (drop place old) (drop place new) (as_long place)
      (λ j below. same_behind place j (clear (place + j) (omega arith) (omega (arith, below, behind))))
      ∙ ((λ i. changes_from (place + count) (drop-drop count place old i) (drop-drop count place new i))
      ∙ ap (λ n. changes_from n (drop n old) (drop n new)) whole)

  differ_first : (p : ℕ) → p < length old → changes_from p (drop p old) (drop p new)
      ≡ (if nat_eq (slice_index old p) (slice_index new p) then changes_from (suc p) (drop (suc p) old) (drop (suc p) new)
      else record { place = p; old = slice_index old p; new = slice_index new p } ∷ changes_from (suc p) (drop (suc p) old) (drop (suc p) new))
  differ_first p below = λ i. changes_from p (drop-cons old p 0 below i) (drop-cons new p 0 (omega (arith, below, long)) i)

  changed_from : (place : ℕ) (notes : List ByteChange) → AreNoted spans old place notes → changed new notes ≡ changes_from place (drop place old) (drop place new)
  changed_from place [] none = sym (none_differ place (drop place old) (drop place new) (as_long place) (λ j _. same_behind place j (none (place + j) (omega arith))))
  changed_from place (note ∷ notes) are =
      one_kept note.place (slice_index old note.place) (slice_index new note.place) note.old (changed new notes)
      (changes_from (suc note.place) (drop (suc note.place) old) (drop (suc note.place) new)) are.0.old_is (changed_from (suc note.place) notes are.1)
      ∙ (sym (differ_first note.place are.0.below) ∙ sym (differ_behind place note.place are.0.from are.0.before))

  -- where all others stay, the noted bytes that are others now are all that differ
  pub changed_are : (notes : List ByteChange) → AreNoted spans old 0 notes → changed new notes ≡ changes old new
  changed_are notes are = changed_from 0 notes are

-- ---- no more are kept than were noted

pub changed_few : (bytes : List ℕ) (notes : List ByteChange) → length (changed bytes notes) ≤ length notes
changed_few bytes notes =
    let all = map (renewed bytes) notes in
    omega (arith, length-filter is_change all, count_by-le-length is_change all, length-map notes (renewed bytes))

-- ---- the notes, renewed one after the other

-- any default serves where an item is
any_default : (notes : List ByteChange) (i : ℕ) (d e : ByteChange) → i < length notes → get_or notes i d ≡ get_or notes i e
any_default notes i d e within =
    let both : Some (get_or notes i d) ≡ Some (get_or notes i e) = sym (slice_get-get_or notes i d within) ∙ slice_get-get_or notes i e within in cc

pub renewed_more :
    (bytes : List ℕ) (first notes : List ByteChange) (i byte : ℕ) (d : ByteChange) → i < length first → i < length notes
    → notes ≡ map (renewed bytes) (take i first) ++ drop i first → byte ≡ slice_index bytes (get_or notes i d).place
    → set notes i (record { place = (get_or notes i d).place; old = (get_or notes i d).old; new = byte })
    ≡ map (renewed bytes) (take (i + 1) first) ++ drop (i + 1) first
renewed_more bytes first notes i byte d within inside so_far read =
    let note = get_or notes i d in
    ap (λ b. set notes i (record { place = note.place; old = note.old; new = b })) read
    ∙ map_over_more (renewed bytes) first notes i note within so_far (any_default notes i d note inside)

pub all_renewed : (bytes : List ℕ) (old was new : List ByteChange) (i len : ℕ) → was ≡ old → len ≡ length old
    → new ≡ map (renewed bytes) (take i was) ++ drop i was → length was ≤ i
    → take len (new ++ drop (length new) old) ≡ map (renewed bytes) old
all_renewed bytes old was new i len same is_len written past =
    let all : new ≡ map (renewed bytes) old = written ∙ ap (λ l. map (renewed bytes) (take i l) ++ drop i l) same ∙ everything old i (omega (arith, ap length same)) in
    let long : length new ≡ length old = ap length all ∙ length-map old (renewed bytes) in
    take-append-le len new (drop (length new) old) (omega arith) ∙ take_all len new (omega arith) ∙ all
  where
    everything : (l : List ByteChange) (i : ℕ) → length l ≤ i → map (renewed bytes) (take i l) ++ drop i l ≡ map (renewed bytes) l
    everything l i past = rw (take_all i l past, drop_all i l past, append-nil) refl
