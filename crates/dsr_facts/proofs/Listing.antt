-- The numbers of what is marked, as far as they are listed.
use Rattle.std.proofs.Common.{◌≡◌, ◌<◌, ◌+◌, ◌↔◌, ◌++◌, ◌∙◌, inl, inr, ℕ, zero, suc, Bool, false, List, [], ◌∷◌, length, get_or, refl, sym, ap, subst, arith}
use Rattle.std.specs.List.Sorted.{IsStrictlyIncreasing}
use Rattle.std.proofs.Math.ListN.{length-append}
use Rattle.std.proofs.Math.Seq.{get_or-append_seam}
use Rattle.std.proofs.lemmas.Bool.{cases_lt, false≢true}
use Rattle.std.proofs.lemmas.List.{get_or_append_left}
use Rattle.dsr_meaning.proofs.Lists.{in_front_or_last, last_in}
use Rattle.dsr_meaning.specs.Counting.{IsIn}
use Rattle.dsr_facts.specs.Marks.{IsMarked}
use Rattle.dsr_meaning.proofs.Items.{in_left}

pub record IsListed (marks : List Bool) (sets : List ℕ) (count : ℕ) : Type 0 where
  pub sound : (set : ℕ) → IsIn set sets → (set < count) × IsMarked marks set
  pub complete : (set : ℕ) → set < count → IsMarked marks set → IsIn set sets
  pub rising : IsStrictlyIncreasing sets

pub none_listed : (marks : List Bool) → IsListed marks [] 0
none_listed marks = record {
  sound = λ set h. absurd h;
  complete = λ set less h. absurd (omega (arith, less));
  rising = λ k less. absurd (omega (arith, less));
}

pub item_in : (xs : List ℕ) (k : ℕ) → k < length xs → IsIn (get_or xs k 0) xs
item_in [] k less = absurd (omega (arith, less))
item_in (x ∷ xs) zero less = inl refl
item_in (x ∷ xs) (suc k) less = inr (item_in xs k (omega (arith, less)))

rising_more : (xs : List ℕ) (n : ℕ) → ((x : ℕ) → IsIn x xs → x < n) → IsStrictlyIncreasing xs → IsStrictlyIncreasing (xs ++ n ∷ [])
rising_more xs n less rising = λ k within.
    let size = length-append xs (n ∷ []) in
    let here : k < length xs = omega (arith, within, size) in
    let front : get_or (xs ++ n ∷ []) k 0 ≡ get_or xs k 0 = get_or_append_left xs (n ∷ []) 0 k here in
    elim (cases_lt (k + 1) (length xs)) [
      | inl inside ↦
          let after : get_or (xs ++ n ∷ []) (k + 1) 0 ≡ get_or xs (k + 1) 0 = get_or_append_left xs (n ∷ []) 0 (k + 1) inside in
          omega (arith, front, after, rising k inside)
      | inr past ↦
          let last : k + 1 ≡ length xs = omega (arith, here, past) in
          let after : get_or (xs ++ n ∷ []) (k + 1) 0 ≡ n = ap (λ j. get_or (xs ++ n ∷ []) j 0) last ∙ get_or-append_seam xs n [] 0 in
          omega (arith, front, after, less (get_or xs k 0) (item_in xs k here))
    ]

pub listed_more : (marks : List Bool) (sets : List ℕ) (count : ℕ) → IsMarked marks count → IsListed marks sets count → IsListed marks (sets ++ count ∷ []) (count + 1)
listed_more marks sets count marked far = record {
  sound = λ set h. elim (in_front_or_last count set sets h) [
    | inl front ↦ (omega (arith, (far.sound set front).0), (far.sound set front).1)
    | inr last ↦ (omega (arith, last), subst (IsMarked marks) (sym last) marked)
  ];
  complete = λ set less h. elim (cases_lt set count) [
    | inl before ↦ in_left set sets (count ∷ []) (far.complete set before h)
    | inr past ↦
        let same : count ≡ set = omega (arith, less, past) in
        subst (λ n. IsIn n (sets ++ count ∷ [])) same (last_in count sets)
  ];
  rising = rising_more sets count (λ x h. (far.sound x h).0) far.rising;
}

pub listed_same : (marks : List Bool) (sets : List ℕ) (count : ℕ) → get_or marks count false ≡ false → IsListed marks sets count → IsListed marks sets (count + 1)
listed_same marks sets count unmarked far = record {
  sound = λ set h. (omega (arith, (far.sound set h).0), (far.sound set h).1);
  complete = λ set less h. elim (cases_lt set count) [
    | inl before ↦ far.complete set before h
    | inr past ↦
        let same : set ≡ count = omega (arith, less, past) in
        absurd (false≢true (sym unmarked ∙ subst (IsMarked marks) same h))
  ];
  rising = far.rising;
}

pub all_listed : (marks : List Bool) (sets : List ℕ) (count : ℕ) (Known : ℕ → Type 0) → ((set : ℕ) → Known set → set < count) → ((set : ℕ) → IsMarked marks set ↔ Known set) → IsListed marks sets count
    → (set : ℕ) → IsIn set sets ↔ Known set
all_listed marks sets count Known declared told far = λ set. (
  λ h. (told set).0 (far.sound set h).1,
  λ known. far.complete set (declared set known) ((told set).1 known),
)
