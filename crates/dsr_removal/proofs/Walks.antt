-- A walk from a member to what it waits for, and on, comes to a member twice.
use Rattle.std.proofs.Common.{◌≡◌, ◌<◌, ◌≤◌, ◌++◌, ◌⊎◌, inl, inr, ℕ, zero, suc, List, [], ◌∷◌, Option, None, Some, length, get_or, take, drop, slice_get, refl, sym, ap, subst, ◌∙◌, arith}
use Rattle.std.specs.Prelude.{IsSome, IsSomeAnd}
use Rattle.std.proofs.lemmas.List.{append_assoc, length-map, take-append-drop}
use Rattle.dsr_meaning.proofs.Lists.{in_front_or_last}
use Rattle.dsr_meaning.specs.Counting.{IsDistinct, IsIn}
use Rattle.dsr_plan_theory.specs.StuckSets.{AreWaiting, AwaitsMember, IsAmong, IsCycle, numbers_of}
use Rattle.dsr_plan_theory.specs.declared.refusals.StuckMember.{StuckMember}
use Rattle.dsr_removal.proofs.Items.{distinct_more, first_in}
use Rattle.dsr_removal.specs.Members.{IsWalk, WaitsAmong}
use Rattle.dsr_meaning.proofs.Counts.{no_more}

-- ---- different things that all stand in a list are no more than its places

-- ---- paths

waiting_more : (members : List StuckMember) (path : List ℕ) (at next : ℕ) → AreWaiting members (path ++ at ∷ []) → AwaitsMember members at next → AreWaiting members ((path ++ at ∷ []) ++ next ∷ [])
waiting_more members [] at next e link = (link, tt)
waiting_more members (x ∷ []) at next e link = (e.0, (link, tt))
waiting_more members (x ∷ y ∷ path) at next e link = (e.0, waiting_more members (y ∷ path) at next e.1 link)

starts_more : (path : List ℕ) (at next first : ℕ) → slice_get (path ++ at ∷ []) 0 ≡ Some first → slice_get ((path ++ at ∷ []) ++ next ∷ []) 0 ≡ Some first
starts_more [] at next first starts = starts
starts_more (x ∷ path) at next first starts = starts

drop_at : (xs : List ℕ) (i x : ℕ) → slice_get xs i ≡ Some x → drop i xs ≡ x ∷ drop (suc i) xs
drop_at [] i x here = absurd cc
drop_at (y ∷ xs) zero x here = let same : y ≡ x = cc in ap (λ z. z ∷ xs) same
drop_at (y ∷ xs) (suc i) x here = drop_at xs i x here

module _ (members : List StuckMember) where
  pub walk_starts : (first : ℕ) → slice_get (numbers_of members) 0 ≡ Some first → IsWalk members [] first
  walk_starts first here = record {
    first = first;
    first_is = here;
    starts = refl;
    waiting = tt;
    distinct = tt;
    among = λ n none_is. absurd none_is;
    here = first_in (numbers_of members) first here;
  }

  pub walks_on : (path : List ℕ) (at next : ℕ) → IsWalk members path at → (IsIn at path → ⊥) → WaitsAmong members at next → IsWalk members (path ++ at ∷ []) next
  walks_on path at next walk new waits = record {
    first = walk.first;
    first_is = walk.first_is;
    starts = starts_more path at next walk.first walk.starts;
    waiting = waiting_more members path at next walk.waiting waits.awaits;
    distinct = distinct_more at path walk.distinct new;
    among = λ n there. elim (in_front_or_last at n path there) as (λ _. IsAmong members n) [
      | inl front ↦ walk.among n front
      | inr last ↦ subst (IsAmong members) (sym last) walk.here
    ];
    here = waits.among;
  }

  -- as long as it comes to new members, there are more of them
  pub walk_short : (path : List ℕ) (at : ℕ) → IsWalk members path at → (IsIn at path → ⊥) → length path < length members
  walk_short path at walk new =
      let most = no_more (at ∷ path) (numbers_of members) (new, walk.distinct) (λ n there. elim there as (λ _. IsAmong members n) [
        | inl same ↦ subst (IsAmong members) (sym same) walk.here
        | inr later ↦ walk.among n later
      ]) in
      let many : length (numbers_of members) ≡ length members = length-map members (λ m. m.constraint) in
      omega (arith, most, many)

  -- where it comes to a member twice, it closes
  pub closes : (path : List ℕ) (at place : ℕ) (numbers : List ℕ) → IsWalk members path at → slice_get path place ≡ Some at → numbers ≡ drop place path ++ at ∷ [] → IsCycle members numbers
  closes path at place numbers walk there numbers_is =
      let begins = drop_at path place at there in
      let split : take place path ++ at ∷ drop (suc place) path ≡ path = ap (λ xs. take place path ++ xs) (sym begins) ∙ take-append-drop place path in
      let whole : take place path ++ numbers ≡ path ++ at ∷ [] = ap (λ xs. take place path ++ xs) numbers_is ∙ (sym (append_assoc (take place path) (drop place path) (at ∷ [])) ∙ ap (λ xs. xs ++ at ∷ []) (take-append-drop place path)) in
      record {
        before = take place path;
        between = drop (suc place) path;
        again = at;
        numbers_are = numbers_is ∙ ap (λ xs. xs ++ at ∷ []) begins;
        first = walk.first;
        first_is = walk.first_is;
        starts = ap (λ xs. slice_get xs 0) whole ∙ walk.starts;
        waiting = subst (AreWaiting members) (sym whole) walk.waiting;
        distinct = subst IsDistinct (sym split) walk.distinct;
      }

-- ---- what was found

pub found_there : (P : ℕ → Type 0) (found : Option ℕ) (n : ℕ) → IsSomeAnd found P → found ≡ Some n → P n
found_there P None n its is = absurd its
found_there P (Some m) n its is = let same : m ≡ n = cc in subst P same its

pub found_some : (P : ℕ → Type 0) (found : Option ℕ) → IsSomeAnd found P → IsSome found
found_some P None its = absurd its
found_some P (Some m) its = refl

pub first_number : (members : List StuckMember) (d : StuckMember) → 0 < length members → slice_get (numbers_of members) 0 ≡ Some (get_or members 0 d).constraint
first_number [] d some = absurd (omega (arith, some))
first_number (m ∷ members) d some = refl
