-- Marks of sets, of which one more is set.
use Rattle.std.proofs.Common.{◌≡◌, ◌<◌, ◌⊎◌, inl, inr, ℕ, zero, suc, Bool, true, false, List, [], ◌∷◌, length, set, replicate, refl, ap, arith}
use Rattle.std.proofs.lemmas.Bool.{false≢true}
use Rattle.dsr_facts.specs.Marks.{IsMarked}

pub marked_here : (marks : List Bool) (n : ℕ) → n < length marks → IsMarked (set marks n true) n
marked_here [] n less = absurd (omega (arith, less))
marked_here (m ∷ marks) zero less = refl
marked_here (m ∷ marks) (suc n) less = marked_here marks n (omega (arith, less))

pub marked_still : (marks : List Bool) (n other : ℕ) → IsMarked marks other → IsMarked (set marks n true) other
marked_still [] n other h = h
marked_still (m ∷ marks) zero zero h = refl
marked_still (m ∷ marks) zero (suc other) h = h
marked_still (m ∷ marks) (suc n) zero h = h
marked_still (m ∷ marks) (suc n) (suc other) h = marked_still marks n other h

pub marked_from : (marks : List Bool) (n other : ℕ) → IsMarked (set marks n true) other → IsMarked marks other ⊎ (other ≡ n)
marked_from [] n other h = inl h
marked_from (m ∷ marks) zero zero h = inr refl
marked_from (m ∷ marks) zero (suc other) h = inl h
marked_from (m ∷ marks) (suc n) zero h = inl h
marked_from (m ∷ marks) (suc n) (suc other) h = elim (marked_from marks n other h) [
  | inl old ↦ inl old
  | inr same ↦ inr (ap suc same)
]

pub none_marked : (n other : ℕ) → IsMarked (replicate n false) other → ⊥
none_marked zero other h = false≢true h
none_marked (suc n) zero h = false≢true h
none_marked (suc n) (suc other) h = none_marked n other h
