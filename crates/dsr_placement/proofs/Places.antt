-- Places of atoms, and atoms one after the other.
use Rattle.std.proofs.Common.{◌≡◌, ◌<◌, ◌≤◌, ◌+◌, ◌++◌, ℕ, zero, suc, Bool, true, false, List, [], ◌∷◌, map, drop, get_or, length, slice_index_or, inl, inr, refl, sym, ap, subst, ◌∙◌, arith}
use Rattle.std.specs.Prelude.{MatchBool, if◌then◌else◌, nat_lt}
use Rattle.std.proofs.lemmas.Bool.Decides.{nat_tests}
use Rattle.dsr_graph.proofs.SameAtoms.{atom_decides}
use Rattle.dsr_placement.specs.Atoms.{Keeps, place_of}
use Rattle.dsr_ir.specs.contracts.constraints.AtomPartialEq.TheImpl as atom
use Rattle.dsr_ir.specs.declared.constraints.Atom.{Atom}
use Rattle.dsr_meaning.specs.Counting.{IsIn}

module _ (a : Atom) where
  -- what is left has the place, counted on
  abbrev pub IsLeft : List Atom → ℕ → Type 0
  IsLeft xs i = i + place_of (drop i xs) a ≡ place_of xs a

  drop_next : (xs : List Atom) (i : ℕ) (d : Atom) → i < length xs → drop i xs ≡ get_or xs i d ∷ drop (suc i) xs
  drop_next [] i d less = absurd (omega (arith, less))
  drop_next (x ∷ xs) zero d less = refl
  drop_next (x ∷ xs) (suc i) d less = drop_next xs i d (omega (arith, less))

  drop_past : (xs : List Atom) (i : ℕ) → length xs ≤ i → drop i xs ≡ []
  drop_past [] zero past = refl
  drop_past [] (suc i) past = refl
  drop_past (x ∷ xs) zero past = absurd (omega (arith, past))
  drop_past (x ∷ xs) (suc i) past = drop_past xs i (omega (arith, past))

  at_front : (xs : List Atom) (i : ℕ) (d : Atom) (t : Bool) → i < length xs → atom.ghosts.eq (get_or xs i d) a ≡ t → place_of (drop i xs) a ≡ (if t then 0 else suc (place_of (drop (suc i) xs) a))
  at_front xs i d t less is =
      ap (λ ys. place_of ys a) (drop_next xs i d less) ∙ ap (λ b. if b then 0 else suc (place_of (drop (suc i) xs) a)) is

  pub left_next : (xs : List Atom) (i : ℕ) (d : Atom) → i < length xs → atom.ghosts.eq (get_or xs i d) a ≡ false → IsLeft xs i → IsLeft xs (i + 1)
  left_next xs i d less differs left =
      let front = at_front xs i d false less differs in
      let next : i + 1 ≡ suc i = omega arith in
      let same = ap (λ n. place_of (drop n xs) a) next in
      omega (arith, left, front, same)

  pub left_here : (xs : List Atom) (i : ℕ) (d : Atom) → i < length xs → atom.ghosts.eq (get_or xs i d) a ≡ true → IsLeft xs i → i ≡ place_of xs a
  left_here xs i d less same left = let front = at_front xs i d true less same in omega (arith, left, front)

  pub left_end : (xs : List Atom) (i : ℕ) → length xs ≤ i → i ≤ length xs → IsLeft xs i → length xs ≡ place_of xs a
  left_end xs i past within left = let none = ap (λ ys. place_of ys a) (drop_past xs i past) in omega (arith, left, none, past, within)

  -- an atom whose place is below the length stands there
  pub in_below : (xs : List Atom) → place_of xs a < length xs → IsIn a xs
  in_below [] less = absurd (omega (arith, less))
  in_below (x ∷ xs) less =
      elim (atom.ghosts.eq x a) as (λ t. atom.ghosts.eq x a ≡ t → (if t then 0 else suc (place_of xs a)) < suc (length xs) → IsIn a (x ∷ xs)) [
        | true ↦ λ e f. inl (sym ((atom_decides x a).0 e))
        | false ↦ λ e f. inr (in_below xs (omega (arith, f)))
      ] refl less

pub among_if : (a : Atom) (xs : List Atom) (p : ℕ) → p ≡ place_of xs a → MatchBool (nat_lt p (length xs)) (IsIn a xs) (Unit {0})
among_if a xs p is =
    elim (nat_lt p (length xs)) as (λ t. nat_lt p (length xs) ≡ t → MatchBool t (IsIn a xs) (Unit {0})) [
      | true ↦ λ e. in_below a xs (let less : p < length xs = grind (arith, nat_tests) in subst (λ n. n < length xs) is less)
      | false ↦ λ e. tt
    ] refl

-- the truth value of an atom that is there is the one that it was given
pub given_back : (truth : Atom → Bool) (xs : List Atom) (a : Atom) → IsIn a xs → slice_index_or (map truth xs) (place_of xs a) false ≡ truth a
given_back truth [] a is_in = absurd is_in
given_back truth (x ∷ xs) a is_in =
    elim (atom.ghosts.eq x a) as (λ t. atom.ghosts.eq x a ≡ t → slice_index_or (truth x ∷ map truth xs) (if t then 0 else suc (place_of xs a)) false ≡ truth a) [
      | true ↦ λ e. ap truth ((atom_decides x a).0 e)
      | false ↦ λ e. given_back truth xs a (behind x xs a is_in (λ same. let no = sym e ∙ (atom_decides x a).1 (sym same) in absurd cc))
    ] refl where
      behind : (x : Atom) (xs : List Atom) (a : Atom) → IsIn a (x ∷ xs) → (a ≡ x → ⊥) → IsIn a xs
      behind x xs a (inl same) other = absurd (other same)
      behind x xs a (inr later) other = later

-- one more atom behind the others
pub kept_more : (xs : List Atom) (a : Atom) → Keeps xs (xs ++ a ∷ [])
kept_more [] a b is_in = absurd is_in
kept_more (x ∷ xs) a b (inl same) = inl same
kept_more (x ∷ xs) a b (inr later) = inr (kept_more xs a b later)

pub last_in : (xs : List Atom) (a : Atom) → IsIn a (xs ++ a ∷ [])
last_in [] a = inl refl
last_in (x ∷ xs) a = inr (last_in xs a)
