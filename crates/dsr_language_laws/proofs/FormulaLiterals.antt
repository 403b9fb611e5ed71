-- The literals of a normal form: each has an atom of the formula, and only memberships are negated.
use Rattle.std.proofs.Common.{◌≡◌, ◌≤◌, Bool, true, false, not, ◌&&◌, List, [], ◌∷◌, ◌++◌, map, length, cond, inl, inr, refl, sym, ap, subst, arith}
use Rattle.std.proofs.lemmas.Bool.{not-false, or_parts}
use Rattle.dsr_ir.specs.Formulas.{FormulaShape, AnyOf, EveryOf, NotOf, GivenOf, LeafOf, FormulaShapes, NoneOf, MoreOf}
use Rattle.dsr_ir.specs.declared.constraints.Atom.{Atom}
use Rattle.dsr_ir.specs.declared.constraints.Literal.{Literal}
use Rattle.dsr_meaning.specs.Counting.{IsIn}
use Rattle.dsr_language_theory.specs.NormalForms.{joined, distributed, any_row, every_row, atoms_of, row_atoms, is_membership, negates, row_negates, longest}
use Rattle.dsr_language_laws.proofs.RulePaths.{second_fails}
use Rattle.dsr_meaning.proofs.Items.{in_either, in_left, in_map, in_right}

-- a literal with an atom of these, negated only where that is a membership
pub record IsFrom (xs : List Atom) (l : Literal) : Type 0 where
  pub stands : IsIn l.atom xs
  pub negated : l.negated ≡ true → is_membership l.atom ≡ true

abbrev pub AreFrom : List Atom → List (List Literal) → Type 0
AreFrom xs conjs = (conj : List Literal) (l : Literal) → IsIn conj conjs → IsIn l conj → IsFrom xs l

from_left : (xs ys : List Atom) (l : Literal) → IsFrom xs l → IsFrom (xs ++ ys) l
from_left xs ys l from = record { stands = in_left l.atom xs ys from.stands; negated = from.negated }

from_right : (xs ys : List Atom) (l : Literal) → IsFrom ys l → IsFrom (xs ++ ys) l
from_right xs ys l from = record { stands = in_right l.atom xs ys from.stands; negated = from.negated }

-- a conjunction that is joined of two
record JoinedOf (left right : List (List Literal)) (conj : List Literal) : Type 0 where
  pub one : List Literal
  pub other : List Literal
  pub on_left : IsIn one left
  pub on_right : IsIn other right
  pub is : conj ≡ one ++ other

joined_of : (left right : List (List Literal)) (conj : List Literal) → IsIn conj (joined left right) → JoinedOf left right conj
joined_of [] right conj is = absurd is
joined_of (first ∷ left) right conj is =
    elim (in_either conj (map (λ d. first ++ d) right) (joined left right) is) as (λ _. JoinedOf (first ∷ left) right conj) [
      | inl here ↦ let m = in_map (λ d. first ++ d) right conj here in record { one = first; other = m.from; on_left = inl refl; on_right = m.among; is = m.is }
      | inr later ↦ let j = joined_of left right conj later in record { one = j.one; other = j.other; on_left = inr j.on_left; on_right = j.on_right; is = j.is }
    ]

-- lists behind one another, and joined ones
from_both : (xs ys : List Atom) (left right : List (List Literal)) → AreFrom xs left → AreFrom ys right → AreFrom (xs ++ ys) (left ++ right)
from_both xs ys left right one other conj l is_conj is_literal =
    elim (in_either conj left right is_conj) as (λ _. IsFrom (xs ++ ys) l) [
      | inl here ↦ from_left xs ys l (one conj l here is_literal)
      | inr there ↦ from_right xs ys l (other conj l there is_literal)
    ]

from_joined : (xs ys : List Atom) (left right : List (List Literal)) → AreFrom xs left → AreFrom ys right → AreFrom (xs ++ ys) (joined left right)
from_joined xs ys left right one other conj l is_conj is_literal =
    let j = joined_of left right conj is_conj in
    elim (in_either l j.one j.other (subst (IsIn l) j.is is_literal)) as (λ _. IsFrom (xs ++ ys) l) [
      | inl here ↦ from_left xs ys l (one j.one l j.on_left here)
      | inr there ↦ from_right xs ys l (other j.other l j.on_right there)
    ]

-- the one of an atom
leaf_from : (under negated given : Bool) (atom : Atom) → (negated ≡ true → under ≡ true) → (under && not (is_membership atom)) ≡ false → AreFrom (atom ∷ []) ((record { atom = atom; negated = negated; given = given } ∷ []) ∷ [])
leaf_from under negated given atom h e conj l (inl same) is =
    elim (subst (IsIn l) same is) as (λ _. IsFrom (atom ∷ []) l) [
      | inl is_it ↦ subst (IsFrom (atom ∷ [])) (sym is_it) (record { stands = inl refl; negated = λ n. not-false (is_membership atom) (second_fails under (not (is_membership atom)) (h n) e) })
      | inr none ↦ absurd none
    ]
leaf_from under negated given atom h e conj l (inr none) is = absurd none

-- a conjunction of nothing
nothing_from : AreFrom [] ([] ∷ [])
nothing_from conj l (inl same) is_literal = absurd (subst (IsIn l) same is_literal)
nothing_from conj l (inr none) is_literal = absurd none

mutual
  -- those of a formula, where nothing but memberships stands under a `not`
  pub each_from : (under negated given : Bool) (f : FormulaShape) → (negated ≡ true → under ≡ true) → negates under f ≡ false → AreFrom (atoms_of f) (distributed negated given f)
  each_from under negated given (AnyOf parts) h e = elim negated as (λ b. (b ≡ true → under ≡ true) → AreFrom (row_atoms parts) (cond b (every_row b given parts) (any_row b given parts))) [
    | true ↦ λ k. every_from under true given parts k e
    | false ↦ λ k. any_from under false given parts k e
  ] h
  each_from under negated given (EveryOf parts) h e = elim negated as (λ b. (b ≡ true → under ≡ true) → AreFrom (row_atoms parts) (cond b (any_row b given parts) (every_row b given parts))) [
    | true ↦ λ k. any_from under true given parts k e
    | false ↦ λ k. every_from under false given parts k e
  ] h
  each_from under negated given (NotOf part) h e = each_from true (not negated) given part (λ _. refl) e
  each_from under negated given (GivenOf part) h e = each_from under negated true part h e
  each_from under negated given (LeafOf atom) h e = leaf_from under negated given atom h e

  any_from : (under negated given : Bool) (parts : FormulaShapes) → (negated ≡ true → under ≡ true) → row_negates under parts ≡ false → AreFrom (row_atoms parts) (any_row negated given parts)
  any_from under negated given NoneOf h e = λ conj l is_conj is_literal. absurd is_conj
  any_from under negated given (MoreOf first rest) h e =
      let both = or_parts (negates under first) (row_negates under rest) e in
      from_both (atoms_of first) (row_atoms rest) (distributed negated given first) (any_row negated given rest) (each_from under negated given first h both.0) (any_from under negated given rest h both.1)

  every_from : (under negated given : Bool) (parts : FormulaShapes) → (negated ≡ true → under ≡ true) → row_negates under parts ≡ false → AreFrom (row_atoms parts) (every_row negated given parts)
  every_from under negated given NoneOf h e = nothing_from
  every_from under negated given (MoreOf first rest) h e =
      let both = or_parts (negates under first) (row_negates under rest) e in
      from_joined (atoms_of first) (row_atoms rest) (distributed negated given first) (every_row negated given rest) (each_from under negated given first h both.0) (every_from under negated given rest h both.1)

-- no conjunction is longer than the longest
pub below_longest : (conjs : List (List Literal)) (conj : List Literal) → IsIn conj conjs → length conj ≤ longest conjs
below_longest [] conj is = absurd is
below_longest (first ∷ rest) conj (inl same) =
    let here = ap length same in
    omega (arith, here)
below_longest (first ∷ rest) conj (inr later) =
    let there = below_longest rest conj later in
    omega (arith, there)
