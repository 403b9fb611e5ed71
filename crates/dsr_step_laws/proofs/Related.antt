-- Structures of which one descends from the other.
use Rattle.std.proofs.Common.{◌≡◌, ◌<◌, ◌⊎◌, ℕ, zero, suc, nat_eq, true, false, List, [], ◌∷◌, None, Some, IfSome, inl, inr, refl, sym, ap, subst, arith}
use Rattle.std.specs.Prelude.{IsTrue, ◌||◌}
use Rattle.std.proofs.lemmas.Bool.{eqb-true}
use Rattle.std.proofs.lemmas.Option.{slice_get_cases}
use Rattle.dsr_schema.proofs.Descending.{ancestors_step, line, no_ancestors}
use Rattle.dsr_ir.specs.declared.declarations.Structures.{Structures}
use Rattle.dsr_meaning.specs.Counting.{IsIn}
use Rattle.dsr_meaning.specs.Lists.{any_of}
use Rattle.dsr_meaning.specs.Typed.{AreTyped, Descends, ancestors}
use Rattle.dsr_update_theory.specs.Changes.{are_related, descends}
use Rattle.dsr_meaning.proofs.Items.{number_found}

-- a number that passes as equal to some is in the list
pub some_is : (n : ℕ) (ns : List ℕ) → any_of (nat_eq n) ns ≡ true → IsIn n ns
some_is n [] e = absurd cc
some_is n (m ∷ ms) e =
    elim (nat_eq n m) as (λ b. nat_eq n m ≡ b → (b || any_of (nat_eq n) ms) ≡ true → IsIn n (m ∷ ms)) [
      | true ↦ λ is _. inl (eqb-true n m is)
      | false ↦ λ _ h. inr (some_is n ms h)
    ] refl e

-- what the test says
pub related_lines : (base : Structures) (a b : ℕ) → IsTrue (are_related base a b) → Descends base.structures a b ⊎ Descends base.structures b a
related_lines base a b e =
    elim (descends base.structures a b) as (λ t. descends base.structures a b ≡ t → (t || descends base.structures b a) ≡ true → Descends base.structures a b ⊎ Descends base.structures b a) [
      | true ↦ λ is _. inl (some_is b (a ∷ ancestors base.structures a) is)
      | false ↦ λ _ h. inr (some_is a (b ∷ ancestors base.structures b) h)
    ] refl e

pub lines_related : (base : Structures) (a b : ℕ) → Descends base.structures a b ⊎ Descends base.structures b a → IsTrue (are_related base a b)
lines_related base a b (inl down) = ap (λ t. t || descends base.structures b a) (number_found b (a ∷ ancestors base.structures a) down)
lines_related base a b (inr up) =
    elim (descends base.structures a b) as (λ t. (t || descends base.structures b a) ≡ true) [
      | true ↦ refl
      | false ↦ number_found a (b ∷ ancestors base.structures b) up
    ]

module _ (base : Structures) (typed : AreTyped base) where
  -- of two structures from which one descends, one descends from the other
  pub in_line : (n i : ℕ) → i < n → (a b : ℕ) → Descends base.structures i a → Descends base.structures i b → Descends base.structures a b ⊎ Descends base.structures b a
  in_line zero i lt a b one two = absurd (omega (arith, lt))
  in_line (suc n) i lt a b (inl same) two = inl (subst (λ j. Descends base.structures j b) (sym same) two)
  in_line (suc n) i lt a b (inr one) (inl same) = inr (subst (λ j. Descends base.structures j a) (sym same) (inr one))
  in_line (suc n) i lt a b (inr one) (inr two) = elim (slice_get_cases base.structures i).1 [
    | inr w ↦ absurd (subst (IsIn a) (no_ancestors base.structures i w.0) one)
    | inl w ↦
        let before = (typed.structures i w.0 w.2).parent_before in
        let up = ancestors_step base.structures i w.0 w.2 before in
        elim w.0.parent as (λ o. IfSome o (λ p. p < i) → IsIn a (line base.structures o) → IsIn b (line base.structures o) → Descends base.structures a b ⊎ Descends base.structures b a) [
          | None ↦ λ _ none _. absurd none
          | Some p ↦ λ less first second. in_line n p (omega (arith, less, lt)) a b first second
        ] before (subst (IsIn a) up one) (subst (IsIn b) up two)
  ]
