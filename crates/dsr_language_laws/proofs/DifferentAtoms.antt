-- The different atoms of a list have all of it.
use Rattle.std.proofs.Common.{◌≡◌, ◌≤◌, ◌⊎◌, ℕ, true, false, List, [], ◌∷◌, ◌++◌, map, length, cond, inl, inr, refl, sym, subst, arith}
use Rattle.std.proofs.lemmas.Bool.{ltb-false}
use Rattle.std.proofs.lemmas.List.{length-map}
use Rattle.dsr_ir.specs.declared.constraints.Atom.{Atom}
use Rattle.dsr_meaning.specs.Counting.{IsIn, AreMany}
use Rattle.dsr_language_theory.specs.NormalForms.{has_atom, different, has_many_atoms}
use Rattle.dsr_meaning.proofs.Items.{in_left, in_right, map_in}
use Rattle.dsr_meaning.proofs.Counts.{no_more}
use Rattle.dsr_language_theory.proofs.SameAtoms.{has_is}

different_has : (seen xs : List Atom) (a : Atom) → IsIn a seen ⊎ IsIn a xs → IsIn a (different seen xs)
different_has seen [] a (inl is) = is
different_has seen [] a (inr is) = absurd is
different_has seen (x ∷ xs) a is = different_has (cond (has_atom seen x) seen (seen ++ x ∷ [])) xs a (moved is)
  where
    kept : IsIn a seen → IsIn a (cond (has_atom seen x) seen (seen ++ x ∷ []))
    kept there = elim (has_atom seen x) as (λ b. IsIn a (cond b seen (seen ++ x ∷ []))) [ true ↦ there | false ↦ in_left a seen (x ∷ []) there ]

    added : a ≡ x → IsIn a (cond (has_atom seen x) seen (seen ++ x ∷ []))
    added same = elim (has_atom seen x) as (λ b. has_atom seen x ≡ b → IsIn a (cond b seen (seen ++ x ∷ []))) [
      | true ↦ λ has. subst (λ y. IsIn y seen) (sym same) (has_is seen x has)
      | false ↦ λ _. in_right a seen (x ∷ []) (inl same)
    ] refl

    moved : IsIn a seen ⊎ IsIn a (x ∷ xs) → IsIn a (cond (has_atom seen x) seen (seen ++ x ∷ [])) ⊎ IsIn a xs
    moved (inl there) = inl (kept there)
    moved (inr (inl same)) = inl (added same)
    moved (inr (inr later)) = inr later

-- what is made of at most 8 different atoms is of at most 8 kinds
pub few_images : (xs : List Atom) (g : Atom → Atom) → has_many_atoms xs ≡ false → (P : Atom → Type 0) → ((y : Atom) → P y → (a : Atom) × IsIn a xs × (y ≡ g a)) → (n : ℕ) → AreMany P n → n ≤ 8
few_images xs g e P of n many =
    let all = different [] xs in
    let within = no_more many.things (map g all) many.enumerated.distinct (λ y is.
    let made = of y (many.enumerated.only y is) in
    subst (λ z. IsIn z (map g all)) (sym made.2) (map_in g made.0 all (different_has [] xs made.0 (inr made.1)))) in
    let same = length-map all g in
    let below = ltb-false 8 (length all) e in
    omega (arith, within, same, below, many.counted)
