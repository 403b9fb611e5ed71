-- Whether an item stands in a list; a list of which each item stands once, with one item more.
use Rattle.std.proofs.Common.{◌≡◌, ◌⊎◌, ◌||◌, inl, inr, Bool, true, false, not, List, [], ◌∷◌, ◌++◌, Decides, MatchBool, refl, sym, ap, ◌∙◌}
use Rattle.std.specs.List.{list_any}
use Rattle.dsr_meaning.specs.Counting.{IsIn}
use Rattle.dsr_update_theory.specs.Templates.{AreOnce}
use Rattle.dsr_update_theory.specs.Templates.AreOnce.{done, again, first}

-- what a search by a test for equal items finds
module _ {T : Type 0} (E : T → T → Bool) (is : (a b : T) → Decides (E a b) (a ≡ b)) where
  in_true : (xs : List T) (x : T) → list_any (λ y. E y x) xs ≡ true → IsIn x xs
  in_true [] x e = absurd cc
  in_true (y ∷ ys) x e =
      elim (E y x) as (λ b. E y x ≡ b → (b || list_any (λ z. E z x) ys) ≡ true → IsIn x (y ∷ ys)) [
        | true ↦ λ same _. inl (sym ((is y x).0 same))
        | false ↦ λ _ rest. inr (in_true ys x rest)
      ] refl e

  in_false : (xs : List T) (x : T) → list_any (λ y. E y x) xs ≡ false → IsIn x xs → ⊥
  in_false [] x e h = h
  in_false (y ∷ ys) x e (inl same) =
      let holds : E y x ≡ true = (is y x).1 (sym same) in
      let bad : true ≡ false = sym (ap (λ b. b || list_any (λ z. E z x) ys) holds) ∙ e in
      absurd cc
  in_false (y ∷ ys) x e (inr h) =
      elim (E y x) as (λ b. (b || list_any (λ z. E z x) ys) ≡ false → ⊥) [
        | true ↦ λ bad. absurd cc
        | false ↦ λ rest. in_false ys x rest h
      ] e

  pub tells_new : (xs : List T) (x : T) (b : Bool) → b ≡ list_any (λ y. E y x) xs → MatchBool (not b) (IsIn x xs → ⊥) (IsIn x xs)
  tells_new xs x true e = in_true xs x (sym e)
  tells_new xs x false e = in_false xs x (sym e)

module _ {T : Type 0} where
  -- an item that stands there, or stood before
  pub once_again : {seen xs ys : List T} (x : T) → AreOnce seen xs ys → IsIn x ys ⊎ IsIn x seen → AreOnce seen (xs ++ x ∷ []) ys
  once_again x done (inl h) = absurd h
  once_again x done (inr h) = again x h done
  once_again x (again y e rest) h = again y e (once_again x rest h)
  once_again x (first y e rest) (inl (inl h)) = first y e (once_again x rest (inr (inl h)))
  once_again x (first y e rest) (inl (inr h)) = first y e (once_again x rest (inl h))
  once_again x (first y e rest) (inr h) = first y e (once_again x rest (inr (inr h)))

  -- one that doesn't, and didn't
  pub once_first : {seen xs ys : List T} (x : T) → AreOnce seen xs ys → (IsIn x ys → ⊥) → (IsIn x seen → ⊥) → AreOnce seen (xs ++ x ∷ []) (ys ++ x ∷ [])
  once_first x done out new = first x new done
  once_first x (again y e rest) out new = again y e (once_first x rest out new)
  once_first x (first y e rest) out new =
      first y e (once_first x rest (λ h. out (inr h)) (λ w. elim w [ inl h ↦ out (inl h) | inr h ↦ new h ]))
