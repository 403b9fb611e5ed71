-- What holds of each item of a list, by its place, one after the other.
use Rattle.std.proofs.Common.{◌≡◌, ◌<◌, ◌≤◌, ◌+◌, ℕ, true, false, nat_eq, List, Some, length, slice_get, refl, sym, ap, subst, ◌∙◌, arith}
use Rattle.std.proofs.lemmas.Bool.Decides.{nat_tests}
use Rattle.std.proofs.lemmas.Option.{slice_get_within}

module _ {T : Type 0} (P : ℕ → T → Type 0) (xs : List T) where
  abbrev pub EachBefore : ℕ → Type 0
  EachBefore n = (m : ℕ) (x : T) → m < n → slice_get xs m ≡ Some x → P m x

  pub each_more : (n : ℕ) (x : T) → slice_get xs n ≡ Some x → P n x → EachBefore n → EachBefore (n + 1)
  each_more n x here its before m y below there =
      elim (nat_eq m n) as (λ t. nat_eq m n ≡ t → P m y) [
        | true ↦ λ e.
            let same : m ≡ n = grind (arith, nat_tests) in
            let is : Some x ≡ Some y = sym here ∙ (ap (slice_get xs) (sym same) ∙ there) in
            let item : x ≡ y = cc in
            subst (λ k. P k y) (sym same) (subst (P n) item its)
        | false ↦ λ e. before m y (grind (arith, nat_tests)) there
      ] refl

  pub each_ends : (n : ℕ) → length xs ≤ n → EachBefore n → (m : ℕ) (x : T) → slice_get xs m ≡ Some x → P m x
  each_ends n past before m x there =
      let less = slice_get_within xs m x there in
      before m x (omega (arith, past, less)) there
