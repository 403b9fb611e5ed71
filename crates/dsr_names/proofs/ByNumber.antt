-- Lists of what the number of each item gives.
use Rattle.std.proofs.Common.{◌≡◌, ◌<◌, ◌+◌, ℕ, zero, suc, List, [], ◌∷◌, ◌++◌, length, get_or, refl, ap, ◌∙◌, arith}
use Rattle.dsr_meaning.specs.Lists.{each_at}

-- what the number of each item gives, counted from n
abbrev pub by_number : {S Y : Type 0} → (ℕ → Y) → ℕ → List S → List Y
by_number g n xs = each_at (λ i _. g i ∷ []) n xs

module _ {S Y : Type 0} (g : ℕ → Y) where
  pub by_number-push : (n : ℕ) (xs : List S) (x : S) → by_number g n (xs ++ x ∷ []) ≡ by_number g n xs ++ g (n + length xs) ∷ []
  by_number-push n [] x =
      let at : n ≡ n + 0 = omega arith in
      ap (λ k. g k ∷ []) at
  by_number-push n (y ∷ ys) x =
      let at : suc n + length ys ≡ n + length (y ∷ ys) = omega arith in
      ap (λ zs. g n ∷ zs) (by_number-push (suc n) ys x ∙ ap (λ k. by_number g (suc n) ys ++ g k ∷ []) at)

  pub by_number-length : (n : ℕ) (xs : List S) → length (by_number g n xs) ≡ length xs
  by_number-length n [] = refl
  by_number-length n (x ∷ xs) = ap suc (by_number-length (suc n) xs)

  pub by_number-get : (n : ℕ) (xs : List S) (i : ℕ) (d : Y) → i < length xs → get_or (by_number g n xs) i d ≡ g (n + i)
  by_number-get n [] i d lt = absurd (omega arith)
  by_number-get n (x ∷ xs) zero d lt =
      let at : n ≡ n + 0 = omega arith in
      ap g at
  by_number-get n (x ∷ xs) (suc i) d lt =
      let at : suc n + i ≡ n + suc i = omega arith in
      by_number-get (suc n) xs i d (omega arith) ∙ ap g at

  pub by_number-same : (h : ℕ → Y) (n : ℕ) (xs : List S) → ((i : ℕ) → i < n + length xs → g i ≡ h i) → by_number g n xs ≡ by_number h n xs
  by_number-same h n [] same = refl
  by_number-same h n (x ∷ xs) same =
      let rest = by_number-same h (suc n) xs (λ i lt. same i (omega arith)) in
      let first = same n (omega arith) in
      λ j. first j ∷ rest j
