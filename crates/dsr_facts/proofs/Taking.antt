-- What the items of a list give, where one more is taken.
use Rattle.std.proofs.Common.{◌≡◌, ◌<◌, ◌+◌, ℕ, suc, List, [], ◌∷◌, ◌++◌, take, length, get_or, sym, ap, ◌∙◌, add-one, arith}
use Rattle.std.proofs.Math.Seq.{take-suc}
use Rattle.std.proofs.lemmas.Grind.{flat_map-append}
use Rattle.std.proofs.lemmas.List.{append-nil, append_assoc, length-take}
use Rattle.std.specs.List.{flat_map}
use Rattle.dsr_meaning.specs.Lists.{each_at}

take_more : {S : Type 0} (xs : List S) (i : ℕ) (x : S) → i < length xs → x ≡ get_or xs i x → take (i + 1) xs ≡ take i xs ++ x ∷ []
take_more xs i x lt is = rw add-one (take-suc xs i x lt ∙ ap (λ y. take i xs ++ y ∷ []) (sym is))

pub flat_more : {S T : Type 0} (f : S → List T) (xs : List S) (i : ℕ) (x : S) → i < length xs → x ≡ get_or xs i x → flat_map f (take i xs) ++ f x ≡ flat_map f (take (i + 1) xs)
flat_more f xs i x lt is =
    ap (λ ys. flat_map f (take i xs) ++ ys) (sym (append-nil (f x)))
    ∙ sym (flat_map-append f (take i xs) (x ∷ []))
    ∙ ap (flat_map f) (sym (take_more xs i x lt is))

module _ {S T : Type 0} (f : ℕ → S → List T) where
  each_at-append : (n : ℕ) (xs : List S) (x : S) → each_at f n (xs ++ x ∷ []) ≡ each_at f n xs ++ f (n + length xs) x
  each_at-append n [] x =
      let at : n ≡ n + 0 = omega arith in
      append-nil (f n x) ∙ ap (λ k. f k x) at
  each_at-append n (y ∷ ys) x =
      let at : suc n + length ys ≡ n + length (y ∷ ys) = omega arith in
      ap (λ zs. f n y ++ zs) (each_at-append (suc n) ys x ∙ ap (λ k. each_at f (suc n) ys ++ f k x) at)
      ∙ sym (append_assoc (f n y) (each_at f (suc n) ys) (f (n + length (y ∷ ys)) x))

  -- of items that are counted from 0
  pub each_more : (xs : List S) (i : ℕ) (x : S) → i < length xs → x ≡ get_or xs i x → each_at f 0 (take i xs) ++ f i x ≡ each_at f 0 (take (i + 1) xs)
  each_more xs i x lt is =
      let many : i ≡ 0 + length (take i xs) = omega arith ∙ ap (λ m. 0 + m) (sym (length-take i xs)) in
      ap (λ k. each_at f 0 (take i xs) ++ f k x) many
      ∙ sym (each_at-append 0 (take i xs) x)
      ∙ ap (each_at f 0) (sym (take_more xs i x lt is))
