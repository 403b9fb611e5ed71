-- What the items of a list give by their numbers, one item more.
use Rattle.std.proofs.Common.{◌≡◌, ◌+◌, ◌<◌, ℕ, suc, List, [], ◌∷◌, ◌++◌, length, map, take, get_or, sym, ap, ◌∙◌, append_assoc, arith}
use Rattle.std.proofs.lemmas.List.{append-nil, take_more, length-take}
use Rattle.dsr_meaning.specs.Lists.{each_at}

module _ {S T : Type 0} (f : ℕ → S → List T) where
  each_push : (n m : ℕ) (xs : List S) (x : S) → m ≡ n + length xs → each_at f n (xs ++ x ∷ []) ≡ each_at f n xs ++ f m x
  each_push n m [] x e =
      let here : m ≡ n = omega arith in
      append-nil (f n x) ∙ ap (λ k. f k x) (sym here)
  each_push n m (y ∷ ys) x e =
      ap (λ zs. f n y ++ zs) (each_push (suc n) m ys x (omega arith))
      ∙ sym (append_assoc (f n y) (each_at f (suc n) ys) (f m x))

  pub each_more : (xs : List S) (i : ℕ) (x : S) → i < length xs → x ≡ get_or xs i x → each_at f 0 (take (i + 1) xs) ≡ each_at f 0 (take i xs) ++ f i x
  each_more xs i x lt is =
      ap (each_at f 0) (take_more xs i x lt ∙ ap (λ y. take i xs ++ y ∷ []) (sym is))
      ∙ each_push 0 i (take i xs) x (omega (arith, length-take {A = S}))

-- what each item gives, in another form
pub found_more : {R S T : Type 0} (f : ℕ → S → List T) (h : R → T) (xs : List S) (i : ℕ) (x : S) (found next : List R) → i < length xs → x ≡ get_or xs i x → map h found ≡ each_at f 0 (take i xs) → map h next ≡ map h found ++ f i x → map h next ≡ each_at f 0 (take (i + 1) xs)
found_more f h xs i x found next lt is before one =
    one ∙ ap (λ ys. ys ++ f i x) before ∙ sym (each_more f xs i x lt is)
