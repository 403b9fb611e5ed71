-- What each of the rules gives, where one more is looked at.
use Rattle.std.proofs.Common.{◌≡◌, ◌<◌, ◌+◌, ℕ, suc, ◌≤◌, List, [], ◌∷◌, ◌++◌, Option, None, Some, take, length, get_or, slice_get, sym, ap, subst, ◌∙◌, append_assoc, arith}
use Rattle.std.proofs.lemmas.List.{append-nil, take_all, take_more, length-take-le}
use Rattle.std.proofs.lemmas.List.Elements.{filter_map-append}
use Rattle.std.proofs.lemmas.Option.{slice_get-get_or}
use Rattle.std.specs.List.{cons_option, filter_map, flat_map}
use Rattle.dsr_meaning.specs.Lists.{each_at}

-- the items up to one, and that one
pub take_item : {X : Type 0} (xs : List X) (i : ℕ) (x : X) → i < length xs → x ≡ get_or xs i x → take (i + 1) xs ≡ take i xs ++ x ∷ []
take_item xs i x lt is = take_more xs i x lt ∙ ap (λ y. take i xs ++ y ∷ []) (sym is)

-- what a look-up in an equal list found
pub item_at : {X : Type 0} (xs items : List X) → items ≡ xs → (i : ℕ) (x : X) → i < length items → x ≡ get_or items i x → slice_get xs i ≡ Some x
item_at xs items same i x lt is = subst (λ ys. slice_get ys i ≡ Some x) same (slice_get-get_or items i x lt ∙ ap Some (sym is))

module _ {S T : Type 0} (f : ℕ → S → List T) where
  pub each_push : (n : ℕ) (xs : List S) (x : S) → each_at f n (xs ++ x ∷ []) ≡ each_at f n xs ++ f (n + length xs) x
  each_push n [] x =
      let here : n ≡ n + 0 = omega arith in
      append-nil (f n x) ∙ ap (λ k. f k x) here
  each_push n (y ∷ ys) x =
      let here : suc n + length ys ≡ n + length (y ∷ ys) = omega arith in
      ap (λ zs. f n y ++ zs) (each_push (suc n) ys x ∙ ap (λ k. each_at f (suc n) ys ++ f k x) here)
      ∙ sym (append_assoc (f n y) (each_at f (suc n) ys) (f (n + length (y ∷ ys)) x))

  joined_next : (xs : List S) (i : ℕ) (x : S) → i < length xs → x ≡ get_or xs i x → {made more all : List T} → all ≡ made ++ more → made ≡ each_at f 0 (take i xs) → more ≡ f i x → all ≡ each_at f 0 (take (i + 1) xs)
  joined_next xs i x lt is {made} {more} {all} joined before here =
      let many : 0 + length (take i xs) ≡ i = ap (λ n. 0 + n) (length-take-le i xs (omega arith)) ∙ omega arith in
      joined
      ∙ (λ k. before k ++ here k)
      ∙ ap (λ n. each_at f 0 (take i xs) ++ f n x) (sym many)
      ∙ sym (each_push 0 (take i xs) x)
      ∙ ap (each_at f 0) (sym (take_item xs i x lt is))

  -- what the items up to one give, and then what that one gives; the loop goes over an equal list
  pub each_next : (xs items : List S) → items ≡ xs → (i : ℕ) (x : S) → i < length items → x ≡ get_or items i x → {made more all : List T} → all ≡ made ++ more → made ≡ each_at f 0 (take i xs) → more ≡ f i x → all ≡ each_at f 0 (take (i + 1) xs)
  each_next xs items same i x lt is joined before here =
      joined_next xs i x (subst (λ ys. i < length ys) same lt) (is ∙ ap (λ ys. get_or ys i x) same) joined before here

  -- where all have been gone over
  pub each_last : (xs items : List S) → items ≡ xs → (i : ℕ) → length items ≤ i → {made : List T} → made ≡ each_at f 0 (take i xs) → made ≡ each_at f 0 xs
  each_last xs items same i le before = before ∙ ap (each_at f 0) (take_all i xs (subst (λ ys. length ys ≤ i) same le))

module _ {S T : Type 0} (f : S → List T) where
  flat_push : (xs : List S) (x : S) → flat_map f (xs ++ x ∷ []) ≡ flat_map f xs ++ f x
  flat_push [] x = append-nil (f x)
  flat_push (y ∷ ys) x =
      ap (λ zs. f y ++ zs) (flat_push ys x) ∙ sym (append_assoc (f y) (flat_map f ys) (f x))

  -- the same of a function that asks for no number
  pub flat_next : (xs : List S) (i : ℕ) (d : S) → i < length xs → {made more all : List T} → all ≡ made ++ more → made ≡ flat_map f (take i xs) → more ≡ f (get_or xs i d) → all ≡ flat_map f (take (i + 1) xs)
  flat_next xs i d lt joined before here =
      joined ∙ (λ k. before k ++ here k) ∙ sym (ap (flat_map f) (take_more xs i d lt) ∙ flat_push (take i xs) (get_or xs i d))

  pub flat_last : (xs : List S) (i : ℕ) → length xs ≤ i → {made : List T} → made ≡ flat_map f (take i xs) → made ≡ flat_map f xs
  flat_last xs i le before = before ∙ ap (flat_map f) (take_all i xs le)

-- What each item may give, where one more is looked at.
module _ {S T : Type 0} (f : S → Option T) where
  next : (xs : List S) (i : ℕ) (d : S) → i < length xs → (o : Option T) → f (get_or xs i d) ≡ o → filter_map f (take i xs) ++ cons_option o [] ≡ filter_map f (take (i + 1) xs)
  next xs i d lt o is =
      ap (λ p. filter_map f (take i xs) ++ cons_option p []) (sym is)
      ∙ sym (filter_map-append f (take i xs) (get_or xs i d ∷ []))
      ∙ ap (filter_map f) (sym (take_more xs i d lt))

  pub filter_more : (xs : List S) (i : ℕ) (d : S) → i < length xs → (t : T) → f (get_or xs i d) ≡ Some t → {made all : List T} → all ≡ made ++ t ∷ [] → made ≡ filter_map f (take i xs) → all ≡ filter_map f (take (i + 1) xs)
  filter_more xs i d lt t is joined before =
      joined ∙ ap (λ ts. ts ++ t ∷ []) before ∙ next xs i d lt (Some t) is

  pub filter_same : (xs : List S) (i : ℕ) (d : S) → i < length xs → f (get_or xs i d) ≡ None → {made : List T} → made ≡ filter_map f (take i xs) → made ≡ filter_map f (take (i + 1) xs)
  filter_same xs i d lt is before = before ∙ sym (append-nil (filter_map f (take i xs))) ∙ next xs i d lt None is
