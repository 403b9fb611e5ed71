-- A list of what items have, which grows at its end.
use Rattle.std.proofs.Common.{◌≡◌, ◌<◌, ◌+◌, ℕ, zero, suc, List, [], ◌∷◌, ◌++◌, take, length, get_or, Option, None, Some, option_map, option_and_then, slice_get, refl, sym, ap, ◌∙◌, arith}
use Rattle.dsr_meaning.specs.Layouts.{collect_at}
use Rattle.dsr_layout.proofs.Items.{take_item}

-- one more item behind the others
push_behind : {T : Type 0} (first : Option T) (rest more : Option (List T)) (y : T) {ys : List T} → ((zs : List T) → rest ≡ Some zs → more ≡ Some (zs ++ y ∷ [])) → option_and_then (λ z. option_map (λ zs. z ∷ zs) rest) first ≡ Some ys → option_and_then (λ z. option_map (λ zs. z ∷ zs) more) first ≡ Some (ys ++ y ∷ [])
push_behind None rest more y grows e = absurd cc
push_behind (Some z) None more y grows e = absurd cc
push_behind (Some z) (Some zs) more y {ys = ys} grows e =
    let is : z ∷ zs ≡ ys = cc in
    rw (grows zs refl) (ap (λ ws. Some (ws ++ y ∷ [])) is)

module _ {S T : Type 0} (f : S → Option T) where
  collected_push : (n : ℕ) (xs : List S) (x : S) {ys : List T} {y : T} → collect_at (λ _ s. f s) n xs ≡ Some ys → f x ≡ Some y → collect_at (λ _ s. f s) n (xs ++ x ∷ []) ≡ Some (ys ++ y ∷ [])
  collected_push n [] x {ys = ys} {y = y} e has =
      let none : [] ≡ ys = cc in
      rw has (ap (λ zs. Some (zs ++ y ∷ [])) none)
  collected_push n (s ∷ ss) x {ys = ys} {y = y} e has = push_behind (f s) (collect_at (λ _ s. f s) (suc n) ss) (collect_at (λ _ s. f s) (suc n) (ss ++ x ∷ [])) y (λ zs h. collected_push (suc n) ss x h has) e

  -- what the items up to one have, and then what that one has
  pub collected_next : (n : ℕ) (xs : List S) (i : ℕ) (x : S) {ys : List T} {y : T} → i < length xs → x ≡ get_or xs i x → collect_at (λ _ s. f s) n (take i xs) ≡ Some ys → f x ≡ Some y → collect_at (λ _ s. f s) n (take (i + 1) xs) ≡ Some (ys ++ y ∷ [])
  collected_next n xs i x {ys} {y} lt is e has =
      ap (collect_at (λ _ s. f s) n) (take_item xs i x lt is)
      ∙ collected_push n (take i xs) x e has

-- what a list has under a number is what an item has
pub record IsOf {S T : Type 0} (f : ℕ → S → Option T) (xs : List S) (k m : ℕ) (y : T) : Type 0 where
  pub item : S
  pub item_is : slice_get xs k ≡ Some item
  pub has : f m item ≡ Some y

module _ {S T : Type 0} (f : ℕ → S → Option T) where
  -- the first one, or one of those behind it
  either_item : (n : ℕ) (x : S) (xs : List S) (z : T) (zs : List T) (m : ℕ) (y : T) → f n x ≡ Some z → ((j : ℕ) → m ≡ suc n + j → slice_get zs j ≡ Some y → IsOf f xs j m y) → (k : ℕ) → m ≡ n + k → slice_get (z ∷ zs) k ≡ Some y → IsOf f (x ∷ xs) k m y
  either_item n x xs z zs m y first others zero at is =
      let here : m ≡ n = omega arith in
      record { item = x; item_is = refl; has = ap (λ j. f j x) here ∙ first ∙ is }
  either_item n x xs z zs m y first others (suc k) at is =
      let rest = others k (omega arith) is in
      record { item = rest.item; item_is = rest.item_is; has = rest.has }

  pub collected_item : (n : ℕ) (xs : List S) (ys : List T) → collect_at f n xs ≡ Some ys → (k m : ℕ) (y : T) → m ≡ n + k → slice_get ys k ≡ Some y → IsOf f xs k m y
  collected_item n [] ys e k m y at found =
      let none : [] ≡ ys = cc in
      absurd (let both : None ≡ Some y = ap (λ zs. slice_get zs k) none ∙ found in cc)
  collected_item n (x ∷ xs) ys e k m y at found = elim (f n x) as (λ o. f n x ≡ o → option_and_then (λ z. option_map (λ zs. z ∷ zs) (collect_at f (suc n) xs)) o ≡ Some ys → IsOf f (x ∷ xs) k m y) [
    | None ↦ λ _ h. absurd cc
    | Some z ↦ λ first h. elim (collect_at f (suc n) xs) as (λ o. collect_at f (suc n) xs ≡ o → option_map (λ zs. z ∷ zs) o ≡ Some ys → IsOf f (x ∷ xs) k m y) [
      | None ↦ λ _ g. absurd cc
      | Some zs ↦ λ others g.
          let made : ys ≡ z ∷ zs = cc in
          either_item n x xs z zs m y first (λ j. collected_item (suc n) xs zs others j m y) k at (sym (ap (λ ws. slice_get ws k) made) ∙ found)
    ] refl h
  ] refl e
