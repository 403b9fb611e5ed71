-- Lists that are made item by item.
use Rattle.std.proofs.Common.{◌≡◌, ◌<◌, ◌≤◌, ◌+◌, ℕ, List, [], ◌∷◌, ◌++◌, map, take, length, get_or, All, sym, ap, ◌∙◌, add-one, subst}
use Rattle.std.proofs.Math.Seq.{take-suc}
use Rattle.std.proofs.lemmas.List.{map-append, length-map, get_or-map, take_all}

module _ {X S : Type 0} (g : X → S) where
  -- what holds of the shapes of all items holds of that of one
  pub item_has : (P : S → Type 0) (xs : List X) (i : ℕ) (x : X) → i < length xs → x ≡ get_or xs i x → All P (map g xs) → P (g x)
  item_has P xs i x lt is all = subst P (get_or-map g xs i x (g x) lt ∙ ap g (sym is)) (all i (g x) (rw (length-map xs g) lt))

  -- one item more is made of one item more, which is seen by its shape
  pub made_next : {Y : Type 0} (h : S → Y) (xs : List X) (i : ℕ) (x : X) (old new : List Y) (y : Y) → i < length xs → x ≡ get_or xs i x → old ≡ map h (map g (take i xs)) → new ≡ old ++ y ∷ [] → y ≡ h (g x) → new ≡ map h (map g (take (i + 1) xs))
  made_next h xs i x old new y lt is before pushed made =
      let e : take (i + 1) xs ≡ take i xs ++ x ∷ [] = rw add-one (take-suc xs i x lt ∙ ap (λ z. take i xs ++ z ∷ []) (sym is)) in
      pushed
      ∙ (λ j. before j ++ made j ∷ [])
      ∙ sym (ap (λ ys. map h (map g ys)) e ∙ ap (map h) (map-append g (take i xs) (x ∷ [])) ∙ map-append h (map g (take i xs)) (g x ∷ []))

  -- all items were gone over, in an equal list
  pub all_shaped : {Y : Type 0} (h : S → Y) (xs items : List X) → items ≡ xs → (i : ℕ) → length items ≤ i → {made : List Y} → made ≡ map h (map g (take i items)) → made ≡ map h (map g xs)
  all_shaped h xs items same i le before = before ∙ ap (λ ys. map h (map g ys)) (take_all i items le ∙ same)
