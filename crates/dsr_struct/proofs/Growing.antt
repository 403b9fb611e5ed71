-- Lists that grow by what each item of another list gives.
use Rattle.std.proofs.Common.{◌≡◌, ◌<◌, ◌≤◌, ◌+◌, ℕ, List, [], ◌∷◌, ◌++◌, map, take, length, get_or, sym, ap, ◌∙◌}
use Rattle.std.proofs.lemmas.List.{map_more, take_all}

-- the list of what each item gives, where the list itself is what is made
pub one_more : {X Y : Type 0} (g : X → Y) (xs : List X) (i : ℕ) (x : X) → i < length xs → x ≡ get_or xs i x → {old new : List Y} {y : Y} → old ≡ map g (take i xs) → new ≡ old ++ y ∷ [] → y ≡ g x → new ≡ map g (take (i + 1) xs)
one_more g xs i x lt is before pushed gives =
    pushed ∙ (λ k. before k ++ gives k ∷ []) ∙ ap (λ z. map g (take i xs) ++ g z ∷ []) is ∙ sym (map_more g xs i x lt)

-- all items were gone over, in an equal list
pub all_made : {X Y : Type 0} (g : X → Y) (xs items : List X) → items ≡ xs → (i : ℕ) → length items ≤ i → {made : List Y} → made ≡ map g (take i items) → made ≡ map g xs
all_made g xs items same i le before = before ∙ ap (map g) (take_all i items le ∙ same)

-- the same behind a first item
pub one_more_behind : {X Y : Type 0} (g : X → Y) (xs : List X) (i : ℕ) (x : X) → i < length xs → x ≡ get_or xs i x → {first y : Y} {old new : List Y} → old ≡ first ∷ map g (take i xs) → new ≡ old ++ y ∷ [] → y ≡ g x → new ≡ first ∷ map g (take (i + 1) xs)
one_more_behind g xs i x lt is {first} before pushed gives =
    pushed ∙ (λ k. before k ++ gives k ∷ []) ∙ ap (λ ys. first ∷ ys) (ap (λ z. map g (take i xs) ++ g z ∷ []) is ∙ sym (map_more g xs i x lt))

pub all_made_behind : {X Y : Type 0} (g : X → Y) (xs items : List X) → items ≡ xs → (i : ℕ) → length items ≤ i → {first : Y} {made : List Y} → made ≡ first ∷ map g (take i items) → made ≡ first ∷ map g xs
all_made_behind g xs items same i le {first} before = before ∙ ap (λ ys. first ∷ map g ys) (take_all i items le ∙ same)
