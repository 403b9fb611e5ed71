-- Lists that are made item by item.
use Rattle.std.proofs.Common.{◌≡◌, ◌<◌, ◌+◌, ℕ, List, [], ◌∷◌, ◌++◌, map, take, length, get_or, sym, ap, ◌∙◌, add-one}
use Rattle.std.proofs.Math.Seq.{take-suc}
use Rattle.std.proofs.lemmas.List.{map-append, map_more}

-- one item more is made of one item more, which is seen by its shape
pub made_next : {X S Y : Type 0} (g : X → S) (h : S → Y) (xs : List X) (i : ℕ) (x : X) (old new : List Y) (y : Y) → i < length xs → x ≡ get_or xs i x → old ≡ map h (map g (take i xs)) → new ≡ old ++ y ∷ [] → y ≡ h (g x) → new ≡ map h (map g (take (i + 1) xs))
made_next g h xs i x old new y lt is before pushed made =
    let e : take (i + 1) xs ≡ take i xs ++ x ∷ [] = rw add-one (take-suc xs i x lt ∙ ap (λ z. take i xs ++ z ∷ []) (sym is)) in
    pushed
    ∙ (λ j. before j ++ made j ∷ [])
    ∙ sym (ap (λ ys. map h (map g ys)) e ∙ ap (map h) (map-append g (take i xs) (x ∷ [])) ∙ map-append h (map g (take i xs)) (g x ∷ []))

-- what the items up to one gave behind a first thing, and what that one gave
pub map_next : {X Y Z : Type 0} (f : Y → Z) (g : X → Z) (first : Z) (old new : List Y) (y : Y) (xs : List X) (i : ℕ) (x : X) → i < length xs → x ≡ get_or xs i x → map f old ≡ first ∷ map g (take i xs) → new ≡ old ++ y ∷ [] → f y ≡ g x → map f new ≡ first ∷ map g (take (i + 1) xs)
map_next f g first old new y xs i x lt is before pushed gives =
    ap (map f) pushed
    ∙ map-append f old (y ∷ [])
    ∙ ap (λ zs. zs ++ f y ∷ []) before
    ∙ ap (λ z. first ∷ map g (take i xs) ++ z ∷ []) (gives ∙ ap g is)
    ∙ ap (λ zs. first ∷ zs) (sym (map_more g xs i x lt))

-- what the items up to one gave, and what that one gave
pub map_push_at : {X Y : Type 0} (h : X → Y) (xs : List X) (i : ℕ) (d : X) (old new : List Y) (y : Y) → i < length xs → old ≡ map h (take i xs) → new ≡ old ++ y ∷ [] → y ≡ h (get_or xs i d) → new ≡ map h (take (i + 1) xs)
map_push_at h xs i d old new y lt before pushed made =
    pushed ∙ (λ j. before j ++ made j ∷ []) ∙ sym (map_more h xs i d lt)

-- the same of an item that is given
pub map_push : {X Y : Type 0} (h : X → Y) (xs : List X) (i : ℕ) (x : X) (old new : List Y) (y : Y) → i < length xs → x ≡ get_or xs i x → old ≡ map h (take i xs) → new ≡ old ++ y ∷ [] → y ≡ h x → new ≡ map h (take (i + 1) xs)
map_push h xs i x old new y lt is before pushed made = map_push_at h xs i x old new y lt before pushed (made ∙ ap h is)
