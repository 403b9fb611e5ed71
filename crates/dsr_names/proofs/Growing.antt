-- Lists that grow by what each item of another list gives.
use Rattle.std.proofs.Common.{◌≡◌, ◌<◌, ◌+◌, ℕ, List, [], ◌∷◌, ◌++◌, map, take, length, get_or, sym, ap, ◌∙◌}
use Rattle.std.proofs.lemmas.List.{map-append, map_more}

-- what the items up to one gave, and what that one gave
pub map_next : {X Y Z : Type 0} (f : Y → Z) (g : X → Z) (old new : List Y) (y : Y) (xs : List X) (i : ℕ) (x : X) → i < length xs → x ≡ get_or xs i x → map f old ≡ map g (take i xs) → new ≡ old ++ y ∷ [] → f y ≡ g x → map f new ≡ map g (take (i + 1) xs)
map_next f g old new y xs i x lt is before pushed gives =
    ap (map f) pushed
    ∙ map-append f old (y ∷ [])
    ∙ ap (λ zs. zs ++ f y ∷ []) before
    ∙ ap (λ z. map g (take i xs) ++ z ∷ []) (gives ∙ ap g is)
    ∙ sym (map_more g xs i x lt)
