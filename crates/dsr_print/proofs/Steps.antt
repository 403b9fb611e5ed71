-- Steps of writing, one behind the other.
use Rattle.std.proofs.Common.{◌≡◌, ℕ, ◌<◌, ◌+◌, List, [], ◌∷◌, ◌++◌, length, map, take, get_or, refl, ap, sym, ◌∙◌, add-one, append-nil, append_assoc}
use Rattle.std.proofs.Math.Seq.{take-suc}
use Rattle.std.proofs.lemmas.List.{map_more}
use Rattle.dsr_tree.specs.declared.tokens.Token.{Token}
use Rattle.dsr_syntax_theory.specs.Canonical.{token_spelling, joined}
use Rattle.dsr_syntax_theory.specs.Phrases.{Phrase, tokens_of, said, said_at, ◌▸◌, in_turn}
use Rattle.dsr_print.specs.Writing.{spaced, Adds, Begins, Ends, AddsLine}

spaced_append : (ts us : List Token) → spaced (ts ++ us) ≡ spaced ts ++ spaced us
spaced_append [] us = refl
spaced_append (t ∷ ts) us = ap (λ bs. 32 ∷ token_spelling t ++ bs) (spaced_append ts us) ∙ ap (λ bs. 32 ∷ bs) (sym (append_assoc (token_spelling t) (spaced ts) (spaced us)))

-- one phrase behind another
pub adds_then : {p q : Phrase} {x y z : List ℕ} → Adds p x y → Adds q y z → Adds (p ▸ q) x z
adds_then {p} {q} {x} {y} {z} a b = record { is = b.is ∙ ap (λ s. s ++ spaced (tokens_of q)) a.is ∙ append_assoc x (spaced (tokens_of p)) (spaced (tokens_of q)) ∙ ap (λ s. x ++ s) (sym (spaced_append (tokens_of p) (tokens_of q))) }

-- a token's place is no part of what is written
pub placed : {t : Token} {place : ℕ} {x y : List ℕ} → Adds (said t) x y → Adds (said_at t place) x y
placed a = record { is = a.is }

joined_spaced : (t : Token) (ts : List Token) → joined (t ∷ ts) ≡ token_spelling t ++ spaced ts
joined_spaced t [] = sym (append-nil (token_spelling t))
joined_spaced t (u ∷ ts) = ap (λ bs. token_spelling t ++ 32 ∷ bs) (joined_spaced u ts)

-- the line of a declaration: its first token, the others, and its end
pub line : {t : Token} {place : ℕ} {q : Phrase} {x y z w : List ℕ} → Begins t x y → Adds q y z → Ends z w → AddsLine (said_at t place ▸ q) x w
line {t} {place} {q} {x} {y} {z} {w} a b c = record { is = c.is ∙ ap (λ s. s ++ 10 ∷ []) (b.is ∙ ap (λ s. s ++ spaced (tokens_of q)) a.is) ∙ regroup x (token_spelling t) (spaced (tokens_of q)) (10 ∷ []) ∙ ap (λ s. x ++ (s ++ 10 ∷ [])) (sym (joined_spaced t (tokens_of q))) }
  where
    regroup : (a b c d : List ℕ) → ((a ++ b) ++ c) ++ d ≡ a ++ ((b ++ c) ++ d)
    regroup a b c d = simp append_assoc

tokens_append : {X : Type 0} (phrase : X → Phrase) (xs ys : List X) → tokens_of (in_turn phrase (xs ++ ys)) ≡ tokens_of (in_turn phrase xs) ++ tokens_of (in_turn phrase ys)
tokens_append phrase [] ys = refl
tokens_append phrase (x ∷ xs) ys = ap (λ ts. tokens_of (phrase x) ++ ts) (tokens_append phrase xs ys) ∙ sym (append_assoc (tokens_of (phrase x)) (tokens_of (in_turn phrase xs)) (tokens_of (in_turn phrase ys)))

adds_same : {p q : Phrase} {x y : List ℕ} → tokens_of p ≡ tokens_of q → Adds p x y → Adds q x y
adds_same {x = x} e a = record { is = a.is ∙ ap (λ ts. x ++ spaced ts) e }

adds_more : {X : Type 0} (phrase : X → Phrase) (xs ys : List X) (item : X) {x y z : List ℕ} → ys ≡ xs ++ item ∷ [] → Adds (in_turn phrase xs) x y → Adds (phrase item) y z → Adds (in_turn phrase ys) x z
adds_more phrase xs ys item e a b =
    adds_same
    (ap (λ ts. tokens_of (in_turn phrase xs) ++ ts) (sym (append-nil (tokens_of (phrase item)))) ∙ sym (tokens_append phrase xs (item ∷ [])) ∙ ap (λ zs. tokens_of (in_turn phrase zs)) (sym e))
    (adds_then a b)

-- one item more is written
pub adds_item : {X : Type 0} (phrase : X → Phrase) (xs : List X) (i : ℕ) (item : X) {x y z : List ℕ} → i < length xs → item ≡ get_or xs i item → Adds (in_turn phrase (take i xs)) x y → Adds (phrase item) y z → Adds (in_turn phrase (take (i + 1) xs)) x z
adds_item phrase xs i item below here =
    adds_more phrase (take i xs) (take (i + 1) xs) item (rw add-one (take-suc xs i item below ∙ ap (λ y. take i xs ++ y ∷ []) (sym here)))

-- the same for items by their shapes
pub adds_shape : {X Y : Type 0} (phrase : Y → Phrase) (shape : X → Y) (xs : List X) (i : ℕ) (item : X) {x y z : List ℕ} → i < length xs → item ≡ get_or xs i item → Adds (in_turn phrase (map shape (take i xs))) x y → Adds (phrase (shape item)) y z → Adds (in_turn phrase (map shape (take (i + 1) xs))) x z
adds_shape phrase shape xs i item below here =
    adds_more phrase (map shape (take i xs)) (map shape (take (i + 1) xs)) (shape item) (map_more shape xs i item below ∙ ap (λ y. map shape (take i xs) ++ shape y ∷ []) (sym here))
