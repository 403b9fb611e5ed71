-- Phrases before other tokens, and parts whose tokens determine them.
use Rattle.std.proofs.Common.{◌≡◌, List, [], ◌∷◌, ◌++◌, map, Bool, true, false, Some, None, refl, sym, ap, ◌∙◌, append_assoc}
use Rattle.std.specs.Prelude.{option_map, if◌then◌else◌}
use Rattle.dsr_tree.specs.declared.tokens.Token.{Token}
use Rattle.dsr_syntax_theory.specs.Phrases.{Phrase, silent, said, said_at, ◌▸◌, tokens_of, in_turn}
use Rattle.dsr_syntax_theory.specs.TreeTexts.{maybe_text}

-- the tokens of a phrase before other tokens
abbrev pub after : Phrase → List Token → List Token
after silent r = r
after (said t) r = t ∷ r
after (said_at t place) r = t ∷ r
after (a ▸ b) r = after a (after b r)

pub spoken : (p : Phrase) (r : List Token) → tokens_of p ++ r ≡ after p r
spoken silent r = refl
spoken (said t) r = refl
spoken (said_at t place) r = refl
spoken (a ▸ b) r = append_assoc (tokens_of a) (tokens_of b) r ∙ ap (λ ts. tokens_of a ++ ts) (spoken b r) ∙ spoken a (after b r)

-- whether the first token passes
abbrev pub begins : (Token → Bool) → List Token → Bool
begins test [] = false
begins test (t ∷ ts) = test t

-- one test or the other
abbrev pub either : (Token → Bool) → (Token → Bool) → Token → Bool
either p q t = if p t then true else q t

pub not_first : (p q : Token → Bool) (r : List Token) → begins (either p q) r ≡ false → begins p r ≡ false
not_first p q [] f = refl
not_first p q (t ∷ ts) f = elim (p t) as (λ b. (if b then true else q t) ≡ false → b ≡ false) [ true ↦ λ d. d | false ↦ λ d. refl ] f

-- tokens that begin in two ways
pub clash : {A : Type 0} (test : Token → Bool) (r s : List Token) → begins test r ≡ false → begins test s ≡ true → r ≡ s → A
clash test r s f t e = absurd cc

-- a part's tokens determine it and what follows
abbrev pub Once : {X : Type 0} → (X → Phrase) → (X → X) → Type 0
Once {X = X} phrase bare = (a b : X) (r s : List Token) → after (phrase a) r ≡ after (phrase b) s → (bare a ≡ bare b) × (r ≡ s)

-- the same where what follows doesn't go on with the part
abbrev pub OnceBefore : {X : Type 0} → (X → Phrase) → (X → X) → (Token → Bool) → Type 0
OnceBefore {X = X} phrase bare go = (a b : X) (r s : List Token) → begins go r ≡ false → begins go s ≡ false → after (phrase a) r ≡ after (phrase b) s → (bare a ≡ bare b) × (r ≡ s)

pub maybe_once_open : {X : Type 0} (phrase : X → Phrase) (bare : X → X) (go more : Token → Bool) → OnceBefore phrase bare go → ((r : List Token) → begins more r ≡ false → begins go r ≡ false) → ((x : X) (r : List Token) → begins more (after (phrase x) r) ≡ true) → OnceBefore (maybe_text phrase) (option_map bare) more
maybe_once_open phrase bare go more item sub opens None None r s f g e = (refl, e)
maybe_once_open phrase bare go more item sub opens None (Some y) r s f g e = clash more r _ f (opens y s) e
maybe_once_open phrase bare go more item sub opens (Some x) None r s f g e = clash more s _ g (opens x r) (sym e)
maybe_once_open phrase bare go more item sub opens (Some x) (Some y) r s f g e = let p = item x y r s (sub r f) (sub s g) e in (ap Some p.0, p.1)

pub maybe_once : {X : Type 0} (phrase : X → Phrase) (bare : X → X) (more : Token → Bool) → Once phrase bare → ((x : X) (r : List Token) → begins more (after (phrase x) r) ≡ true) → OnceBefore (maybe_text phrase) (option_map bare) more
maybe_once phrase bare more item opens = maybe_once_open phrase bare more more (λ a b r s f g e. item a b r s e) (λ r f. f) opens

-- what follows a list of parts follows each of its fronts
pub past : {X : Type 0} (phrase : X → Phrase) (test : Token → Bool) → ((x : X) (r : List Token) → begins test (after (phrase x) r) ≡ false) → (xs : List X) (r : List Token) → begins test r ≡ false → begins test (after (in_turn phrase xs) r) ≡ false
past phrase test starts [] r f = f
past phrase test starts (x ∷ xs) r f = starts x _

pub in_turn_once : {X : Type 0} (phrase : X → Phrase) (bare : X → X) (more : Token → Bool) → Once phrase bare → ((x : X) (r : List Token) → begins more (after (phrase x) r) ≡ true) → OnceBefore (in_turn phrase) (map bare) more
in_turn_once phrase bare more item opens [] [] r s f g e = (refl, e)
in_turn_once phrase bare more item opens [] (y ∷ ys) r s f g e = clash more r _ f (opens y _) e
in_turn_once phrase bare more item opens (x ∷ xs) [] r s f g e = clash more s _ g (opens x _) (sym e)
in_turn_once phrase bare more item opens (x ∷ xs) (y ∷ ys) r s f g e =
    let p = item x y _ _ e in
    let q = in_turn_once phrase bare more item opens xs ys r s f g p.1 in
    let d : map bare (x ∷ xs) ≡ map bare (y ∷ ys) = cc in (d, q.1)

-- equal tokens have equal fronts and rests
abbrev pub behind : List Token → List Token
behind [] = []
behind (t ∷ ts) = ts

pub rest : {t u : Token} {r s : List Token} → t ∷ r ≡ u ∷ s → r ≡ s
rest e = ap behind e

-- what follows four tokens
pub past_four : {a b c d x y z w : Token} (r s : List Token) → a ∷ b ∷ c ∷ d ∷ r ≡ x ∷ y ∷ z ∷ w ∷ s → r ≡ s
past_four r s e = cc
