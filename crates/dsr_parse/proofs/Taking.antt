-- Tokens that are taken where they are next.
use Rattle.std.proofs.Common.{Bool, ◌≡◌, ◌<◌, ◌⊎◌, inl, inr, ℕ, List, [], ◌∷◌, map, length, Option, Some, None, true, false, ◌||◌, nat_eq, IfSome, IfNone, is_some, refl, sym, ap, subst, arith}
use Rattle.dsr_tree.specs.declared.tokens.Token.{Token}
use Rattle.dsr_syntax_theory.specs.Phrases.{Phrase, silent, said, said_at, ◌▸◌, Says, says_at, says_both, in_turn}
use Rattle.dsr_syntax_theory.specs.Syntax.{Syntax, Either, Empty}
use Rattle.dsr_parse.specs.Machine.{nullable}
use Rattle.dsr_parse.specs.Reading.{is_next, Standing, Reads, Halts, Next, Other, Found}
use Rattle.dsr_parse.specs.declared.reader.Stop.{Stop}
use Rattle.dsr_tree.specs.declared.tokens.Lexeme.{Lexeme}
use Rattle.dsr_parse.proofs.Passing.{reads_unkept, reads_none, says_within, said_shorter}

-- the token was taken
pub some_read : {a : Syntax} {t : Token} {x y : Standing} (o : Option ℕ) → is_some o ≡ true → IfSome o (λ place. Reads a (said_at t place) x y) → Reads a (said t) x y
some_read None e r = absurd cc
some_read (Some place) e r = reads_unkept r

pub some_next : {P : Type 0} (o : Option ℕ) → is_some o ≡ true → IfSome o (λ place. P) → P
some_next None e p = absurd cc
some_next (Some place) e p = p

pub some_shorter : (a : Syntax) (t : Token) (x y : Standing) (o : Option ℕ) → is_some o ≡ true → IfSome o (λ place. Reads a (said_at t place) x y) → length y.rest < length x.rest
some_shorter a t x y None e r = absurd cc
some_shorter a t x y (Some place) e r = said_shorter r

-- it wasn't taken
pub none_known : {P : Type 0} (o : Option ℕ) → is_some o ≡ false → IfNone o P → P
none_known None e p = p
none_known (Some place) e p = absurd cc

-- nothing was read before
pub reads_from : {a : Syntax} {p : Phrase} {w x y : Standing} → w ≡ x → Reads a p w y → Reads a p x y
reads_from {a} {p} {w} {x} {y} same r = subst (λ v. Reads a p v y) same r

pub halts_from : {before : List Syntax} {w x : Standing} {e : Stop} → w ≡ x → Halts before w e → Halts before x e
halts_from {before} {w} {x} {e} same h = subst (λ v. Halts before v e) same h

pub other_from : {a : Syntax} {w x : Standing} → w ≡ x → Other a w.rest → Other a x.rest
other_from {a} {w} {x} same o = subst (λ v. Other a v.rest) same o

pub next_from : {a : Syntax} {w x : Standing} → w ≡ x → Next a w.rest → Next a x.rest
next_from {a} {w} {x} same o = subst (λ v. Next a v.rest) same o

-- what is next there is next here
pub next_behind : (a : Syntax) {b : Bool} {w x : Standing} → w ≡ x → is_next a w.rest ≡ b → is_next a x.rest ≡ b
next_behind a {b} {w} {x} same is = subst (λ v. is_next a v.rest ≡ b) same is

-- nothing was read behind it
pub reads_to : {a : Syntax} {p : Phrase} {w x y : Standing} → w ≡ y → Reads a p x y → Reads a p x w
reads_to {a} {p} {w} {x} {y} same r = subst (λ v. Reads a p x v) (sym same) r

pub reads_nothing : {a : Syntax} {x y : Standing} → nullable a ≡ false → y ≡ x → Other a x.rest → Reads (Either a Empty) silent x y
reads_nothing {a} {x} {y} null same other = reads_to same (reads_none null other)

pub found_none : {X : Type 0} (phrase : X → Phrase) {s : Syntax} {x y : Standing} {found : Option X} → found ≡ None → Other s x.rest → y ≡ x → Found s phrase x y found
found_none {X} phrase {s} {x} {y} {found} none other same = subst (λ o. Found s phrase x y o) (sym none) (other, same)

-- what begins with a token is shorter
pub begins_shorter : {t : Token} {place : ℕ} {p : Phrase} {ls ms : List Lexeme} → Says (said_at t place ▸ p) ls ms → length ms < length ls
begins_shorter (says_both (says_at t place rest) b) = let n = says_within b in omega arith

pub begun_shorter : {a : Syntax} {t : Token} {place : ℕ} {p : Phrase} {x y : Standing} → Reads a (said_at t place ▸ p) x y → length y.rest < length x.rest
begun_shorter r = begins_shorter r.says

-- the phrases of items that are written in another way
pub turns_as : {X : Type 0} (phrase : X → Phrase) {a : Syntax} {xs ys : List X} {x y : Standing} → ys ≡ xs → Reads a (in_turn phrase xs) x y → Reads a (in_turn phrase ys) x y
turns_as {X} phrase {a} {xs} {ys} {x} {y} same r = subst (λ zs. Reads a (in_turn phrase zs) x y) (sym same) r

pub in_turn_mapped : {X Y : Type 0} (phrase : Y → Phrase) (f : X → Y) (xs : List X) → in_turn phrase (map f xs) ≡ in_turn (λ x. phrase (f x)) xs
in_turn_mapped phrase f [] = refl
in_turn_mapped phrase f (x ∷ xs) = ap (λ p. phrase (f x) ▸ p) (in_turn_mapped phrase f xs)

pub turns_mapped : {X Y : Type 0} (phrase : Y → Phrase) (f : X → Y) {a : Syntax} {xs ys : List X} {x y : Standing} → ys ≡ xs → Reads a (in_turn (λ z. phrase (f z)) xs) x y → Reads a (in_turn phrase (map f ys)) x y
turns_mapped {X} {Y} phrase f {a} {xs} {ys} {x} {y} same r = subst (λ p. Reads a p x y) (sym (in_turn_mapped phrase f ys)) (turns_as (λ z. phrase (f z)) same r)

-- the numbers of the versions
pub version_fits : {Q : Type 0} (n : ℕ) → (n ≡ 1) ⊎ (Q × (n ≡ 2)) → (nat_eq n 1 || nat_eq n 2) ≡ true
version_fits n (inl e) = subst (λ m. (nat_eq m 1 || nat_eq m 2) ≡ true) (sym e) refl
version_fits n (inr p) = subst (λ m. (nat_eq m 1 || nat_eq m 2) ≡ true) (sym p.1) refl
