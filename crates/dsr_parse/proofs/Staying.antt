-- What a reader knows where a token was taken, and where none was.
use Rattle.std.proofs.Common.{◌≡◌, ◌<◌, ℕ, List, [], ◌∷◌, length, Option, Some, None, true, false, is_some, subst, sym}
use Rattle.std.specs.Prelude.{IfSome, IfNone, IfOk, Result, Ok, Err}
use Rattle.dsr_tree.specs.declared.tokens.Lexeme.{Lexeme}
use Rattle.dsr_tree.specs.declared.tokens.Token.{Token}
use Rattle.dsr_syntax_theory.specs.Phrases.{Phrase, silent, said, said_at}
use Rattle.dsr_syntax_theory.specs.Syntax.{Syntax, Empty, Either}
use Rattle.dsr_parse.specs.Machine.{nullable}
use Rattle.dsr_parse.specs.Reading.{Standing, Halts, Reads, Next, Other, is_next}
use Rattle.dsr_parse.specs.declared.reader.Stop.{Stop}
use Rattle.dsr_parse.proofs.Taking.{reads_from, halts_from}
use Rattle.dsr_parse.proofs.Passing.{unkept_shorter, reads_unkept, reads_none, next_is, other_is, reads_right, halts_right}

-- a token was taken, and its place isn't kept
pub took : {a : Syntax} {t : Token} {x y : Standing} (r : Option ℕ) → true ≡ is_some r → IfSome r (λ place. Reads a (said_at t place) x y) → Reads a (said t) x y
took None is h = absurd cc
took (Some place) is h = reads_unkept h

pub took_next : {a : Syntax} {ls : List Lexeme} (r : Option ℕ) → true ≡ is_some r → IfSome r (λ place. is_next a ls ≡ true) → Next a ls
took_next None is h = absurd cc
took_next (Some place) is h = next_is h

-- none was taken
pub other_none : {a : Syntax} {ls : List Lexeme} (r : Option ℕ) → false ≡ is_some r → IfNone r (is_next a ls ≡ false) → Other a ls
other_none None is h = other_is h
other_none (Some place) is h = absurd cc

pub same_none : {x y : Standing} (r : Option ℕ) → false ≡ is_some r → IfNone r (y ≡ x) → y ≡ x
same_none None is h = h
same_none (Some place) is h = absurd cc

-- so the right one is read, or stops the machine
pub reads_past : {a b : Syntax} {p : Phrase} {x y z : Standing} → nullable a ≡ false → (r : Option ℕ) → false ≡ is_some r → IfNone r (is_next a x.rest ≡ false) → IfNone r (y ≡ x) → Reads b p y z → Reads (Either a b) p x z
reads_past null r is none same read = reads_right null (other_none r is none) (reads_from (same_none r is same) read)

pub halts_past : {a b : Syntax} {x y : Standing} {e : Stop} → nullable a ≡ false → (r : Option ℕ) → false ≡ is_some r → IfNone r (is_next a x.rest ≡ false) → IfNone r (y ≡ x) → Halts (b ∷ []) y e → Halts (Either a b ∷ []) x e
halts_past null r is none same h = halts_right null (other_none r is none) (halts_from (same_none r is same) h)

-- or nothing is read
pub reads_nothing : {a : Syntax} {x y : Standing} → nullable a ≡ false → (r : Option ℕ) → false ≡ is_some r → IfNone r (is_next a x.rest ≡ false) → IfNone r (y ≡ x) → Reads (Either a Empty) silent x y
reads_nothing {a} {x} {y} null r is none same = subst (λ w. Reads (Either a Empty) silent x w) (sym (same_none r is same)) (reads_none null (other_none r is none))

-- what is left is shorter where a token was read
pub token_shorter : {a : Syntax} {t : Token} {x y : Standing} → Reads a (said t) x y → length y.rest < length x.rest
token_shorter r = unkept_shorter r.says

-- two clauses of what is read, together
pub ok_both : {T E : Type 0} {P Q R : T → Type 0} (r : Result T E) → ((v : T) → P v → Q v → R v) → IfOk r P → IfOk r Q → IfOk r R
ok_both (Ok v) both p q = both v p q
ok_both (Err e) both p q = p
