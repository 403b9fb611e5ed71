-- What a fault rules out, and where it stands.
use Rattle.std.proofs.Common.{◌≡◌, ◌≤◌, ◌<◌, ℕ, List, [], ◌∷◌, length, Some, None, inl, inr, ap, sym, ◌∙◌, refl, subst, arith}
use Rattle.std.specs.Prelude.{◌⊎◌, slice_get, IsSomeAnd}
use Rattle.dsr_tree.specs.Trees.{TreeShape}
use Rattle.dsr_syntax_theory.specs.Grammar.{spec}
use Rattle.dsr_syntax_theory.specs.Parsing.{IsTreeOf}
use Rattle.dsr_syntax_theory.specs.Phrases.{Phrase, Says}
use Rattle.dsr_syntax_theory.specs.TreeTexts.{tree_text}
use Rattle.dsr_lexer.specs.Lexing.{AreFrontTokens}
use Rattle.dsr_parse.specs.Reading.{Standing, Reads}
use Rattle.dsr_parse.proofs.Sentences.{accepted}
use Rattle.dsr_parse.proofs.Texts.{no_token}
use Rattle.dsr_tree.specs.declared.tokens.Lexeme.{Lexeme}
use Rattle.dsr_syntax_theory.specs.Sentences.{IsSpecText}
use Rattle.dsr_parse.specs.Faults.{HasFault, StopsBy}
use Rattle.dsr_parse.specs.Machine.{run, Accepts, StopsAt}
use Rattle.dsr_parse.specs.declared.parser.SyntaxFault.{SyntaxFault}
use Rattle.dsr_parse.specs.declared.parser.SyntaxFault.TheVariants.{Token, Expected, Limit, NoMemory}
use Rattle.dsr_parse.specs.declared.reader.Stop.{Stop}
use Rattle.dsr_parse.specs.declared.reader.Stop.TheVariants.{Expected as Stopped}
use Rattle.dsr_parse.proofs.Exclusive.{spec_not_no_token, spec_not_unexpected, spec_not_past_limit, no_token_not_unexpected, no_token_not_past_limit, unexpected_not_past_limit, no_token_once, unexpected_once, past_limit_once}

-- a text of the grammar has no fault
pub no_fault : (text : List ℕ) (e : SyntaxFault) → IsSpecText text → HasFault text e → ⊥
no_fault text (Token place) is has = spec_not_no_token text place is has
no_fault text (Expected place) is has = spec_not_unexpected text place is has
no_fault text (Limit place) is has = spec_not_past_limit text place is has
no_fault text NoMemory is has = has

-- a text has one fault
pub one_fault : (text : List ℕ) (e f : SyntaxFault) → HasFault text e → HasFault text f → e ≡ f
one_fault text (Token p) (Token q) a b = ap Token (no_token_once text p q a b)
one_fault text (Token p) (Expected q) a b = absurd (no_token_not_unexpected text p q a b)
one_fault text (Token p) (Limit q) a b = absurd (no_token_not_past_limit text p q a b)
one_fault text (Expected p) (Token q) a b = absurd (no_token_not_unexpected text q p b a)
one_fault text (Expected p) (Expected q) a b = ap Expected (unexpected_once text p q a b)
one_fault text (Expected p) (Limit q) a b = absurd (unexpected_not_past_limit text p q a b)
one_fault text (Limit p) (Token q) a b = absurd (no_token_not_past_limit text q p b a)
one_fault text (Limit p) (Expected q) a b = absurd (unexpected_not_past_limit text q p b a)
one_fault text (Limit p) (Limit q) a b = ap Limit (past_limit_once text p q a b)
one_fault text NoMemory f a b = absurd a
one_fault text e NoMemory a b = absurd b

-- a fault that is told rules out the others
pub told : (text : List ℕ) (e f : SyntaxFault) → (e ≡ NoMemory) ⊎ HasFault text e → HasFault text f → (e ≡ f) ⊎ (e ≡ NoMemory)
told text e f (inl none) b = inr none
told text e f (inr a) b = inl (one_fault text e f a b)

pub not_read : (text : List ℕ) (e : SyntaxFault) → (e ≡ NoMemory) ⊎ HasFault text e → IsSpecText text → e ≡ NoMemory
not_read text e (inl none) is = none
not_read text e (inr a) is = absurd (no_fault text e is a)

-- what holds of the place of a token that is looked up
pub at_found : (P : ℕ → Type 0) (xs : List Lexeme) (i r : ℕ) → IsSomeAnd (slice_get xs i) (λ found. r ≡ found.place) → ((found : Lexeme) → slice_get xs i ≡ Some found → P found.place) → P r
at_found P xs i r is all = elim (slice_get xs i) as (λ o. slice_get xs i ≡ o → IsSomeAnd o (λ found. r ≡ found.place) → P r) [
  | None ↦ λ e is. absurd is
  | Some found ↦ λ e is. subst P (sym is) (all found e)
] refl is

-- nothing has to come, and something is left
pub nothing_more : (ls : List Lexeme) (n : ℕ) → 0 < length ls → run ls n [] ≡ StopsAt (length ls)
nothing_more [] n some = absurd (omega arith)
nothing_more (l ∷ ls) n some = refl

pub nothing_left : (ls : List Lexeme) → length ls ≤ 0 → ls ≡ []
nothing_left [] e = refl
nothing_left (l ∷ ls) e = absurd (omega arith)

-- the machine over all tokens, where a tree was read from them
whole_run : {p : Phrase} {x y : Standing} (ls : List Lexeme) → Reads spec p x y → x.rest ≡ ls → x.counted ≡ 0 → run ls 0 (spec ∷ []) ≡ run y.rest y.counted []
whole_run {p} {x} {y} ls r is start = ap (λ ms. run ms 0 (spec ∷ [])) (sym is) ∙ ap (λ n. run x.rest n (spec ∷ [])) (sym start) ∙ r.goes.passes []

pub tree_stops : {p : Phrase} {x y : Standing} (ls : List Lexeme) (left : ℕ) → Reads spec p x y → x.rest ≡ ls → x.counted ≡ 0 → left ≡ length y.rest → 0 < left → run ls 0 (spec ∷ []) ≡ StopsAt left
tree_stops {p} {x} {y} ls left r is start same some = whole_run ls r is start ∙ nothing_more y.rest y.counted (omega arith) ∙ ap StopsAt (sym same)

pub tree_accepts : {p : Phrase} {x y : Standing} (ls : List Lexeme) (left : ℕ) → Reads spec p x y → x.rest ≡ ls → x.counted ≡ 0 → left ≡ length y.rest → left ≤ 0 → run ls 0 (spec ∷ []) ≡ Accepts
tree_accepts {p} {x} {y} ls left r is start same none = whole_run ls r is start ∙ ap (λ ms. run ms y.counted []) (nothing_left y.rest (omega arith))

-- a token is missing behind a whole tree
pub tree_no_token : {p : Phrase} {x y : Standing} (text : List ℕ) (ls : List Lexeme) (left place : ℕ) → AreFrontTokens text ls (Some place) → Reads spec p x y → x.rest ≡ ls → x.counted ≡ 0 → left ≡ length y.rest → left ≤ 0 → HasFault text (Token place)
tree_no_token text ls left place front r is start same none = no_token text ls place front (inr (tree_accepts ls left r is start same none))

-- the tree of the whole text
pub tree_read : {x y : Standing} (text : List ℕ) (ls : List Lexeme) (tree : TreeShape) (left : ℕ) → AreFrontTokens text ls None → Reads spec (tree_text tree) x y → x.rest ≡ ls → x.counted ≡ 0 → left ≡ length y.rest → left ≤ 0 → IsTreeOf text tree
tree_read {x} {y} text ls tree left lexed r is start same none = record {
  lexemes = ls;
  lexed = lexed;
  sentence = accepted ls (tree_accepts ls left r is start same none);
  says = subst (λ ms. Says (tree_text tree) ls ms) (nothing_left y.rest (omega arith)) (subst (λ ms. Says (tree_text tree) ms y.rest) is r.says);
}

pub tree_spec : {text : List ℕ} {tree : TreeShape} → IsTreeOf text tree → IsSpecText text
tree_spec is = record { lexemes = is.lexemes; lexed = is.lexed; sentence = is.sentence }

pub at_end : (ls : List Lexeme) (stop : Stop) (left : ℕ) → stop ≡ Stopped left → left ≡ 0 → StopsBy ls stop → run ls 0 (spec ∷ []) ≡ StopsAt 0
at_end ls stop left is none stops = subst (StopsBy ls) (is ∙ ap Stopped none) stops
