-- The phrases of structures, fields and pools, and that some tokens are read with each.
use Rattle.std.specs.Prelude.{option_map, IfSome, IfNone}
use Rattle.std.proofs.Common.{◌≡◌, ◌<◌, ℕ, List, [], ◌∷◌, map, length, Option, Some, None, Bool, true, false, ◌||◌, refl, ap, sym, ◌∙◌, arith}
use Rattle.dsr_tree.specs.declared.tokens.Keyword.TheVariants as keyword
use Rattle.dsr_tree.specs.declared.tokens.Lexeme.{Lexeme}
use Rattle.dsr_tree.specs.declared.tokens.Token.{Token}
use Rattle.dsr_tree.specs.declared.tree.Expr.{Expr}
use Rattle.dsr_tree.specs.declared.tree.Field.{Field}
use Rattle.dsr_tree.specs.declared.tree.Width.{Width}
use Rattle.dsr_tree.specs.declared.tree.Width.TheVariants as widths
use Rattle.dsr_tree.specs.Trees.{FieldTree, NamedFieldTree, named, skipped, expr_shape, field_shape}
use Rattle.dsr_syntax_theory.specs.Grammar.{maybe, word, width, field}
use Rattle.dsr_syntax_theory.specs.Phrases.{Phrase, said_at, Says, says_at, says_both, in_turn}
use Rattle.dsr_syntax_theory.specs.Syntax.{Syntax, a_word}
use Rattle.dsr_syntax_theory.specs.TreeTexts.{maybe_text, fixed_text, brackets_text, behind_text, field_text, named_field_text, width_text}
use Rattle.dsr_parse.specs.Machine.{accepts, may_begin}
use Rattle.dsr_parse.specs.Reading.{Standing, Reads, is_next, said_field, said_length, said_slot}
use Rattle.dsr_parse.proofs.Taking.{begins_shorter, in_turn_mapped, reads_to}
use Rattle.dsr_parse.proofs.Passing.{says_within, reads_left, reads_none, next_is, other_is}

-- the phrase of the fields of a structure
pub fields_said : {ys xs : List Field} → ys ≡ xs → in_turn field_text (map field_shape ys) ≡ in_turn said_field xs
fields_said {ys} {xs} is = in_turn_mapped field_text field_shape ys ∙ ap (in_turn said_field) is

-- the phrase of a list of items
pub items_said : {X : Type 0} (phrase : X → Phrase) {ys xs : List X} → ys ≡ xs → in_turn phrase ys ≡ in_turn phrase xs
items_said {X} phrase is = ap (in_turn phrase) is

-- ---- how much is read

at_shorter : {t : Token} {place : _} {ls ms : List Lexeme} → Says (said_at t place) ls ms → length ms < length ls
at_shorter (says_at t place rest) = omega arith

width_shorter : (w : Width) {ls ms : List Lexeme} → Says (width_text w) ls ms → length ms < length ls
width_shorter (widths.U8 place) s = at_shorter s
width_shorter (widths.U16 place) s = at_shorter s
width_shorter (widths.U32 place) s = at_shorter s
width_shorter (widths.U64 place) s = at_shorter s
width_shorter (widths.Bits place number) s = begins_shorter s

named_shorter : (f : NamedFieldTree) {ls ms : List Lexeme} → Says (named_field_text f) ls ms → length ms < length ls
named_shorter f (says_both a (says_both w b)) = let k = says_within a in let n = width_shorter f.width w in let m = says_within b in omega arith

field_says : (f : FieldTree) {ls ms : List Lexeme} → Says (field_text f) ls ms → length ms < length ls
field_says (named f) s = named_shorter f s
field_says (skipped place length) (says_both a b) = let n = begins_shorter a in let m = says_within b in omega arith

-- a field has a token at least
pub field_shorter : (f : Field) {a : Syntax} {x y : Standing} → Reads a (said_field f) x y → length y.rest < length x.rest
field_shorter f r = field_says (field_shape f) r.says

-- ---- with which tokens a field begins

two_tests : (a b w : Bool) → (a || (b || w)) ≡ (((a || false) || (b || false)) || w)
two_tests true b w = refl
two_tests false true w = refl
two_tests false false w = refl

five_tests : (a b c d e : Bool) → (a || (b || (c || (d || (e || false))))) ≡ (((((a || false) || (b || false)) || (c || false)) || (d || false)) || (e || false))
five_tests true b c d e = refl
five_tests false true c d e = refl
five_tests false false true d e = refl
five_tests false false false true e = refl
five_tests false false false false e = refl

pub field_next : (ls : List Lexeme) → is_next field ls ≡ ((is_next (word keyword.Skip) ls || is_next (word keyword.Fixed) ls) || is_next width ls)
field_next [] = refl
field_next (l ∷ ls) = two_tests (accepts (a_word keyword.Skip) l.token) (accepts (a_word keyword.Fixed) l.token) (may_begin width l.token)

pub width_next : (ls : List Lexeme) → is_next width ls ≡ ((((is_next (word keyword.U8) ls || is_next (word keyword.U16) ls) || is_next (word keyword.U32) ls) || is_next (word keyword.U64) ls) || is_next (word keyword.Bits) ls)
width_next [] = refl
width_next (l ∷ ls) = five_tests (accepts (a_word keyword.U8) l.token) (accepts (a_word keyword.U16) l.token) (accepts (a_word keyword.U32) l.token) (accepts (a_word keyword.U64) l.token) (accepts (a_word keyword.Bits) l.token)

-- ---- the phrases of expressions that there may be

pub length_said : (o : Option Expr) → maybe_text brackets_text (option_map expr_shape o) ≡ maybe_text said_length o
length_said None = refl
length_said (Some e) = refl

pub slot_said : (o : Option Expr) → maybe_text (behind_text keyword.Slot) (option_map expr_shape o) ≡ maybe_text said_slot o
slot_said None = refl
slot_said (Some e) = refl

-- ---- `fixed`, where it is next

pub fixed_taken : {x y : Standing} (r : Option ℕ) → IfSome r (λ place. Reads (word keyword.Fixed) (fixed_text place) x y) → IfSome r (λ place. is_next (word keyword.Fixed) x.rest ≡ true) → IfNone r (is_next (word keyword.Fixed) x.rest ≡ false) → IfNone r (y ≡ x) → Reads (maybe (word keyword.Fixed)) (maybe_text fixed_text r) x y
fixed_taken (Some place) some next none same = reads_left (next_is next) some
fixed_taken None some next none same = reads_to same (reads_none refl (other_is none))

-- ---- the value of `||`

pub or_then : {v r p : Bool} (q : Bool) → v ≡ r → r ≡ true → r ≡ p → v ≡ (p || q)
or_then q vr rt rp = vr ∙ rt ∙ sym (ap (λ b. b || q) (sym rp ∙ rt))

pub or_else : {v r p s q : Bool} → v ≡ s → s ≡ q → r ≡ false → r ≡ p → v ≡ (p || q)
or_else {q = q} vs sq rf rp = vs ∙ sq ∙ sym (ap (λ b. b || q) (sym rp ∙ rf))
