-- What the loop over a text keeps.
use Rattle.std.proofs.Common.{◌≡◌, ℕ, ◌+◌, ◌<◌, ◌≤◌, List, [], ◌++◌, length, take, drop, Some, None, Ok, ap, ◌∙◌, sym, subst, length-drop, arith}
use Rattle.std.proofs.lemmas.List.{drop_all, drop-drop, take-append-drop, length-take-le}
use Rattle.dsr_tree.specs.declared.tokens.Lexeme.{Lexeme}
use Rattle.dsr_syntax_theory.specs.Tokens.{is_second_version, IsCut, here, IsLexed}
use Rattle.dsr_lexer.specs.Lexing.{Steps, StepsOn, AreFrontTokens}
use Rattle.dsr_lexer.proofs.Laws.{cut_step}

pub first_cut : (text : List ℕ) (lexemes : List Lexeme) → lexemes ≡ [] → IsCut (is_second_version lexemes) 0 text lexemes 0 text
first_cut text lexemes none = subst (λ lexemes. IsCut (is_second_version lexemes) 0 text lexemes 0 text) (sym none) here

pub next_cut : (text : List ℕ) (old new : List Lexeme) (place next : ℕ) → IsCut (is_second_version old) 0 text old place (drop place text) → Steps old new text place next → IsCut (is_second_version new) 0 text new next (drop next text)
next_cut text old new place next cut step =
    let fits : step.len ≤ length (drop place text) = omega (arith, step.is, step.fits, length-drop place text) in
    let split : drop place text ≡ take step.len (drop place text) ++ drop step.len (drop place text) = sym (take-append-drop step.len (drop place text)) in
    let more = cut_step text (take step.len (drop place text)) (drop step.len (drop place text)) old step.found place (subst (λ rest. IsCut (is_second_version old) 0 text old place rest) split cut) step.begins in
    let to : place + length (take step.len (drop place text)) ≡ next = ap (λ n. place + n) (length-take-le step.len (drop place text) fits) ∙ sym step.is in
    let left : drop step.len (drop place text) ≡ drop next text = drop-drop step.len place text ∙ ap (λ n. drop n text) (sym step.is) in
    subst (λ left. IsCut (is_second_version new) 0 text new next left) left
    (subst (λ to. IsCut (is_second_version new) 0 text new to (drop step.len (drop place text))) to
    (subst (λ new. IsCut (is_second_version new) 0 text new (place + length (take step.len (drop place text))) (drop step.len (drop place text))) (sym step.added) more))

pub whole_cut : (text : List ℕ) (lexemes : List Lexeme) (place : ℕ) → place ≤ length text → length text ≤ place → IsCut (is_second_version lexemes) 0 text lexemes place (drop place text) → IsLexed text lexemes
whole_cut text lexemes place within over cut =
    let end : place ≡ length text = omega arith in
    let left : drop place text ≡ [] = drop_all place text over in
    record { cut = subst (λ place. IsCut (is_second_version lexemes) 0 text lexemes place []) end (subst (λ left. IsCut (is_second_version lexemes) 0 text lexemes place left) left cut) }

-- no step behind the tokens read: the text has its fault there
pub front_stopped : (text : List ℕ) (old new : List Lexeme) (place : ℕ) → place < length text → IsCut (is_second_version old) 0 text old place (drop place text) → StepsOn old new text place (Ok None) → AreFrontTokens text new (Some place)
front_stopped text old new place within cut step = (
  record {
    before = old;
    left = drop place text;
    cut = cut;
    some = λ empty. (let size : length (drop place text) ≡ 0 = ap length empty in omega (arith, size, length-drop place text));
    none = step.1;
  },
  sym step.0,
)
