-- The printed text of a tree that was read.
use Rattle.std.proofs.Common.{◌≡◌, ℕ, List, [], map, sym, ap, ◌∙◌, append-nil, subst}
use Rattle.dsr_tree.specs.Trees.{TreeShape}
use Rattle.dsr_tree.specs.declared.tokens.Lexeme.{Lexeme}
use Rattle.dsr_syntax_theory.specs.Canonical.{canonical}
use Rattle.dsr_syntax_theory.specs.Grammar.{rule_of, spec}
use Rattle.dsr_syntax_theory.specs.Parsing.{IsTreeOf, IsReprinted}
use Rattle.dsr_syntax_theory.specs.Phrases.{Phrase, Says, tokens_of}
use Rattle.dsr_syntax_theory.specs.Syntax.{Derives}
use Rattle.dsr_syntax_theory.specs.TreeTexts.{tree_text}
use Rattle.dsr_lexer.proofs.Laws.{lexed_once}
use Rattle.dsr_print.proofs.Once.{tree_once}
use Rattle.dsr_print.proofs.Relexing.{relexed, tokens_said, within_same}

-- the tokens of a whole text
pub said_whole : (p : Phrase) (ls : List Lexeme) → Says p ls [] → map (λ l. l.token) ls ≡ tokens_of p
said_whole p ls says = tokens_said p ls [] says ∙ append-nil (tokens_of p)

pub reprinted : (text : List ℕ) (tree : TreeShape) → IsTreeOf text tree → IsReprinted text (canonical tree) tree
reprinted text tree is =
    let tokens = said_whole (tree_text tree) is.lexemes is.says in
    let again = relexed text is.lexemes tree is.lexed tokens in
    let same = tokens ∙ sym again.same in
    record {
      tokens = record { before = is.lexemes; after = again.lexemes; lexed_before = is.lexed; lexed_after = again.lexed; same = same };
      is_spec = record { lexemes = again.lexemes; lexed = again.lexed; sentence = record { count = is.sentence.count; derived = subst (Derives rule_of spec 0 is.sentence.count) (within_same is.lexemes again.lexemes same) is.sentence.derived } };
      again = λ other of. tree_once other tree (sym (said_whole (tree_text other) of.lexemes of.says) ∙ ap (map (λ l. l.token)) (lexed_once (canonical tree) of.lexemes again.lexemes of.lexed again.lexed) ∙ again.same);
    }
