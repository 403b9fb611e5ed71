-- A text has one tree.
use Rattle.std.proofs.Common.{◌≡◌, ℕ, List, map, sym, ap, ◌∙◌}
use Rattle.dsr_tree.specs.Trees.{TreeShape}
use Rattle.dsr_tree.specs.declared.tokens.Lexeme.{Lexeme}
use Rattle.dsr_syntax_theory.specs.Bare.{bare_tree}
use Rattle.dsr_syntax_theory.specs.Parsing.{IsTreeOf}
use Rattle.dsr_syntax_theory.specs.TreeTexts.{tree_text}
use Rattle.dsr_lexer.proofs.Laws.{lexed_once}
use Rattle.dsr_print.proofs.Once.{tree_once}
use Rattle.dsr_print.proofs.Reprinting.{said_whole}
use Rattle.dsr_parse.proofs.Bared.{placed_once, tree_bares}
use Rattle.dsr_parse.proofs.Telling.{tree_tells}

pub tree_unique : (text : List ℕ) (s t : TreeShape) → IsTreeOf text s → IsTreeOf text t → s ≡ t
tree_unique text s t a b =
    let l : a.lexemes ≡ b.lexemes = lexed_once text a.lexemes b.lexemes a.lexed b.lexed in
    let bare : bare_tree s ≡ bare_tree t = tree_once s t (sym (said_whole (tree_text s) a.lexemes a.says) ∙ ap (map (λ (x : Lexeme). x.token)) l ∙ said_whole (tree_text t) b.lexemes b.says) in
    tree_tells s t (placed_once l a.says b.says (tree_bares s ∙ ap tree_text bare ∙ sym (tree_bares t))).0
