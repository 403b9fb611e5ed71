use Rattle.std.proofs.Common.{sym, ◌∙◌, subst}
use Rattle.dsr_lexer.specs.Spelled.{candidates, FindsKeyword}
use Rattle.dsr_lexer.proofs.Lookups.{among_candidates, is_keyword_found, no_keyword_found, other_keyword_found}
use Rattle.dsr_lexer.proofs.spellings.find_keyword.Goals as goal

pub returns-then-is_keyword_of : goal.returns-then-is_keyword_of
returns-then-is_keyword_of c =
    let found = among_candidates c.args.word.now _ _ c.candidates.ensures c.find_among.ensures ∙ c.in_ok-keyword.was in
    (sym c.is_keyword_of.ensures ∙ c.if-is_keyword_of.true, is_keyword_found (candidates c.args.word.now) c.args.word.now c.in_ok-keyword.keyword found)

pub returns-else-is_keyword_of : goal.returns-else-is_keyword_of
returns-else-is_keyword_of c =
    let found = among_candidates c.args.word.now _ _ c.candidates.ensures c.find_among.ensures ∙ c.in_ok-keyword.was in
    other_keyword_found c.args.second c.args.word.now c.in_ok-keyword.keyword found (sym c.is_keyword_of.ensures ∙ c.if-is_keyword_of.false)

pub returns-in_err-keyword : goal.returns-in_err-keyword
returns-in_err-keyword c =
    let none = among_candidates c.args.word.now _ _ c.candidates.ensures c.find_among.ensures ∙ c.in_err-keyword.was in
    subst (λ found. FindsKeyword c.args.second c.args.word.now found) (sym c.from_residual.ensures) (λ k _. no_keyword_found c.args.word.now none k)
