use Rattle.std.proofs.Common.{refl, sym, ◌∙◌, ap}
use Rattle.dsr_tree.specs.declared.tokens.Token.TheVariants as tokens
use Rattle.dsr_parse.proofs.Passing.{taken}
use Rattle.dsr_parse.proofs.reader.Reader.name.Goals as goal

pub returns-in_ok-name-in-Name-clause-ok : goal.returns-in_ok-name-in-Name-clause-ok
returns-in_ok-name-in-Name-clause-ok c = taken c.in-Some.lexeme.now c.self.view_is c.in-Some.ensures.cases.0 refl (c.in-Name.is ∙ ap tokens.Name (sym c.in_ok-name-in-Name.ensures)) refl
