use Rattle.std.proofs.Common.{refl, sym, ◌∙◌}
use Rattle.dsr_parse.proofs.Passing.{taken_tested}
use Rattle.dsr_parse.proofs.reader.Reader.take_sign.Goals as goal

pub returns-in-Some-clause-some : goal.returns-in-Some-clause-some
returns-in-Some-clause-some c = taken_tested c.in-Some.lexeme.now c.self.view_is c.in-Some.ensures.cases.0 refl (c.is_mark.ensures.same c.if-is_mark.true) (sym c.is_mark.ensures.tested ∙ c.if-is_mark.true)
