use Rattle.std.proofs.Common.{sym, ◌∙◌}
use Rattle.dsr_lexer.proofs.Lookups.{long_sign_found, short_signs_searched}
use Rattle.dsr_lexer.proofs.spellings.find_sign.Goals as goal

pub returns-in-Some : goal.returns-in-Some
returns-in-Some c = long_sign_found c.args.bytes.now c.in-Some.sign (sym c.find_front.ensures ∙ c.in-Some.is)

pub returns-in-None : goal.returns-in-None
returns-in-None c = short_signs_searched c.args.bytes.now c.find_front-in-None.result (sym c.find_front.ensures ∙ c.in-None.is) c.find_front-in-None.ensures
