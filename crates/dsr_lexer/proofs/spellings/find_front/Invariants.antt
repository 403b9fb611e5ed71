use Rattle.std.proofs.Common.{◌≡◌, drop}
use Rattle.dsr_lexer.specs.Spelled.{sign_among}
use Rattle.dsr_lexer.proofs.spellings.find_front.Given as goal

abbrev pub invariant-loop-sign : goal.invariant-loop-sign
invariant-loop-sign l = sign_among (drop l.sign-index l.signs) l.bytes ≡ sign_among l.signs l.bytes
