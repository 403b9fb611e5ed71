use Rattle.std.proofs.Common.{length, ap}
use Rattle.dsr_lexer.proofs.Found.{sign_stands}
use Rattle.dsr_lexer.proofs.words.find_mark.Goals as goal

pub returns : goal.returns
returns c second = sign_stands second c.args.text.now c.in_ok-sign.sign (length c.sign_bytes.result.now) c.in_ok-sign.ensures (ap length c.sign_bytes.ensures)
