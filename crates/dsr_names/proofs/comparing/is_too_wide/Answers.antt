use Rattle.std.proofs.lemmas.Nat.{pow_pos}
use Rattle.dsr_names.proofs.Wide.{holds_once, never_too_wide}
use Rattle.dsr_names.proofs.comparing.is_too_wide.Goals as goal

pub returns-then-bits-lt64 : goal.returns-then-bits-lt64
returns-then-bits-lt64 c = holds_once c.args.number _ (pow_pos c.args.bits)

pub returns-else-bits-lt64 : goal.returns-else-bits-lt64
returns-else-bits-lt64 c = never_too_wide c.args.bits c.args.number c.if-bits-lt64.false c.ranges.number.fits
