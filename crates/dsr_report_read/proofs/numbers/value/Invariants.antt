use Rattle.std.proofs.Common.{◌≡◌, drop}
use Rattle.dsr_report_read.specs.Lenient.{value_after}
use Rattle.dsr_report_read.proofs.numbers.value.Given as goal

abbrev pub invariant-loop-digit : goal.invariant-loop-digit
invariant-loop-digit l = value_after l.value (drop l.digit-index l.digits) ≡ value_after 0 l.digits
