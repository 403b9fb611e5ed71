use Rattle.std.proofs.Common.{◌≡◌, drop}
use Rattle.dsr_meaning.specs.Refusals.{cut_refusals}
use Rattle.dsr_layout.specs.Tables.{known}
use Rattle.dsr_layout.specs.Telling.{told_of}
use Rattle.dsr_layout.proofs.Cutting.{cut_from}
use Rattle.dsr_layout.proofs.fixed_fields.cut.Given as goal

abbrev pub invariant-loop-number : goal.invariant-loop-number
invariant-loop-number l = told_of (cut_from (known l.cells) l.length l.number (drop l.number l.fields)) ≡ told_of (cut_refusals (known l.cells) l.fields l.length)
