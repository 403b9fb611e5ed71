-- What is told so far, with what is left, is all.
use Rattle.std.proofs.Common.{◌≡◌, ◌++◌, ◌+◌, length}
use Rattle.dsr_report.specs.Reports.{entries_behind}
use Rattle.dsr_report.proofs.texts.push_entries.Given as goal

abbrev pub invariant-loop-place : goal.invariant-loop-place
invariant-loop-place l = record {
  told : l.text.items ++ entries_behind l.spec (l.before + l.place) l.entries
      ≡ l.initial.text.items ++ entries_behind l.spec l.before l.log.entries;
  left : l.place + length l.entries ≡ length l.log.entries;
}
