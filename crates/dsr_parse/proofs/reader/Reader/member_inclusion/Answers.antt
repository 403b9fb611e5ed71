use Rattle.dsr_parse.proofs.Grouped.{behind_is, behind_stops}
use Rattle.dsr_parse.proofs.Passing.{halts_first, halts_rest, passed_on, reads_as, reads_then}
use Rattle.dsr_syntax_theory.specs.TreeTexts.{member_text}
use Rattle.std.proofs.Common.{ap}
use Rattle.dsr_parse.proofs.reader.Reader.member_inclusion.Goals as goal

pub returns-in_err-member-clause-err : goal.returns-in_err-member-clause-err
returns-in_err-member-clause-err c = passed_on c.from_residual.result c.from_residual.ensures.1 (halts_first c.in_err-member.ensures.err)

pub returns-in_err-member-2-clause-err : goal.returns-in_err-member-2-clause-err
returns-in_err-member-2-clause-err c = passed_on c.from_residual-in_err-member-2.result c.from_residual-in_err-member-2.ensures.1 (halts_rest c.in_ok-member.ensures.ok (behind_stops _ c.name_behind.result c.in_err-member-2.ensures.err c.name_behind.ensures.err))

pub returns-clause-ok : goal.returns-clause-ok
returns-clause-ok c = reads_then (reads_as (ap member_text c.in_ok-member-2.ensures.ok.0) c.in_ok-member.ensures.ok) (behind_is _ c.name_behind.result c.in_ok-member-2.ensures.ok c.name_behind.ensures.ok)
