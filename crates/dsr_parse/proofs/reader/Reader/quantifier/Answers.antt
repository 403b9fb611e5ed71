use Rattle.dsr_parse.proofs.Grouped.{behind_is, behind_stops, halts_behind, halts_group, reads_group}
use Rattle.dsr_parse.proofs.Passing.{halts_first, halts_left, halts_rest, next_is, other_is, passed_on, reads_as, reads_left, reads_then, reads_unkept}
use Rattle.dsr_parse.proofs.Taking.{reads_nothing}
use Rattle.dsr_syntax_theory.specs.TreeTexts.{binder_text}
use Rattle.std.proofs.Common.{ap, refl}
use Rattle.dsr_parse.proofs.reader.Reader.quantifier.Goals as goal

pub returns-in_default-clause-ok : goal.returns-in_default-clause-ok
returns-in_default-clause-ok c = reads_nothing refl c.in_default.ensures.same (other_is c.in_default.ensures.none)

pub returns-in_err-binder-clause-err : goal.returns-in_err-binder-clause-err
returns-in_err-binder-clause-err c = passed_on c.from_residual.result c.from_residual.ensures.1 (halts_left (next_is c.in-Some.ensures.next) (halts_rest c.in-Some.ensures.some (halts_first c.in_err-binder.ensures.err)))

pub returns-in_err-binder-2-clause-err : goal.returns-in_err-binder-2-clause-err
returns-in_err-binder-2-clause-err c = passed_on c.from_residual-in_err-binder-2.result c.from_residual-in_err-binder-2.ensures.1 (halts_left (next_is c.in-Some.ensures.next) (halts_rest c.in-Some.ensures.some (halts_rest c.in_ok-binder.ensures.ok (halts_group (behind_stops _ c.name_behind.result c.in_err-binder-2.ensures.err c.name_behind.ensures.err)))))

pub returns-in_err-starting_sign-clause-err : goal.returns-in_err-starting_sign-clause-err
returns-in_err-starting_sign-clause-err c = passed_on c.from_residual-in_err-starting_sign.result c.from_residual-in_err-starting_sign.ensures.1 (halts_left (next_is c.in-Some.ensures.next) (halts_rest c.in-Some.ensures.some (halts_rest c.in_ok-binder.ensures.ok (halts_behind (behind_is _ c.name_behind.result c.in_ok-binder-2.ensures.ok c.name_behind.ensures.ok) c.in_err-starting_sign.ensures.err))))

pub returns-clause-ok : goal.returns-clause-ok
returns-clause-ok c = reads_left (next_is c.in-Some.ensures.next) (reads_then c.in-Some.ensures.some (reads_then (reads_as (ap binder_text c.in_ok-binder-2.ensures.ok.0) c.in_ok-binder.ensures.ok) (reads_group (behind_is _ c.name_behind.result c.in_ok-binder-2.ensures.ok c.name_behind.ensures.ok) (reads_unkept c.in_ok-starting_sign.ensures.ok))))
