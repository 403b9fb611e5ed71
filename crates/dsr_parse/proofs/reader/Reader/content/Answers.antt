use Rattle.std.proofs.Common.{refl, ◌∙◌}
use Rattle.dsr_parse.proofs.Passing.{passed_on, next_is, other_is, halts_rest, halts_left, halts_right, reads_then, reads_left, reads_right, reads_none, next_left, next_right, next_neither}
use Rattle.dsr_tree.specs.declared.tokens.Keyword.TheVariants as keyword
use Rattle.dsr_syntax_theory.specs.Grammar.{word}
use Rattle.dsr_parse.proofs.Taking.{halts_from, next_behind, reads_from, reads_to}
use Rattle.dsr_parse.proofs.reader.Reader.content.Goals as goal

pub returns-in_err-pool-clause-err : goal.returns-in_err-pool-clause-err
returns-in_err-pool-clause-err c = passed_on c.from_residual.result c.from_residual.ensures.1 (halts_left (next_left (next_is c.in-Some.ensures.next)) (halts_left (next_is c.in-Some.ensures.next) (halts_rest c.in-Some.ensures.some c.in_err-pool.ensures.err)))

pub returns-in-Some-clause-ok : goal.returns-in-Some-clause-ok
returns-in-Some-clause-ok c = reads_left (next_left (next_is c.in-Some.ensures.next)) (reads_left (next_is c.in-Some.ensures.next) (reads_then c.in-Some.ensures.some c.in_ok-pool.ensures.ok))

pub returns-in_err-number-clause-err : goal.returns-in_err-number-clause-err
returns-in_err-number-clause-err c = passed_on c.from_residual-in_err-number.result c.from_residual-in_err-number.ensures.1 (halts_left (next_right (next_is (next_behind (word keyword.Init) c.in_default.ensures.same c.in-Some-take_word.ensures.next))) (halts_right refl (other_is c.in_default.ensures.none) (halts_from c.in_default.ensures.same (halts_rest c.in-Some-take_word.ensures.some c.in_err-number.ensures.err))))

pub returns-in-Some-take_word-clause-ok : goal.returns-in-Some-take_word-clause-ok
returns-in-Some-take_word-clause-ok c = reads_left (next_right (next_is (next_behind (word keyword.Init) c.in_default.ensures.same c.in-Some-take_word.ensures.next))) (reads_right refl (other_is c.in_default.ensures.none) (reads_from c.in_default.ensures.same (reads_then c.in-Some-take_word.ensures.some c.in_ok-number.ensures.ok)))

pub returns-clause-ok : goal.returns-clause-ok
returns-clause-ok c = reads_to (c.in_default-take_word.ensures.same ∙ c.in_default.ensures.same) (reads_none refl (next_neither (other_is c.in_default.ensures.none) (other_is (next_behind (word keyword.Init) c.in_default.ensures.same c.in_default-take_word.ensures.none))))
