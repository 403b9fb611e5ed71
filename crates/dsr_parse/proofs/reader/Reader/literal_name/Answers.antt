use Rattle.std.proofs.Common.{sym}
use Rattle.dsr_parse.proofs.Passing.{counted_after, err_from}
use Rattle.dsr_parse.proofs.reader.Reader.literal_name.Goals as goal

pub returns-clause-err : goal.returns-clause-err
returns-clause-err c = err_from c.name.result (λ e h. counted_after c.in_ok-count.ensures.below c.in_ok-count.ensures.rest c.in_ok-count.ensures.counted (sym c.if-not-is_name.ensures) h) c.name.ensures.err
