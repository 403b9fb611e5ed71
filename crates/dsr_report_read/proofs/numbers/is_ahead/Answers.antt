use Rattle.std.proofs.lemmas.Bool.Decides.{Decides-eqb}
use Rattle.std.proofs.lemmas.Slice.Eq.{strip_prefix_is}
use Rattle.dsr_report_read.proofs.Ahead.{begins_by}
use Rattle.dsr_report_read.proofs.numbers.is_ahead.Goals as goal

pub returns : goal.returns
returns c =
    begins_by c.args.text.now c.args.front.now c.strip_prefix.result
    (strip_prefix_is Decides-eqb c.args.text.now c.args.front.now c.strip_prefix.result c.strip_prefix.ensures.cases)
    c.is_some.result c.is_some.ensures
