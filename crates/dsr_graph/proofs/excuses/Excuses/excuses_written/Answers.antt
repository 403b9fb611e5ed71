use Rattle.std.proofs.Common.{sym, ◌∙◌}
use Rattle.std.proofs.lemmas.Bool.{false≢true}
use Rattle.dsr_graph.proofs.Tagged.{written_decides}
use Rattle.dsr_graph.proofs.excuses.Excuses.excuses_written.Goals as goal

pub returns-then-not-is_only_written : goal.returns-then-not-is_only_written
returns-then-not-is_only_written c = λ owner other change reason tells are. (
  λ no. absurd (false≢true no),
  λ both. absurd (false≢true (sym c.if-not-is_only_written.true ∙ (c.is_only_written.ensures ∙ (written_decides change reason c.args.tags are).1 both.0))),
)

pub returns : goal.returns
returns c = λ owner other change reason tells are. (
  λ t. ((written_decides change reason c.args.tags are).0 (sym c.is_only_written.ensures ∙ c.if-not-is_only_written.false), (c.excuses_place.ensures owner other tells).0 t),
  λ both. (c.excuses_place.ensures owner other tells).1 both.1,
)
