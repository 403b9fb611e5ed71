use Rattle.dsr_affected.proofs.Marking.{next_by, reached_next}
use Rattle.dsr_affected.proofs.symbols.next.Goals as goal

pub returns-in-Some : goal.returns-in-Some
returns-in-Some c = reached_next c.args.spec.now c.args.fields.now c.args.marks.now c.in-Some.symbol c.in-Some.ensures

pub returns-in-None : goal.returns-in-None
returns-in-None c = next_by c.args.spec.now c.args.fields.now c.args.marks.now c.next_complement.result c.in-None.ensures c.next_complement.ensures
