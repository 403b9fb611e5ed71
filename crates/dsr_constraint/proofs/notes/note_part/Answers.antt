use Rattle.dsr_constraint.proofs.Merged.{finds_part, finds_none}
use Rattle.dsr_constraint.proofs.notes.note_part.Goals as goal

pub returns-in-Some : goal.returns-in-Some
returns-in-Some c = λ faults finds. finds_part faults c.args.part.now.fault c.in-Some.fault c.in-Some.is finds c.note_if.ensures

pub returns-in_default : goal.returns-in_default
returns-in_default c = λ faults finds. finds_none faults c.args.part.now.fault c.in_default.is finds
