use Rattle.dsr_effect.proofs.Touched.{apart_decides}
use Rattle.dsr_effect.proofs.changes.Change.is_kept_apart.Goals as goal

pub returns-in-Of-Some : goal.returns-in-Of-Some
returns-in-Of-Some c =
    apart_decides c.args.self.now c.requires.told c.args.rule.now c.requires.among c.in-Of-Some.set c.in-Of-Some.is-1 c.is_marked.result c.is_marked.ensures
