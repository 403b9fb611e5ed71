use Rattle.std.proofs.Common.{◌∙◌, Some, ap, sym}
use Rattle.dsr_effect.proofs.Asking.{premise_same}
use Rattle.dsr_effect.proofs.Touched.{touched_at_f_decides}
use Rattle.dsr_effect.proofs.changes.Change.is_touched_at_f.Goals as goal

pub returns-in-Some : goal.returns-in-Some
returns-in-Some c =
    touched_at_f_decides c.args.self.now c.requires.told c.args.rule.now c.requires.among c.in-Some.set c.in-Some.is c.is_marked.result
    (premise_same _ _ (sym c.eq.ensures ∙ c.if-eq.true) ∙ ap Some c.premise_pool.ensures)
    c.is_marked.ensures
