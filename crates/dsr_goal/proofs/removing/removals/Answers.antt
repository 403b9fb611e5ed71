use Rattle.std.proofs.Common.{ℕ, [], IfOk, Bor, map, ap, subst, ◌∙◌}
use Rattle.dsr_ir.specs.declared.rules.Rule.{Rule}
use Rattle.dsr_update_theory.specs.Templates.{AreOnce}
use Rattle.dsr_goal.proofs.Removed.{removals_same}
use Rattle.dsr_goal.proofs.removing.removals.Goals as goal

abbrev seen : ℕ × Bor Rule → ℕ × Rule
seen r = (r.0, r.1.now)

pub returns : goal.returns
returns c =
    subst (λ all. IfOk c.templates.result (λ ts. AreOnce [] all ts.items))
    (removals_same seen c.args.spec.now c.args.symbol c.args.goal c.args.var c.deref.result.now c.deref-2.result.now
    (ap (map seen) c.deref.ensures.value ∙ c.in_ok-rules.ensures)
    (c.deref-2.ensures.value ∙ c.in_ok-removals.ensures))
    c.templates.ensures
