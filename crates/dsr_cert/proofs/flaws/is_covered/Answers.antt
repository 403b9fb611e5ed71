use Rattle.std.proofs.Common.{subst, ◌∙◌}
use Rattle.std.specs.Prelude.{Decides, IfOk}
use Rattle.dsr_placement.specs.Atoms as marked
use Rattle.dsr_plan_theory.specs.Plans.{Covers}
use Rattle.dsr_cert.proofs.flaws.is_covered.Goals as goal

pub returns : goal.returns
returns c =
    subst (λ marks. IfOk c.covers.result (λ is. Decides is (Covers c.args.constraint.now (marked.IsTested marks)))) (c.deref.ensures.value ∙ c.in_ok-marks.ensures) c.covers.ensures
