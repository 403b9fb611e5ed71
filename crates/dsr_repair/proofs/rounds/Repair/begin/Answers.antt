-- A repair that begins.
use Rattle.std.proofs.Common.{◌≤◌, IfSome, length, sym, subst}
use Rattle.dsr_fixpoint.specs.Models.{IsLaidOut, IsModelOf, IsPreparedFor}
use Rattle.dsr_plan_theory.specs.declared.choices.Choice.{Choice}
use Rattle.dsr_repair.proofs.Moved.{cursor_begins, few_rows}
use Rattle.dsr_repair.proofs.StepMade.{laid_out}
use Rattle.dsr_repair.specs.Orders.{IsRepairOrder}
use Rattle.dsr_plan_theory.specs.Plans.{IsPlan}
use Rattle.dsr_resolve.proofs.AcceptedLayouts.{legal_of}
use Rattle.dsr_resolve.specs.Rules.{AreResolved}
use Rattle.dsr_supported.specs.Supported.{IsSupportFor}
use Rattle.dsr_repair.proofs.rounds.Repair.begin.Goals as goal

pub new-requires : goal.new-requires
new-requires g c = record {
  few = subst (λ (choice : Choice). length choice.rows ≤ 128) (sym c.choice.ensures.is)
      (few_rows c.args.plan.now.0 c.args.plan.now.1 c.requires.image.typed
      (subst (λ s. IsPlan s c.args.plan.now.1) c.spec-spec.ensures.is c.spec-spec.ensures.plan));
}

pub prepare-requires-clause-legal : goal.prepare-requires-clause-legal
prepare-requires-clause-legal g c =
    legal_of c.args.plan.now.0 (g.I.ImageBytes.bytes c.args.image.now) c.args.layout.now c.requires.image.layout_is
    c.requires.image.typed c.requires.image.small

pub rebuild-requires-clause-laid_out : goal.rebuild-requires-clause-laid_out
rebuild-requires-clause-laid_out g c =
    subst (λ s. IsLaidOut s c.args.layout.now (g.I.ImageBytes.bytes c.args.image.now)) (sym c.spec-spec.ensures.is)
    (laid_out c.args.plan.now.0 c.args.layout.now (g.I.ImageBytes.bytes c.args.image.now) c.requires.image)

pub returns : goal.returns
returns g c =
    let old = g.I.ImageBytes.bytes c.args.image.now in
    record {
      modelled = record {
        image = c.requires.image;
        prepared = subst (λ s. IsPreparedFor s c.args.layout.now c.rebuild.new.model) c.spec-spec.ensures.is c.rebuild.ensures.prepared;
        model = subst (λ s. IsModelOf s c.args.layout.now old c.rebuild.new.model) c.spec-spec.ensures.is c.rebuild.ensures.model;
      };
      rules = subst (λ s. AreResolved s c.args.layout.now c.in_ok-rules.rules) c.spec-spec.ensures.is c.in_ok-rules.ensures;
      cursor = cursor_begins c.args.plan.now.0 c.args.plan.now.1 c.args.layout.now old c.in_ok-cursor.cursor
          (subst (λ choice. IsRepairOrder choice c.in_ok-cursor.cursor.order.items) c.choice.ensures.is c.in_ok-cursor.ensures.ordered)
          c.in_ok-cursor.ensures.begins;
      backed = subst (λ o. IfSome o (IsSupportFor c.args.plan.now.0 c.args.layout.now old c.in_ok-rules.rules c.rebuild.new.model)) (sym c.new-3.ensures) tt;
    }
