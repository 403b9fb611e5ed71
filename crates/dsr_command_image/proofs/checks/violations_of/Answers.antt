use Rattle.std.proofs.Common.{ap, map}
use Rattle.dsr_meaning.proofs.Placing.{spec_placeable}
use Rattle.dsr_meaning.specs.Models.{IsFact}
use Rattle.dsr_model.specs.Facts.{IsInModel}
use Rattle.dsr_model.specs.Views.{set_shape}
use Rattle.dsr_meaning.specs.Consistency.{bound_constraint}
use Rattle.dsr_fixpoint.proofs.Bridged.{same_facts}
use Rattle.dsr_fixpoint.proofs.SameFacts.{found_same}
use Rattle.dsr_command_image.proofs.checks.violations_of.Goals as goal

pub rebuild-requires-clause-prepared : goal.rebuild-requires-clause-prepared
rebuild-requires-clause-prepared c = record {
  rules = c.in_ok-model.ensures.rules;
  sets = ap (map set_shape) c.in_ok-model.ensures.sets;
}

pub violations-requires-clause-few : goal.violations-requires-clause-few
violations-requires-clause-few c = (spec_placeable c.args.spec.now c.requires.typed).few_constraints

pub returns : goal.returns
returns c =
    found_same (IsInModel c.rebuild.new.model) (IsFact c.args.spec.now c.args.layout.now c.args.image.now)
    (same_facts c.args.spec.now c.args.layout.now c.args.image.now c.rebuild.new.model
    c.rebuild.ensures.model c.rebuild.ensures.prepared)
    c.args.spec.now (λ vs. map bound_constraint vs.items) c.violations.result c.violations.ensures
