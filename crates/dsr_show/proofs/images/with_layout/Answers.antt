use Rattle.std.proofs.Common.{ap, map}
use Rattle.dsr_model.specs.Views.{set_shape}
use Rattle.dsr_show.proofs.images.with_layout.Goals as goal

pub rebuild-requires-clause-prepared : goal.rebuild-requires-clause-prepared
rebuild-requires-clause-prepared c = record {
  rules = c.in_ok-model.ensures.rules;
  sets = ap (map set_shape) c.in_ok-model.ensures.sets;
}
