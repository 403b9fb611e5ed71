-- That one flow hands on what it may, and that a row that grew misses fewer tags.
use Rattle.std.proofs.Common.{◌∙◌, refl, sym}
use Rattle.dsr_effect.proofs.Handing.{hand_on_progress, nothing_handed}
use Rattle.dsr_effect.proofs.flows.hand_on.Goals as goal

pub returns-then-not-is_some : goal.returns-then-not-is_some
returns-then-not-is_some c = record {
  rows = nothing_handed c.args.flow c.args.rows.now (sym c.is_some.ensures ∙ c.if-not-is_some.true);
  progress = refl;
}

pub returns-clause-progress : goal.returns-clause-progress
returns-clause-progress c =
    hand_on_progress c.args.rows.now c.args.flow.to c.passed_tags.result c.joined-new.result c.ne.result c.requires.between.to c.joined-new.ensures c.ne.ensures
