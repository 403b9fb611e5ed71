use Rattle.std.proofs.Common.{map, subst}
use Rattle.dsr_meaning.specs.Consistency.{bound_constraint}
use Rattle.dsr_model.specs.Facts.{IsInModel}
use Rattle.dsr_truth.specs.Walks.{HoldsForPairs}
use Rattle.dsr_truth.proofs.Alone.{pairs_hold}
use Rattle.dsr_truth.proofs.Finding.{found_sound}
use Rattle.dsr_truth.proofs.violated.pair_violations.Goals as goal

pub returns-then-holds_for_pairs : goal.returns-then-holds_for_pairs
returns-then-holds_for_pairs c =
    let is_fact = IsInModel c.args.model.now in
    let holds = subst (HoldsForPairs is_fact) c.only_literal-only.ensures (c.holds_for_pairs.ensures c.if-holds_for_pairs.true) in
    found_sound is_fact c.args.spec.now c.args.number c.args.constraint.now c.requires.declared (map bound_constraint c.args.found.now.items)
    (pairs_hold is_fact c.args.constraint.now c.args.rel c.requires.own holds) c.requires.before
