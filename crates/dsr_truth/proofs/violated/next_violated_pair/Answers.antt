use Rattle.std.proofs.Common.{subst}
use Rattle.dsr_model.specs.Facts.{IsInModel}
use Rattle.dsr_truth.specs.Walks.{HoldsForPairs}
use Rattle.dsr_truth.proofs.Alone.{pairs_hold}
use Rattle.dsr_truth.proofs.violated.next_violated_pair.Goals as goal

pub returns-then-holds_for_pairs : goal.returns-then-holds_for_pairs
returns-then-holds_for_pairs c = λ b later.
    let is_fact = IsInModel c.args.model.now in
    let holds = subst (HoldsForPairs is_fact) c.only_literal-only.ensures (c.holds_for_pairs.ensures c.if-holds_for_pairs.true) in
    pairs_hold is_fact c.args.constraint.now c.args.rel c.requires.own holds b later.0
