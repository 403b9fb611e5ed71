use Rattle.std.proofs.Common.{◌≡◌, ◌+◌, ◌++◌, ◌∙◌, [], ◌∷◌, ap, sym, subst, arith}
use Rattle.dsr_update_theory.specs.KnownSets.{IsKnown}
use Rattle.dsr_facts.proofs.Following.{known_declared}
use Rattle.dsr_facts.proofs.Listing.{IsListed, all_listed, listed_more, listed_same, none_listed}
use Rattle.dsr_facts.proofs.memberships.known.Goals as goal
use Rattle.dsr_facts.proofs.memberships.known.Goals.{then-is_known+in_ok-push, else-is_known}

pub loop-set-init : goal.loop-set-init
loop-set-init c = subst (λ sets. IsListed c.known_sets-marks.result sets 0) (sym c.new-sets.ensures.items) (none_listed c.known_sets-marks.result)

pub loop-set-preserved : goal.loop-set-preserved
loop-set-preserved c = elim c.if-is_known.branch [
  | then-is_known+in_ok-push w ↦
      let pushed : c.if-is_known.sets.items ≡ c.loop-set.sets.items ++ c.loop-set.set ∷ [] = ap (λ s. s.items) w.sets-is ∙ w.in_ok-push.ensures.items in
      subst (λ sets. IsListed c.known_sets-marks.result sets (c.loop-set.set + 1)) (sym pushed)
      (listed_more c.known_sets-marks.result c.loop-set.sets.items c.loop-set.set w.if-is_known.true c.loop-set.invariant)
  | else-is_known w ↦ subst (λ sets. IsListed c.known_sets-marks.result sets.items (c.loop-set.set + 1)) (sym w.sets-is)
      (listed_same c.known_sets-marks.result c.loop-set.sets.items c.loop-set.set w.if-is_known.false c.loop-set.invariant)
]

pub returns-clause-all : goal.returns-clause-all
returns-clause-all c =
    all_listed c.known_sets-marks.result c.loop-set.sets.items c.loop-set.set (IsKnown c.args.spec.now c.args.quant.now c.args.var)
    (λ set known. omega (arith, c.loop-set-test.false, c.requires.typed.base.few_symbols, known_declared c.args.spec.now c.args.quant.now c.requires.typed c.requires.quantifier c.args.var set known))
    c.known_sets-marks.ensures c.loop-set.invariant

pub returns-clause-rising : goal.returns-clause-rising
returns-clause-rising c = c.loop-set.invariant.rising
