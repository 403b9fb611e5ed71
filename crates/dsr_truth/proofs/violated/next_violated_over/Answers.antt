use Rattle.std.proofs.Common.{IfSome, None, Some, subst}
use Rattle.dsr_meaning.specs.Consistency.{ConjHolds}
use Rattle.dsr_model.specs.Facts.{IsInModel}
use Rattle.dsr_truth.proofs.Alone.{own_next}
use Rattle.dsr_truth.proofs.Satisfying.{some_or_none}
use Rattle.dsr_truth.proofs.Searching.{search_begins, search_ends, search_finds, search_goes_on}
use Rattle.dsr_truth.specs.Walks.{MayBind}
use Rattle.dsr_truth.proofs.violated.next_violated_over.Goals as goal

pub loop-binding-init : goal.loop-binding-init
loop-binding-init c = record {
  searched = search_begins (IsInModel c.args.model.now) c.args.constraint.now c.args.before;
  kind = subst (λ q. IfSome c.args.before (MayBind c.args.model.now q)) c.requires.own c.requires.kind;
}

pub loop-binding-preserved : goal.loop-binding-preserved
loop-binding-preserved c =
    let is_fact = IsInModel c.args.model.now in
    let constraint = c.args.constraint.now in
    let binding = c.in-Some.binding in
    record {
      searched =
          search_goes_on is_fact constraint c.args.before c.loop-binding.last c.loop-binding.invariant.searched binding
          (own_next is_fact constraint c.args.quant c.loop-binding.last (Some binding) c.requires.own c.in-Some.ensures.next)
          (some_or_none (ConjHolds is_fact binding) constraint.conjs c.if-not-is_met.ensures);
      kind = c.in-Some.ensures.kind;
    }

pub returns-then-not-is_met : goal.returns-then-not-is_met
returns-then-not-is_met c =
    let is_fact = IsInModel c.args.model.now in
    let constraint = c.args.constraint.now in
    let binding = c.in-Some.binding in
    search_finds is_fact constraint c.args.before c.loop-binding.last c.loop-binding.invariant.searched binding
    (own_next is_fact constraint c.args.quant c.loop-binding.last (Some binding) c.requires.own c.in-Some.ensures.next)
    c.if-not-is_met.ensures

pub returns : goal.returns
returns c =
    let is_fact = IsInModel c.args.model.now in
    let constraint = c.args.constraint.now in
    search_ends is_fact constraint c.args.before c.loop-binding.last c.loop-binding.invariant.searched
    (own_next is_fact constraint c.args.quant c.loop-binding.last None c.requires.own c.in_default.ensures.next)
