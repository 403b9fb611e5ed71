use Rattle.std.proofs.Common.{[], ◌∷◌, ◌∙◌, None, Some, ap, map, subst, sym}
use Rattle.std.proofs.lemmas.List.{map-append}
use Rattle.dsr_meaning.specs.Consistency.{ConjHolds, bound_constraint}
use Rattle.dsr_model.specs.Facts.{IsInModel}
use Rattle.dsr_truth.proofs.Alone.{own_next}
use Rattle.dsr_truth.proofs.Finding.{found_end, found_more, found_same}
use Rattle.dsr_truth.proofs.Satisfying.{some_or_none}
use Rattle.dsr_truth.specs.Walks.{AreFound}
use Rattle.dsr_truth.proofs.violated.violations_over.Goals as goal
use Rattle.dsr_truth.proofs.violated.violations_over.Goals.{then-not-is_met+in_ok-push, else-not-is_met}

pub loop-binding-preserved : goal.loop-binding-preserved
loop-binding-preserved c =
    let is_fact = IsInModel c.args.model.now in
    let spec = c.args.spec.now in
    let number = c.args.number in
    let constraint = c.args.constraint.now in
    let binding = c.in-Some.binding in
    let items = c.loop-binding.found.items in
    let next =
    own_next is_fact constraint c.args.quant c.loop-binding.last (Some binding) c.requires.own c.in-Some.ensures.next in
    record {
      found = elim c.if-not-is_met.branch [
        | then-not-is_met+in_ok-push w ↦
            let pushed = ap (λ v. v.items) w.found-is ∙ w.in_ok-push.ensures.items in
            let more = ap (map bound_constraint) pushed ∙ map-append bound_constraint items ((number, binding) ∷ []) in
            subst (AreFound is_fact spec number (Some binding)) (sym more)
            (found_more is_fact spec number constraint c.requires.declared c.loop-binding.last binding next
            (map bound_constraint items) c.loop-binding.invariant.found w.if-not-is_met.ensures)
        | else-not-is_met w ↦
            let satisfied = some_or_none (ConjHolds is_fact binding) constraint.conjs w.if-not-is_met.ensures in
            subst (AreFound is_fact spec number (Some binding)) (sym (ap (λ v. map bound_constraint v.items) w.found-is))
            (found_same is_fact spec number constraint c.requires.declared c.loop-binding.last binding next
            (map bound_constraint items) c.loop-binding.invariant.found satisfied)
      ];
      kind = c.in-Some.ensures.kind;
    }

pub returns : goal.returns
returns c =
    let is_fact = IsInModel c.args.model.now in
    let constraint = c.args.constraint.now in
    found_end is_fact c.args.spec.now c.args.number constraint
    c.requires.declared c.loop-binding.last (map bound_constraint c.loop-binding.found.items)
    (own_next is_fact constraint c.args.quant c.loop-binding.last None c.requires.own c.in_default.ensures.next)
    c.loop-binding.invariant.found
