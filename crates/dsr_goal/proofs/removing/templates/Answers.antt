use Rattle.std.proofs.Common.{◌≡◌, ◌+◌, [], sym, subst, ◌∙◌, ap, map, arith}
use Rattle.std.specs.List.{range_with_len}
use Rattle.dsr_meaning.specs.Counting.{IsIn}
use Rattle.dsr_update_theory.specs.Templates.{AreOnce}
use Rattle.dsr_goal.specs.Removing.{template_at}
use Rattle.dsr_goal.proofs.Removed.{none_once, all_once, seen_more, new_more}
use Rattle.dsr_goal.proofs.removing.templates.Goals as goal
use Rattle.dsr_goal.proofs.removing.templates.Goals.{then-is_new+in_ok-push, else-is_new}

pub returns-then-lacks_option : goal.returns-then-lacks_option
returns-then-lacks_option c = none_once c.args.goal c.args.removals.now _ (sym c.lacks_option.ensures ∙ c.if-lacks_option.true) c.new-templates.ensures.items

pub loop-number-init : goal.loop-number-init
loop-number-init c = subst (AreOnce [] []) (sym c.new-templates.ensures.items) AreOnce.done

pub loop-number-preserved : goal.loop-number-preserved
loop-number-preserved c =
    let found = c.loop-number.templates.items in
    let so_far = map (template_at c.args.goal c.args.removals.now) (range_with_len 0 (c.loop-number.number + 1)) in
    elim c.if-is_new.branch [
      | then-is_new+in_ok-push w ↦
          subst (AreOnce [] so_far) (sym (ap (λ ts. ts.items) w.templates-is ∙ w.in_ok-push.ensures.items))
          (new_more (template_at c.args.goal c.args.removals.now) c.loop-number.number c.in_ok-next.next found c.in_ok-next.ensures (subst (λ ts. IsIn c.in_ok-next.next ts → ⊥) c.deref.ensures.value w.if-is_new.ensures) c.loop-number.invariant)
      | else-is_new w ↦
          subst (AreOnce [] so_far) (sym (ap (λ ts. ts.items) w.templates-is))
          (seen_more (template_at c.args.goal c.args.removals.now) c.loop-number.number c.in_ok-next.next found c.in_ok-next.ensures (subst (IsIn c.in_ok-next.next) c.deref.ensures.value w.if-is_new.ensures) c.loop-number.invariant)
    ]

pub returns : goal.returns
returns c =
    let last : c.loop-number.number ≡ c.most_options-number-end.result = omega arith in
    all_once c.args.goal c.args.removals.now c.loop-number.number _ (sym c.lacks_option.ensures ∙ c.if-lacks_option.false) (last ∙ c.most_options-number-end.ensures) c.loop-number.invariant
