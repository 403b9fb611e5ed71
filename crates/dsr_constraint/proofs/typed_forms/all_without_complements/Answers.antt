use Rattle.std.proofs.Common.{map, ap, ◌∙◌}
use Rattle.std.proofs.lemmas.List.{take_all}
use Rattle.dsr_language_theory.specs.TypedConstraints.{without_complements}
use Rattle.dsr_constraint.proofs.Mapped.{map_push}
use Rattle.dsr_constraint.proofs.typed_forms.all_without_complements.Goals as goal

pub loop-conj-preserved : goal.loop-conj-preserved
loop-conj-preserved c =
    map_push (without_complements c.args.base.now) c.args.conjs.now c.loop-conj.conj-index c.conj-item.result c.loop-conj.typed.items c.push.new.self.items c.in_ok-entry.entry c.loop-conj-test.true c.conj-item.is c.loop-conj.invariant c.in_ok-push.ensures.items c.in_ok-entry.ensures

pub returns : goal.returns
returns c = c.loop-conj.invariant ∙ ap (map (without_complements c.args.base.now)) (take_all c.loop-conj.conj-index c.args.conjs.now c.loop-conj-test.false)
