use Rattle.std.proofs.Common.{map, ap, ◌∙◌}
use Rattle.std.proofs.lemmas.List.{take_all}
use Rattle.dsr_language_theory.specs.TypedConstraints.{without_complement}
use Rattle.dsr_constraint.proofs.Mapped.{map_push_at}
use Rattle.dsr_constraint.proofs.typed_forms.without_complements.Goals as goal

pub loop-literal-preserved : goal.loop-literal-preserved
loop-literal-preserved c =
    map_push_at (without_complement c.args.base.now) c.items-literal-items.result.now c.loop-literal.literal-index _ c.loop-literal.literals.items c.push.new.self.items c.without_complement.result c.loop-literal-test.true c.loop-literal.invariant c.in_ok-push.ensures.items c.without_complement.ensures

pub returns : goal.returns
returns c =
    let all = c.new.ensures ∙ c.loop-literal.invariant ∙ ap (map (without_complement c.args.base.now)) (take_all c.loop-literal.literal-index c.items-literal-items.result.now c.loop-literal-test.false ∙ c.items-literal-items.ensures) in
    λ i. record { literals = all i }
