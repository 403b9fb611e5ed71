use Rattle.std.proofs.Common.{ℕ, ◌&&◌, eqb, sym, ap, ◌∙◌}
use Rattle.dsr_graph.proofs.Deciding.{apart_if, found_if, pair_decides}
use Rattle.dsr_goal.proofs.Once.{tells_new}
use Rattle.dsr_compensate.specs.Owned.{owner_of}
use Rattle.dsr_update_theory.specs.Facts.{apart}
use Rattle.dsr_graph.proofs.variables.are_targets_apart.Goals as goal

pub returns : goal.returns
returns c =
    let owner = owner_of c.args.owner.now in
    let pair : ℕ × ℕ = (c.in-Pairs.rel, c.in-Pairs-quant.other_rel) in
    apart_if owner (owner_of c.args.other.now) c.in-Pairs.rel c.in-Pairs-quant.other_rel c.contains.result
    (sym (ap (λ x. x.quant) c.constraint.ensures) ∙ c.in-Pairs.is) (sym (ap (λ x. x.quant) c.constraint-2.ensures) ∙ c.in-Pairs-quant.is)
    (found_if c.items.result.now (apart owner.spec owner.number) pair c.contains.result
    (tells_new (λ (a b : ℕ × ℕ). eqb a.0 b.0 && eqb a.1 b.1) pair_decides c.items.result.now pair c.contains.result c.contains.ensures.value) (c.items.ensures ∙ c.requires.facts.apart))
