use Rattle.std.proofs.Common.{nat_eq, Some, option_map, refl, sym, ap, ◌∙◌}
use Rattle.std.specs.Option.{option_eq}
use Rattle.dsr_graph_theory.specs.Owners.{change_of}
use Rattle.dsr_compensate.specs.Owned.{owner_of}
use Rattle.dsr_compensate.proofs.Deciding.{not_false, same_pool, supplies_if}
use Rattle.dsr_compensate.proofs.owner.Owner.may_supply.Goals as goal

pub returns-else-ne : goal.returns-else-ne
returns-else-ne c = λ goal.
    supplies_if (change_of (owner_of c.args.self.now) goal c.args.update.now) c.args.pool c.in-Some.declared.now c.in-Some-avoid.avoid c.is_no_fresh_one.result c.requires.fresh
    (sym c.pool_at.ensures ∙ ap (option_map (λ d. d.now)) c.in-Some.is)
    c.in-Some-avoid.is
    (sym c.place_pool.ensures ∙ same_pool c.place_pool.result c.args.pool (not_false (option_eq nat_eq c.place_pool.result (Some c.args.pool)) (sym c.ne.ensures ∙ c.if-ne.false)))
    (λ named. c.is_no_fresh_one.ensures (change_of (owner_of c.args.self.now) goal c.args.update.now) refl refl (named ∙ sym c.items.ensures))
