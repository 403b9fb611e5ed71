use Rattle.std.proofs.Common.{IfSome, refl, sym, subst, ◌∙◌}
use Rattle.std.proofs.lemmas.Bool.{false≢true}
use Rattle.dsr_graph_theory.specs.Owners.{change_of}
use Rattle.dsr_graph_theory.specs.Sides.{MaySupply}
use Rattle.dsr_compensate.specs.Owned.{owner_of}
use Rattle.dsr_update_theory.specs.Together.{MayStandTogether}
use Rattle.dsr_compensate.proofs.owner.Owner.may_be_made.Goals as goal

pub returns-in-Some : goal.returns-in-Some
returns-in-Some c = λ goal.
    let change = change_of (owner_of c.args.self.now) goal c.args.update.now in (
      λ t. record {
        writes = subst (MayStandTogether c.args.self.now.spec.now.base) c.items.ensures (c.may_stand_together.ensures.0 c.if-may_stand_together.true);
        fresh = subst (λ o. IfSome o (MaySupply change)) (sym c.in-Some.is) ((c.may_supply.ensures goal).0 t);
      },
      λ made. (c.may_supply.ensures goal).1 (subst (λ o. IfSome o (MaySupply change)) c.in-Some.is made.fresh),
    )

pub returns-in-None : goal.returns-in-None
returns-in-None c = λ goal.
    let change = change_of (owner_of c.args.self.now) goal c.args.update.now in (
      λ t. record {
        writes = subst (MayStandTogether c.args.self.now.spec.now.base) c.items.ensures (c.may_stand_together.ensures.0 c.if-may_stand_together.true);
        fresh = subst (λ o. IfSome o (MaySupply change)) (sym c.in-None.is) tt;
      },
      λ _. refl,
    )

pub returns-else-may_stand_together : goal.returns-else-may_stand_together
returns-else-may_stand_together c = λ goal. (
  λ t. absurd (false≢true (sym c.if-may_stand_together.false ∙ t)),
  λ made. c.may_stand_together.ensures.1 (subst (MayStandTogether c.args.self.now.spec.now.base) (sym c.items.ensures) made.writes),
)
