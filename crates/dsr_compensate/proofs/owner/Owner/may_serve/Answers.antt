use Rattle.std.proofs.Common.{◌↔◌, IsTrue, inl, inr, refl, sym, subst, arith}
use Rattle.std.proofs.lemmas.Grind.{elements}
use Rattle.dsr_ir.specs.declared.updates.Goal.TheVariants.{ExactlyOne}
use Rattle.dsr_graph_theory.specs.Owners.{change_of, goal_at}
use Rattle.dsr_graph_theory.specs.Sides.{MayServe}
use Rattle.dsr_compensate.specs.Owned.{owner_of}
use Rattle.dsr_compensate.proofs.owner.Owner.may_serve.Goals as goal

pub returns-in-AddSet : goal.returns-in-AddSet
returns-in-AddSet c =
    let change = change_of (owner_of c.args.self.now) (goal_at c.args.goal c.args.place) c.args.update.now in
    let kept = c.keeps_premise.ensures change refl refl c.requires.effect in
    elim c.in-AddSet.is as (λ _. IsTrue c.keeps_premise.result ↔ MayServe c.args.goal c.args.atom.now c.args.place change) [
      | inl e ↦ subst (λ g. IsTrue c.keeps_premise.result ↔ MayServe g c.args.atom.now c.args.place change) (sym e) kept
      | inr others ↦ elim others as (λ _. IsTrue c.keeps_premise.result ↔ MayServe c.args.goal c.args.atom.now c.args.place change) [
        | inl e ↦ subst (λ g. IsTrue c.keeps_premise.result ↔ MayServe g c.args.atom.now c.args.place change) (sym e) kept
        | inr e ↦ subst (λ g. IsTrue c.keeps_premise.result ↔ MayServe g c.args.atom.now c.args.place change) (sym e) kept
      ]
    ]

pub returns-in-SetValue : goal.returns-in-SetValue
returns-in-SetValue c =
    let change = change_of (owner_of c.args.self.now) (goal_at c.args.goal c.args.place) c.args.update.now in
    subst (λ g. IsTrue c.may_set.result ↔ MayServe g c.args.atom.now c.args.place change) (sym c.in-SetValue.is)
    (c.may_set.ensures change refl refl c.requires.effect)

pub returns-in-ExactlyOne : goal.returns-in-ExactlyOne
returns-in-ExactlyOne c =
    let change = change_of (owner_of c.args.self.now) (goal_at c.args.goal c.args.place) c.args.update.now in
    subst (λ g. IsTrue c.may_supply_one.result ↔ MayServe g c.args.atom.now c.args.place change) (sym c.in-ExactlyOne.is)
    (subst (λ n. IsTrue c.may_supply_one.result ↔ MayServe ExactlyOne c.args.atom.now n change) (sym c.if-place-eq0.true)
    (c.may_supply_one.ensures change refl refl c.requires.effect))

pub keeps-requires-clause-declared : goal.keeps-requires-clause-declared
keeps-requires-clause-declared c = grind (arith, elements)

pub keeps-requires-in-ExactlyOne-2-clause-declared :
    goal.keeps-requires-in-ExactlyOne-2-clause-declared
keeps-requires-in-ExactlyOne-2-clause-declared c = grind (arith, elements)
