use Rattle.std.proofs.Common.{◌↔◌, false, replicate, subst, sym}
use Rattle.dsr_effect.proofs.Apart.{head_apart}
use Rattle.dsr_effect.specs.Contexts.{IsApartFrom}
use Rattle.dsr_facts.specs.Marks.{IsMarked}
use Rattle.dsr_effect.proofs.context.Context.apart_of.Goals as goal

pub returns-in-Head : goal.returns-in-Head
returns-in-Head c = λ set _.
    subst (λ var. IsMarked (replicate 64 false) set ↔ IsApartFrom c.args.self.now.spec.now c.args.self.now.quant.now c.args.self.now.exclusive.now var set)
    (sym c.in-Head.is)
    (head_apart c.args.self.now.spec.now c.args.self.now.quant.now c.args.self.now.exclusive.now set)
