use Rattle.std.proofs.Common.{◌↔◌, false, inl, inr, replicate, subst, sym, Some}
use Rattle.dsr_effect.proofs.Apart.{nothing_apart}
use Rattle.dsr_effect.specs.Contexts.{change_in}
use Rattle.dsr_facts.specs.Marks.{IsMarked}
use Rattle.dsr_update_theory.specs.Touching.{IsKeptApartBy}
use Rattle.dsr_effect.proofs.context.Context.apart_at.Goals as goal

pub returns-in-Head : goal.returns-in-Head
returns-in-Head c = λ set update on _. elim c.in-Head.is [
  | inl e ↦ subst (λ place. IsMarked (replicate 64 false) set ↔ IsKeptApartBy (change_in c.args.self.now on update) place (Some set)) (sym e) (nothing_apart set)
  | inr e ↦ subst (λ place. IsMarked (replicate 64 false) set ↔ IsKeptApartBy (change_in c.args.self.now on update) place (Some set)) (sym e) (nothing_apart set)
]
