use Rattle.std.proofs.Common.{◌↔◌, IsTrue, eqb, sym, subst, ◌∙◌}
use Rattle.std.proofs.lemmas.Bool.Decides.{Decides-eqb}
use Rattle.dsr_graph_theory.specs.Excuses.{IsEndOnce}
use Rattle.dsr_graph.proofs.Deciding.{found_if}
use Rattle.dsr_goal.proofs.Once.{tells_new}
use Rattle.dsr_compensate.specs.Owned.{owner_of}
use Rattle.dsr_update_theory.specs.Facts.{injective}
use Rattle.dsr_graph.proofs.variables.is_end_once.Goals as goal

pub returns-in-Second : goal.returns-in-Second
returns-in-Second c =
    let owner = owner_of c.args.owner.now in
    subst (λ v. IsTrue c.contains.result ↔ IsEndOnce owner c.args.rel v) (sym c.in-Second.is)
    (found_if c.items.result.now (injective owner.spec owner.number) c.args.rel c.contains.result (tells_new eqb Decides-eqb c.items.result.now c.args.rel c.contains.result c.contains.ensures.value) (c.items.ensures ∙ c.requires.facts.injective))
