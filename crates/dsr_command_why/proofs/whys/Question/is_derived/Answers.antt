use Rattle.std.proofs.Common.{Decides, sym, subst}
use Rattle.dsr_command_why.proofs.Whying.{derived_told}
use Rattle.dsr_meaning.specs.Models.{IsDerived}
use Rattle.dsr_command_why.proofs.whys.Question.is_derived.Goals as goal

pub returns : goal.returns
returns c =
    let q = c.args.self.now in
    subst (λ b. Decides b (IsDerived q.spec.now q.layout.now q.image.now c.args.fact.now)) (sym c.is_some.ensures)
    (derived_told q.spec.now q.layout.now q.image.now c.args.fact.now c.in_ok-found.found c.in_ok-found.ensures)
