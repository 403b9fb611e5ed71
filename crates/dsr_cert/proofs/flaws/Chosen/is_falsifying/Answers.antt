use Rattle.std.proofs.Common.{◌-◌, sym, ap, subst, ◌∙◌}
use Rattle.std.specs.Prelude.{Decides}
use Rattle.dsr_cert.proofs.Taken.{falsifying_if, way_of}
use Rattle.dsr_cert.specs.Flaws.{IsFalsifying}
use Rattle.dsr_graph.specs.Graphs.{IsWayOf, owner_at}
use Rattle.dsr_cert.proofs.flaws.Chosen.is_falsifying.Goals as goal

pub returns : goal.returns
returns c =
    let spec = c.args.self.now.spec.now in
    let choice = c.args.self.now.choice.now in
    let graph = c.args.self.now.graph.now in
    let at = c.args.at in
    let way = c.in-Some.ensures.way in
    let owner = owner_at spec at.constraint way.constraint in
    let its = subst (λ k. IsWayOf graph at.constraint at.conj at.literal k owner way.template) (ap (λ k. k - 1) c.in-Some.ensures.number_is ∙ sym c.way_place-way.ensures) (way_of spec choice at.constraint at.conj at.literal graph c.requires.graph c.requires.listed way) in
    subst (λ b. Decides b (IsFalsifying spec choice at.constraint at.conj at.literal)) (sym c.is_some.ensures)
    (falsifying_if spec choice at.constraint at.conj at.literal way c.falsifies.result (c.falsifies.ensures.falsifies owner way.template its))
