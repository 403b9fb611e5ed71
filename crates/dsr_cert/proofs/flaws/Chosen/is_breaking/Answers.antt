use Rattle.std.proofs.Common.{◌-◌, sym, ap, subst, ◌∙◌}
use Rattle.std.specs.Prelude.{Decides}
use Rattle.dsr_cert.proofs.Taken.{breaking_if, way_of}
use Rattle.dsr_cert.specs.Certificates.{FitsRow}
use Rattle.dsr_cert.specs.Flaws.{IsBreaking}
use Rattle.dsr_graph.proofs.Paired.{paired_back}
use Rattle.dsr_graph.specs.Graphs.{IsWayOf, owner_at}
use Rattle.dsr_cert.proofs.flaws.Chosen.is_breaking.Goals as goal

pub returns : goal.returns
returns c =
    let spec = c.args.self.now.spec.now in
    let choice = c.args.self.now.choice.now in
    let graph = c.args.self.now.graph.now in
    let at = c.args.at in
    let way = c.in-Some.ensures.way in
    let owner = owner_at spec at.constraint way.constraint in
    let its = subst (λ k. IsWayOf graph at.constraint at.conj at.literal k owner way.template) (ap (λ k. k - 1) c.in-Some.ensures.number_is ∙ sym c.way_place-way.ensures) (way_of spec choice at.constraint at.conj at.literal graph c.requires.graph c.requires.listed way) in
    let above = c.is_not_above.ensures.0 c.if-not-is_not_above.false in
    let other = paired_back (λ k constraint row. FitsRow constraint row) spec.constraints choice.rows c.args.other above.row c.requires.fits above.row_is in
    subst (λ b. Decides b (IsBreaking spec choice at.constraint at.conj at.literal c.args.other)) (sym c.is_some.ensures)
    (breaking_if spec choice at.constraint at.conj at.literal way c.args.other other.0 other.1 above c.breaks.result (c.breaks.ensures.breaks owner way.template other.0 its other.1))
