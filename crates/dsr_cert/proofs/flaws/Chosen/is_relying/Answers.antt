use Rattle.std.proofs.Common.{refl}
use Rattle.dsr_cert.proofs.Taken.{relying_if}
use Rattle.dsr_cert.specs.Certificates.{FitsRow}
use Rattle.dsr_graph.proofs.Paired.{paired_back}
use Rattle.dsr_graph.specs.Graphs.{owner_at}
use Rattle.dsr_cert.proofs.flaws.Chosen.is_relying.Goals as goal

pub returns : goal.returns
returns c =
    let spec = c.args.self.now.spec.now in
    let choice = c.args.self.now.choice.now in
    let above = c.is_not_above.ensures.0 c.if-not-is_not_above.false in
    let its = paired_back (λ k constraint row. FitsRow constraint row) spec.constraints choice.rows c.args.number above.row c.requires.fits above.row_is in
    relying_if spec choice c.args.number c.args.on c.requires.fits above c.relies.result
    (c.relies.ensures.relies (owner_at spec c.args.number its.0) (record { graph_is = c.requires.graph; number_is = refl; constraint_is = its.1 }))
