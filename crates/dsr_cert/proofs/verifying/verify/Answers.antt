use Rattle.dsr_cert.proofs.Unflawed.{plan_of}
use Rattle.dsr_cert.proofs.verifying.verify.Goals as goal

pub adopt-requires : goal.adopt-requires
adopt-requires c =
    plan_of c.args.spec.now c.args.choice c.requires.fits c.args.graph.now c.requires.graph (λ flaw is. c.in_ok-check.ensures flaw (record { is = is; begins = tt }))
