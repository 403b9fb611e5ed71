use Rattle.std.proofs.Common.{[], ◌∷◌, sym, ◌∙◌, arith}
use Rattle.std.proofs.lemmas.Bool.{false≢true}
use Rattle.dsr_cert.proofs.Numbers.{on_number}
use Rattle.dsr_cert.proofs.Ranks.{first_found, first_there, none_all, none_more, none_there, none_yet}
use Rattle.dsr_cert.specs.Flaws.{Relying}
use Rattle.dsr_cert.specs.declared.faults.CertFault.TheVariants as faults
use Rattle.dsr_cert.proofs.flaws.Chosen.check_reliance.Goals as goal

pub loop-on-init : goal.loop-on-init
loop-on-init c = none_yet c.args.self.now.spec.now c.args.self.now.choice.now (4 ∷ c.args.number ∷ [])

pub returns-then-is_relying : goal.returns-then-is_relying
returns-then-is_relying c =
    let spec = c.args.self.now.spec.now in
    let choice = c.args.self.now.choice.now in
    let i = c.loop-on.on in
    first_found spec choice (4 ∷ c.args.number ∷ []) i (faults.Reliance c.args.number i) c.loop-on.invariant (first_there spec choice (Relying c.args.number i) (c.is_relying.ensures.0 c.if-is_relying.true))

pub loop-on-preserved : goal.loop-on-preserved
loop-on-preserved c =
    let spec = c.args.self.now.spec.now in
    let choice = c.args.self.now.choice.now in
    let i = c.loop-on.on in
    none_more spec choice (4 ∷ c.args.number ∷ []) i (none_there spec choice (Relying c.args.number i) (λ flaw. false≢true (sym c.if-is_relying.false ∙ c.is_relying.ensures.1 flaw))) c.loop-on.invariant

pub returns : goal.returns
returns c =
    let past = c.loop-on-test.false in
    none_all c.args.self.now.spec.now c.args.self.now.choice.now (4 ∷ c.args.number ∷ []) 128 (on_number c.args.self.now.spec.now c.requires.typed c.args.self.now.choice.now c.args.number) (λ k less. c.loop-on.invariant k (omega (arith, past, less)))
