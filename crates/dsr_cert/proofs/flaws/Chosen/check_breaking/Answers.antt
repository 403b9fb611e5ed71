use Rattle.std.proofs.Common.{[], ◌∷◌, sym, ◌∙◌, arith}
use Rattle.std.proofs.lemmas.Bool.{false≢true}
use Rattle.dsr_cert.proofs.Numbers.{other_number}
use Rattle.dsr_cert.proofs.Ranks.{first_found, first_there, none_all, none_more, none_there, none_yet}
use Rattle.dsr_cert.specs.Flaws.{Breaking}
use Rattle.dsr_cert.specs.declared.faults.CertFault.TheVariants as faults
use Rattle.dsr_cert.proofs.flaws.Chosen.check_breaking.Goals as goal

pub loop-other-init : goal.loop-other-init
loop-other-init c = none_yet c.args.self.now.spec.now c.args.self.now.choice.now (3 ∷ c.args.at.constraint ∷ c.args.at.conj ∷ c.args.at.literal ∷ [])

pub returns-then-is_breaking : goal.returns-then-is_breaking
returns-then-is_breaking c =
    let spec = c.args.self.now.spec.now in
    let choice = c.args.self.now.choice.now in
    let i = c.loop-other.other in
    first_found spec choice (3 ∷ c.args.at.constraint ∷ c.args.at.conj ∷ c.args.at.literal ∷ []) i (faults.Edge c.args.at.constraint i) c.loop-other.invariant (first_there spec choice (Breaking c.args.at.constraint c.args.at.conj c.args.at.literal i) (c.is_breaking.ensures.0 c.if-is_breaking.true))

pub loop-other-preserved : goal.loop-other-preserved
loop-other-preserved c =
    let spec = c.args.self.now.spec.now in
    let choice = c.args.self.now.choice.now in
    let i = c.loop-other.other in
    none_more spec choice (3 ∷ c.args.at.constraint ∷ c.args.at.conj ∷ c.args.at.literal ∷ []) i (none_there spec choice (Breaking c.args.at.constraint c.args.at.conj c.args.at.literal i) (λ flaw. false≢true (sym c.if-is_breaking.false ∙ c.is_breaking.ensures.1 flaw))) c.loop-other.invariant

pub returns : goal.returns
returns c =
    let past = c.loop-other-test.false in
    none_all c.args.self.now.spec.now c.args.self.now.choice.now (3 ∷ c.args.at.constraint ∷ c.args.at.conj ∷ c.args.at.literal ∷ []) 128 (other_number c.args.self.now.spec.now c.requires.typed c.args.self.now.choice.now c.args.at.constraint c.args.at.conj c.args.at.literal) (λ k less. c.loop-other.invariant k (omega (arith, past, less)))
