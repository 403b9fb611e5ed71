use Rattle.std.proofs.Common.{[], ◌∷◌, sym, ◌∙◌, arith}
use Rattle.std.proofs.lemmas.Bool.{false≢true}
use Rattle.dsr_cert.proofs.Numbers.{covered_number}
use Rattle.dsr_cert.proofs.Ranks.{first_found, first_there, none_all, none_more, none_there}
use Rattle.dsr_cert.specs.Flaws.{Uncovered}
use Rattle.dsr_cert.specs.declared.faults.CertFault.TheVariants as faults
use Rattle.dsr_cert.proofs.flaws.Chosen.check_coverage.Goals as goal

pub returns-then-branch : goal.returns-then-branch
returns-then-branch c =
    let spec = c.args.self.now.spec.now in
    let choice = c.args.self.now.choice.now in
    let i = c.loop-number.number in
    first_found spec choice (0 ∷ []) i (faults.Coverage i) c.loop-number.invariant (first_there spec choice (Uncovered i) (c.in_ok-is_uncovered.ensures.0 c.if-branch.true))

pub loop-number-preserved : goal.loop-number-preserved
loop-number-preserved c =
    let spec = c.args.self.now.spec.now in
    let choice = c.args.self.now.choice.now in
    let i = c.loop-number.number in
    none_more spec choice (0 ∷ []) i (none_there spec choice (Uncovered i) (λ flaw. false≢true (sym c.if-branch.false ∙ c.in_ok-is_uncovered.ensures.1 flaw))) c.loop-number.invariant

pub returns : goal.returns
returns c =
    let past = c.loop-number-test.false in
    none_all c.args.self.now.spec.now c.args.self.now.choice.now (0 ∷ []) 128 (covered_number c.args.self.now.spec.now c.requires.typed c.args.self.now.choice.now) (λ k less. c.loop-number.invariant k (omega (arith, past, less)))
