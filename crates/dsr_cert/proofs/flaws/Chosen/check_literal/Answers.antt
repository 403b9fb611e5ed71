use Rattle.std.proofs.Common.{[], ◌∷◌, sym, ap, subst}
use Rattle.dsr_cert.proofs.Ranks.{first_there}
use Rattle.dsr_cert.specs.Flaws.{Falsifying, Unlisted}
use Rattle.dsr_cert.specs.Searches.{IsFirstUnder, kind_of}
use Rattle.dsr_cert.specs.declared.faults.CertFault.TheVariants as faults
use Rattle.dsr_cert.proofs.flaws.Chosen.check_literal.Goals as goal

pub returns-then-is_unlisted : goal.returns-then-is_unlisted
returns-then-is_unlisted c =
    let spec = c.args.self.now.spec.now in
    let choice = c.args.self.now.choice.now in
    let at = c.args.at in
    subst (λ k. IsFirstUnder spec choice (k ∷ at.constraint ∷ at.conj ∷ at.literal ∷ []) (faults.NotATemplate at.constraint at.conj at.literal)) (sym (ap kind_of c.in-Unlisted.is))
    (first_there spec choice (Unlisted at.constraint at.conj at.literal) (c.is_unlisted.ensures.0 c.if-is_unlisted.true))

pub returns-then-is_falsifying : goal.returns-then-is_falsifying
returns-then-is_falsifying c =
    let spec = c.args.self.now.spec.now in
    let choice = c.args.self.now.choice.now in
    let at = c.args.at in
    subst (λ k. IsFirstUnder spec choice (k ∷ at.constraint ∷ at.conj ∷ at.literal ∷ []) (faults.Falsifies at.constraint at.conj at.literal)) (sym (ap kind_of c.in-Falsifying.is))
    (first_there spec choice (Falsifying at.constraint at.conj at.literal) (c.is_falsifying.ensures.0 c.if-is_falsifying.true))
