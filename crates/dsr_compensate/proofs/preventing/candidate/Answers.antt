use Rattle.std.proofs.Common.{◌∙◌, sym}
use Rattle.std.proofs.lemmas.Bool.{false≢true}
use Rattle.dsr_compensate.proofs.Later.{is_candidate, prevents_same}
use Rattle.dsr_compensate.proofs.preventing.candidate.Goals as goal

pub returns-then-not-gains : goal.returns-then-not-gains
returns-then-not-gains c = λ change spec_is update_is decides may.
    absurd (false≢true (sym c.if-not-gains.true ∙ decides.1 (may.touched, may.open_there)))

pub returns-in-Single : goal.returns-in-Single
returns-in-Single c = λ change spec_is update_is decides.
    let gains = decides.0 c.if-not-gains.false in
    is_candidate change c.args.rule.now c.prevents_rule.result
    (record { single = c.in-Single.is; touched = gains.0; open_there = gains.1 })
    (c.prevents_rule.ensures ∙ prevents_same change c.args.rule.now c.args.spec.now c.args.update.now spec_is update_is)
