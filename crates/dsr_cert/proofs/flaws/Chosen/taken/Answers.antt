use Rattle.std.proofs.Common.{Some, sym, ap, ◌∙◌}
use Rattle.std.specs.Prelude.{option_map}
use Rattle.dsr_cert.proofs.Taken.{taken_is}
use Rattle.dsr_cert.proofs.flaws.Chosen.taken.Goals as goal

pub returns-in-By : goal.returns-in-By
returns-in-By c =
    taken_is c.args.self.now.spec.now c.args.self.now.choice.now c.args.at.constraint c.args.at.conj c.args.at.literal c.in_ok-literal.literal.now c.in-By.number c.in-By.template
    (sym c.literal.ensures ∙ ap (option_map (λ l. l.now)) c.in_ok-literal.was) (sym c.way.ensures ∙ (ap (option_map (λ w. w.now)) c.in_ok-number.was ∙ ap Some c.in-By.is))
