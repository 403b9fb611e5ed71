-- A number below ten is one digit.
use Rattle.std.proofs.Common.{◌≡◌, ◌++◌, ◌∷◌, sym, subst}
use Rattle.std.specs.Prelude.{OnOk}
use Rattle.std.proofs.lemmas.Fmt.{decimal_digit}
use Rattle.dsr_answers.proofs.texts.push_behind.Goals as goal

pub returns-then-number-lt10 : goal.returns-then-number-lt10
returns-then-number-lt10 c =
    subst (λ ds. OnOk c.push.result (c.push.new.text.items ≡ c.args.text.now.items ++ (c.args.byte ∷ ds)))
    (sym (decimal_digit c.args.number c.if-number-lt10.true)) c.push.ensures
