use Rattle.std.proofs.Common.{◌-◌, take, drop, length, Some, ◌∙◌, subst, ap}
use Rattle.dsr_syntax_theory.specs.Tokens.{is_second_version}
use Rattle.dsr_lexer.specs.Front.{StandsAt, FindsFront}
use Rattle.dsr_lexer.proofs.Steps.{token_step}
use Rattle.dsr_lexer.proofs.lexer.step.Goals as goal

pub returns-in_ok-push-in-Some-2 : goal.returns-in_ok-push-in-Some-2
returns-in_ok-push-in-Some-2 c =
    let stands : StandsAt (is_second_version c.args.lexemes.now.items) (take (length c.args.text.now - c.args.place) (drop c.args.place c.args.text.now)) c.in-Some-2.found.token c.in-Some-2.found.len =
    subst (λ second. FindsFront second (take (length c.args.text.now - c.args.place) (drop c.args.place c.args.text.now)) (Some c.in-Some-2.found)) (c.is_of_second_version.ensures ∙ ap is_second_version c.deref.ensures.value)
    (subst (λ found. FindsFront c.is_of_second_version.result (take (length c.args.text.now - c.args.place) (drop c.args.place c.args.text.now)) found) c.in-Some-2.is c.in_ok-find_token.ensures) in
    token_step c.args.lexemes.now.items c.push.new.self.items c.args.text.now c.args.place c.in-Some-2.found.len c.in-Some-2.found.token stands c.requires c.in_ok-push-in-Some-2.ensures.items
