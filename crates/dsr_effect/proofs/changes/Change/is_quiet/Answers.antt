use Rattle.std.proofs.Common.{◌≡◌, ◌∙◌, Decides, ap, sym, subst}
use Rattle.std.specs.Option.{option_eq, option_map}
use Rattle.std.proofs.lemmas.Bool.{false≢true}
use Rattle.dsr_effect.proofs.Asking.{but_target, quiet_supplying, targets_decide}
use Rattle.dsr_ir.specs.Rules.{target_of}
use Rattle.dsr_ir.specs.contracts.rules.PathPartialEq.TheImpl as path
use Rattle.dsr_effect.specs.Told.{change_of}
use Rattle.dsr_effect.proofs.changes.Change.is_quiet.Goals as goal

pub returns-then-asks_all_of : goal.returns-then-asks_all_of
returns-then-asks_all_of c =
    quiet_supplying (change_of c.args.self.now) c.args.rule.now c.in-Some.own.now (sym c.own_rule.ensures ∙ ap (option_map (λ r. r.now)) c.in-Some.is) c.eq.result c.in-Supply.is
    (c.asks_all_of-in-Supply.ensures.0 c.if-asks_all_of.true)
    (subst (λ b. Decides b (target_of c.args.rule.now.inc ≡ target_of c.in-Some.own.now.inc))
    (sym (c.eq.ensures ∙ (λ i. option_eq path.ghosts.eq (c.target.ensures i) (c.target-then-asks_all_of.ensures i))))
    (targets_decide (target_of c.args.rule.now.inc) (target_of c.in-Some.own.now.inc)))

pub returns-else-asks_all_of : goal.returns-else-asks_all_of
returns-else-asks_all_of c = (
  λ e. absurd (false≢true (sym c.if-asks_all_of.false ∙ e)),
  λ quiet. c.asks_all_of-in-Supply.ensures.1 (but_target (change_of c.args.self.now) c.args.rule.now c.in-Some.own.now (sym c.own_rule.ensures ∙ ap (option_map (λ r. r.now)) c.in-Some.is) quiet),
)
