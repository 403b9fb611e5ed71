use Rattle.std.proofs.Common.{◌≡◌, ◌<◌, ◌++◌, ◌∷◌, [], ℕ, Bor, List, cond, length, map, get_or, ap, sym, ◌∙◌, arith}
use Rattle.std.proofs.lemmas.List.{append-nil, map-append}
use Rattle.dsr_ir.specs.Rules.{gives}
use Rattle.dsr_ir.specs.declared.rules.Rule.{Rule}
use Rattle.dsr_ir.specs.declared.updates.Symbol.{Symbol}
use Rattle.dsr_goal.proofs.Numbered.{found_more}
use Rattle.dsr_goal.proofs.removing.givers.Goals as goal
use Rattle.dsr_goal.proofs.removing.givers.Goals.{then-gives+in_ok-push, else-gives}

abbrev seen : ℕ × Bor Rule → ℕ × Rule
seen r = (r.0, r.1.now)

abbrev given : Symbol → ℕ → Rule → List (ℕ × Rule)
given symbol k rule = cond (gives symbol rule.inc) ((k, rule) ∷ []) []

pub loop-number-preserved : goal.loop-number-preserved
loop-number-preserved c =
    let below : c.loop-number.number < length c.args.spec.now.rules = omega (arith, c.loop-number-test.true, ap length c.items-rule-items.ensures) in
    let next : map seen c.if-gives.found.items ≡ map seen c.loop-number.found.items ++ given c.args.symbol c.loop-number.number c.rule-item.result =
    elim c.if-gives.branch [
      | then-gives+in_ok-push w ↦
          ap (λ v. map seen v.items) w.found-is
          ∙ ap (map seen) w.in_ok-push.ensures.items
          ∙ map-append seen c.loop-number.found.items _
          ∙ ap (λ b. map seen c.loop-number.found.items ++ cond b ((c.loop-number.number, c.rule-item.result) ∷ []) []) (sym w.if-gives.true ∙ c.gives.ensures)
      | else-gives w ↦
          ap (λ v. map seen v.items) w.found-is
          ∙ sym (append-nil (map seen c.loop-number.found.items))
          ∙ ap (λ b. map seen c.loop-number.found.items ++ cond b ((c.loop-number.number, c.rule-item.result) ∷ []) []) (sym w.if-gives.false ∙ c.gives.ensures)
    ] in
    found_more (given c.args.symbol) seen c.args.spec.now.rules c.loop-number.number c.rule-item.result c.loop-number.found.items c.if-gives.found.items below
    (c.rule-item.is ∙ ap (λ rs. get_or rs c.loop-number.number c.rule-item.result) c.items-rule-items.ensures)
    c.loop-number.invariant next
