-- What `effect_of` leaves to show.
use Rattle.std.proofs.Common.{◌≡◌, ◌++◌, length, take, drop, sym, ap, subst, ◌∙◌, arith}
use Rattle.std.proofs.lemmas.Grind.{common_steps}
use Rattle.dsr_effect.specs.Table.{AreFlows}
use Rattle.dsr_effect.specs.Told.{change_of}
use Rattle.dsr_effect.proofs.FlowLists.{all_flows}
use Rattle.dsr_effect.proofs.Tables.{are_between, halves_tell, table_exact}
use Rattle.dsr_effect.proofs.rows.effect_of.Goals as goal

are_flows : (c : goal.After-deref_mut) → AreFlows (change_of c.args.change.now) c.push_complements.new.flows.items
are_flows c = subst (AreFlows (change_of c.args.change.now)) (sym c.in_ok-push_complements.ensures) (all_flows (change_of c.args.change.now) c.in_ok-rows.flows.items c.in_ok-rows.ensures.flows)

pub settle-requires : goal.settle-requires
settle-requires c = record {
  between = rw c.deref.ensures.value (are_between (change_of c.args.change.now) c.requires.told.typed c.push_complements.new.flows.items (are_flows c) (length c.deref_mut.result.now) (ap length c.deref_mut.ensures.value ∙ c.in_ok-rows.ensures.places));
}

pub returns-clause-exactly : goal.returns-clause-exactly
returns-clause-exactly c = λ direction symbol tag declared.
    let settled = c.settle.new.rows in
    let whole : take c.in_ok-rows.rows.len (settled ++ drop (length settled) c.in_ok-rows.rows.items) ≡ settled = grind (arith, common_steps) in
    let front = c.new.ensures ∙ c.in_ok-losses.ensures.items ∙ ap (take c.symbol_count.result) whole ∙ ap (λ n. take n settled) c.symbol_count.ensures in
    let back = c.new-2.ensures ∙ c.in_ok-losses.ensures.tail ∙ ap (drop c.symbol_count.result) whole ∙ ap (λ n. drop n settled) c.symbol_count.ensures in
    let flows = subst (AreFlows (change_of c.args.change.now)) (sym c.in_ok-push_complements.ensures) (all_flows (change_of c.args.change.now) c.in_ok-rows.flows.items c.in_ok-rows.ensures.flows) in
    let tells = halves_tell c.args.change.now.spec.now.base settled c.new.result c.new-2.result front back direction symbol tag declared in
    let exact = table_exact (change_of c.args.change.now) c.requires.told.typed c.push_complements.new.flows.items flows c.in_ok-rows.rows.items c.in_ok-rows.ensures.exactly settled
    (rw (c.deref.ensures.value, c.deref_mut.ensures.value) at c.settle.ensures.exactly) direction symbol tag declared in
    (λ has. exact.0 (sym tells ∙ has), λ h. tells ∙ exact.1 h)
