use Rattle.std.proofs.Common.{MatchOption, Option, ℕ, subst}
use Rattle.dsr_command_edit.proofs.Sought.{head_named, no_pool, record_found}
use Rattle.dsr_command_edit.specs.Found.{IsPoolNamed}
use Rattle.dsr_edit_text.specs.Shown.{shown}
use Rattle.dsr_command_edit.proofs.named.record_named.Goals as goal

pub returns-in_default : goal.returns-in_default
returns-in_default c = head_named c.args.spec.now (shown c.args.set.now) c.in_default.is

pub returns-in_default-pool_named : goal.returns-in_default-pool_named
returns-in_default-pool_named c =
    no_pool c.args.spec.now (shown c.args.set.now) c.in-Some.slot c.in-Some.is
    (subst (λ (o : Option ℕ). MatchOption o ((pool : ℕ) → IsPoolNamed c.args.spec.now c.args.set.now.pool.now pool → ⊥) (IsPoolNamed c.args.spec.now c.args.set.now.pool.now)) c.in_default-pool_named.is c.pool_named.ensures)

pub returns : goal.returns
returns c =
    record_found c.args.spec.now (shown c.args.set.now) c.in-Some.slot c.in-Some-pool_named.pool c.in-Some.is
    (subst (λ (o : Option ℕ). MatchOption o ((pool : ℕ) → IsPoolNamed c.args.spec.now c.args.set.now.pool.now pool → ⊥) (IsPoolNamed c.args.spec.now c.args.set.now.pool.now)) c.in-Some-pool_named.is c.pool_named.ensures)
    c.slot_of.result c.slot_of.ensures
