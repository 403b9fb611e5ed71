use Rattle.std.proofs.Common.{◌∙◌, refl}
use Rattle.dsr_language_theory.specs.Declarations.{disagree}
use Rattle.dsr_names.proofs.Finding.{finds_then}
use Rattle.dsr_rules.proofs.Steps.{finds_mismatch}
use Rattle.dsr_rules.proofs.scopes.Scope.check_slot_of.Goals as goal

pub returns : goal.returns
returns c =
    let other = c.disagree-disagree.ensures ∙ (λ i. disagree (c.pool-number.ensures i) (c.pool_of_set.ensures i)) in
    finds_then c.check_slot_names-are_known.ensures.told (finds_then c.check_slot.ensures (finds_mismatch c.check_slot_names-are_known.ensures.known other refl c.note_mismatch.ensures))
