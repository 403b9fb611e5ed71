use Rattle.std.proofs.Common.{ap, ◌∙◌, ◌||◌}
use Rattle.dsr_language_theory.specs.Known.{field_is}
use Rattle.dsr_language_theory.specs.RuleFaults.{is_other_head, index_faults, refers_elsewhere}
use Rattle.dsr_names.proofs.Finding.{finds_then, finds_same}
use Rattle.dsr_rules.specs.Scopes.{scope_told}
use Rattle.dsr_rules.proofs.Steps.{finds_mismatch}
use Rattle.dsr_rules.proofs.scopes.Scope.check_target.Goals as goal

pub returns : goal.returns
returns c =
    let scope = scope_told c.args.self.now in
    let base = c.args.self.now.known.base.now in
    let elsewhere = c.leads_elsewhere-leads_elsewhere.ensures
    ∙ (λ i. is_other_head scope c.args.var.now || field_is base (refers_elsewhere (c.pool_of_set.ensures i)) (c.path_field-found.ensures i)) in
    let indexes = finds_same (ap (λ f. index_faults scope f c.args.index.now) c.path_field-found.ensures) c.check_index.ensures in
    finds_then c.check_target_names-are_known.ensures.told (finds_then indexes (finds_mismatch c.check_target_names-are_known.ensures.known elsewhere c.var_place.ensures c.note_mismatch.ensures))
