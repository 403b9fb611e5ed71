use Rattle.std.proofs.Common.{ap, ◌∙◌, refl}
use Rattle.dsr_language_theory.specs.RuleFaults.{index_faults, pair_mismatches}
use Rattle.dsr_names.proofs.Finding.{finds_then, finds_same}
use Rattle.dsr_rules.specs.Scopes.{scope_told}
use Rattle.dsr_rules.proofs.Steps.{finds_mismatch}
use Rattle.dsr_rules.proofs.scopes.Scope.check_pair.Goals as goal

pub returns : goal.returns
returns c =
    let scope = scope_told c.args.self.now in
    let mismatched = c.is_mismatched-is_mismatched.ensures ∙ ap (pair_mismatches scope c.args.term.now c.args.path.now) c.relation_named-declared.ensures in
    let indexes = finds_then c.check_term.ensures (finds_same (ap (λ f. index_faults scope f c.args.path.now.index) c.path_field-field.ensures) c.check_index.ensures) in
    finds_then c.check_pair_names-are_known.ensures.told (finds_then indexes (finds_mismatch c.check_pair_names-are_known.ensures.known mismatched refl c.note_mismatch.ensures))
