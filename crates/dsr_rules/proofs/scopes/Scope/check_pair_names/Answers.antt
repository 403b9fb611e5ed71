use Rattle.std.proofs.Common.{ap}
use Rattle.dsr_language_theory.specs.Known.{unknown}
use Rattle.dsr_names.proofs.Finding.{finds_same, finds_then}
use Rattle.dsr_rules.proofs.scopes.Scope.check_pair_names.Goals as goal

pub returns-else-is_source-clause-told : goal.returns-else-is_source-clause-told
returns-else-is_source-clause-told c =
    let relation = finds_same (ap (λ n. unknown n c.args.relation.now) c.relation.ensures) c.note_found-is_relation.ensures.told in
    finds_then relation (finds_then c.check_term_names-is_source.ensures.told c.check_path_names-is_path.ensures.told)
