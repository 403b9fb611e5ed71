use Rattle.std.proofs.Common.{ap, ◌∙◌, ◌||◌}
use Rattle.dsr_language_theory.specs.Known.{field_is}
use Rattle.dsr_language_theory.specs.RuleFaults.{is_other_head, is_reference, is_too_narrow}
use Rattle.dsr_names.proofs.Finding.{finds_then, finds_when}
use Rattle.dsr_rules.specs.Scopes.{scope_told}
use Rattle.dsr_rules.proofs.Steps.{finds_at}
use Rattle.dsr_rules.proofs.scopes.Scope.check_compared.Goals as goal

pub returns : goal.returns
returns c =
    let scope = scope_told c.args.self.now in
    let base = c.args.self.now.known.base.now in
    let field = c.check_path-field.ensures.field in
    let no_number = c.is_no_number-is_no_number.ensures ∙ ap (λ f. is_other_head scope c.args.path.now.var || field_is base is_reference f) field in
    let too_narrow = c.is_too_narrow-is_too_narrow.ensures ∙ ap (field_is base (is_too_narrow c.args.number.number)) field in
    finds_then c.check_path-field.ensures.told (finds_then (finds_at _ _ c.var_place.ensures (finds_when _ _ no_number c.note_if.ensures)) (finds_when _ _ too_narrow c.note_if-2.ensures))
