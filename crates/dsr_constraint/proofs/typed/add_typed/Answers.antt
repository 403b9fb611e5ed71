use Rattle.std.proofs.Common.{◌≡◌, sym, ap, ◌∙◌}
use Rattle.dsr_names.specs.Tables.{known_of}
use Rattle.dsr_tree.specs.Trees.{constraint_shape}
use Rattle.dsr_language_theory.specs.Constraints.{refusal_faults}
use Rattle.dsr_language_theory.specs.NormalForms.{refusal_of}
use Rattle.dsr_language_theory.specs.TypedConstraints.{scope_of, typed_formula}
use Rattle.dsr_normal.specs.Telling.{refusal_told}
use Rattle.dsr_names.proofs.Finding.{finds_same}
use Rattle.dsr_constraint.specs.Scoped.{scope_told}
use Rattle.dsr_constraint.proofs.Negated.{both_ok, told_found}
use Rattle.dsr_constraint.proofs.typed.add_typed.Goals as goal

pub returns-in-Err-clause-found : goal.returns-in-Err-clause-found
returns-in-Err-clause-found c =
    let x = constraint_shape c.args.constraint.now in
    let scope = scope_of (known_of c.args.known.now) x.quantifier in
    let form = typed_formula (scope_told c.scope_of-scope.result) x.formula in
    let shape : form ≡ typed_formula scope x.formula = ap (λ s. typed_formula s x.formula) c.scope_of-scope.ensures in
    both_ok c.check_refusal.result (λ known found. finds_same (ap (refusal_faults x) (sym (ap refusal_of (sym shape) ∙ c.in-Err.ensures.refused known))) found) c.check_refusal.ensures.known c.check_refusal.ensures.found

pub returns-in-Err-clause-typed : goal.returns-in-Err-clause-typed
returns-in-Err-clause-typed c =
    let x = constraint_shape c.args.constraint.now in
    let scope = scope_of (known_of c.args.known.now) x.quantifier in
    let form = typed_formula (scope_told c.scope_of-scope.result) x.formula in
    let shape : form ≡ typed_formula scope x.formula = ap (λ s. typed_formula s x.formula) c.scope_of-scope.ensures in
    both_ok c.check_refusal.result (λ known found none. absurd (told_found scope x (refusal_told c.in-Err.fault) (ap refusal_of (sym shape) ∙ c.in-Err.ensures.refused known) known none)) c.check_refusal.ensures.known c.check_refusal.ensures.found
