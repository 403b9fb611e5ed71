use Rattle.std.proofs.Common.{◌≡◌, None, IfOk, IfErr, OnOk, subst, ◌∙◌}
use Rattle.std.proofs.lemmas.Result.{err_from_is_err_and, IfErr-weaker}
use Rattle.dsr_tree.specs.Trees.{formula_shape}
use Rattle.dsr_language_theory.specs.NormalForms.{normal_form, refusal_of}
use Rattle.dsr_language_theory.specs.TypedConstraints.{typed_formula}
use Rattle.dsr_normal.specs.Telling.{refusal_told}
use Rattle.std.specs.Prelude.{IsSome}
use Rattle.dsr_constraint.specs.Scoped.{scope_told}
use Rattle.dsr_constraint.proofs.Negated.{refusal_same}
use Rattle.dsr_constraint.proofs.typed.normal_of.Goals as goal

pub returns-in_err-typed_formula-clause-refused : goal.returns-in_err-typed_formula-clause-refused
returns-in_err-typed_formula-clause-refused c = let p = err_from_is_err_and c.from_residual.result c.from_residual.ensures.1 in rw (p.1, p.2) (λ some. absurd cc)

pub returns : goal.returns
returns c =
    let shape : c.new-formula.result ≡ typed_formula (scope_told c.args.scope.now) (formula_shape c.args.formula.now) = c.new-formula.ensures ∙ c.in_ok-typed_formula.ensures in
    record {
      listed = subst (λ f. IfOk c.normal.result (λ conjs. conjs.items ≡ normal_form f)) shape c.normal.ensures.listed;
      accepted = subst (λ f. OnOk c.normal.result (refusal_of f ≡ None)) shape c.normal.ensures.accepted;
      refused = subst (λ f. IfErr c.normal.result (λ fault. IsSome (refusal_told fault) → refusal_of f ≡ refusal_told fault)) shape (IfErr-weaker c.normal.result _ _ (refusal_same c.new-formula.result) c.normal.ensures.refused);
    }
