use Rattle.std.proofs.lemmas.Result.{err_from_is_err_and}
use Rattle.std.proofs.Common.{◌∙◌}
use Rattle.dsr_tree.specs.Trees.{tree_shape}
use Rattle.dsr_spec.proofs.Parted.{rules_told, constraints_told, typed_over}
use Rattle.dsr_spec.proofs.typed.spec.Goals as goal

pub returns-in_err-rules-clause-fault : goal.returns-in_err-rules-clause-fault
returns-in_err-rules-clause-fault c =
    let p = err_from_is_err_and c.from_residual-in_err-rules.result c.from_residual-in_err-rules.ensures.1 in
    rw (p.1, p.2) (rules_told (tree_shape c.args.tree.now) c.in_ok-base.base c.in_ok-base.ensures.no_fault c.in_ok-base.ensures.tables c.in_err-rules.field-0.0 c.in_err-rules.ensures.fault)

pub returns-in_err-constraints-clause-fault : goal.returns-in_err-constraints-clause-fault
returns-in_err-constraints-clause-fault c =
    let p = err_from_is_err_and c.from_residual-in_err-constraints.result c.from_residual-in_err-constraints.ensures.1 in
    rw (p.1, p.2) (constraints_told (tree_shape c.args.tree.now) c.in_ok-base.base c.in_ok-base.ensures.no_fault c.in_ok-base.ensures.tables c.in_err-constraints.field-0.0 c.in_ok-rules.ensures.no_fault c.in_err-constraints.ensures.fault)

pub returns-clause-typed : goal.returns-clause-typed
returns-clause-typed c = typed_over (tree_shape c.args.tree.now) c.in_ok-base.base c.new-rules.result c.new-constraints.result c.in_ok-base.ensures.typed c.in_ok-rules.ensures.no_fault c.in_ok-constraints.ensures.no_fault (c.new-rules.ensures ∙ c.in_ok-rules.ensures.rules) (c.new-constraints.ensures ∙ c.in_ok-constraints.ensures.constraints)
