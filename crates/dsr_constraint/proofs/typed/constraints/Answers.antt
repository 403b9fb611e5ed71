use Rattle.std.proofs.Common.{◌≡◌, [], IfOk, IfErr, map, sym, subst}
use Rattle.dsr_names.specs.FaultsTold.{Tells}
use Rattle.dsr_tree.specs.Trees.{constraint_shape}
use Rattle.dsr_language_theory.specs.Constraints.{constraints_faults}
use Rattle.dsr_language_theory.specs.TypedConstraints.{typed_constraints}
use Rattle.dsr_constraint.specs.Widest.{CountRelations}
use Rattle.dsr_constraint.proofs.Named.{relations_count}
use Rattle.dsr_constraint.proofs.typed.constraints.Goals as goal

pub constraints_among-requires : goal.constraints_among-requires
constraints_among-requires c = subst CountRelations (sym c.in_ok-tables.ensures) (relations_count c.args.structures.now)

pub returns : goal.returns
returns c =
    let rules = c.args.tree.now.rules in
    let shapes = map constraint_shape c.args.tree.now.constraints in
    record {
      no_fault = subst (λ known. IfOk c.constraints_among.result (λ _. constraints_faults known rules shapes ≡ [])) c.in_ok-tables.ensures c.constraints_among.ensures.no_fault;
      constraints = subst (λ known. IfOk c.constraints_among.result (λ cs. cs.items ≡ typed_constraints known shapes)) c.in_ok-tables.ensures c.constraints_among.ensures.constraints;
      fault = subst (λ known. IfErr c.constraints_among.result (Tells (constraints_faults known rules shapes))) c.in_ok-tables.ensures c.constraints_among.ensures.fault;
    }
