use Rattle.std.proofs.Common.{◌≡◌, [], IfOk, IfErr, subst}
use Rattle.dsr_names.specs.FaultsTold.{Tells}
use Rattle.dsr_constraint.specs.Scoped.{faults_of_all, typed_of_all}
use Rattle.dsr_constraint.proofs.typed.constraints_among.Goals as goal

pub returns : goal.returns
returns c =
    let known = c.args.known.now in
    let found = c.constraints_with.result in
    record {
      no_fault = subst (λ fs. IfOk found (λ _. fs ≡ [])) (λ i. faults_of_all known (c.items-rules.ensures i) (c.items.ensures i)) c.constraints_with.ensures.no_fault;
      constraints = subst (λ xs. IfOk found (λ cs. cs.items ≡ typed_of_all known xs)) c.items.ensures c.constraints_with.ensures.constraints;
      fault = subst (λ fs. IfErr found (Tells fs)) (λ i. faults_of_all known (c.items-rules.ensures i) (c.items.ensures i)) c.constraints_with.ensures.fault;
    }
