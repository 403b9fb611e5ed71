use Rattle.std.proofs.Common.{sym, ap}
use Rattle.std.proofs.Common.{nat_eq}
use Rattle.std.specs.Str.{bytes_eq}
use Rattle.indexmap.specs.IndexMap.{get}
use Rattle.dsr_names.specs.Tables.{known_of}
use Rattle.dsr_tree.specs.Trees.{constraint_shape}
use Rattle.dsr_language_theory.specs.Constraints.{own_faults, form_faults}
use Rattle.dsr_names.proofs.Finding.{finds_same, finds_then, finds_when}
use Rattle.dsr_constraint.proofs.Merged.{none_found, nothing}
use Rattle.dsr_constraint.proofs.checks.Checker.check_constraint.Goals as goal

pub returns-in_ok-add_typed-clause-found : goal.returns-in_ok-add_typed-clause-found
returns-in_ok-add_typed-clause-found c =
    let known = known_of c.args.self.now.known in
    let x = constraint_shape c.args.constraint.now in
    let own = own_faults known c.args.self.now.constants.rules.now (get bytes_eq c.args.self.now.numbers.now) c.args.number x in
    let none = nothing own c.is_none.result (none_found own c.check_own.new.told.fault c.is_none.result c.check_own.ensures c.is_none.ensures) c.if-is_none.true in
    finds_then (finds_when _ _ (ap (nat_eq c.args.number) c.constraint_limit.ensures) c.note_if.ensures)
    (finds_then (c.note_part.ensures own c.check_own.ensures) (finds_same (sym (ap (λ fs. form_faults known fs x) none)) c.in_ok-add_typed.ensures.found))
