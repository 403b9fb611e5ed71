use Rattle.std.proofs.Common.{◌≡◌, ◌&&◌, sym, ap, ◌∙◌}
use Rattle.dsr_tree.specs.declared.faults.Condition.TheVariants as conditions
use Rattle.dsr_language_theory.specs.Faults.{when}
use Rattle.dsr_language_theory.specs.Known.{is_nil}
use Rattle.dsr_language_theory.specs.Constraints.{atom_mismatches, atom_names}
use Rattle.dsr_names.proofs.Finding.{finds_same, finds_then}
use Rattle.dsr_constraint.specs.Scoped.{scope_told}
use Rattle.dsr_constraint.proofs.Merged.{none_found}
use Rattle.dsr_constraint.proofs.scopes.Scope.check_atom.Goals as goal
use Rattle.dsr_constraint.proofs.scopes.Scope.check_atom.Goals.{then-is_none, else-is_none}

pub returns : goal.returns
returns c =
    let scope = scope_told c.args.self.now in
    let names = atom_names scope c.args.atom.now in
    let known = none_found names c.check_atom_names.new.told.fault c.is_none.result c.check_atom_names.ensures c.is_none.ensures in
    let mismatch : c.if-is_none.is_mismatch ≡ (is_nil names && atom_mismatches scope c.args.atom.now) = elim c.if-is_none.branch [
      | then-is_none w ↦ w.is_mismatch-is ∙ w.atom_mismatches-is_mismatch.ensures ∙ ap (λ b. b && atom_mismatches scope c.args.atom.now) (sym w.if-is_none.true ∙ known)
      | else-is_none w ↦ w.is_mismatch-is ∙ w.if-is_none.false ∙ ap (λ b. b && atom_mismatches scope c.args.atom.now) (sym w.if-is_none.false ∙ known)
    ] in
    finds_then (c.note_part.ensures names c.check_atom_names.ensures)
    (finds_then (finds_same (λ i. when (mismatch i) conditions.PoolMismatch (c.atom_place.ensures i)) c.note_if.ensures) c.check_constants.ensures)
