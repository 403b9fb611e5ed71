use Rattle.std.proofs.Common.{ap, sym, ◌∙◌, is_none, Some}
use Rattle.dsr_language_theory.specs.Declarations.{view_faults, is_unrelated, disagree}
use Rattle.dsr_struct.specs.Known.{known_of}
use Rattle.dsr_names.proofs.Finding.{finds_same, finds_then, finds_when}
use Rattle.dsr_struct.proofs.lookups.Names.check_view.Goals as goal

pub returns-in-Some-As : goal.returns-in-Some-As
returns-in-Some-As c =
    let names = known_of c.args.self.now in
    let view = c.in-Some-As.is ∙ ap Some (rw c.in-Some-As.is at c.in-Some-As.field-0-is) in
    let unrelated = c.is_unrelated-is_unrelated.ensures ∙ ap (λ s. is_unrelated names s c.structure_of_pool.result) c.used_structure-found.ensures ∙ ap (is_unrelated names _) c.structure_of_pool.ensures in
    finds_same (ap (view_faults names c.args.set.now) (sym view)) (finds_then (finds_when _ _ (ap is_none c.used_structure-found.ensures) c.note_unknown.ensures) (finds_when _ _ unrelated c.note_if.ensures))

pub returns-in-Some-Except : goal.returns-in-Some-Except
returns-in-Some-Except c =
    let view = c.in-Some-Except.is ∙ ap Some (rw c.in-Some-Except.is at c.in-Some-Except.field-0-is) in
    let elsewhere = c.disagree-is_elsewhere.ensures ∙ ap (λ p. disagree p c.pool_of_set.result) c.pool.ensures ∙ ap (disagree _) c.pool_of_set.ensures in
    finds_same (ap (view_faults (known_of c.args.self.now) c.args.set.now) (sym view)) (finds_then (finds_when _ _ (ap is_none c.plain_set.ensures) c.note_unknown-in-Some-Except.ensures) (finds_when _ _ elsewhere c.note_if-in-Some-Except.ensures))
