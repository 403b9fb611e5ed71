use Rattle.std.proofs.Common.{◌≡◌, ap, not, ◌∙◌, ◌||◌, is_some}
use Rattle.dsr_language_theory.specs.Names.{is_at}
use Rattle.dsr_struct.specs.Known.{known_of}
use Rattle.dsr_names.proofs.Finding.{finds_then, finds_when}
use Rattle.dsr_struct.proofs.lookups.Names.check_relation.Goals.{then-is_some, else-is_some}
use Rattle.dsr_struct.proofs.lookups.Names.check_relation.Goals as goal

pub returns : goal.returns
returns c =
    let is_other = not c.is_at-is_first.result in
    let is_set = is_some ((known_of c.args.self.now).set c.args.relation.now.name.name) in
    let is_twice : c.if-is_some.is_twice ≡ (is_some c.set.result || is_other) = elim c.if-is_some.branch [
      | then-is_some w ↦ w.is_twice-is ∙ w.if-is_some.true ∙ ap (λ b. b || is_other) w.if-is_some.ensures
      | else-is_some w ↦ w.is_twice-is ∙ ap (λ b. b || is_other) w.if-is_some.ensures
    ] in
    let both_known = ap (λ s. is_some s || is_other) c.set.ensures ∙ ap (λ found. is_set || not found) (c.is_at-is_first.ensures ∙ ap (is_at c.args.number) c.relation.ensures) in
    finds_then (finds_when _ _ (is_twice ∙ both_known) c.note_if.ensures)
    (finds_then (finds_when _ _ c.is_over.ensures c.note_if-2.ensures) (finds_then c.check_source.ensures c.check_target.ensures))
