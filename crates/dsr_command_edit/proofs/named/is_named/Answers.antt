use Rattle.std.proofs.Common.{◌∙◌, refl, sym}
use Rattle.std.proofs.lemmas.Bool.Decides.{Decides-eqb}
use Rattle.std.proofs.lemmas.Slice.Eq.{slice_eq-Decides}
use Rattle.dsr_command_edit.proofs.Sought.{named_by, same_test}
use Rattle.dsr_command_edit.proofs.named.is_named.Goals as goal

pub returns : goal.returns
returns c =
    named_by c.args.name.now c.args.indexed c.args.field.now (c.if-not-has_name.ensures.0 refl)
    (sym c.is_some.ensures ∙ same_test c.is_some.result c.args.indexed c.if-is_some-indexed.false)
    c.bytes.result.now c.eq.result c.bytes.ensures (slice_eq-Decides Decides-eqb c.bytes.result.now c.args.name.now c.eq.result c.eq.ensures)
