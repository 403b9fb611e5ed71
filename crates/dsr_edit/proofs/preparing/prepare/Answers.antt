use Rattle.std.proofs.Common.{ap, length, subst, sym, ◌∙◌}
use Rattle.std.proofs.lemmas.List.{length-map}
use Rattle.dsr_affected.specs.Marking.{AreAffected}
use Rattle.dsr_edit.specs.declared.groups.CellWrite.{CellWrite}
use Rattle.dsr_edit.specs.declared.updates.CellPut.{CellPut}
use Rattle.dsr_edit.proofs.preparing.prepare.Goals as goal

pub returns : goal.returns
returns c = record {
  prepared = record {
    writes = c.in_ok-puts.ensures.writes;
    ready = c.in_ok-puts.ensures.ready;
    room =
        ap length c.in_ok-was.ensures
        ∙ (length-map c.args.group.now (λ (write : CellWrite). write.value)
        ∙ (sym (ap length c.in_ok-puts.ensures.writes) ∙ length-map c.in_ok-puts.puts.items (λ (put : CellPut). put.write)));
    order = subst (λ fields. AreAffected c.args.spec.now fields c.in_ok-order.order.items) (c.deref.ensures.value ∙ c.in_ok-fields.ensures) c.in_ok-order.ensures;
  };
  refused = tt;
}
