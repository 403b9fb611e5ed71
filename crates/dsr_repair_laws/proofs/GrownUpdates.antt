-- The updates of a template that the row of a plan has: those of one that is tried for its literal, maybe with writes
-- that compensate it behind their own.
use Rattle.std.proofs.Common.{◌≡◌, ℕ, List, [], Some, refl, sym, ap, subst, slice_get}
use Rattle.std.proofs.lemmas.List.{append-nil}
use Rattle.dsr_ir.specs.declared.constraints.Literal.{Literal}
use Rattle.dsr_ir.specs.declared.updates.Template.{Template}
use Rattle.dsr_ir.specs.declared.updates.Update.{Update}
use Rattle.dsr_ir.specs.declared.updates.Write.{Write}
use Rattle.dsr_graph_theory.specs.Lists.{compensated_by, with_writes}
use Rattle.dsr_graph_theory.specs.Owners.{Owner}
use Rattle.dsr_meaning.specs.Counting.{IsIn}
use Rattle.dsr_repair_laws.proofs.Forms.{IsFormOf}
use Rattle.dsr_repair_laws.specs.Grown.{Compensates, IsGrownFrom}
use Rattle.dsr_meaning.proofs.Items.{mapped_at}

-- an update as it is tried
pub as_tried : (owner : Owner) (raw : Template) (u : Update) → IsGrownFrom owner raw u u
as_tried owner raw u = record {
  rule_same = refl;
  place_same = refl;
  at_same = refl;
  fresh_same = refl;
  more = [];
  writes_are = sym (append-nil u.writes);
  among = λ write none. absurd none;
}

-- each update of the template is grown from one of the other template
abbrev pub AreGrownFrom : Owner → Template → Template → Type 0
AreGrownFrom owner raw template =
    (n : ℕ) (update : Update) → slice_get template.updates n ≡ Some update
    → (u : Update) × (slice_get raw.updates n ≡ Some u) × IsGrownFrom owner raw u update

with_more : (owner : Owner) (raw : Template) (more : List Write) → ((write : Write) → IsIn write more → Compensates owner raw write) → AreGrownFrom owner raw (compensated_by raw more)
with_more owner raw more among n update is =
    let found = mapped_at (with_writes more) raw.updates n update is in (
      found.0,
      found.1.0,
      record {
        rule_same = ap (λ (u : Update). u.rule) found.1.1;
        place_same = ap (λ (u : Update). u.place) found.1.1;
        at_same = ap (λ (u : Update). u.at) found.1.1;
        fresh_same = ap (λ (u : Update). u.fresh) found.1.1;
        more = more;
        writes_are = ap (λ (u : Update). u.writes) found.1.1;
        among = among;
      },
    )

-- so are those of the form that a template of a plan's row has
pub of_form : (owner : Owner) (its : Literal) (template : Template) (form : IsFormOf owner its template) → AreGrownFrom owner form.raw template
of_form owner its template form =
    subst (AreGrownFrom owner form.raw) (sym form.is)
    (with_more owner form.raw form.more (λ write is_in. (form.compensations, form.are_compensations, form.of_compensations write is_in)))
