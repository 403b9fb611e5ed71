-- An update of a listed template is one that is tried, can be made as it is judged, and serves the template's goal. So is an
-- update of a template that is tried as it is.
use Rattle.std.proofs.Common.{◌≡◌, ℕ, List, [], Some, refl, ap, subst, slice_get}
use Rattle.std.specs.Prelude.{MatchOption}
use Rattle.dsr_repair_laws.proofs.Forms.{listed_form}
use Rattle.dsr_repair_laws.proofs.GrownUpdates.{as_tried, of_form}
use Rattle.dsr_plan_laws.proofs.KnownSets.{told}
use Rattle.dsr_ir.specs.declared.constraints.Literal.{Literal}
use Rattle.dsr_ir.specs.declared.updates.Template.{Template}
use Rattle.dsr_ir.specs.declared.updates.Update.{Update}
use Rattle.dsr_graph_theory.specs.Owners.{Owner}
use Rattle.dsr_graph_theory.specs.Sides.{MayServe}
use Rattle.dsr_meaning.specs.Counting.{IsIn}
use Rattle.dsr_update_theory.specs.Templates.{AreRaw, AreRawOf, KnownSets, TellsKnown, literal_at}
use Rattle.dsr_template_laws.specs.Judging.{Application, IsListed, change_in, owner_of}
use Rattle.dsr_template_laws.specs.Tried.{IsTried, IsTriedAt}
use Rattle.dsr_template_laws.proofs.TriedApplications.{update_there}

-- a template that is tried, as it is
pub tried_at : (owner : Owner) (conj literal n : ℕ) (its : Literal) (template : Template) (templates : List Template) (update : Update) → literal_at owner.constraint conj literal ≡ Some its → AreRawOf owner.spec owner.constraint conj literal templates → IsIn template templates → slice_get template.updates n ≡ Some update → IsTriedAt owner its template n update
tried_at owner conj literal n its template templates update literal_is are is_in at =
    let known = told owner.spec owner.constraint.quant in
    let raw = subst (λ o. MatchOption o (templates ≡ []) (λ l. (known : KnownSets) → TellsKnown owner.spec owner.constraint.quant known → AreRaw owner.spec known owner.constraint.quant l templates)) literal_is are in
    record {
      known = known.0;
      tells = known.1;
      tried = templates;
      are_tried = raw known.0 known.1;
      raw = template;
      is_tried = is_in;
      goal_same = refl;
      own = update;
      own_at = at;
      grown = as_tried owner template update;
    }

module _ (a : Application) (number : ℕ) (listed : IsListed a number) where
  pub listed_tried : IsTried a
  listed_tried =
      let form = listed_form (owner_of a) a.step.conj a.step.literal a.applied.literal number a.template a.applied.literal_is listed in
      let one = of_form (owner_of a) a.applied.literal a.template form a.step.update a.update (update_there a) in
      record {
        tried = record {
          known = form.known;
          tells = form.tells;
          tried = form.tried;
          are_tried = form.are_tried;
          raw = form.raw;
          is_tried = form.is_tried;
          goal_same = ap (λ (t : Template). t.goal) form.is;
          own = one.0;
          own_at = one.1;
          grown = one.2;
        };
        may = (form.kept a.step.update (change_in a) (record { update = a.update; update_is = update_there a; change_is = refl })).0;
      }

  pub listed_serves : MayServe a.template.goal a.applied.literal.atom a.step.update (change_in a)
  listed_serves =
      let form = listed_form (owner_of a) a.step.conj a.step.literal a.applied.literal number a.template a.applied.literal_is listed in
      (form.kept a.step.update (change_in a) (record { update = a.update; update_is = update_there a; change_is = refl })).1
