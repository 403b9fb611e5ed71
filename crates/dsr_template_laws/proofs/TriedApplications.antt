-- An application of an update that is tried, as a step by such an update.
use Rattle.std.proofs.Common.{◌≡◌, Some, sym, subst, slice_get}
use Rattle.dsr_repair_laws.proofs.RawUpdates.{raw_updates}
use Rattle.dsr_repair_laws.proofs.TriedSteps.{IsTriedStep, at_place}
use Rattle.dsr_repair_laws.proofs.TypedLiterals.{IsTypedIn, typed_in}
use Rattle.dsr_ir.specs.declared.updates.Write.{Write}
use Rattle.dsr_meaning.specs.Counting.{IsIn}
use Rattle.dsr_meaning.specs.Legal.{IsLegalLayout}
use Rattle.dsr_resolve.proofs.AcceptedLayouts.{legal_of}
use Rattle.dsr_template_laws.specs.Judging.{Application, owner_of}
use Rattle.dsr_template_laws.specs.Tried.{IsTriedAt}
use Rattle.dsr_meaning.proofs.Items.{in_left}

module _ (a : Application) where
  -- the literal, as it stands in the specification
  pub literal_there : IsTypedIn a.spec a.applied.violated.constraint a.applied.literal
  literal_there = typed_in a.spec a.applied.image.typed a.step.constraint a.applied.violated.constraint a.step.conj a.step.literal a.applied.literal a.applied.violated.declared a.applied.literal_is

  pub legal : IsLegalLayout a.layout
  legal = legal_of a.spec a.old a.layout a.applied.image.layout_is a.applied.image.typed a.applied.image.small

  pub update_there : slice_get a.template.updates a.step.update ≡ Some a.update
  update_there = at_place a.spec a.layout a.old a.step.binding a.applied.literal.atom a.template a.step.update a.update a.applied.chosen.stopped a.applied.chosen.update_is

  module _ (t : IsTriedAt (owner_of a) a.applied.literal a.template a.step.update a.update) where
    abbrev pub tried_step : IsTriedStep a.spec a.layout a.old a.step a.update
    tried_step = record {
      image = a.applied.image;
      constraint = a.applied.violated.constraint;
      literal = a.applied.literal;
      there = literal_there;
      bound = a.applied.violated.is_binding;
      known = t.known;
      tells = t.tells;
      raw = t.raw;
      own = t.own;
      own_at = t.own_at;
      grown = t.grown;
      kind = raw_updates a.spec t.known a.applied.violated.constraint.quant a.applied.literal t.tried literal_there.literal_typed.negated t.are_tried t.raw t.is_tried a.step.update t.own t.own_at;
      template = a.template;
      goal_same = t.goal_same;
      chosen = a.applied.chosen;
    }

    -- the update's own writes are among those that are made
    pub own_among : (write : Write) → IsIn write t.own.writes → IsIn write a.update.writes
    own_among write is_in = subst (IsIn write) (sym t.grown.writes_are) (in_left write t.own.writes t.grown.more is_in)
