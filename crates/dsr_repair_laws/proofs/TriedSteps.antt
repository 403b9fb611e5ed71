-- A step by an update of a template that is tried for a literal: where it writes, that it adds or which instance it stops,
-- and that each of its writes can be made.
use Rattle.std.proofs.Common.{◌≡◌, ◌⊎◌, ◌++◌, ℕ, List, Option, Some, inl, inr, sym, subst, slice_get}
use Rattle.dsr_repair_theory.specs.Choices.{IsChosen, IsEntryAt, IsFresh, IsNumberFor, IsPlace, IsUpdateAt}
use Rattle.dsr_ir.specs.declared.constraints.Atom.{Atom}
use Rattle.dsr_ir.specs.declared.constraints.Constraint.{Constraint}
use Rattle.dsr_ir.specs.declared.constraints.Literal.{Literal}
use Rattle.dsr_ir.specs.declared.constraints.Measure.{Measure}
use Rattle.dsr_ir.specs.declared.declarations.Spec.{Spec}
use Rattle.dsr_ir.specs.declared.layouts.Layout.{Layout}
use Rattle.dsr_ir.specs.declared.tuples.Binding.{Binding}
use Rattle.dsr_ir.specs.declared.tuples.Instance.{Instance}
use Rattle.dsr_ir.specs.declared.updates.Goal.{Goal}
use Rattle.dsr_ir.specs.declared.updates.Template.{Template}
use Rattle.dsr_ir.specs.declared.updates.Update.{Update}
use Rattle.dsr_ir.specs.declared.updates.Write.{Write}
use Rattle.dsr_meaning.specs.Consistency.{IsBinding}
use Rattle.dsr_meaning.specs.Counting.{IsIn}
use Rattle.dsr_meaning.specs.Models.{IsFact}
use Rattle.dsr_plan_theory.specs.Plans.{owner_at}
use Rattle.dsr_step_theory.specs.Images.{IsImageOf}
use Rattle.dsr_step_theory.specs.declared.steps.Step.{Step}
use Rattle.dsr_update_theory.specs.Templates.{KnownSets, TellsKnown}
use Rattle.dsr_repair_laws.proofs.MakingAdditions.{joining_made, relating_made, supplying_made}
use Rattle.dsr_repair_laws.proofs.MakingCan.{IsMade}
use Rattle.dsr_repair_laws.proofs.MakingCompensations.{compensation_made}
use Rattle.dsr_repair_laws.proofs.MakingRemovals.{IsStoppedAt, removal_made, stopped_at}
use Rattle.dsr_repair_laws.proofs.MakingValues.{setting_made}
use Rattle.dsr_repair_laws.proofs.RawUpdates.{IsFirstChosen, IsStopChosen, chosen_update}
use Rattle.dsr_repair_laws.proofs.TriedUpdates.{IsAdder, IsRawUpdate, IsSupplying}
use Rattle.dsr_repair_laws.proofs.TypedLiterals.{IsTypedIn}
use Rattle.dsr_repair_laws.proofs.WrittenRecords.{IsPlaced, placed}
use Rattle.dsr_repair_laws.specs.Grown.{IsGrownFrom}
use Rattle.dsr_meaning.proofs.Items.{in_either}

-- the update that is chosen stands at its place
pub at_place : (spec : Spec) (layout : Layout) (bytes : List ℕ) (b : Binding) (atom : Atom) (template : Template) (n : ℕ) (update : Update) (stopped : Option Instance) → IsUpdateAt spec layout bytes b atom template n update stopped → slice_get template.updates n ≡ Some update
at_place spec layout bytes b atom template n update stopped (IsUpdateAt.adds u adds at) = at
at_place spec layout bytes b atom template n update stopped (IsUpdateAt.takes_away m u fact i away to_go deriver at by) = at

-- The update is chosen at a binding of the constraint, for a literal of it. It is grown from one of a template that is
-- tried for the literal.
pub record IsTriedStep (spec : Spec) (layout : Layout) (bytes : List ℕ) (step : Step) (update : Update) : Type 0 where
  pub image : IsImageOf spec layout bytes
  pub constraint : Constraint
  pub literal : Literal
  pub there : IsTypedIn spec constraint literal
  pub bound : IsBinding (IsFact spec layout bytes) constraint.quant step.binding
  pub known : KnownSets
  pub tells : TellsKnown spec constraint.quant known
  pub raw : Template
  pub own : Update
  pub own_at : slice_get raw.updates step.update ≡ Some own
  pub grown : IsGrownFrom (owner_at spec step.constraint constraint) raw own update
  pub kind : IsRawUpdate spec known raw.goal literal.atom literal.negated step.update own
  pub template : Template
  pub goal_same : template.goal ≡ raw.goal
  pub chosen : IsChosen spec layout bytes literal.atom template step update

module _ (spec : Spec) (layout : Layout) (bytes : List ℕ) (step : Step) (update : Update) (s : IsTriedStep spec layout bytes step update) where
  abbrev u : Update
  u = s.own

  abbrev atom : Atom
  atom = s.literal.atom

  -- ---- where it writes

  pub own_place : IsPlace step.binding s.chosen.stopped u.place step.elem
  own_place = subst (λ p. IsPlace step.binding s.chosen.stopped p step.elem) s.grown.place_same s.chosen.place

  pub own_entry : IsEntryAt step.binding s.chosen.stopped u.at step.index
  own_entry = subst (λ a. IsEntryAt step.binding s.chosen.stopped a step.index) s.grown.at_same s.chosen.entry

  pub own_fresh : IsFresh (IsFact spec layout bytes) spec layout u.fresh step.fresh
  own_fresh = subst (λ o. IsFresh (IsFact spec layout bytes) spec layout o step.fresh) s.grown.fresh_same s.chosen.fresh

  own_number : IsNumberFor (IsFact spec layout bytes) step.binding (u.writes ++ s.grown.more) step.number
  own_number = subst (λ ws. IsNumberFor (IsFact spec layout bytes) step.binding ws step.number) s.grown.writes_are s.chosen.number

  pub placed_at : IsPlaced spec layout s.constraint.quant update.rule update.place step.elem
  placed_at = placed spec bytes layout s.image.layout_is.numbers s.image.typed step.binding s.constraint.quant s.bound atom s.template step.update update step.elem update.place s.chosen.stopped s.chosen.update_is s.chosen.place

  -- ---- what it is for

  pub chosen_kind : IsFirstChosen spec s.known (IsFact spec layout bytes) step.binding s.template.goal atom s.literal.negated step.update u ⊎ IsStopChosen spec layout bytes step.binding s.template.goal atom step.update u update s.chosen.stopped
  chosen_kind =
      chosen_update spec s.known layout bytes step.binding atom s.literal.negated s.template step.update u update s.chosen.stopped s.chosen.update_is
      (subst (λ g. IsRawUpdate spec s.known g atom s.literal.negated step.update u) (sym s.goal_same) s.kind)

  -- the instance that is stopped
  pub stopped : (stop : IsStopChosen spec layout bytes step.binding s.template.goal atom step.update u update s.chosen.stopped) → IsStoppedAt spec layout bytes step stop.fact stop.instance stop.removing.rule
  stopped stop = stopped_at spec layout bytes step s.template.goal atom step.update u update s.chosen.stopped stop s.grown.rule_same own_place own_entry

  -- ---- its writes can be made

  supplier_made : (measure : Measure) → IsSupplying spec s.known measure u → (write : Write) → IsIn write u.writes → IsMade spec layout step write
  supplier_made = supplying_made spec bytes layout s.image.layout_is s.image.typed step s.constraint.quant s.there.quant_typed s.bound s.known s.tells u s.chosen.stopped own_place own_entry own_fresh

  adder_made : (goal : Goal) → IsAdder spec s.known goal atom u → (write : Write) → IsIn write u.writes → IsMade spec layout step write
  adder_made goal (IsAdder.joins j) = joining_made spec bytes layout s.image.layout_is s.image.typed step s.constraint.quant s.there.quant_typed s.bound s.known s.tells u s.chosen.stopped own_place own_entry goal atom j
  adder_made goal (IsAdder.relates r) = relating_made spec bytes layout s.image.layout_is s.image.typed step s.constraint.quant s.there.quant_typed s.bound s.known s.tells u s.chosen.stopped own_place own_entry goal atom s.there.literal_typed.atom r
  adder_made goal (IsAdder.supplies_some measure goal_is atom_is supplying) = supplier_made measure supplying
  adder_made goal (IsAdder.supplies_one measure goal_is atom_is supplying) = supplier_made measure supplying
  adder_made goal (IsAdder.sets setting) = setting_made spec bytes layout s.image.layout_is s.image.typed step s.constraint s.literal s.there.literal s.there.literal_typed.atom s.bound goal u setting s.chosen.stopped own_place own_entry s.grown.more own_number

  own_made : (write : Write) → IsIn write u.writes → IsMade spec layout step write
  own_made write own = elim chosen_kind as (λ _. IsMade spec layout step write) [
    | inl first ↦ adder_made s.template.goal first.adder write own
    | inr stop ↦ removal_made spec layout bytes step s.template.goal atom step.update u update s.chosen.stopped stop s.grown.rule_same own_place own_entry s.image.layout_is s.image.typed write own
  ]

  pub each_made : (write : Write) → IsIn write update.writes → IsMade spec layout step write
  each_made write is_in = elim (in_either write u.writes s.grown.more (subst (IsIn write) s.grown.writes_are is_in)) as (λ _. IsMade spec layout step write) [
    | inl own ↦ own_made write own
    | inr more ↦
        compensation_made spec bytes layout s.image.layout_is s.image.typed step step.constraint s.constraint s.bound atom s.raw s.template step.update update u s.chosen.stopped s.own_at s.chosen.update_is s.grown.rule_same own_place write (s.grown.among write more)
  ]
