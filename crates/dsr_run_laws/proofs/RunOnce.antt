-- On an image one step is due or one record is needed, so a repair is one run.
use Rattle.std.proofs.Common.{◌≡◌, ◌⊎◌, ◌∙◌, ℕ, List, [], ◌∷◌, ◌++◌, Option, None, Some, inl, inr, refl, sym, ap, subst}
use Rattle.std.proofs.lemmas.Option.{same_Some}
use Rattle.std.specs.Prelude.{IfSome, IsSomeAnd}
use Rattle.dsr_repair_theory.specs.Choices.{IsFresh, IsFreshFrom, IsOutside, IsUpdateAt}
use Rattle.dsr_repair_laws.proofs.MakingSteps.{can_step, writes_free, writes_of_head}
use Rattle.dsr_ir.specs.declared.constraints.Literal.{Literal}
use Rattle.dsr_ir.specs.declared.declarations.Pool.{Pool}
use Rattle.dsr_ir.specs.declared.declarations.Spec.{Spec}
use Rattle.dsr_ir.specs.declared.declarations.Structures.{Structures}
use Rattle.dsr_ir.specs.declared.layouts.Cell.{Cell}
use Rattle.dsr_ir.specs.declared.layouts.Layout.{Layout}
use Rattle.dsr_ir.specs.declared.tuples.Element.{Element}
use Rattle.dsr_ir.specs.declared.tuples.Fact.TheVariants.{Member}
use Rattle.dsr_ir.specs.declared.updates.Template.{Template}
use Rattle.dsr_ir.specs.declared.updates.Update.{Update}
use Rattle.dsr_repair_laws.proofs.EntryOnce.{entry_once}
use Rattle.dsr_repair_laws.proofs.Kept.{fixed_fields_kept, layout_kept}
use Rattle.dsr_repair_laws.proofs.Told.{was_stepped}
use Rattle.dsr_meaning.proofs.Options.{some_and}
use Rattle.dsr_meaning.specs.Consistency.{BoundConstraint, IsConsistent}
use Rattle.dsr_meaning.specs.Counting.{IsIn}
use Rattle.dsr_meaning.specs.FixedFields.{fixed_cell}
use Rattle.dsr_meaning.specs.Models.{IsFact}
use Rattle.dsr_meaning.specs.Typed.{IsTyped, pool_at}
use Rattle.dsr_meaning.specs.Writes.{HasSameBits}
use Rattle.dsr_plan_theory.specs.Plans.{IsPlan}
use Rattle.dsr_plan_theory.specs.declared.choices.Choice.{Choice}
use Rattle.dsr_repair_theory.specs.Entries.{IsEntryOf}
use Rattle.dsr_repair_theory.specs.Runs.{IsDueEntry, IsPartRun, IsRun}
use Rattle.dsr_repair_theory.specs.Runs.IsPartRun.{begins, goes_on}
use Rattle.dsr_repair_theory.specs.Turns.{IsDueStep, IsNeed, IsOutcome, IsTurn, IsUsedUp, bound_by, needed_by}
use Rattle.dsr_repair_theory.specs.declared.entries.Entry.{Entry}
use Rattle.dsr_repair_theory.specs.declared.turns.Need.{Need}
use Rattle.dsr_repair_theory.specs.declared.turns.Outcome.{Outcome}
use Rattle.dsr_repair_theory.specs.declared.turns.Outcome.TheVariants as outcomes
use Rattle.dsr_repair_theory.specs.declared.turns.Turn.{Turn}
use Rattle.dsr_repair_theory.specs.declared.turns.Turn.TheVariants as turns
use Rattle.dsr_resolve.proofs.AcceptedLayouts.{legal_of}
use Rattle.dsr_step_theory.specs.Images.{FixedFieldsStay, IsImageOf}
use Rattle.dsr_step_theory.specs.Steps.{IsSlot}
use Rattle.dsr_step_theory.specs.declared.steps.Step.{Step}
use Rattle.dsr_run_laws.proofs.StepOnce.{AreUpdatesAlike, due_once, step_once, takes_once, update_once}
use Rattle.dsr_run_laws.specs.Fronts.{GoesOn}

-- ---- fixed fields

both_stay : (cell : Option Cell) (old middle new : List ℕ) → IfSome cell (λ c. HasSameBits c old middle) → IfSome cell (λ c. HasSameBits c middle new) → IfSome cell (λ c. HasSameBits c old new)
both_stay None old middle new one two = tt
both_stay (Some cell) old middle new one two = λ j from before. two j from before ∙ one j from before

none_changes : (cell : Option Cell) (old : List ℕ) → IfSome cell (λ c. HasSameBits c old old)
none_changes None old = tt
none_changes (Some cell) old = λ j from before. refl

-- where no byte changes, no fixed field does
pub fixed_same : (base : Structures) (bytes : List ℕ) → FixedFieldsStay base bytes bytes
fixed_same base bytes = λ k. none_changes (fixed_cell base k) bytes

module _ (spec : Spec) (choice : Choice) (layout : Layout) (plan : IsPlan spec choice) where
  -- ---- what stays

  -- what a due step leaves has the layout
  pub step_keeps : (old new : List ℕ) (entry : Entry) → IsImageOf spec layout old → IsDueEntry spec choice layout old entry new → IsImageOf spec layout new
  step_keeps old new entry image is =
      layout_kept spec layout is.step is.update old new image
      (can_step spec choice layout old is.step is.update image plan is.due)
      (writes_free spec choice layout old is.step is.update image plan is.due)
      (writes_of_head spec choice layout old is.step is.update image plan is.due)
      (was_stepped spec layout is.step is.update old new entry is.made)

  pub step_keeps_fixed : (old new : List ℕ) (entry : Entry) → IsImageOf spec layout old → IsDueEntry spec choice layout old entry new → FixedFieldsStay spec.base old new
  step_keeps_fixed old new entry image is =
      fixed_fields_kept spec layout is.step is.update old new image
      (can_step spec choice layout old is.step is.update image plan is.due)
      (writes_free spec choice layout old is.step is.update image plan is.due)
      (writes_of_head spec choice layout old is.step is.update image plan is.due)
      (was_stepped spec layout is.step is.update old new entry is.made)

  -- so does what the steps of a run leave
  pub run_keeps : (old new : List ℕ) (entries : List Entry) → IsImageOf spec layout old → IsPartRun spec choice layout old entries new → IsImageOf spec layout new
  run_keeps old _ _ image begins = image
  run_keeps old new _ image (goes_on {middle = middle} {entries = before} entry steps is) =
      step_keeps middle new entry (run_keeps old middle before image steps) is

  pub run_keeps_fixed : (old new : List ℕ) (entries : List Entry) → IsImageOf spec layout old → IsPartRun spec choice layout old entries new → FixedFieldsStay spec.base old new
  run_keeps_fixed old _ _ image begins = fixed_same spec.base old
  run_keeps_fixed old new _ image (goes_on {middle = middle} {entries = before} entry steps is) = λ k.
      both_stay (fixed_cell spec.base k) old middle new (run_keeps_fixed old middle before image steps k)
      (step_keeps_fixed middle new entry (run_keeps old middle before image steps) is k)

  -- ---- what a step leaves

  pub due_entry_once :
      (old a b : List ℕ) (entry other : Entry) → IsImageOf spec layout old → IsDueEntry spec choice layout old entry a
      → IsDueEntry spec choice layout old other b → (entry ≡ other) × (a ≡ b)
  due_entry_once old a b entry other image one two =
      let same = step_once spec choice layout old plan image.typed one.step two.step one.update two.update one.due two.due in
      entry_once spec layout one.step (legal_of spec old layout image.layout_is image.typed image.small) one.update old a b entry other one.made
      (subst (λ s. IsEntryOf spec layout s one.update old b other) (sym same.0) (subst (λ u. IsEntryOf spec layout two.step u old b other) (sym same.1) two.made))

module _ (spec : Spec) (choice : Choice) (layout : Layout) (plan : IsPlan spec choice) (typed : IsTyped spec) where
  -- ---- what comes next, and where it ends

  -- a supply that is used up supplies nothing
  none_fresh :
      (bytes : List ℕ) (pool : ℕ) (e : Element) → IsUsedUp (IsFact spec layout bytes) spec layout pool
      → IsFreshFrom (IsFact spec layout bytes) spec layout pool e → ⊥
  none_fresh bytes pool e used fresh = by_pool (pool_at spec.base pool) used fresh.supplied.outside where
    by_sets : (o : Option (List ℕ)) → IsSomeAnd o (λ sets. (e : Element) → e.pool ≡ pool → IsSlot layout e → (set : ℕ) × IsIn set sets × IsFact spec layout bytes (Member set e))
        → IsSomeAnd o (λ sets. IsOutside (IsFact spec layout bytes) sets e) → ⊥
    by_sets None used outside = used
    by_sets (Some sets) used outside =
        let one = used e fresh.supplied.pool_is fresh.supplied.slot in
        outside one.0 one.1 one.2

    by_pool : (o : Option Pool) → IsSomeAnd o (λ d. IsSomeAnd d.avoid (λ sets. (e : Element) → e.pool ≡ pool → IsSlot layout e → (set : ℕ) × IsIn set sets × IsFact spec layout bytes (Member set e)))
        → IsSomeAnd o (λ d. IsSomeAnd d.avoid (λ sets. IsOutside (IsFact spec layout bytes) sets e)) → ⊥
    by_pool None used outside = used
    by_pool (Some d) used outside = by_sets d.avoid used outside

  -- where a record is needed no step is due
  not_needed : (bytes : List ℕ) (need : Need) (step : Step) (update : Update) → IsNeed spec choice layout bytes need → IsDueStep spec choice layout bytes step update → ⊥
  not_needed bytes need step update needs due =
      let same = due_once (IsFact spec layout bytes) spec choice (needed_by need) (bound_by step) need.conj step.conj need.literal step.literal needs.literal due.literal needs.template due.template needs.due due.due in
      let second : IsUpdateAt spec layout bytes need.binding needs.literal.atom needs.template step.update update due.chosen.stopped =
      subst (λ b. IsUpdateAt spec layout bytes b needs.literal.atom needs.template step.update update due.chosen.stopped) (sym (ap (λ (x : BoundConstraint). x.binding) same.binding))
      (subst (λ (l : Literal). IsUpdateAt spec layout bytes step.binding l.atom needs.template step.update update due.chosen.stopped) (sym same.its_is)
      (subst (λ t. IsUpdateAt spec layout bytes step.binding due.literal.atom t step.update update due.chosen.stopped) (sym same.template_is) due.chosen.update_is)) in
      let by = update_once spec layout bytes need.binding needs.literal.atom needs.template needs.at step.update needs.update update needs.stopped due.chosen.stopped
      (takes_once spec choice layout bytes plan typed (needed_by need) need.conj need.literal needs.literal needs.template needs.due) needs.update_is second in
      let takes : update.fresh ≡ Some need.pool = sym (ap (λ (x : Update). x.fresh) by.update) ∙ needs.fresh in
      let fresh = some_and step.fresh (IsFreshFrom (IsFact spec layout bytes) spec layout need.pool) (subst (λ o. IsFresh (IsFact spec layout bytes) spec layout o step.fresh) takes due.chosen.fresh) in
      none_fresh bytes need.pool fresh.0 needs.used_up fresh.1.1

  need_once : (bytes : List ℕ) (need other : Need) → IsNeed spec choice layout bytes need → IsNeed spec choice layout bytes other → need ≡ other
  need_once bytes need other one two =
      let same = due_once (IsFact spec layout bytes) spec choice (needed_by need) (needed_by other) need.conj other.conj need.literal other.literal one.literal two.literal one.template two.template one.due two.due in
      let second : IsUpdateAt spec layout bytes need.binding one.literal.atom one.template two.at two.update two.stopped =
      subst (λ b. IsUpdateAt spec layout bytes b one.literal.atom one.template two.at two.update two.stopped) (sym (ap (λ (x : BoundConstraint). x.binding) same.binding))
      (subst (λ (l : Literal). IsUpdateAt spec layout bytes other.binding l.atom one.template two.at two.update two.stopped) (sym same.its_is)
      (subst (λ t. IsUpdateAt spec layout bytes other.binding two.literal.atom t two.at two.update two.stopped) (sym same.template_is) two.update_is)) in
      let by = update_once spec layout bytes need.binding one.literal.atom one.template one.at two.at one.update two.update one.stopped two.stopped
      (takes_once spec choice layout bytes plan typed (needed_by need) need.conj need.literal one.literal one.template one.due) one.update_is second in
      let pool : need.pool ≡ other.pool = same_Some need.pool other.pool (sym one.fresh ∙ (ap (λ (x : Update). x.fresh) by.update ∙ two.fresh)) in
      λ i. record {
        pool = pool i;
        constraint = ap (λ (x : BoundConstraint). x.constraint) same.binding i;
        binding = ap (λ (x : BoundConstraint). x.binding) same.binding i;
        conj = same.conj_is i;
        literal = same.literal_is i;
      }

  -- a violated binding is none of a consistent image
  not_due : (bytes : List ℕ) (step : Step) (update : Update) → IsConsistent spec layout bytes → IsDueStep spec choice layout bytes step update → ⊥
  not_due bytes step update consistent is = consistent (bound_by step) is.due.binding_is.violated

  none_needed : (bytes : List ℕ) (need : Need) → IsConsistent spec layout bytes → IsNeed spec choice layout bytes need → ⊥
  none_needed bytes need consistent is = consistent (needed_by need) is.due.binding_is.violated

  pub turn_once : (bytes : List ℕ) (turn other : Turn) → IsTurn spec choice layout bytes turn → IsTurn spec choice layout bytes other → turn ≡ other
  turn_once bytes turns.Done turns.Done one two = refl
  turn_once bytes turns.Done (turns.Step step) one two = absurd (not_due bytes step two.0 one two.1)
  turn_once bytes turns.Done (turns.Empty need) one two = absurd (none_needed bytes need one two)
  turn_once bytes (turns.Step step) turns.Done one two = absurd (not_due bytes step one.0 two one.1)
  turn_once bytes (turns.Step step) (turns.Step other) one two = ap turns.Step (step_once spec choice layout bytes plan typed step other one.0 two.0 one.1 two.1).0
  turn_once bytes (turns.Step step) (turns.Empty need) one two = absurd (not_needed bytes need step one.0 two one.1)
  turn_once bytes (turns.Empty need) turns.Done one two = absurd (none_needed bytes need two one)
  turn_once bytes (turns.Empty need) (turns.Step step) one two = absurd (not_needed bytes need step two.0 one two.1)
  turn_once bytes (turns.Empty need) (turns.Empty other) one two = ap turns.Empty (need_once bytes need other one two)

  outcome_once : (bytes : List ℕ) (o p : Outcome) → IsOutcome spec choice layout bytes o → IsOutcome spec choice layout bytes p → o ≡ p
  outcome_once bytes outcomes.Consistent outcomes.Consistent one two = refl
  outcome_once bytes outcomes.Consistent (outcomes.Empty need) one two = absurd (none_needed bytes need one two)
  outcome_once bytes (outcomes.Empty need) outcomes.Consistent one two = absurd (none_needed bytes need two one)
  outcome_once bytes (outcomes.Empty need) (outcomes.Empty other) one two = ap outcomes.Empty (need_once bytes need other one two)

  no_step : (bytes new : List ℕ) (o : Outcome) (entry : Entry) → IsOutcome spec choice layout bytes o → IsDueEntry spec choice layout bytes entry new → ⊥
  no_step bytes new outcomes.Consistent entry ends is = not_due bytes is.step is.update ends is.due
  no_step bytes new (outcomes.Empty need) entry ends is = not_needed bytes need is.step is.update ends is.due

  -- ---- from its front

  -- the run from its front
  data RunsOn : List ℕ → List Entry → List ℕ → Type 0 where
    stops : {bytes : List ℕ} → RunsOn bytes [] bytes
    first : {old middle new : List ℕ} {entries : List Entry} → (entry : Entry) → IsDueEntry spec choice layout old entry middle → RunsOn middle entries new → RunsOn old (entry ∷ entries) new

  one_more : {old middle new : List ℕ} {entries : List Entry} → RunsOn old entries middle → (entry : Entry) → IsDueEntry spec choice layout middle entry new → RunsOn old (entries ++ entry ∷ []) new
  one_more stops entry due = first entry due stops
  one_more (first e is rest) entry due = first e is (one_more rest entry due)

  from_front : {old new : List ℕ} {entries : List Entry} → IsPartRun spec choice layout old entries new → RunsOn old entries new
  from_front begins = stops
  from_front (goes_on entry run due) = one_more (from_front run) entry due

  one_before : {old middle new : List ℕ} {entries : List Entry} → (entry : Entry) → IsDueEntry spec choice layout old entry middle → IsPartRun spec choice layout middle entries new → IsPartRun spec choice layout old (entry ∷ entries) new
  one_before entry due begins = goes_on entry begins due
  one_before entry due (goes_on last run is) = goes_on last (one_before entry due run) is

  to_end : {old new : List ℕ} {entries : List Entry} → RunsOn old entries new → IsPartRun spec choice layout old entries new
  to_end stops = begins
  to_end (first entry is rest) = one_before entry is (to_end rest)

  -- of two runs of an image the one goes on where the other stops
  abbrev IsFrontOf : List Entry → List ℕ → List Entry → List ℕ → Type 0
  IsFrontOf = GoesOn spec choice layout

  later_front : (entry other : Entry) (entries others : List Entry) (a b : List ℕ) → entry ≡ other → IsFrontOf entries a others b → IsFrontOf (entry ∷ entries) a (other ∷ others) b
  later_front entry other entries others a b same is = record {
    rest = is.rest;
    entries = λ i. sym same i ∷ is.entries i;
    steps = is.steps;
  }

  fronts : (old a b : List ℕ) (entries others : List Entry) → IsImageOf spec layout old → RunsOn old entries a → RunsOn old others b → IsFrontOf entries a others b ⊎ IsFrontOf others b entries a
  fronts old _ b _ others image stops run = inl (record { rest = others; entries = refl; steps = to_end run })
  fronts old a _ entries _ image run stops = inr (record { rest = entries; entries = refl; steps = to_end run })
  fronts old a b _ _ image (first {middle = m} {entries = es} entry is rest) (first {middle = n} {entries = fs} other at more) =
      let same = due_entry_once spec choice layout plan old m n entry other image is at in
      elim (fronts n a b es fs (step_keeps spec choice layout plan old n other image at) (subst (λ x. RunsOn x es a) same.1 rest) more) as (λ _. IsFrontOf (entry ∷ es) a (other ∷ fs) b ⊎ IsFrontOf (other ∷ fs) b (entry ∷ es) a) [
        | inl before ↦ inl (later_front entry other es fs a b same.0 before)
        | inr behind ↦ inr (later_front other entry fs es b a (sym same.0) behind)
      ]

  pub run_fronts : (old a b : List ℕ) (entries others : List Entry) → IsImageOf spec layout old → IsPartRun spec choice layout old entries a → IsPartRun spec choice layout old others b → IsFrontOf entries a others b ⊎ IsFrontOf others b entries a
  run_fronts old a b entries others image one two = fronts old a b entries others image (from_front one) (from_front two)

  front_once :
      (old a b : List ℕ) (entries others : List Entry) (o p : Outcome) → IsImageOf spec layout old → RunsOn old entries a → RunsOn old others b
      → IsOutcome spec choice layout a o → IsOutcome spec choice layout b p → (entries ≡ others) × ((a ≡ b) × (o ≡ p))
  front_once old _ _ _ _ o p image stops stops one two = (refl, (refl, outcome_once old o p one two))
  front_once old _ b _ _ o p image stops (first entry is rest) one two = absurd (no_step old _ o entry one is)
  front_once old a _ _ _ o p image (first entry is rest) stops one two = absurd (no_step old _ p entry two is)
  front_once old a b _ _ o p image (first {middle = m} {entries = es} entry is rest) (first {middle = n} {entries = fs} other at more) one two =
      let same = due_entry_once spec choice layout plan old m n entry other image is at in
      let later = front_once n a b es fs o p (step_keeps spec choice layout plan old n other image at) (subst (λ x. RunsOn x es a) same.1 rest) more one two in
      (λ i. same.0 i ∷ later.0 i, later.1)

  pub run_once :
      (old a b : List ℕ) (entries others : List Entry) (o p : Outcome) → IsImageOf spec layout old → IsRun spec choice layout old entries a o
      → IsRun spec choice layout old others b p → (entries ≡ others) × ((a ≡ b) × (o ≡ p))
  run_once old a b entries others o p image one two =
      front_once old a b entries others o p image (from_front one.steps) (from_front two.steps) one.ends two.ends
