-- Which entry a step has, and the way back.
use Rattle.std.proofs.Common.{◌≡◌, ◌+◌, ◌∙◌, ℕ, List, [], ◌∷◌, ◌++◌, length, length-append, slice_get, true, false, Result, Ok, Err, IfOk, refl, sym, ap, subst, arith}
use Rattle.std.specs.Prelude.{IfErr}
use Rattle.std.specs.Result.{is_err}
use Rattle.std.proofs.lemmas.Option.{same_Some}
use Rattle.dsr_ir.specs.declared.declarations.Spec.{Spec}
use Rattle.dsr_ir.specs.declared.layouts.Layout.{Layout}
use Rattle.dsr_plan_theory.specs.Plans.{IsPlan}
use Rattle.dsr_plan_theory.specs.declared.choices.Choice.{Choice}
use Rattle.dsr_repair.specs.Stepping.{State, TakesTurn}
use Rattle.dsr_repair_theory.specs.Runs.{IsDueEntry}
use Rattle.dsr_repair_theory.specs.Turns.{IsTurn}
use Rattle.dsr_repair_theory.specs.declared.entries.Entry.{Entry}
use Rattle.dsr_repair_theory.specs.declared.turns.Need.{Need}
use Rattle.dsr_repair_theory.specs.declared.turns.Turn.{Turn}
use Rattle.dsr_repair_theory.specs.declared.turns.Turn.TheVariants as turns
use Rattle.dsr_replay.specs.Audits.{HaveOneText}
use Rattle.dsr_replay.specs.Steps.{IsMismatch, IsTextFault}
use Rattle.dsr_replay.specs.declared.faults.AuditFault.{AuditFault}
use Rattle.dsr_replay.specs.declared.faults.AuditFault.TheVariants as faults
use Rattle.dsr_run_laws.proofs.RunOnce.{due_entry_once, turn_once}
use Rattle.dsr_step_theory.specs.Images.{IsImageOf}
use Rattle.dsr_step_theory.specs.declared.steps.Step.{Step}
use Rattle.dsr_undo_laws.proofs.Outcomes.{lines_never, lines_one}
use Rattle.dsr_undo_laws.proofs.Runs.{entry_back}
use Rattle.dsr_undo_laws.specs.TakingBack.{AreLinesBack, IsRefusedIn}
use Rattle.dsr_undo_laws.specs.declared.faults.UndoFault.{UndoFault}

module _ (spec : Spec) (choice : Choice) (layout : Layout) (plan : IsPlan spec choice) (old : List ℕ) (image : IsImageOf spec layout old) where
  -- the turn of a step that is due
  due_turn : (due : Entry) (new : List ℕ) (is : IsDueEntry spec choice layout old due new) → IsTurn spec choice layout old (turns.Step is.step)
  due_turn due new is = (is.update, is.due)

  -- where nothing is due, no entry tells what is
  pub none_done : IsTurn spec choice layout old turns.Done → (due : Entry) (new : List ℕ) → IsDueEntry spec choice layout old due new → ⊥
  none_done done due new is =
      let both : turns.Done ≡ turns.Step is.step = turn_once spec choice layout plan image.typed old turns.Done (turns.Step is.step) done (due_turn due new is) in
      cc

  pub none_empty : (need : Need) → IsTurn spec choice layout old (turns.Empty need) → (due : Entry) (new : List ℕ) → IsDueEntry spec choice layout old due new → ⊥
  none_empty need empty due new is =
      let both : turns.Empty need ≡ turns.Step is.step = turn_once spec choice layout plan image.typed old (turns.Empty need) (turns.Step is.step) empty (due_turn due new is) in
      cc

  -- so where no step is due
  pub none_due : (turn : Turn) → ((step : Step) → turn ≡ turns.Step step → ⊥) → IsTurn spec choice layout old turn → (due : Entry) (new : List ℕ) → IsDueEntry spec choice layout old due new → ⊥
  none_due turns.Done not is = none_done is
  none_due (turns.Step step) not is = absurd (not step refl)
  none_due (turns.Empty need) not is = none_empty need is

  module _ (made : Entry) (new : List ℕ) (is : IsDueEntry spec choice layout old made new) where
    -- where the entry of the due step has another text, each has
    pub each_unlike : (number : ℕ) (told : Entry) → (HaveOneText spec number told made → ⊥) → (due : Entry) (other : List ℕ) → IsDueEntry spec choice layout old due other → HaveOneText spec number told due → ⊥
    each_unlike number told unlike due other also one =
        let same = due_entry_once spec choice layout plan old new other made due image is also in
        unlike (subst (HaveOneText spec number told) (sym same.0) one)

    pub text_fault : (number : ℕ) (told : Entry) (fault : AuditFault) → IsTextFault spec number told made fault → IsMismatch spec choice layout number told old fault
    text_fault number told (faults.Entry n) its = (its.0, each_unlike number told its.1)
    text_fault number told (faults.Short n) its = its
    text_fault number told (faults.Fixed n) its = its
    text_fault number told faults.NoMemory its = tt

    -- its lines are taken back to the old bytes, and none is refused
    pub back_is : (bytes : List ℕ) → AreLinesBack spec.base made.bytes new bytes → bytes ≡ old
    back_is bytes back = lines_one made.bytes new bytes old back (entry_back spec choice layout plan old new made image is)

    pub never_stopped : (number : ℕ) (bytes : List ℕ) (fault : UndoFault) → IsRefusedIn spec.base number made.bytes new bytes fault → ⊥
    never_stopped number bytes fault refused = lines_never number made.bytes new old bytes fault (entry_back spec choice layout plan old new made image is) refused

-- where no step is due, none is made
pub none_taken : (spec : Spec) (choice : Choice) (layout : Layout) (before after : State) (turn : Turn) → ((step : Step) → turn ≡ turns.Step step → ⊥) → TakesTurn spec choice layout before after turn → after ≡ before
none_taken spec choice layout before after turns.Done not is = is
none_taken spec choice layout before after (turns.Step step) not is = absurd (not step refl)
none_taken spec choice layout before after (turns.Empty need) not is = is

-- one entry that is pushed to none is the first
pub only_pushed : (old new rest : List Entry) (made first : Entry) → old ≡ [] → new ≡ old ++ made ∷ [] → new ≡ first ∷ rest → first ≡ made
only_pushed old new rest made first none pushed is =
    let all : new ≡ made ∷ [] = pushed ∙ ap (λ es. es ++ made ∷ []) none in
    same_Some first made (ap (λ es. slice_get es 0) (sym is ∙ all))

pub some_pushed : (old new : List Entry) (made : Entry) → new ≡ old ++ made ∷ [] → new ≡ [] → ⊥
some_pushed old new made pushed none =
    let count : length new ≡ 0 = ap length none in
    absurd (omega (arith, count, ap length pushed, length-append old (made ∷ [])))

-- what an answer of taking back says
pub is_back : {P : Type 0} (r : Result (Unit {0}) UndoFault) → false ≡ is_err r → IfOk r (λ _. P) → P
is_back (Ok x) not is = is
is_back (Err e) not is = absurd (let both : false ≡ true = not in cc)

pub is_stopped : {P : UndoFault → Type 0} (r : Result (Unit {0}) UndoFault) → true ≡ is_err r → IfErr r P → (fault : UndoFault) × P fault
is_stopped (Ok x) not is = absurd (let both : true ≡ false = not in cc)
is_stopped (Err e) not is = (e, is)
