-- The entries of a run are such as a report may tell, but that a field need not be the first of its name.
use Rattle.std.proofs.Common.{◌≡◌, ◌<◌, ℕ, List, [], ◌∷◌, All, Option, None, Some, IfSome, IsSome, MatchOption, length, refl, sym, subst}
use Rattle.std.proofs.lemmas.List.Elements.{All-append, All-cons, All-nil}
use Rattle.dsr_repair_laws.proofs.MakingSteps.{bound, can_step, tried}
use Rattle.dsr_repair_laws.proofs.TriedSteps.{placed_at}
use Rattle.dsr_ir.specs.declared.constraints.Literal.{Literal}
use Rattle.dsr_ir.specs.declared.declarations.Spec.{Spec}
use Rattle.dsr_ir.specs.declared.layouts.Layout.{Layout}
use Rattle.dsr_ir.specs.declared.tuples.Element.{Element}
use Rattle.dsr_ir.specs.declared.updates.Update.{Update}
use Rattle.dsr_ir.specs.declared.updates.Write.{Write}
use Rattle.dsr_meaning.proofs.Items.{of_all}
use Rattle.dsr_meaning.specs.Counting.{IsIn}
use Rattle.dsr_meaning.specs.Legal.{IsLegalLayout}
use Rattle.dsr_meaning.specs.Writes.{AreBytes}
use Rattle.dsr_plan_theory.specs.Plans.{IsPlan}
use Rattle.dsr_plan_theory.specs.declared.choices.Choice.{Choice}
use Rattle.dsr_repair_theory.specs.Runs.{IsDueEntry, IsPartRun}
use Rattle.dsr_repair_theory.specs.Runs.IsPartRun.{begins, goes_on}
use Rattle.dsr_repair_theory.specs.Turns.{IsDueStep}
use Rattle.dsr_repair_theory.specs.declared.entries.Entry.{Entry}
use Rattle.dsr_report_read.specs.Forms.{IsChange, IsHead, IsRecord, IsSet, head_told}
use Rattle.dsr_report_read.specs.declared.lines.Head.{Head}
use Rattle.dsr_resolve.proofs.AcceptedLayouts.{legal_of}
use Rattle.dsr_run_laws.proofs.RunOnce.{run_keeps, step_keeps}
use Rattle.dsr_step_theory.specs.Images.{IsImageOf}
use Rattle.dsr_step_theory.specs.Puts.{ArePut}
use Rattle.dsr_step_theory.specs.Resets.{reset_puts}
use Rattle.dsr_step_theory.specs.Steps.{CanStep, CanWrite, IsSlot}
use Rattle.dsr_step_theory.specs.declared.steps.Step.{Step}
use Rattle.dsr_update_theory.specs.Templates.{literal_at}
use Rattle.dsr_report_laws.proofs.RecordsTold.{binding_told, record_told, slot_told}
use Rattle.dsr_report_laws.proofs.SetsTold.{bytes_told, puts_bytes, sets_told}
use Rattle.dsr_report_laws.proofs.WrittenPaths.{IsOfRule, each_of_rule, rule_declared}

-- each of its lines is one that may be told, but that a field need not be the first of its name
pub record IsFormedEntry (spec : Spec) (entry : Entry) : Type 0 where
  pub head : IsHead spec (head_told entry)
  pub reset : IfSome entry.reset (λ elem. IsRecord spec elem × (0 < elem.pool))
  pub sets : All (IsSet spec) entry.sets
  pub bytes : All IsChange entry.bytes

-- for which literal the step is made, by which rule
abbrev head_of : Step → Head
head_of step = record { constraint = step.constraint; binding = step.binding; conj = step.conj; literal = step.literal; rule = step.rule }

module _ (spec : Spec) (choice : Choice) (layout : Layout) (plan : IsPlan spec choice) where
  module _ (old : List ℕ) (image : IsImageOf spec layout old) (step : Step) (update : Update) (due : IsDueStep spec choice layout old step update) where
    legal : IsLegalLayout layout
    legal = legal_of spec old layout image.layout_is image.typed image.small

    can : CanStep spec layout step update (length old)
    can = can_step spec choice layout old step update image plan due

    there : (o : Option Literal) → o ≡ Some due.literal → IsSome o
    there None e = absurd cc
    there (Some l) e = refl

    head_is : IsHead spec (head_of step)
    head_is =
        let s = tried spec choice layout old step update image plan due in
        let rule : step.rule ≡ update.rule = due.chosen.rule in
        record {
          constraint = due.due.constraint;
          constraint_is = due.due.binding_is.row_of.constraint_is;
          binding = binding_told spec old layout image.layout_is legal image.typed due.due.constraint.quant step.binding
              (bound spec choice layout old step update image plan due);
          literal = there (literal_at due.due.constraint step.conj step.literal) due.due.literal_is.repaired.literal_is;
          rule = subst (λ n. n < length spec.rules) (sym rule) (rule_declared spec layout old step update s);
        }

    elem_is : IsRecord spec step.elem
    elem_is =
        let placed = placed_at spec layout old step update (tried spec choice layout old step update image plan due) in
        record_told spec old layout image.layout_is legal step.elem.pool step.elem placed.of_pool

    fresh_is : (o : Option Element) → IfSome o (IsSlot layout) → IfSome o (λ elem. IsRecord spec elem × (0 < elem.pool))
    fresh_is None slot = tt
    fresh_is (Some e) slot = slot_told spec old layout image.layout_is legal e slot

    between_bytes : (o : Option Element) (between : List ℕ) → MatchOption o (between ≡ old) (λ e. ArePut (reset_puts spec.base layout e) old between) → AreBytes between
    between_bytes None between same = subst AreBytes (sym same) image.bytes
    between_bytes (Some e) between puts = puts_bytes (reset_puts spec.base layout e) old between puts image.bytes

    writes_are : (write : Write) → IsIn write update.writes → CanWrite spec layout step write × IsOfRule spec step write
    writes_are write is_in = (
      of_all (CanWrite spec layout step) update.writes write can.writes is_in,
      each_of_rule spec layout old step update (tried spec choice layout old step update image plan due) write is_in,
    )

  -- so is the entry that tells a due step
  pub entry_formed : (old new : List ℕ) (entry : Entry) → IsImageOf spec layout old → IsDueEntry spec choice layout old entry new → IsFormedEntry spec entry
  entry_formed old new entry image is =
      let its = is.made in
      let step = is.step in
      let after = step_keeps spec choice layout plan old new entry image is in
      let head : head_told entry ≡ head_of step = λ i. record {
        constraint = its.constraint i;
        binding = its.binding i;
        conj = its.conj i;
        literal = its.literal i;
        rule = its.rule i;
      } in
      record {
        head = subst (IsHead spec) (sym head) (head_is old image step is.update is.due);
        reset = subst (λ o. IfSome o (λ elem. IsRecord spec elem × (0 < elem.pool))) (sym its.fresh)
            (fresh_is old image step is.update is.due step.fresh (can old image step is.update is.due).fresh);
        sets = sets_told spec layout (legal old image step is.update is.due) step (elem_is old image step is.update is.due) is.update.writes its.between new entry.sets its.sets
            (between_bytes old image step is.update is.due step.fresh its.between its.reset) (writes_are old image step is.update is.due);
        bytes = subst (All IsChange) (sym its.bytes) (bytes_told old new image.bytes after.bytes image.small);
      }

  -- and so are those of a run
  pub run_formed : (old new : List ℕ) (entries : List Entry) → IsImageOf spec layout old → IsPartRun spec choice layout old entries new → All (IsFormedEntry spec) entries
  run_formed old _ _ image begins = All-nil (IsFormedEntry spec)
  run_formed old new _ image (goes_on {middle = middle} {entries = before} entry steps is) =
      All-append (IsFormedEntry spec) before (entry ∷ []) (run_formed old middle before image steps)
      (All-cons (IsFormedEntry spec) entry [] (entry_formed middle new entry (run_keeps spec choice layout plan old middle before image steps) is) (All-nil (IsFormedEntry spec)))
