-- A run that goes on.
use Rattle.std.proofs.Common.{◌≡◌, ◌<◌, ◌+◌, ◌-◌, ◌∙◌, ℕ, List, [], ◌∷◌, ◌++◌, length, sym, ap, subst, arith, append-nil, append_assoc}
use Rattle.dsr_ir.specs.declared.declarations.Spec.{Spec}
use Rattle.dsr_ir.specs.declared.layouts.Layout.{Layout}
use Rattle.dsr_plan_theory.specs.declared.choices.Choice.{Choice}
use Rattle.dsr_plan_theory.specs.Plans.{IsPlan}
use Rattle.dsr_repair.specs.Rounds.{IsRound}
use Rattle.dsr_bound_laws.proofs.Runs.{run_bounded}
use Rattle.dsr_bound_laws.specs.Bounds.{bound}
use Rattle.dsr_step_theory.specs.Images.{IsImageOf}
use Rattle.std.proofs.lemmas.List.{length-append}
use Rattle.dsr_repair_theory.specs.Runs.{IsDueEntry, IsPartRun}
use Rattle.dsr_repair_theory.specs.Runs.IsPartRun.{begins, goes_on}
use Rattle.dsr_repair_theory.specs.declared.entries.Entry.{Entry}

module _ (spec : Spec) (choice : Choice) (layout : Layout) where
  pub run_on :
      (old middle new : List ℕ) (entries after : List Entry) (entry : Entry)
      → IsPartRun spec choice layout old entries middle → IsDueEntry spec choice layout middle entry new
      → after ≡ entries ++ entry ∷ [] → IsPartRun spec choice layout old after new
  run_on old middle new entries after entry run due pushed =
      subst (λ es. IsPartRun spec choice layout old es new) (sym pushed) (goes_on entry run due)

  pub run_same :
      (old middle new : List ℕ) (entries after : List Entry)
      → IsPartRun spec choice layout old entries middle → new ≡ middle → after ≡ entries
      → IsPartRun spec choice layout old after new
  run_same old middle new entries after run bytes same =
      subst (λ es. IsPartRun spec choice layout old es new) (sym same)
      (subst (λ bs. IsPartRun spec choice layout old entries bs) (sym bytes) run)

  -- a run, and one that begins where it ended
  pub runs_joined :
      {old middle new : List ℕ} {entries more : List Entry} → IsPartRun spec choice layout old entries middle
      → IsPartRun spec choice layout middle more new → IsPartRun spec choice layout old (entries ++ more) new
  runs_joined {old = old} {middle = middle} {entries = entries} run begins =
      subst (λ es. IsPartRun spec choice layout old es middle) (sym (append-nil entries)) run
  runs_joined {old = old} {new = new} {entries = entries} run (goes_on {entries = more} entry steps is) =
      subst (λ es. IsPartRun spec choice layout old es new) (append_assoc entries more (entry ∷ []))
      (goes_on entry (runs_joined run steps) is)

  -- ---- rounds

  pub round_begins : (bytes : List ℕ) (entries : List Entry) → IsRound spec choice layout bytes entries bytes entries
  round_begins bytes entries = record { made = []; pushed = sym (append-nil entries); run = begins }

  pub round_on :
      (old middle new : List ℕ) (before entries after : List Entry) (entry : Entry)
      → IsRound spec choice layout old before middle entries → IsDueEntry spec choice layout middle entry new
      → after ≡ entries ++ entry ∷ [] → IsRound spec choice layout old before new after
  round_on old middle new before entries after entry round due pushed = record {
    made = round.made ++ entry ∷ [];
    pushed = pushed ∙ (ap (λ es. es ++ entry ∷ []) round.pushed ∙ append_assoc before round.made (entry ∷ []));
    run = goes_on entry round.run due;
  }

  -- a round behind a run
  pub run_of_round :
      (old middle new : List ℕ) (before after : List Entry) → IsPartRun spec choice layout old before middle
      → IsRound spec choice layout middle before new after → IsPartRun spec choice layout old after new
  run_of_round old middle new before after run round =
      subst (λ es. IsPartRun spec choice layout old es new) (sym round.pushed) (runs_joined run round.run)

  -- one whose entries stand alone
  pub round_joined :
      (old middle new : List ℕ) (entries before after : List Entry) → IsPartRun spec choice layout old entries middle
      → before ≡ [] → IsRound spec choice layout middle before new after
      → IsPartRun spec choice layout old (entries ++ after) new
  round_joined old middle new entries before after run none round =
      let made : after ≡ round.made = round.pushed ∙ ap (λ es. es ++ round.made) none in
      subst (λ es. IsPartRun spec choice layout old (entries ++ es) new) (sym made) (runs_joined run round.run)

  -- ---- the bound

  module _ (plan : IsPlan spec choice) (old : List ℕ) (image : IsImageOf spec layout old) where
    -- one more entry leaves less of it
    pub less_left :
        (new : List ℕ) (before after : List Entry) (entry : Entry) → after ≡ before ++ entry ∷ [] → IsPartRun spec choice layout old after new
        → bound spec (length old) - length after < bound spec (length old) - length before
    less_left new before after entry pushed run =
        let all = run_bounded spec choice layout plan old new after image run in
        let long : length after ≡ length before + 1 = ap length pushed ∙ length-append before (entry ∷ []) in
        omega (arith, all, long)

    -- so do so many more
    pub less_left_by :
        (new : List ℕ) (entries : List Entry) (before after : ℕ) → IsPartRun spec choice layout old entries new
        → after ≡ length entries → before < after
        → bound spec (length old) - after < bound spec (length old) - before
    less_left_by new entries before after run counted more =
        let all = run_bounded spec choice layout plan old new entries image run in
        omega (arith, all, counted, more)
