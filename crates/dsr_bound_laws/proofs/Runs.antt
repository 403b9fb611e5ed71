-- A run has no more steps than the bound allows, since each of them leaves less to be done.
use Rattle.std.proofs.Common.{◌≡◌, ◌≤◌, ◌+◌, ℕ, List, [], ◌∷◌, ◌++◌, length, arith}
use Rattle.std.proofs.lemmas.List.{length-append}
use Rattle.dsr_ir.specs.declared.declarations.Spec.{Spec}
use Rattle.dsr_ir.specs.declared.layouts.Layout.{Layout}
use Rattle.dsr_plan_theory.specs.Plans.{IsPlan}
use Rattle.dsr_plan_theory.specs.declared.choices.Choice.{Choice}
use Rattle.dsr_repair_theory.specs.Runs.{IsDueEntry, IsPartRun}
use Rattle.dsr_repair_theory.specs.Runs.IsPartRun.{begins, goes_on}
use Rattle.dsr_repair_theory.specs.declared.entries.Entry.{Entry}
use Rattle.dsr_run_laws.proofs.RunOnce.{run_keeps, step_keeps}
use Rattle.dsr_step_theory.specs.Images.{IsImageOf}
use Rattle.dsr_bound_laws.specs.Bounds.{bound}
use Rattle.dsr_bound_laws.specs.Remaining.{IsRemaining}
use Rattle.dsr_bound_laws.proofs.There.{remaining_there}
use Rattle.dsr_bound_laws.proofs.Whole.{remaining_bounded, remaining_falls}

module _ (spec : Spec) (choice : Choice) (layout : Layout) (plan : IsPlan spec choice) where
  -- the steps that were made, and what remains, are within the bound
  run_within :
      (old new : List ℕ) (entries : List Entry) → IsImageOf spec layout old → IsPartRun spec choice layout old entries new
      → (n : ℕ) → IsRemaining spec choice layout new n → length entries + n ≤ bound spec (length old)
  run_within old _ _ image begins n is = let most = remaining_bounded spec choice layout old n image is in omega (arith, most)
  run_within old new _ image (goes_on {middle = middle} {entries = before} entry steps its) n is =
      let now = run_keeps spec choice layout plan old middle before image steps in
      let left = remaining_there spec choice plan layout middle now in
      let all = run_within old middle before image steps left.0 left.1 in
      let less = remaining_falls spec choice layout middle new entry plan now its left.0 n (step_keeps spec choice layout plan middle new entry now its) left.1 is in
      let long : length (before ++ entry ∷ []) ≡ length before + 1 = length-append before (entry ∷ []) in
      omega (arith, all, less, long)

  pub run_bounded :
      (old new : List ℕ) (entries : List Entry) → IsImageOf spec layout old → IsPartRun spec choice layout old entries new
      → length entries ≤ bound spec (length old)
  run_bounded old new entries image steps =
      let left = remaining_there spec choice plan layout new (run_keeps spec choice layout plan old new entries image steps) in
      let all = run_within old new entries image steps left.0 left.1 in
      omega (arith, all)
