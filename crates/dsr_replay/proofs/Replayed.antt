-- Steps that are replayed, one after the other.
use Rattle.std.proofs.Common.{◌≡◌, ◌+◌, ◌<◌, ◌≤◌, ◌∙◌, ℕ, List, [], ◌∷◌, ◌++◌, Option, None, Some, IsSomeAnd, length, length-append, slice_get, inl, inr, refl, sym, ap, subst, arith}
use Rattle.std.specs.Prelude.{Result, Ok, Err, IfErr, IsErrAnd}
use Rattle.dsr_ir.specs.declared.declarations.Spec.{Spec}
use Rattle.dsr_ir.specs.declared.layouts.Layout.{Layout}
use Rattle.dsr_plan_theory.specs.declared.choices.Choice.{Choice}
use Rattle.dsr_repair_theory.specs.Runs.{IsDueEntry}
use Rattle.dsr_repair_theory.specs.Runs.IsPartRun.{begins, goes_on}
use Rattle.dsr_repair_theory.specs.declared.entries.Entry.{Entry}
use Rattle.dsr_replay.proofs.Places.{pushed}
use Rattle.dsr_replay.specs.Audits.{AreTold, HaveOneText, IsAuditFault, IsFirstUnlike, IsPartlyReplayed, IsReplayed}
use Rattle.dsr_replay.specs.Steps.{IsMatched, IsMismatch, IsUnlike}
use Rattle.dsr_replay.specs.declared.faults.AuditFault.{AuditFault}
use Rattle.dsr_replay.specs.declared.faults.AuditFault.TheVariants as faults

module _ (spec : Spec) (choice : Choice) (layout : Layout) (image : List ℕ) (log : List Entry) where
  none_told : AreTold spec log []
  none_told k made is = absurd (let both : None ≡ Some made = is in cc)

  -- no steps
  pub replays_none : IsReplayed spec choice layout image log 0 image
  replays_none = record { run = []; count_is = refl; steps = begins; told = none_told }

  pub parts_none : (bytes : List ℕ) → bytes ≡ image → IsPartlyReplayed spec choice layout image log bytes
  parts_none bytes same = (0, subst (IsReplayed spec choice layout image log 0) (sym same) replays_none)

  module _ (count : ℕ) (reached : List ℕ) (replayed : IsReplayed spec choice layout image log count reached) (told : Entry) (told_is : slice_get log count ≡ Some told) where
    -- one step more
    pub replays_more : (new : List ℕ) → IsMatched spec choice layout (count + 1) told reached new → IsReplayed spec choice layout image log (count + 1) new
    replays_more new matched = record {
      run = replayed.run ++ matched.due ∷ [];
      count_is = length-append replayed.run (matched.due ∷ []) ∙ omega (arith, replayed.count_is);
      steps = goes_on matched.due replayed.steps matched.made;
      told = λ k made is. elim (pushed replayed.run matched.due k made is) [
        | inl front ↦ replayed.told k made front
        | inr last ↦
            let at : k ≡ count = last.0 ∙ replayed.count_is in
            let found : slice_get log k ≡ Some told = ap (slice_get log) at ∙ told_is in
            let one : HaveOneText spec (count + 1) told made = subst (HaveOneText spec (count + 1) told) last.1 matched.one_text in
            let here : HaveOneText spec (k + 1) told made = subst (λ n. HaveOneText spec (n + 1) told made) (sym at) one in
            subst (λ o. IsSomeAnd o (λ t. HaveOneText spec (k + 1) t made)) (sym found) here
      ];
    }

    -- no step with the entry's text
    pub is_unlike : (fault : AuditFault) → IsMismatch spec choice layout (count + 1) told reached fault → IsUnlike spec choice layout image log fault
    is_unlike (faults.Entry number) mismatch = record {
      before = count;
      number_is = mismatch.0;
      reached = reached;
      replayed = replayed;
      told = told;
      told_is = told_is;
      unlike = λ due new is one. mismatch.1 due new is (subst (λ n. HaveOneText spec n told due) mismatch.0 one);
    }
    is_unlike (faults.Short n) mismatch = mismatch
    is_unlike (faults.Fixed n) mismatch = mismatch
    is_unlike faults.NoMemory mismatch = tt

  pub parts_some : (count : ℕ) (reached bytes : List ℕ) → IsReplayed spec choice layout image log count reached → bytes ≡ reached → IsPartlyReplayed spec choice layout image log bytes
  parts_some count reached bytes replayed same = (count, subst (IsReplayed spec choice layout image log count) (sym same) replayed)

  -- what replaying finds, the audit tells
  pub fault_told : (fixed : List ℕ) (fault : AuditFault) → IsUnlike spec choice layout image log fault → IsAuditFault spec choice layout image log fixed fault
  fault_told fixed (faults.Entry number) unlike = unlike
  fault_told fixed (faults.Short n) unlike = absurd unlike
  fault_told fixed (faults.Fixed n) unlike = absurd unlike
  fault_told fixed faults.NoMemory unlike = tt

-- a fault that is handed on is the one that came
pub handed_on : {T : Type 0} (Is : AuditFault → Type 0) (fault : AuditFault) → Is fault → (r : Result T AuditFault) → IsErrAnd r (λ e. e ≡ fault) → IfErr r Is
handed_on Is fault is (Ok x) came = tt
handed_on Is fault is (Err e) came = subst Is (sym came) is
