-- What an audit tells, from what is replayed on an image of which all is claimed.
use Rattle.std.proofs.Common.{◌≡◌, ◌≢◌, ◌+◌, ℕ, List, length, sym, subst, arith}
use Rattle.dsr_ir.specs.declared.declarations.Spec.{Spec}
use Rattle.dsr_ir.specs.declared.layouts.Layout.{Layout}
use Rattle.dsr_meaning.specs.Consistency.{IsConsistent}
use Rattle.dsr_plan_theory.specs.Plans.{IsPlan}
use Rattle.dsr_plan_theory.specs.declared.choices.Choice.{Choice}
use Rattle.dsr_repair_theory.specs.Turns.{IsTurn}
use Rattle.dsr_repair_theory.specs.declared.entries.Entry.{Entry}
use Rattle.dsr_repair_theory.specs.declared.turns.Turn.{Turn}
use Rattle.dsr_repair_theory.specs.declared.turns.Turn.TheVariants as turns
use Rattle.dsr_replay.specs.Audits.{IsAudited, IsPartlyReplayed, IsReplayed, IsShort, IsUnlikeFixed}
use Rattle.dsr_replay.specs.Differences.{IsFirstDifference}
use Rattle.dsr_replay.specs.Steps.{IsUnlike}
use Rattle.dsr_replay.specs.declared.faults.AuditFault.{AuditFault}
use Rattle.dsr_run_laws.proofs.RunOnce.{turn_once}
use Rattle.dsr_step_theory.specs.Images.{IsImageOf}

module _ (spec : Spec) (choice : Choice) (layout : Layout) (image claimed : List ℕ) (same : claimed ≡ image) (log : List Entry) where
  -- claiming leaves the bytes, so what is replayed on them is replayed on the image
  replayed_on : (count : ℕ) (reached : List ℕ) → IsReplayed spec choice layout claimed log count reached → IsReplayed spec choice layout image log count reached
  replayed_on count reached is = subst (λ bytes. IsReplayed spec choice layout bytes log count reached) same is

  pub part_on : (reached : List ℕ) → IsPartlyReplayed spec choice layout claimed log reached → IsPartlyReplayed spec choice layout image log reached
  part_on reached is = subst (λ bytes. IsPartlyReplayed spec choice layout bytes log reached) same is

  pub unlike_on : (fault : AuditFault) → IsUnlike spec choice layout claimed log fault → IsUnlike spec choice layout image log fault
  unlike_on fault is = subst (λ bytes. IsUnlike spec choice layout bytes log fault) same is

  module _ (reached : List ℕ) (replayed : IsReplayed spec choice layout claimed log (length log) reached) (turn : Turn) (its : IsTurn spec choice layout reached turn) where
    -- a step is due behind the last entry, or a supply is empty
    pub is_short : IsPlan spec choice → IsImageOf spec layout image → turn ≢ turns.Done → (count : ℕ) → count ≡ length log → IsShort spec choice layout image log count
    is_short plan image_is not count count_is = record {
      count_is = count_is;
      reached = reached;
      replayed = replayed_on (length log) reached replayed;
      unfinished = λ consistent. not (turn_once spec choice layout plan image_is.typed reached turn turns.Done its consistent);
    }

    consistent_then : turn ≡ turns.Done → IsConsistent spec layout reached
    consistent_then done = subst (IsTurn spec choice layout reached) done its

    -- nothing is due, and other bytes are given
    pub is_unlike_fixed : turn ≡ turns.Done → (fixed : List ℕ) (place : ℕ) → IsFirstDifference fixed reached place → IsUnlikeFixed spec choice layout image log fixed place
    is_unlike_fixed done fixed place differs = record {
      reached = reached;
      replayed = replayed_on (length log) reached replayed;
      consistent = consistent_then done;
      differs = differs;
    }

    -- nothing is due, and these bytes are given
    pub is_audited : turn ≡ turns.Done → (fixed : List ℕ) → fixed ≡ reached → IsAudited spec choice layout image log fixed
    is_audited done fixed given = subst (IsAudited spec choice layout image log) (sym given) (record {
      replayed = replayed_on (length log) reached replayed;
      consistent = consistent_then done;
    })
