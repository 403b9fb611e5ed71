-- Rounds of a repair, told one behind the other.
use Rattle.std.proofs.Common.{◌≡◌, ◌+◌, ◌++◌, ◌∙◌, ℕ, List, [], length, ap, sym}
use Rattle.std.proofs.lemmas.List.{length-append}
use Rattle.dsr_command_image.specs.Runs.{AreTold}
use Rattle.dsr_ir.specs.declared.declarations.Spec.{Spec}
use Rattle.dsr_ir.specs.declared.layouts.Layout.{Layout}
use Rattle.dsr_plan_theory.specs.declared.choices.Choice.{Choice}
use Rattle.dsr_repair.proofs.RunOn.{round_joined}
use Rattle.dsr_repair.specs.Rounds.{IsRound}
use Rattle.dsr_repair_theory.specs.declared.entries.Entry.{Entry}
use Rattle.dsr_report.proofs.Noted.{entries_joined}
use Rattle.dsr_report.specs.Reports.{entries_behind}

-- a round of entries that stand alone, told behind the ones before
pub told_on :
    (spec its : Spec) (choice : Choice) (layout : Layout) (old middle new lines text : List ℕ) (count all : ℕ)
    (before after : List Entry) → its ≡ spec → AreTold spec choice layout old middle lines count → before ≡ []
    → IsRound spec choice layout middle before new after → all ≡ count + length after
    → text ≡ lines ++ entries_behind its count after → AreTold spec choice layout old new text all
told_on spec its choice layout old middle new lines text count all before after same told none round counted text_is = record {
  entries = told.entries ++ after;
  steps = round_joined spec choice layout old middle new told.entries before after told.steps none round;
  told = text_is ∙ ((λ i. told.told i ++ entries_behind (same i) (told.counted i) after) ∙ sym (entries_joined spec told.entries after));
  counted = counted ∙ (ap (λ n. n + length after) told.counted ∙ sym (length-append told.entries after));
}
