-- A run that speaks has printed the text that it was asked for.
use Rattle.std.proofs.Common.{◌≡◌, ℕ, List, ap, subst, ◌∙◌, inl, inr}
use Rattle.dsr_command_laws.proofs.Tellings.{read_told, refusal_verdict, spoken}
use Rattle.dsr_command_theory.specs.Commands.{asked, script_of}
use Rattle.dsr_script.specs.Outside.{Outside}
use Rattle.dsr_script.specs.Runs.{Runs}
use Rattle.dsr_script.specs.Scripts.{Answer}
use Rattle.dsr_script.specs.declared.status.Status.{Status}
use Rattle.dsr_script.specs.declared.status.Verdict.TheVariants as verdicts
use Rattle.dsr_store.specs.Written.{appended}
use Rattle.dsr_syntax_theory.specs.Canonical.{canonical}
use Rattle.dsr_tree.specs.Trees.{TreeShape}
use Rattle.dsr_command_laws.specs.ImageHeadlines.{PrintsTexts}

-- what `text` tells
abbrev IsPrint : TreeShape → Answer → Type 0
IsPrint tree told = told ≡ record { verdict = verdicts.Ok; text = canonical tree }

module _ (words : List (List ℕ)) (before after : Outside) (status : Status) (runs : Runs (asked words) before after status) where
  pub prints_texts : PrintsTexts words before after status
  prints_texts files spec_name held call said =
      let run = spoken words before after verdicts.Ok (subst (Runs (asked words) before after) said runs) in
      let script = subst (λ o. script_of o run.came run.next) call run.script in
      elim (read_told before after files held verdicts.Ok IsPrint spec_name run.came run.next script run.loaded run.ends) [
        | inl refused_run ↦
            let e : verdicts.Ok ≡ verdicts.SpecRefused = refused_run.speaks.says ∙ refusal_verdict refused_run.text refused_run.answer refused_run.is_refused in
            absurd cc
        | inr told_run ↦ (
          told_run.read.tree,
          record {
            spec_name = spec_name;
            asked = call;
            text = told_run.read.text;
            file = told_run.read.file;
            short_text = told_run.read.short;
            meaning = told_run.read.meaning;
          },
          told_run.speaks.put ∙ ap (λ a. appended before.output.written a.text) told_run.fits,
        )
      ]
