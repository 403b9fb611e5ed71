-- A trial that speaks has told its answer.
use Rattle.std.proofs.Common.{ℕ, List, [], ◌∷◌, subst}
use Rattle.dsr_command_laws.proofs.Tellings.{spoken}
use Rattle.dsr_command_theory.specs.Commands.{asked, script_of}
use Rattle.dsr_command_laws.specs.RepairHeadlines.{TellsTrials, WasTried}
use Rattle.dsr_script.proofs.Laws.{said_at_tell}
use Rattle.dsr_script.specs.Outside.{Outside}
use Rattle.dsr_script.specs.Runs.{Ends, Runs}
use Rattle.dsr_script.specs.Scripts.{Came, Next, tells}
use Rattle.dsr_script.specs.declared.status.Status.{Status}
use Rattle.dsr_script.specs.declared.status.Status.TheVariants.{Said}
use Rattle.dsr_script.specs.declared.status.Verdict.{Verdict}
use Rattle.dsr_command_trial.specs.Trials.{IsTrial}

tried : (number : ℕ) (before after : Outside) (verdict : Verdict) (came : List Came) (next : Next)
    → tells (IsTrial number) came next → Ends before after (Said verdict) next → WasTried number before after verdict
tried number before after verdict [] next told ends =
    let said = said_at_tell before after verdict told.0 (subst (Ends before after (Said verdict)) told.2 ends) in
    record { answer = told.0; is = told.1; says = said.1.0; told = said.1.1.1; stands = said.0 }
tried number before after verdict (c ∷ more) next told ends = absurd told

module _ (words : List (List ℕ)) (before after : Outside) (status : Status) (runs : Runs (asked words) before after status) where
  pub tells_trials : TellsTrials words before after status
  tells_trials number verdict call said =
      let run = spoken words before after verdict (subst (Runs (asked words) before after) said runs) in
      let script = subst (λ o. script_of o run.came run.next) call run.script in
      tried number before after verdict run.came run.next script run.ends
