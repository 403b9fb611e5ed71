-- What the program does: the theorem of the whole.
use Rattle.std.specs.Prelude.{ℕ, List}
use Rattle.dsr_command_theory.specs.Commands.{asked}
use Rattle.dsr_command_laws.specs.AuditHeadlines.{AuditsNothingElse, AuditsReports, UndoesAudited}
use Rattle.dsr_command_laws.specs.EditHeadlines.{EditsImages, EditsNothingElse}
use Rattle.dsr_command_laws.specs.FactHeadlines.{ExplainsFacts, ExplainsNothingElse, ListsNothingElse, ListsRecords}
use Rattle.dsr_command_laws.specs.ImageHeadlines.{ChecksImages, ChecksNothingElse, PrintsTexts, TellsUsage}
use Rattle.dsr_command_laws.specs.PlanHeadlines.{CertifiesNothingElse, CertifiesPlans, FindsNothingElse, FindsPlans, VerifiesCertificates, VerifiesNothingElse}
use Rattle.dsr_command_laws.specs.RepairHeadlines.{RepairsImages, RepairsLast, RepairsNothingElse, TellsTrials}
use Rattle.dsr_command_laws.specs.UndoHeadlines.{UndoesNothingElse, UndoesRepairs}
use Rattle.dsr_script.specs.Causes.{Causes}
use Rattle.dsr_script.specs.Outside.{Outside}
use Rattle.dsr_script.specs.Runs.{Runs}
use Rattle.dsr_script.specs.declared.status.Status.{Status}

-- What is so of the words of the command line, of what stands outside before and after (files,
-- output, and the calls that failed), and of the status with which the program ends.
pub record Headline (words : List (List ℕ)) (before after : Outside) (status : Status) : Type 0 where
  -- files are loaded and saved, and the answer is put, just as the script of the command that the
  -- words ask for says, up to the first call that fails
  pub runs : Runs (asked words) before after status
  -- each way to end tells what it says of the outside: no file is changed but what the script saves
  pub causes : Causes (asked words) before after status
  -- words that ask for nothing, for one of six reasons, are told the usage, and no others are
  pub usage : TellsUsage words before after status
  -- `check` calls an image consistent exactly where it is, and tells exactly its violated bindings
  pub images : ChecksImages words before after status
  pub nothing_else : ChecksNothingElse words before after status
  -- `plan` accepts a specification exactly where it has a plan, and tells the levels of the one
  -- that is taken, or the largest set of constraints that are stuck
  pub plans : FindsPlans words before after status
  pub no_other_plans : FindsNothingElse words before after status
  -- `certify` saves the certificate of that plan, which is valid, or nothing where there is none
  pub certificates : CertifiesPlans words before after status
  pub no_other_certificates : CertifiesNothingElse words before after status
  -- `verify` calls a certificate valid exactly where it is that of a plan, and tells its first
  -- fault otherwise
  pub verified : VerifiesCertificates words before after status
  pub no_others_verified : VerifiesNothingElse words before after status
  -- `text` prints the canonical text of the specification that was asked for
  pub texts : PrintsTexts words before after status
  -- `repair` saves exactly what the due steps by the plan that is taken lead to, within the bound,
  -- which is consistent and has the layout; or tells that there is no plan, no layout, or nothing
  -- in the supply that the next step needs, exactly where that is so
  pub repairs : RepairsImages words before after status
  pub no_other_repairs : RepairsNothingElse words before after status
  -- what it saved is consistent by every `check` under the same specification
  pub lasting : RepairsLast words before after status
  -- `trial` tells the answer of its number, and saves nothing
  pub trials : TellsTrials words before after status
  -- `why` tells the first of the shortest chains of a fact, or outside of which set the record is,
  -- or that no fact has the text, exactly where that is so
  pub facts : ExplainsFacts words before after status
  pub no_other_facts : ExplainsNothingElse words before after status
  -- `lost` tells exactly the records that no set has
  pub lost : ListsRecords words before after status
  pub no_others_lost : ListsNothingElse words before after status
  -- `audit` calls a report sound exactly where it is that of the repair of the image, by the plan
  -- that is taken, which led to the fixed bytes, and tells the first reason otherwise
  pub audits : AuditsReports words before after status
  pub no_other_audits : AuditsNothingElse words before after status
  -- `undo` saves what the entries of a report lead back to, or tells the first line that it can't
  -- take back; of a sound report that is the image from which the repair began
  pub undone : UndoesRepairs words before after status
  pub no_others_undone : UndoesNothingElse words before after status
  pub taken_back : UndoesAudited words before after status
  -- `edit` saves what all groups of a script leave, each of which leaves the image consistent, or
  -- tells the first reason why not all can be made
  pub edits : EditsImages words before after status
  pub no_other_edits : EditsNothingElse words before after status
