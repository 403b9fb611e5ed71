-- The number of each status, which is the exit status of the program.
use Rattle.std.specs.Prelude.{ℕ}
use Rattle.dsr_script.specs.declared.status.Status.{Status}
use Rattle.dsr_script.specs.declared.status.Status.TheVariants as statuses
use Rattle.dsr_script.specs.declared.status.Verdict.{Verdict}
use Rattle.dsr_script.specs.declared.status.Verdict.TheVariants as verdicts

-- the number of what a command says itself
abbrev pub verdict_number : Verdict → ℕ
verdict_number verdicts.Ok = 0
verdict_number verdicts.Inconsistent = 1
verdict_number verdicts.PlanRefused = 2
verdict_number verdicts.Usage = 3
verdict_number verdicts.SpecRefused = 4
verdict_number verdicts.LayoutRefused = 5
verdict_number verdicts.SupplyEmpty = 6
verdict_number verdicts.CertRefused = 11
verdict_number verdicts.ReportRefused = 12
verdict_number verdicts.EditRefused = 13

-- the number of how a run ended
abbrev pub status_number : Status → ℕ
status_number (statuses.Said verdict) = verdict_number verdict
status_number statuses.StoreFailed = 7
status_number statuses.OutputFailed = 8
status_number statuses.TooLong = 9
status_number statuses.NoMemory = 10
