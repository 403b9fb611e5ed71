-- What statuses are called in documents.
use Rattle.std.specs.Prelude.{ℕ, List, codes}
use Rattle.dsr_script.specs.declared.status.Status.{Status}
use Rattle.dsr_script.specs.declared.status.Status.TheVariants as statuses
use Rattle.dsr_script.specs.declared.status.Verdict.{Verdict}
use Rattle.dsr_script.specs.declared.status.Verdict.TheVariants as verdicts

-- the name of what a command says itself
abbrev pub said_text : Verdict → List ℕ
said_text verdicts.Ok = codes "ok"
said_text verdicts.Inconsistent = codes "inconsistent"
said_text verdicts.PlanRefused = codes "no plan"
said_text verdicts.Usage = codes "usage"
said_text verdicts.SpecRefused = codes "specification refused"
said_text verdicts.LayoutRefused = codes "no layout"
said_text verdicts.SupplyEmpty = codes "supply empty"
said_text verdicts.CertRefused = codes "certificate refused"
said_text verdicts.ReportRefused = codes "report refused"
said_text verdicts.EditRefused = codes "edit refused"

-- the name of how a run ended
abbrev pub verdict_text : Status → List ℕ
verdict_text (statuses.Said verdict) = said_text verdict
verdict_text statuses.StoreFailed = codes "store failed"
verdict_text statuses.OutputFailed = codes "output failed"
verdict_text statuses.TooLong = codes "too long"
verdict_text statuses.NoMemory = codes "no memory"
