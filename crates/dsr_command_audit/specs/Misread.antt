-- What is answered where a report isn't of the form.
use Rattle.std.specs.Prelude.{◌≡◌}
use Rattle.dsr_command_audit.specs.ReportTexts.{line_answer}
use Rattle.dsr_report_read.specs.declared.faults.ReadFault.{ReadFault}
use Rattle.dsr_report_read.specs.declared.faults.ReadFault.TheVariants as faults
use Rattle.dsr_script.specs.Scripts.{Answer}

-- the line is told that isn't of the form; want of memory tells none
abbrev pub IsMisread : ReadFault → Answer → Type 0
IsMisread (faults.Line number) answer = answer ≡ line_answer number
IsMisread faults.NoMemory answer = ⊥
