use Rattle.dsr_command_laws.proofs.ReportsAudited.{audits_nothing_else, audits_reports}
use Rattle.dsr_command_laws.proofs.audits.reports_are_audited.Goals as goal

pub returns : goal.returns
returns c = record {
  reports = audits_reports c.reports_of_repairs_are_audited.ensures c.texts_have_one_meaning.ensures;
  nothing_else = audits_nothing_else c.reports_of_repairs_are_audited.ensures c.texts_have_one_meaning.ensures;
}
