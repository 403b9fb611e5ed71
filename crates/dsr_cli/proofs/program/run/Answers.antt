use Rattle.std.proofs.Common.{map, subst}
use Rattle.std.specs.String.{string_bytes}
use Rattle.dsr_command_theory.specs.Commands.{asked}
use Rattle.dsr_script.specs.Causes.{Causes}
use Rattle.dsr_script.specs.Outside.{told_by}
use Rattle.dsr_script.specs.Runs.{Runs}
use Rattle.dsr_cli.proofs.program.run.Goals as goal

pub returns : goal.returns
returns g c =
    let words = map string_bytes c.args.words.now.items in
    let before = told_by g.F.Shelf g.O.Sink c.args.shelf.now c.args.out.now in
    let after = told_by g.F.Shelf g.O.Sink c.run.new.shelf c.run.new.out in
    let status = c.run.result in
    let runs = subst (λ ws. Runs (asked (map string_bytes ws)) before after status) c.deref.ensures.value c.run.ensures.runs in
    record {
      runs = runs;
      causes = subst (λ ws. Causes (asked (map string_bytes ws)) before after status) c.deref.ensures.value c.run.ensures.causes;
      usage = c.usage_is_told.ensures words before after status runs;
      images = c.images_are_checked.ensures.images words before after status runs;
      nothing_else = c.images_are_checked.ensures.nothing_else words before after status runs;
      plans = c.plans_are_found.ensures.plans words before after status runs;
      no_other_plans = c.plans_are_found.ensures.nothing_else words before after status runs;
      certificates = c.plans_are_certified.ensures.certificates words before after status runs;
      no_other_certificates = c.plans_are_certified.ensures.nothing_else words before after status runs;
      verified = c.certificates_are_verified.ensures.verified words before after status runs;
      no_others_verified = c.certificates_are_verified.ensures.nothing_else words before after status runs;
      texts = c.texts_are_printed.ensures words before after status runs;
      repairs = c.images_are_repaired.ensures.repairs words before after status runs;
      no_other_repairs = c.images_are_repaired.ensures.nothing_else words before after status runs;
      lasting = c.images_are_repaired.ensures.last words before after status runs;
      trials = c.trials_are_told.ensures words before after status runs;
      facts = c.facts_are_explained.ensures.facts words before after status runs;
      no_other_facts = c.facts_are_explained.ensures.nothing_else words before after status runs;
      lost = c.lost_records_are_listed.ensures.records words before after status runs;
      no_others_lost = c.lost_records_are_listed.ensures.nothing_else words before after status runs;
      audits = c.reports_are_audited.ensures.reports words before after status runs;
      no_other_audits = c.reports_are_audited.ensures.nothing_else words before after status runs;
      undone = c.repairs_are_undone.ensures.repairs words before after status runs;
      no_others_undone = c.repairs_are_undone.ensures.nothing_else words before after status runs;
      taken_back = c.sound_repairs_are_taken_back.ensures words before after status runs;
      edits = c.images_are_edited.ensures.edits words before after status runs;
      no_other_edits = c.images_are_edited.ensures.nothing_else words before after status runs;
    }
