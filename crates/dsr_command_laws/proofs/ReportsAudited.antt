-- A run that speaks has audited the report that it was asked to audit, or tells why not.
use Rattle.std.proofs.Common.{◌≡◌, ◌≢◌, ◌≤◌, ◌<◌, ◌^◌, ◌+◌, ◌++◌, ◌⊎◌, ◌∙◌, ℕ, suc, Bool, true, false, List, [], ◌∷◌, length, codes, None, Some, refl, sym, ap, subst, inl, inr, arith, length-append}
use Rattle.std.proofs.lemmas.Option.{same_Some}
use Rattle.std.specs.FinMap.{get}
use Rattle.dsr_command_audit.specs.Audited.{IsAuditAnswer, IsReportOfRepair}
use Rattle.dsr_command_audit.specs.Audited.IsAuditAnswer.{audited, misread as audit_misread, unlike as audit_unlike}
use Rattle.dsr_command_audit.specs.Laid as laid
use Rattle.dsr_command_audit.specs.Laid.IsFound.{lies, refused as unlaid_image}
use Rattle.dsr_command_audit.specs.ReportTexts.{audited_answer}
use Rattle.dsr_command_laws.proofs.ImagesRepaired.{Unplanned}
use Rattle.dsr_command_laws.proofs.Tellings.{ReadText, RefusedRun, Speaks, load_told, means_same, meant, never_refused, refused_verdict, spoken, tells_one, text_loaded}
use Rattle.dsr_command_laws.specs.AuditHeadlines.{AuditsNothingElse, AuditsReports, IsAuditVerdict, IsSound, WasDenied, WereAudited}
use Rattle.dsr_command_laws.specs.AuditHeadlines.WasDenied.{misread, unlike}
use Rattle.dsr_command_laws.specs.Repairs.{HasLayout, WasUnlaid}
use Rattle.dsr_command_plan.specs.Planned as planned
use Rattle.dsr_command_plan.specs.declared.plans.Found as plans
use Rattle.dsr_command_plan.specs.declared.plans.Found.TheVariants as plan_found
use Rattle.dsr_command_theory.specs.Commands.{asked, audits as audits_script, image_limit, lays_out, loads_audited, loads_for, loads_spec, loads_told, plans_audit, reads, report_limit, script_of}
use Rattle.dsr_words.specs.Words.{Audit, command_of}
use Rattle.dsr_compile_laws.specs.Meanings.{HaveOneMeaning}
use Rattle.dsr_ir.specs.declared.declarations.Spec.{Spec}
use Rattle.dsr_language_laws.proofs.SpelledTrees.{names_spelled}
use Rattle.dsr_language_laws.specs.Spellings.{HasSpelledNames}
use Rattle.dsr_language_theory.specs.Specifications.{specification}
use Rattle.dsr_meaning.specs.Lists.{each_at}
use Rattle.dsr_meaning.specs.Refusals.{Refusal, first_of, refusals}
use Rattle.dsr_plan_laws.proofs.OnePlan.{one_plan}
use Rattle.dsr_plan_theory.specs.Plans.{IsPlan}
use Rattle.dsr_plan_theory.specs.Taken.{IsTaken}
use Rattle.dsr_plan_theory.specs.declared.choices.Choice.{Choice}
use Rattle.dsr_repair_theory.specs.declared.entries.Entry.{Entry}
use Rattle.dsr_report.specs.Reports.{end_line, entries_text, entry_text}
use Rattle.dsr_script.proofs.Laws.{said_at_tell}
use Rattle.dsr_script.specs.Outside.{Outside}
use Rattle.dsr_script.specs.Runs.{AllLoaded, Ends, Runs}
use Rattle.dsr_script.specs.Scripts.{Answer, Came, Next}
use Rattle.dsr_script.specs.declared.status.Status.{Status}
use Rattle.dsr_script.specs.declared.status.Status.TheVariants.{Said}
use Rattle.dsr_script.specs.declared.status.Verdict.{Verdict}
use Rattle.dsr_script.specs.declared.status.Verdict.TheVariants as verdicts
use Rattle.dsr_store.specs.Files.{Files}

abbrev too_long_image : List ℕ
too_long_image = codes "too long image\n"

abbrev too_long_report : List ℕ
too_long_report = codes "too long report\n"

-- ---- the law on answers that is asked for

-- what is answered of a sound report
abbrev pub AcceptsSound : Type 0
AcceptsSound =
    (spec : Spec) (choice : Choice) (image report fixed : List ℕ) (run : List Entry) (answer : Answer)
    → HasSpelledNames spec → IsPlan spec choice → length run < 2 ^ 64 → IsReportOfRepair spec choice image report fixed run
    → IsAuditAnswer spec choice image report fixed answer → answer ≡ audited_answer (length run)

-- ---- how many entries a report tells

abbrev has_some : List ℕ → Bool
has_some [] = false
has_some (x ∷ xs) = true

not_empty : (xs : List ℕ) → has_some xs ≡ true → 1 ≤ length xs
not_empty [] some = absurd cc
not_empty (x ∷ xs) some = omega arith

-- each entry has a byte of the text
entry_has_some : (spec : Spec) (n : ℕ) (entry : Entry) → 1 ≤ length (entry_text spec n entry)
entry_has_some spec n entry = not_empty (entry_text spec n entry) refl

one_more : (few some rest all : ℕ) → few ≤ rest → 1 ≤ some → all ≡ some + rest → suc few ≤ all
one_more few some rest all counted is_some is = omega arith

entries_counted : (spec : Spec) (n : ℕ) (entries : List Entry) → length entries ≤ length (each_at (entry_text spec) n entries)
entries_counted spec n [] = omega arith
entries_counted spec n (entry ∷ entries) =
    let text = entry_text spec n entry in
    let rest = each_at (entry_text spec) (suc n) entries in
    one_more (length entries) (length text) (length rest) (length (text ++ rest))
    (entries_counted spec (suc n) entries) (entry_has_some spec n entry) (length-append text rest)

within : (few entries rest all : ℕ) → few ≤ entries → all ≡ entries + rest → all ≤ 67108864 → few < 2 ^ 64
within few entries rest all counted is short = omega arith

pub few_entries : (spec : Spec) (choice : Choice) (image report fixed : List ℕ) (run : List Entry) → IsReportOfRepair spec choice image report fixed run
    → length report ≤ 67108864 → length run < 2 ^ 64
few_entries spec choice image report fixed run is short =
    within (length run) (length (entries_text spec run)) (length (end_line (length run))) (length report) (entries_counted spec 1 run)
    (ap length is.text ∙ length-append (entries_text spec run) (end_line (length run))) short

none_first : (rs : List Refusal) (refusal : Refusal) → rs ≡ [] → first_of rs ≡ Some refusal → ⊥
none_first rs refusal none first = let e : None ≡ Some refusal = sym (ap first_of none) ∙ first in cc

differs : {X : Type 0} (verdict : Verdict) {a b : Verdict} → verdict ≡ a → a ≢ b → verdict ≡ b → X
differs verdict says apart other = absurd (apart (sym says ∙ other))

-- what came of an audit whose image has a layout
record Held (files : Files) (spec : Spec) (choice : Choice) (image report_name fixed_name : List ℕ) (before after : Outside) (verdict : Verdict) : Type 0 where
  laid_out : HasLayout spec image
  report : List ℕ
  report_file : get files report_name ≡ Some report
  short_report : length report ≤ report_limit
  fixed : List ℕ
  fixed_file : get files fixed_name ≡ Some fixed
  short_fixed : length fixed ≤ image_limit spec
  answer : Answer
  is : IsAuditAnswer spec choice image report fixed answer
  speaks : Speaks before after verdict answer

-- of one whose specification has a plan
record Looked (files : Files) (spec : Spec) (image_name report_name fixed_name : List ℕ) (before after : Outside) (verdict : Verdict) : Type 0 where
  choice : Choice
  taken : IsTaken spec choice
  image : List ℕ
  image_file : get files image_name ≡ Some image
  short_image : length image ≤ image_limit spec
  done :
      ((verdict ≡ verdicts.LayoutRefused) × (HasLayout spec image → ⊥) × WasUnlaid spec image before after)
      ⊎ Held files spec choice image report_name fixed_name before after verdict

record AuditRun (files : Files) (spec_name image_name report_name fixed_name : List ℕ) (before after : Outside) (verdict : Verdict) : Type 0 where
  read : ReadText files spec_name
  done :
      Unplanned (specification read.tree) before after verdict
      ⊎ Looked files (specification read.tree) image_name report_name fixed_name before after verdict

module _ (before after : Outside) (files : Files) (held : before.held ≡ Some files) (verdict : Verdict) (image_name report_name fixed_name : List ℕ) where
  looked_at : (spec : Spec) (choice : Choice) (image : List ℕ) (found : laid.Found) → laid.IsFound spec image found → (came : List Came) (next : Next)
      → loads_told report_name fixed_name spec choice image found came next → AllLoaded before came → Ends before after (Said verdict) next
      → ((verdict ≡ verdicts.LayoutRefused) × (HasLayout spec image → ⊥) × WasUnlaid spec image before after)
      ⊎ Held files spec choice image report_name fixed_name before after verdict
  looked_at spec choice image _ (lies layout is) came next script loaded at =
      let one = load_told before after files held verdict (λ told. loads_for fixed_name spec (audits_script spec choice image told)) report_name report_limit too_long_report came next script loaded at in
      let two = load_told before after files held verdict (audits_script spec choice image one.bytes) fixed_name (image_limit spec) too_long_image one.more next one.script one.loaded at in
      let told = tells_one before after files held verdict (IsAuditAnswer spec choice image one.bytes two.bytes) two.more next two.script at in
      inr (record {
        laid_out = (layout, is.layout_is);
        report = one.bytes;
        report_file = one.file;
        short_report = one.short;
        fixed = two.bytes;
        fixed_file = two.file;
        short_fixed = two.short;
        answer = told.0;
        is = told.1;
        speaks = told.2;
      })
  looked_at spec choice image _ (unlaid_image refusal first) [] next told loaded at =
      let said = said_at_tell before after verdict told.0 (subst (Ends before after (Said verdict)) told.2 at) in
      let speaks = subst (Speaks before after verdict) told.1 (record { says = said.1.0; put = said.1.1.1 }) in
      inl (
        speaks.says,
        λ laid_out. none_first (refusals spec image) refusal laid_out.1.accepted first,
        record { refusal = refusal; first = first; stands = said.0; told = speaks.put },
      )
  looked_at spec choice image _ (unlaid_image refusal first) (c ∷ more) next told loaded at = absurd told

  planned_at : (spec : Spec) (found : plans.Found) → planned.IsFound spec found → (came : List Came) (next : Next)
      → loads_audited image_name report_name fixed_name spec found came next → AllLoaded before came → Ends before after (Said verdict) next
      → Unplanned spec before after verdict ⊎ Looked files spec image_name report_name fixed_name before after verdict
  planned_at spec (plan_found.Stuck set) is [] next told loaded at =
      let said = said_at_tell before after verdict told.0 (subst (Ends before after (Said verdict)) told.2 at) in
      inl (record {
        set = set;
        stuck = is.0;
        none = is.1;
        stands = said.0;
        speaks = subst (Speaks before after verdict) told.1 (record { says = said.1.0; put = said.1.1.1 });
      })
  planned_at spec (plan_found.Stuck set) is (c ∷ more) next told loaded at = absurd told
  planned_at spec (plan_found.Plan choice) is came next script loaded at =
      let one = load_told before after files held verdict (lays_out report_name fixed_name spec choice) image_name (image_limit spec) too_long_image came next script loaded at in
      inr (record {
        choice = choice;
        taken = is;
        image = one.bytes;
        image_file = one.file;
        short_image = one.short;
        done = looked_at spec choice one.bytes one.script.0 one.script.1 one.more next one.script.2 one.loaded at;
      })

  audit_told : (spec_name : List ℕ) (came : List Came) (next : Next)
      → loads_spec spec_name (λ text. reads text (λ tree. plans_audit image_name report_name fixed_name (specification tree))) came next
      → AllLoaded before came → Ends before after (Said verdict) next
      → RefusedRun before after files spec_name verdict ⊎ AuditRun files spec_name image_name report_name fixed_name before after verdict
  audit_told spec_name came next script loaded at =
      elim (text_loaded before after files held verdict (λ tree. plans_audit image_name report_name fixed_name (specification tree)) spec_name came next script loaded at) [
        | inl refused_run ↦ inl refused_run
        | inr behind ↦
            let script = behind.script in
            inr (record {
              read = behind.read;
              done = planned_at (specification behind.read.tree) script.0 script.1 behind.more next script.2 behind.loaded at;
            })
      ]

module _ (accepts : AcceptsSound) (spec : Spec) (spelled : HasSpelledNames spec) (image report fixed : List ℕ) (short : length report ≤ 67108864)
    (before after : Outside) (verdict : Verdict) where
  unplanned_verdict : Unplanned spec before after verdict → IsAuditVerdict spec image report fixed before after verdict
  unplanned_verdict its =
      let says : verdict ≡ verdicts.PlanRefused = its.speaks.says in
      record {
        no_plan = (λ _. its.none, λ _. says);
        no_layout = (differs verdict says (λ e. cc), λ both. absurd (its.none both.0.0 both.0.1));
        sound = (differs verdict says (λ e. cc), λ sound. absurd (its.none sound.choice sound.taken.plan));
        otherwise = λ plan laid_out. absurd (its.none plan.0 plan.1);
        unplanned = λ _. record { set = its.set; stuck = its.stuck; stands = its.stands; told = its.speaks.put };
        unlaid = differs verdict says (λ e. cc);
        audited = differs verdict says (λ e. cc);
        denied = differs verdict says (λ e. cc);
      }

  module _ (choice : Choice) (taken : IsTaken spec choice) where
    unlaid_verdict : verdict ≡ verdicts.LayoutRefused → (HasLayout spec image → ⊥) → WasUnlaid spec image before after
        → IsAuditVerdict spec image report fixed before after verdict
    unlaid_verdict says none was = record {
      no_plan = (differs verdict says (λ e. cc), λ without. absurd (without choice taken.plan));
      no_layout = (λ _. ((choice, taken.plan), none), λ _. says);
      sound = (differs verdict says (λ e. cc), λ sound. absurd (none (sound.is.layout, sound.is.image_is.layout_is)));
      otherwise = λ plan laid_out. absurd (none laid_out);
      unplanned = differs verdict says (λ e. cc);
      unlaid = λ _. was;
      audited = differs verdict says (λ e. cc);
      denied = differs verdict says (λ e. cc);
    }

    -- a sound report is told to be so, whatever else was answered
    sound_says : IsSound spec image report fixed → (answer : Answer) → IsAuditAnswer spec choice image report fixed answer
        → Speaks before after verdict answer → verdict ≡ verdicts.Ok
    sound_says sound answer is speaks =
        let same : sound.choice ≡ choice = one_plan spec sound.choice choice sound.taken taken in
        let report_is = subst (λ c. IsReportOfRepair spec c image report fixed sound.run) same sound.is in
        let accepted = accepts spec choice image report fixed sound.run answer spelled taken.plan
        (few_entries spec choice image report fixed sound.run report_is short) report_is is in
        speaks.says ∙ ap (λ (a : Answer). a.verdict) accepted

    denied_verdict : HasLayout spec image → (answer : Answer) → IsAuditAnswer spec choice image report fixed answer
        → Speaks before after verdict answer → verdict ≡ verdicts.ReportRefused → WasDenied spec image report fixed before after
        → IsAuditVerdict spec image report fixed before after verdict
    denied_verdict laid_out answer is speaks says was = record {
      no_plan = (differs verdict says (λ e. cc), λ without. absurd (without choice taken.plan));
      no_layout = (differs verdict says (λ e. cc), λ both. absurd (both.1 laid_out));
      sound = (differs verdict says (λ e. cc), λ sound. sound_says sound answer is speaks);
      otherwise = λ plan laid. inr says;
      unplanned = differs verdict says (λ e. cc);
      unlaid = differs verdict says (λ e. cc);
      audited = differs verdict says (λ e. cc);
      denied = λ _. was;
    }

    held_verdict : HasLayout spec image → (answer : Answer) → IsAuditAnswer spec choice image report fixed answer
        → Speaks before after verdict answer → IsAuditVerdict spec image report fixed before after verdict
    held_verdict laid_out _ (audited run is) speaks =
        let says : verdict ≡ verdicts.Ok = speaks.says in
        let sound : IsSound spec image report fixed = record { choice = choice; taken = taken; run = run; is = is } in
        record {
          no_plan = (differs verdict says (λ e. cc), λ without. absurd (without choice taken.plan));
          no_layout = (differs verdict says (λ e. cc), λ both. absurd (both.1 laid_out));
          sound = (λ _. sound, λ _. says);
          otherwise = λ plan laid. inl says;
          unplanned = differs verdict says (λ e. cc);
          unlaid = differs verdict says (λ e. cc);
          audited = λ _. record { sound = sound; told = speaks.put };
          denied = differs verdict says (λ e. cc);
        }
    held_verdict laid_out _ (audit_misread number first) speaks =
        denied_verdict laid_out _ (audit_misread number first) speaks speaks.says (misread number first speaks.put)
    held_verdict laid_out _ (audit_unlike layout log fault image_is is_log known its) speaks =
        denied_verdict laid_out _ (audit_unlike layout log fault image_is is_log known its) speaks speaks.says
        (unlike choice layout log fault taken image_is is_log its speaks.put)

module _ (accepts : AcceptsSound) (once : HaveOneMeaning) (words : List (List ℕ)) (before after : Outside) (status : Status)
    (runs : Runs (asked words) before after status) where
  pub audits_reports : AuditsReports words before after status
  audits_reports files spec image report fixed verdict held said is =
      let run = spoken words before after verdict (subst (Runs (asked words) before after) said runs) in
      let script = subst (λ o. script_of o run.came run.next) is.asked run.script in
      elim (audit_told before after files held verdict is.image_name is.report_name is.fixed_name is.spec_name run.came run.next script run.loaded run.ends) [
        | inl refused_run ↦ absurd (never_refused once files is.spec_name is.text spec is.spec_file is.means before after verdict refused_run)
        | inr its ↦
            let meaning : specification its.read.tree ≡ spec = means_same once files is.spec_name is.text spec is.spec_file is.means its.read in
            subst (λ s. IsAuditVerdict s image report fixed before after verdict) meaning
            (by_done (specification its.read.tree) (subst HasSpelledNames (sym meaning) (names_spelled is.text spec is.means)) files
            is.image_name is.report_name is.fixed_name image report fixed is.image_file is.report_file is.fixed_file is.short_report verdict its.done)
      ]
    where
      by_done : (spec : Spec) → HasSpelledNames spec → (files : Files) (image_name report_name fixed_name image report fixed : List ℕ)
          → get files image_name ≡ Some image → get files report_name ≡ Some report → get files fixed_name ≡ Some fixed
          → length report ≤ 67108864 → (verdict : Verdict)
          → Unplanned spec before after verdict ⊎ Looked files spec image_name report_name fixed_name before after verdict
          → IsAuditVerdict spec image report fixed before after verdict
      by_done spec spelled files image_name report_name fixed_name image report fixed image_file report_file fixed_file short verdict (inl unplanned) =
          unplanned_verdict accepts spec spelled image report fixed short before after verdict unplanned
      by_done spec spelled files image_name report_name fixed_name image report fixed image_file report_file fixed_file short verdict (inr its) =
          let same : its.image ≡ image = same_Some its.image image (sym its.image_file ∙ image_file) in
          subst (λ i. IsAuditVerdict spec i report fixed before after verdict) same
          (by_layout spec spelled files report_name fixed_name its.image report fixed report_file fixed_file short verdict its.choice its.taken its.done)
        where
          by_layout : (spec : Spec) → HasSpelledNames spec → (files : Files) (report_name fixed_name image report fixed : List ℕ)
              → get files report_name ≡ Some report → get files fixed_name ≡ Some fixed
              → length report ≤ 67108864 → (verdict : Verdict) (choice : Choice) → IsTaken spec choice
              → ((verdict ≡ verdicts.LayoutRefused) × (HasLayout spec image → ⊥) × WasUnlaid spec image before after)
              ⊎ Held files spec choice image report_name fixed_name before after verdict
              → IsAuditVerdict spec image report fixed before after verdict
          by_layout spec spelled files report_name fixed_name image report fixed report_file fixed_file short verdict choice taken (inl (says, none, was)) =
              unlaid_verdict accepts spec spelled image report fixed short before after verdict choice taken says none was
          by_layout spec spelled files report_name fixed_name image report fixed report_file fixed_file short verdict choice taken (inr its) =
              let one : its.report ≡ report = same_Some its.report report (sym its.report_file ∙ report_file) in
              let two : its.fixed ≡ fixed = same_Some its.fixed fixed (sym its.fixed_file ∙ fixed_file) in
              subst (λ r. IsAuditVerdict spec image r fixed before after verdict) one
              (subst (λ f. IsAuditVerdict spec image its.report f before after verdict) two
              (held_verdict accepts spec spelled image its.report its.fixed its.short_report before after verdict choice taken its.laid_out its.answer its.is its.speaks))

  were_audited : (files : Files) (spec_name image_name report_name fixed_name : List ℕ) (verdict : Verdict) → before.held ≡ Some files
      → command_of words ≡ Some (Audit spec_name image_name report_name fixed_name) → status ≡ Said verdict
      → verdict ≢ verdicts.SpecRefused → verdict ≢ verdicts.PlanRefused → verdict ≢ verdicts.LayoutRefused
      → WereAudited files words before after verdict
  were_audited files spec_name image_name report_name fixed_name verdict held call said accepted has_plan laid_out =
      let run = spoken words before after verdict (subst (Runs (asked words) before after) said runs) in
      let script = subst (λ o. script_of o run.came run.next) call run.script in
      elim (audit_told before after files held verdict image_name report_name fixed_name spec_name run.came run.next script run.loaded run.ends) [
        | inl refused_run ↦ absurd (accepted (refused_verdict before after files spec_name verdict refused_run))
        | inr its ↦ by_done its.read its.done
      ]
    where
      by_layout : (read : ReadText files spec_name) (choice : Choice) → IsTaken (specification read.tree) choice → (image : List ℕ)
          → get files image_name ≡ Some image → length image ≤ image_limit (specification read.tree)
          → ((verdict ≡ verdicts.LayoutRefused) × (HasLayout (specification read.tree) image → ⊥) × WasUnlaid (specification read.tree) image before after)
          ⊎ Held files (specification read.tree) choice image report_name fixed_name before after verdict
          → WereAudited files words before after verdict
      by_layout read choice taken image file short (inl (says, none, was)) = absurd (laid_out says)
      by_layout read choice taken image file short (inr its) = (
        specification read.tree,
        image,
        its.report,
        its.fixed,
        record {
          spec_name = spec_name;
          image_name = image_name;
          report_name = report_name;
          fixed_name = fixed_name;
          asked = call;
          text = read.text;
          spec_file = read.file;
          image_file = file;
          report_file = its.report_file;
          fixed_file = its.fixed_file;
          short_text = read.short;
          short_image = short;
          short_report = its.short_report;
          short_fixed = its.short_fixed;
          means = meant files spec_name read;
        },
        held_verdict accepts (specification read.tree) (names_spelled read.text (specification read.tree) (meant files spec_name read)) image its.report its.fixed
            its.short_report before after verdict choice taken its.laid_out its.answer its.is its.speaks,
      )

      by_done : (read : ReadText files spec_name)
          → Unplanned (specification read.tree) before after verdict
          ⊎ Looked files (specification read.tree) image_name report_name fixed_name before after verdict
          → WereAudited files words before after verdict
      by_done read (inl unplanned) = absurd (has_plan unplanned.speaks.says)
      by_done read (inr its) = by_layout read its.choice its.taken its.image its.image_file its.short_image its.done

  pub audits_nothing_else : AuditsNothingElse words before after status
  audits_nothing_else files spec_name image_name report_name fixed_name held call = (
    λ said. were_audited files spec_name image_name report_name fixed_name verdicts.Ok held call said (λ e. cc) (λ e. cc) (λ e. cc),
    λ said. were_audited files spec_name image_name report_name fixed_name verdicts.ReportRefused held call said (λ e. cc) (λ e. cc) (λ e. cc),
  )
