-- Words that ask for nothing are told so, and no command says that of others.
use Rattle.std.proofs.Common.{◌≡◌, ◌↔◌, ℕ, List, length, [], ◌∷◌, None, Some, Option, refl, sym, ap, subst, ◌∙◌, inl, inr}
use Rattle.dsr_answers.specs.Refused.{IsRefused, no_meaning, no_token, past_limit, unexpected}
use Rattle.dsr_answers.specs.Texts.{layout_answer, verdict_answer}
use Rattle.dsr_command_laws.proofs.Tellings.{Spoken, spoken}
use Rattle.dsr_command_theory.specs.Commands.{asked, audits, certifies, checks, edits, ends, explains, goes_on, lays_out, lists_lost, loads_audited, loads_certificate, loads_damaged, loads_edited, loads_explained, loads_for, loads_image, loads_listed, loads_repaired, loads_script, loads_spec, loads_told, loads_undone, opens, plans_audit, plans_repair, reads, repairs, saves_plan, script_of, tells_plan, tells_text, undoes, usage, verifies}
use Rattle.dsr_command_theory.specs.Usage.{AskForNothing}
use Rattle.dsr_words.specs.Words.{Asked, Audit, Certify, Check, Edit, Lost, Plan, Repair, Text, Trial, Undo, Verify, Why, command_of}
use Rattle.dsr_cert.specs.Certificates.{certificate_text}
use Rattle.dsr_command_image.specs.Checked.{IsCheckAnswer, checked, refused}
use Rattle.dsr_command_certify.specs.Certified.{certified_answer}
use Rattle.dsr_command_certify.specs.Verified.{IsVerifyAnswer, flawed, valid, wrong}
use Rattle.dsr_command_audit.specs.Audited.{IsAuditAnswer}
use Rattle.dsr_command_audit.specs.Audited.IsAuditAnswer.{audited, misread as audit_misread, unlike}
use Rattle.dsr_command_audit.specs.Laid as laid
use Rattle.dsr_command_audit.specs.Laid.IsFound.{lies, refused as unlaid_image}
use Rattle.dsr_command_audit.specs.ReportTexts.{undone_answer}
use Rattle.dsr_command_audit.specs.ReportTexts as reports
use Rattle.dsr_command_audit.specs.Undone.{IsUndoOf}
use Rattle.dsr_command_audit.specs.Undone.IsUndoOf.{back, misread, stopped as undo_stopped}
use Rattle.dsr_command_edit.specs.Edited.{IsEditOf, broken_answer, edited_answer, unread_answer, unwritable_answer}
use Rattle.dsr_command_edit.specs.Edited.IsEditOf.{broken, edited, unread, unwritable}
use Rattle.dsr_command_edit.specs.Opened.{IsOpening, Opening}
use Rattle.dsr_command_edit.specs.Opened.IsOpening.{inconsistent, open_to, unlaid as edit_unlaid}
use Rattle.dsr_command_why.specs.Losts.{IsLostAnswer}
use Rattle.dsr_command_why.specs.Losts.IsLostAnswer.{listed, unlaid as lost_unlaid}
use Rattle.dsr_command_why.specs.Whys.{IsWhyAnswer}
use Rattle.dsr_command_why.specs.Whys.IsWhyAnswer.{chained, no_chain, outside, unlaid as why_unlaid}
use Rattle.dsr_ir.specs.declared.declarations.Spec.{Spec}
use Rattle.dsr_meaning.specs.Consistency.{BoundConstraint}
use Rattle.dsr_command_plan.specs.Planned.{IsPlanAnswer, answer_of}
use Rattle.dsr_command_plan.specs.StuckTexts.{refused_answer}
use Rattle.dsr_command_plan.specs.declared.plans.Found as plans
use Rattle.dsr_command_plan.specs.declared.plans.Found.TheVariants as plan_found
use Rattle.dsr_plan_theory.specs.declared.choices.Choice.{Choice}
use Rattle.dsr_compile.specs.Readings.{Interpretation, IsInterpretation, Means, Refused}
use Rattle.dsr_command_image.specs.Repaired.{Ending, IsRepairOf, empty_answer, mended, repaired_answer, stopped, unlaid}
use Rattle.dsr_script.proofs.Laws.{never_at_load, said_at_save, said_at_tell}
use Rattle.dsr_script.specs.Outside.{Outside}
use Rattle.dsr_script.specs.Runs.{Ends, Halts, Runs}
use Rattle.dsr_script.specs.Scripts.{Answer, Came, Load, Next, Save, Script, Tell, loads, picks, saves, tells}
use Rattle.dsr_script.specs.declared.status.Status.{Status}
use Rattle.dsr_script.specs.declared.status.Status.TheVariants.{Said}
use Rattle.dsr_script.specs.declared.status.Verdict.TheVariants as verdicts
use Rattle.dsr_syntax_theory.specs.Canonical.{canonical}
use Rattle.dsr_tree.specs.Trees.{TreeShape}
use Rattle.dsr_command_trial.specs.Trials as trials
use Rattle.dsr_command_trial.specs.Trials.{IsTrial}
use Rattle.dsr_language_theory.specs.Specifications.{specification}
use Rattle.dsr_command_laws.specs.ImageHeadlines.{TellsUsage}

-- ---- scripts that never say so

abbrev NotUsage : Answer → Type 0
NotUsage answer = answer.verdict ≡ verdicts.Usage → ⊥

abbrev SaysOtherwise : Next → Type 0
SaysOtherwise (Load name limit long) = Unit {0}
SaysOtherwise (Save name bytes answer) = NotUsage answer
SaysOtherwise (Tell answer) = NotUsage answer

-- whatever files came, the script says something else
abbrev Never : Script → Type 0
Never script = (came : List Came) (next : Next) → script came next → SaysOtherwise next

never_loads : (name : List ℕ) (limit : ℕ) (long : List ℕ) (then : List ℕ → Script) → ((bytes : List ℕ) → Never (then bytes))
    → Never (loads name limit long then)
never_loads name limit long then rest [] next is = subst SaysOtherwise (sym is) tt
never_loads name limit long then rest (came ∷ more) next is = rest came.bytes more next is.1

never_tells : (Fits : Answer → Type 0) → ((answer : Answer) → Fits answer → NotUsage answer) → Never (tells Fits)
never_tells Fits others [] next is = subst SaysOtherwise (sym is.2) (others is.0 is.1)
never_tells Fits others (came ∷ more) next is = absurd is

never_saves : (name : List ℕ) (Fits : List ℕ → Answer → Type 0) → ((bytes : List ℕ) (answer : Answer) → Fits bytes answer → NotUsage answer)
    → Never (saves name Fits)
never_saves name Fits others [] next is = subst SaysOtherwise (sym is.3) (others is.0 is.1 is.2)
never_saves name Fits others (came ∷ more) next is = absurd is

never_picks : {A : Type 0} (Fits : A → Type 0) (then : A → Script) → ((x : A) → Fits x → Never (then x)) → Never (picks Fits then)
never_picks Fits then rest came next is = rest is.0 is.1 came next is.2

-- an answer that is another one
same_answer : (answer other : Answer) → answer ≡ other → NotUsage other → NotUsage answer
same_answer answer other same is = subst NotUsage (sym same) is

never_tells_this : (answer : Answer) → NotUsage answer → Never (tells (λ told. told ≡ answer))
never_tells_this answer otherwise = never_tells (λ told. told ≡ answer) (λ told same. same_answer told answer same otherwise)

-- ---- answers

no_ok : verdicts.Ok ≡ verdicts.Usage → ⊥
no_ok is = cc

no_inconsistent : verdicts.Inconsistent ≡ verdicts.Usage → ⊥
no_inconsistent is = cc

no_plan : verdicts.PlanRefused ≡ verdicts.Usage → ⊥
no_plan is = cc

no_spec : verdicts.SpecRefused ≡ verdicts.Usage → ⊥
no_spec is = cc

no_layout : verdicts.LayoutRefused ≡ verdicts.Usage → ⊥
no_layout is = cc

no_supply : verdicts.SupplyEmpty ≡ verdicts.Usage → ⊥
no_supply is = cc

no_certificate : verdicts.CertRefused ≡ verdicts.Usage → ⊥
no_certificate is = cc

no_report : verdicts.ReportRefused ≡ verdicts.Usage → ⊥
no_report is = cc

no_edit : verdicts.EditRefused ≡ verdicts.Usage → ⊥
no_edit is = cc

refused_otherwise : (text : List ℕ) (answer : Answer) → IsRefused text answer → NotUsage answer
refused_otherwise text _ (no_token place is) = no_spec
refused_otherwise text _ (unexpected place is) = no_spec
refused_otherwise text _ (past_limit place is) = no_spec
refused_otherwise text _ (no_meaning tree condition place is told) = no_spec

verdict_otherwise : (spec : Spec) (vs : List BoundConstraint) → NotUsage (verdict_answer spec vs)
verdict_otherwise spec [] = no_ok
verdict_otherwise spec (v ∷ vs) = no_inconsistent

check_otherwise : (spec : Spec) (image : List ℕ) (answer : Answer) → IsCheckAnswer spec image answer → NotUsage answer
check_otherwise spec image _ (refused refusal first) = no_layout
check_otherwise spec image _ (checked layout vs is exactly) = verdict_otherwise spec vs

found_otherwise : (spec : Spec) (found : plans.Found) → NotUsage (answer_of spec found)
found_otherwise spec (plan_found.Plan choice) = no_ok
found_otherwise spec (plan_found.Stuck set) = no_plan

verify_otherwise : (spec : Spec) (text : List ℕ) (answer : Answer) → IsVerifyAnswer spec text answer → NotUsage answer
verify_otherwise spec text _ (valid is) = no_ok
verify_otherwise spec text _ (wrong fault first) = no_certificate
verify_otherwise spec text _ (flawed choice fault read first) = no_certificate

trial_otherwise : (number : ℕ) (answer : Answer) → IsTrial number answer → NotUsage answer
trial_otherwise number _ (trials.done spec choice layout vs entries new means taken laid exactly run) = no_ok
trial_otherwise number _ (trials.refused answer is) = refused_otherwise _ answer is
trial_otherwise number _ (trials.unplanned spec set means stuck none) = no_plan
trial_otherwise number _ (trials.unlaid spec refusal means first) = no_layout
trial_otherwise number _ (trials.stopped spec choice layout entries new need means taken laid run) = no_supply

why_otherwise : (spec : Spec) (image word : List ℕ) (answer : Answer) → IsWhyAnswer spec image word answer → NotUsage answer
why_otherwise spec image word _ (why_unlaid refusal first) = no_layout
why_otherwise spec image word _ (chained layout fact is lines laid_out text_is first are_lines) = no_ok
why_otherwise spec image word _ (outside layout set base elem laid_out text_is base_is member) = no_ok
why_otherwise spec image word _ (no_chain layout laid_out none) = no_ok

lost_otherwise : (spec : Spec) (image : List ℕ) (answer : Answer) → IsLostAnswer spec image answer → NotUsage answer
lost_otherwise spec image _ (lost_unlaid refusal first) = no_layout
lost_otherwise spec image _ (listed layout es laid_out lost) = no_ok

audit_otherwise : (spec : Spec) (choice : Choice) (image report fixed : List ℕ) (answer : Answer) → IsAuditAnswer spec choice image report fixed answer → NotUsage answer
audit_otherwise spec choice image report fixed _ (audited run is) = no_ok
audit_otherwise spec choice image report fixed _ (audit_misread number first) = no_report
audit_otherwise spec choice image report fixed _ (unlike layout log fault image_is is_log known is) = no_report

-- ---- commands

never_reads : (text : List ℕ) (after : TreeShape → Script) → ((tree : TreeShape) → Never (after tree)) → Never (reads text after)
never_reads text after rest = never_picks (IsInterpretation text) (goes_on after) by
  where
    by : (found : Interpretation) → IsInterpretation text found → Never (goes_on after found)
    by (Means tree) is = rest tree
    by (Refused answer) is = never_tells_this answer (refused_otherwise text answer is)

-- the text of a specification is loaded first, and what its tree leads to says otherwise
never_behind : (name : List ℕ) (after : TreeShape → Script) → ((tree : TreeShape) → Never (after tree)) → Never (loads_spec name (λ text. reads text after))
never_behind name after rest = never_loads name _ _ (λ text. reads text after) (λ text. never_reads text after rest)

never_certifies : (name : List ℕ) (spec : Spec) (found : plans.Found) → Never (certifies name spec found)
never_certifies name spec (plan_found.Plan choice) =
    never_saves name (λ bytes told. (bytes ≡ certificate_text spec choice) × (told ≡ certified_answer choice))
    (λ bytes told is. same_answer told (certified_answer choice) is.1 no_ok)
never_certifies name spec (plan_found.Stuck set) = never_tells_this (refused_answer spec set) no_plan

never_ends : (out : List ℕ) (spec : Spec) (choice : Choice) (image : List ℕ) (ending : Ending) → IsRepairOf spec choice image ending → Never (ends out ending)
never_ends out spec choice image _ (unlaid refusal first) = never_tells_this (layout_answer spec refusal) no_layout
never_ends out spec choice image _ (mended layout entries new laid run) =
    never_saves out (λ saved told. (saved ≡ new) × (told ≡ repaired_answer spec entries))
    (λ saved told is. same_answer told (repaired_answer spec entries) is.1 no_ok)
never_ends out spec choice image _ (stopped layout entries new need laid run) =
    never_tells_this (empty_answer spec entries need) no_supply

never_damaged : (image out : List ℕ) (spec : Spec) (found : plans.Found) → Never (loads_damaged image out spec found)
never_damaged image out spec (plan_found.Plan choice) =
    never_loads image _ _ (repairs out spec choice) (λ bytes. never_picks (IsRepairOf spec choice bytes) (ends out) (never_ends out spec choice bytes))
never_damaged image out spec (plan_found.Stuck set) = never_tells_this (refused_answer spec set) no_plan

never_undone : (out : List ℕ) (spec : Spec) (fixed report : List ℕ) (ending : Ending) → IsUndoOf spec fixed report ending → Never (ends out ending)
never_undone out spec fixed report _ (back log new is_log taken) =
    never_saves out (λ saved told. (saved ≡ new) × (told ≡ undone_answer (length log)))
    (λ saved told is. same_answer told (undone_answer (length log)) is.1 no_ok)
never_undone out spec fixed report _ (misread number first) = never_tells_this (reports.line_answer number) no_report
never_undone out spec fixed report _ (undo_stopped log reached fault is_log kept) =
    never_tells_this (reports.refused_answer (reports.undo_words fault)) no_report

never_edited : (out : List ℕ) (spec : Spec) (image script : List ℕ) (ending : Ending) → IsEditOf spec image script ending → Never (ends out ending)
never_edited out spec image script _ (unread line first) = never_tells_this (unread_answer line) no_edit
never_edited out spec image script _ (unwritable layout groups line is_open is_script is) = never_tells_this (unwritable_answer line) no_edit
never_edited out spec image script _ (broken layout groups number v is_open is_script is) = never_tells_this (broken_answer spec number v) no_edit
never_edited out spec image script _ (edited layout groups new is_open is_script accepted) =
    never_saves out (λ saved told. (saved ≡ new) × (told ≡ edited_answer (length groups)))
    (λ saved told is. same_answer told (edited_answer (length groups)) is.1 no_ok)

never_opened : (script out : List ℕ) (spec : Spec) (image : List ℕ) (opening : Opening) → IsOpening spec image opening → Never (loads_script script out spec image opening)
never_opened script out spec image _ (edit_unlaid refusal first) = never_tells_this (layout_answer spec refusal) no_layout
never_opened script out spec image _ (inconsistent layout vs laid_out exactly some) =
    never_tells_this (verdict_answer spec vs) (verdict_otherwise spec vs)
never_opened script out spec image _ (open_to layout is_open) =
    never_loads script _ _ (edits out spec image) (λ bytes. never_picks (IsEditOf spec image bytes) (ends out) (never_edited out spec image bytes))

never_held : (report fixed : List ℕ) (spec : Spec) (choice : Choice) (image : List ℕ) (found : laid.Found) → laid.IsFound spec image found
    → Never (loads_told report fixed spec choice image found)
never_held report fixed spec choice image _ (lies layout is) =
    never_loads report _ _ (λ told. loads_for fixed spec (audits spec choice image told)) (λ told.
    never_loads fixed _ _ (audits spec choice image told) (λ bytes.
    never_tells (IsAuditAnswer spec choice image told bytes) (audit_otherwise spec choice image told bytes)))
never_held report fixed spec choice image _ (unlaid_image refusal first) = never_tells_this (layout_answer spec refusal) no_layout

never_audited : (image report fixed : List ℕ) (spec : Spec) (found : plans.Found) → Never (loads_audited image report fixed spec found)
never_audited image report fixed spec (plan_found.Plan choice) =
    never_loads image _ _ (lays_out report fixed spec choice) (λ bytes.
    never_picks (laid.IsFound spec bytes) (loads_told report fixed spec choice bytes) (never_held report fixed spec choice bytes))
never_audited image report fixed spec (plan_found.Stuck set) = never_tells_this (refused_answer spec set) no_plan

never_asked : (asked : Asked) → Never (script_of (Some asked))
never_asked (Text spec) = never_behind spec tells_text (λ tree. never_tells_this (record { verdict = verdicts.Ok; text = canonical tree }) no_ok)
never_asked (Plan spec) =
    never_behind spec tells_plan (λ tree. never_tells (IsPlanAnswer (specification tree)) (λ told is.
    same_answer told (answer_of (specification tree) is.found) is.told (found_otherwise (specification tree) is.found)))
never_asked (Check spec image) =
    never_behind spec (λ tree. loads_image image (specification tree)) (λ tree.
    never_loads image _ _ (checks (specification tree)) (λ bytes. never_tells (IsCheckAnswer (specification tree) bytes) (check_otherwise (specification tree) bytes)))
never_asked (Certify spec certificate) =
    never_behind spec (λ tree. saves_plan certificate (specification tree)) (λ tree.
    never_picks _ (certifies certificate (specification tree)) (λ found is. never_certifies certificate (specification tree) found))
never_asked (Repair spec image out) =
    never_behind spec (λ tree. plans_repair image out (specification tree)) (λ tree.
    never_picks _ (loads_damaged image out (specification tree)) (λ found is. never_damaged image out (specification tree) found))
never_asked (Trial number) = never_tells (IsTrial number) (trial_otherwise number)
never_asked (Verify spec certificate) =
    never_behind spec (λ tree. loads_certificate certificate (specification tree)) (λ tree.
    never_loads certificate _ _ (verifies (specification tree)) (λ bytes. never_tells (IsVerifyAnswer (specification tree) bytes) (verify_otherwise (specification tree) bytes)))
never_asked (Audit spec image report fixed) =
    never_behind spec (λ tree. plans_audit image report fixed (specification tree)) (λ tree.
    never_picks _ (loads_audited image report fixed (specification tree)) (λ found is. never_audited image report fixed (specification tree) found))
never_asked (Edit spec image script out) =
    never_behind spec (λ tree. loads_edited image script out (specification tree)) (λ tree.
    never_loads image _ _ (opens script out (specification tree)) (λ bytes.
    never_picks (IsOpening (specification tree) bytes) (loads_script script out (specification tree) bytes) (never_opened script out (specification tree) bytes)))
never_asked (Lost spec image) =
    never_behind spec (λ tree. loads_listed image (specification tree)) (λ tree.
    never_loads image _ _ (lists_lost (specification tree)) (λ bytes. never_tells (IsLostAnswer (specification tree) bytes) (lost_otherwise (specification tree) bytes)))
never_asked (Undo spec fixed report out) =
    never_behind spec (λ tree. loads_repaired fixed report out (specification tree)) (λ tree.
    never_loads fixed _ _ (loads_undone report out (specification tree)) (λ bytes.
    never_loads report _ _ (undoes out (specification tree) bytes) (λ told.
    never_picks (IsUndoOf (specification tree) bytes told) (ends out) (never_undone out (specification tree) bytes told))))
never_asked (Why spec image fact) =
    never_behind spec (λ tree. loads_explained image fact (specification tree)) (λ tree.
    never_loads image _ _ (explains fact (specification tree)) (λ bytes. never_tells (IsWhyAnswer (specification tree) bytes fact) (why_otherwise (specification tree) bytes fact)))

-- ---- runs

module _ (before after : Outside) where
  never_said : (next : Next) → SaysOtherwise next → Ends before after (Said verdicts.Usage) next → ⊥
  never_said (Load name limit long) otherwise ends = never_at_load before after verdicts.Usage name limit long ends
  never_said (Save name bytes answer) otherwise ends = otherwise (sym (said_at_save before after verdicts.Usage name bytes answer ends).1.0)
  never_said (Tell answer) otherwise ends = otherwise (sym (said_at_tell before after verdicts.Usage answer ends).1.0)

  -- the script of words that ask for nothing
  tells_so : (status : Status) → Runs (script_of None) before after status → Halts before after status (Tell usage)
  tells_so status (inl stops) = inl stops
  tells_so status (inr run) = inr (by run.0 run.1 run.2 run.4)
    where
      by : (came : List Came) (next : Next) → script_of None came next → Ends before after status next → Ends before after status (Tell usage)
      by [] next script ends = subst (Ends before after status) (script.2 ∙ ap Tell script.1) ends
      by (first ∷ more) next script ends = absurd script

pub tells_usage : ((words : List (List ℕ)) → (command_of words ≡ None) ↔ AskForNothing words)
    → (words : List (List ℕ)) (before after : Outside) (status : Status) → Runs (asked words) before after status → TellsUsage words before after status
tells_usage reasons words before after status runs = record {
  told = λ nothing. tells_so before after status (subst (λ o. Runs (script_of o) before after status) ((reasons words).1 nothing) runs);
  nothing_else = λ says. by (command_of words) refl (spoken words before after verdicts.Usage (subst (Runs (asked words) before after) says runs));
}
  where
    by : (o : Option Asked) → command_of words ≡ o → Spoken words before after verdicts.Usage → AskForNothing words
    by None is run = (reasons words).0 is
    by (Some asked) is run =
        absurd (never_said before after run.next (never_asked asked run.came run.next (subst (λ o. script_of o run.came run.next) is run.script)) run.ends)
