-- What each command does, as a script: which files it loads, and what it tells.
use Rattle.std.specs.Prelude.{◌≡◌, ℕ, List, codes, Option, None, Some, nat_eq, if◌then◌else◌}
use Rattle.dsr_cert.specs.Certificates.{certificate_text}
use Rattle.dsr_command_audit.specs.Audited.{IsAuditAnswer}
use Rattle.dsr_command_audit.specs.Laid as laid
use Rattle.dsr_command_audit.specs.Laid.{Lies, Refused as Unlaid}
use Rattle.dsr_command_audit.specs.Undone.{IsUndoOf}
use Rattle.dsr_command_certify.specs.Certified.{certified_answer}
use Rattle.dsr_command_certify.specs.Verified.{IsVerifyAnswer}
use Rattle.dsr_command_edit.specs.Edited.{IsEditOf}
use Rattle.dsr_command_edit.specs.Opened.{IsOpening, Opening, Opens, Refuses}
use Rattle.dsr_command_image.specs.Checked.{IsCheckAnswer}
use Rattle.dsr_ir.specs.declared.declarations.Spec.{Spec}
use Rattle.dsr_command_plan.specs.Planned as planned
use Rattle.dsr_command_plan.specs.Planned.{IsPlanAnswer}
use Rattle.dsr_command_plan.specs.StuckTexts.{refused_answer}
use Rattle.dsr_command_plan.specs.declared.plans.Found as plans
use Rattle.dsr_command_plan.specs.declared.plans.Found.TheVariants as plan_found
use Rattle.dsr_plan_theory.specs.declared.choices.Choice.{Choice}
use Rattle.dsr_command_image.specs.Repaired.{Ending, IsRepairOf, Saves, Tells}
use Rattle.dsr_script.specs.Scripts.{Answer, Script, loads, picks, saves, tells}
use Rattle.dsr_script.specs.declared.status.Verdict.TheVariants as verdicts
use Rattle.dsr_command_trial.specs.Trials.{IsTrial}
use Rattle.dsr_command_why.specs.Losts.{IsLostAnswer}
use Rattle.dsr_command_why.specs.Whys.{IsWhyAnswer}
use Rattle.dsr_syntax_theory.specs.Canonical.{canonical}
use Rattle.dsr_tree.specs.Trees.{TreeShape}
use Rattle.dsr_language_theory.specs.Specifications.{specification}
use Rattle.dsr_compile.specs.Readings.{Interpretation, IsInterpretation, Means, Refused}
use Rattle.dsr_words.specs.Words.{Asked, Audit, Certify, Check, Edit, Lost, Plan, Repair, Text, Trial, Undo, Verify, Why, command_of}
use Rattle.dsr_meaning.specs.Limits.{most_bytes}

-- the most bytes of a specification's text
abbrev pub spec_limit : ℕ
spec_limit = 65536

-- the most bytes of an image, by the version of its specification
abbrev pub image_limit : Spec → ℕ
image_limit spec = if nat_eq spec.base.version 2 then most_bytes else 4194304

-- the most bytes of a certificate
abbrev pub certificate_limit : ℕ
certificate_limit = 1048576

-- the most bytes of a report
abbrev pub report_limit : ℕ
report_limit = 67108864

-- the most bytes of a script of edits
abbrev pub script_limit : ℕ
script_limit = 1048576

abbrev pub usage : Answer
usage = record { verdict = verdicts.Usage; text = codes "usage\n" }

-- what a text means goes on; a refusal is told
abbrev pub goes_on : (TreeShape → Script) → Interpretation → Script
goes_on after (Means tree) = after tree
goes_on after (Refused answer) = tells (λ told. told ≡ answer)

abbrev pub reads : List ℕ → (TreeShape → Script) → Script
reads text after = picks (IsInterpretation text) (goes_on after)

-- the text of a specification is loaded
abbrev pub loads_spec : List ℕ → (List ℕ → Script) → Script
loads_spec name after = loads name spec_limit (codes "too long spec\n") after

-- an image is loaded, and checked under a specification
abbrev pub checks : Spec → List ℕ → Script
checks spec image = tells (IsCheckAnswer spec image)

-- an image of the specification
abbrev pub loads_for : List ℕ → Spec → (List ℕ → Script) → Script
loads_for name spec after = loads name (image_limit spec) (codes "too long image\n") after

abbrev pub loads_image : List ℕ → Spec → Script
loads_image name spec = loads_for name spec (checks spec)

-- ---- the commands

-- the canonical text is told
abbrev pub tells_text : TreeShape → Script
tells_text tree = tells (λ told. told ≡ record { verdict = verdicts.Ok; text = canonical tree })

abbrev pub text_after : List ℕ → Script
text_after text = reads text tells_text

abbrev pub check_after : List ℕ → List ℕ → Script
check_after image text = reads text (λ tree. loads_image image (specification tree))

-- whether the specification has a plan is told
abbrev pub tells_plan : TreeShape → Script
tells_plan tree = tells (IsPlanAnswer (specification tree))

abbrev pub plan_after : List ℕ → Script
plan_after text = reads text tells_plan

-- the certificate of the plan that is taken is saved; where there is no plan, that is told
abbrev pub certifies : List ℕ → Spec → plans.Found → Script
certifies name spec (plan_found.Plan choice) =
    saves name
    (λ bytes told. (bytes ≡ certificate_text spec choice) × (told ≡ certified_answer choice))
certifies name spec (plan_found.Stuck set) = tells (λ told. told ≡ refused_answer spec set)

abbrev pub saves_plan : List ℕ → Spec → Script
saves_plan name spec = picks (planned.IsFound spec) (certifies name spec)

abbrev pub certify_after : List ℕ → List ℕ → Script
certify_after certificate text = reads text (λ tree. saves_plan certificate (specification tree))

-- a certificate is loaded, and verified under a specification
abbrev pub verifies : Spec → List ℕ → Script
verifies spec certificate = tells (IsVerifyAnswer spec certificate)

abbrev pub loads_certificate : List ℕ → Spec → Script
loads_certificate name spec =
    loads name certificate_limit (codes "too long certificate\n") (verifies spec)

abbrev pub verify_after : List ℕ → List ℕ → Script
verify_after certificate text =
    reads text (λ tree. loads_certificate certificate (specification tree))

-- what comes of a repair is saved under the name, or told
abbrev pub ends : List ℕ → Ending → Script
ends out (Saves bytes answer) = saves out (λ saved told. (saved ≡ bytes) × (told ≡ answer))
ends out (Tells answer) = tells (λ told. told ≡ answer)

-- an image is repaired as was chosen
abbrev pub repairs : List ℕ → Spec → Choice → List ℕ → Script
repairs out spec choice image = picks (IsRepairOf spec choice image) (ends out)

-- the image is loaded where there is a plan; where there is none, that is told
abbrev pub loads_damaged : (image out : List ℕ) → Spec → plans.Found → Script
loads_damaged image out spec (plan_found.Plan choice) =
    loads_for image spec (repairs out spec choice)
loads_damaged image out spec (plan_found.Stuck set) = tells (λ told. told ≡ refused_answer spec set)

abbrev pub plans_repair : (image out : List ℕ) → Spec → Script
plans_repair image out spec = picks (planned.IsFound spec) (loads_damaged image out spec)

abbrev pub repair_after : (image out : List ℕ) → List ℕ → Script
repair_after image out text = reads text (λ tree. plans_repair image out (specification tree))

-- ---- facts

-- a chain of the fact is told
abbrev pub explains : List ℕ → Spec → List ℕ → Script
explains fact spec image = tells (IsWhyAnswer spec image fact)

abbrev pub loads_explained : (image fact : List ℕ) → Spec → Script
loads_explained image fact spec = loads_for image spec (explains fact spec)

abbrev pub why_after : (image fact : List ℕ) → List ℕ → Script
why_after image fact text =
    reads text (λ tree. loads_explained image fact (specification tree))

-- the records that no set has are told
abbrev pub lists_lost : Spec → List ℕ → Script
lists_lost spec image = tells (IsLostAnswer spec image)

abbrev pub loads_listed : List ℕ → Spec → Script
loads_listed image spec = loads_for image spec (lists_lost spec)

abbrev pub lost_after : List ℕ → List ℕ → Script
lost_after image text = reads text (λ tree. loads_listed image (specification tree))

-- ---- edits

-- an image is edited as a script says
abbrev pub edits : List ℕ → Spec → (image script : List ℕ) → Script
edits out spec image script = picks (IsEditOf spec image script) (ends out)

-- the script is loaded where the image may be edited; where it may not, that is told
abbrev pub loads_script : (script out : List ℕ) → Spec → List ℕ → Opening → Script
loads_script script out spec image Opens =
    loads script script_limit (codes "too long script\n") (edits out spec image)
loads_script script out spec image (Refuses answer) = tells (λ told. told ≡ answer)

abbrev pub opens : (script out : List ℕ) → Spec → List ℕ → Script
opens script out spec image = picks (IsOpening spec image) (loads_script script out spec image)

abbrev pub loads_edited : (image script out : List ℕ) → Spec → Script
loads_edited image script out spec = loads_for image spec (opens script out spec)

abbrev pub edit_after : (image script out : List ℕ) → List ℕ → Script
edit_after image script out text =
    reads text (λ tree. loads_edited image script out (specification tree))

-- ---- reports

abbrev pub loads_report : List ℕ → (List ℕ → Script) → Script
loads_report name after = loads name report_limit (codes "too long report\n") after

-- a report is held against the image, and the bytes that its repair is said to have left
abbrev pub audits : Spec → Choice → (image report fixed : List ℕ) → Script
audits spec choice image report fixed = tells (IsAuditAnswer spec choice image report fixed)

-- the report and those bytes are loaded where the image has a layout; where it has none, that is
-- told
abbrev pub loads_told : (report fixed : List ℕ) → Spec → Choice → List ℕ → laid.Found → Script
loads_told report fixed spec choice image (Lies layout) =
    loads_report report (λ told. loads_for fixed spec (audits spec choice image told))
loads_told report fixed spec choice image (Unlaid answer) = tells (λ told. told ≡ answer)

abbrev pub lays_out : (report fixed : List ℕ) → Spec → Choice → List ℕ → Script
lays_out report fixed spec choice image =
    picks (laid.IsFound spec image) (loads_told report fixed spec choice image)

-- the image is loaded where there is a plan; where there is none, that is told
abbrev pub loads_audited : (image report fixed : List ℕ) → Spec → plans.Found → Script
loads_audited image report fixed spec (plan_found.Plan choice) =
    loads_for image spec (lays_out report fixed spec choice)
loads_audited image report fixed spec (plan_found.Stuck set) =
    tells (λ told. told ≡ refused_answer spec set)

abbrev pub plans_audit : (image report fixed : List ℕ) → Spec → Script
plans_audit image report fixed spec =
    picks (planned.IsFound spec) (loads_audited image report fixed spec)

abbrev pub audit_after : (image report fixed : List ℕ) → List ℕ → Script
audit_after image report fixed text =
    reads text (λ tree. plans_audit image report fixed (specification tree))

-- what the report tells is taken back
abbrev pub undoes : List ℕ → Spec → (fixed report : List ℕ) → Script
undoes out spec fixed report = picks (IsUndoOf spec fixed report) (ends out)

abbrev pub loads_undone : (report out : List ℕ) → Spec → List ℕ → Script
loads_undone report out spec fixed = loads_report report (undoes out spec fixed)

abbrev pub loads_repaired : (fixed report out : List ℕ) → Spec → Script
loads_repaired fixed report out spec = loads_for fixed spec (loads_undone report out spec)

abbrev pub undo_after : (fixed report out : List ℕ) → List ℕ → Script
undo_after fixed report out text =
    reads text (λ tree. loads_repaired fixed report out (specification tree))

-- ---- what words ask for

abbrev pub script_of : Option Asked → Script
script_of None = tells (λ told. told ≡ usage)
script_of (Some (Audit spec image report fixed)) =
    loads_spec spec (audit_after image report fixed)
script_of (Some (Certify spec certificate)) = loads_spec spec (certify_after certificate)
script_of (Some (Check spec image)) = loads_spec spec (check_after image)
script_of (Some (Edit spec image script out)) = loads_spec spec (edit_after image script out)
script_of (Some (Lost spec image)) = loads_spec spec (lost_after image)
script_of (Some (Plan spec)) = loads_spec spec plan_after
script_of (Some (Repair spec image out)) = loads_spec spec (repair_after image out)
script_of (Some (Text spec)) = loads_spec spec text_after
script_of (Some (Trial number)) = tells (IsTrial number)
script_of (Some (Undo spec fixed report out)) = loads_spec spec (undo_after fixed report out)
script_of (Some (Verify spec certificate)) = loads_spec spec (verify_after certificate)
script_of (Some (Why spec image fact)) = loads_spec spec (why_after image fact)

-- what the words ask for
abbrev pub asked : List (List ℕ) → Script
asked words = script_of (command_of words)
