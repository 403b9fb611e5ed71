-- What a command that waits for a file does next, as a script.
use Rattle.std.specs.Prelude.{◌≤◌, ℕ, List, length, ⊤}
use Rattle.dsr_command_theory.specs.Commands.{audits, checks, edits, explains, lays_out, lists_lost, loads_certificate, loads_edited, loads_explained, loads_for, loads_image, loads_listed, loads_repaired, loads_undone, opens, plans_audit, plans_repair, reads, repairs, saves_plan, tells_plan, tells_text, undoes, verifies}
use Rattle.dsr_meaning.specs.Typed.{IsTyped}
use Rattle.dsr_plan_theory.specs.Taken.{IsTaken}
use Rattle.dsr_script.specs.Scripts.{Script}
use Rattle.dsr_step_theory.specs.Images.{IsImageOf}
use Rattle.dsr_tree.specs.Trees.{TreeShape}
use Rattle.dsr_language_theory.specs.Specifications.{specification}
use Rattle.dsr_cli.specs.declared.waiting.Waiting.{Waiting}
use Rattle.dsr_cli.specs.declared.waiting.Waiting.TheVariants as stages
use Rattle.dsr_words.specs.declared.commands.Task.{Task}
use Rattle.dsr_words.specs.declared.commands.Task.TheVariants as tasks
use Rattle.dsr_meaning.specs.Limits.{most_bytes}

-- what a task comes to, once the text of the specification was read as this tree
abbrev pub comes_to : Task → TreeShape → Script
comes_to (tasks.Audit image report fixed) tree =
    plans_audit image.now report.now fixed.now (specification tree)
comes_to (tasks.Certify certificate) tree = saves_plan certificate.now (specification tree)
comes_to (tasks.Check image) tree = loads_image image.now (specification tree)
comes_to (tasks.Edit image script out) tree =
    loads_edited image.now script.now out.now (specification tree)
comes_to (tasks.Lost image) tree = loads_listed image.now (specification tree)
comes_to tasks.Plan tree = tells_plan tree
comes_to (tasks.Repair image out) tree = plans_repair image.now out.now (specification tree)
comes_to tasks.Text tree = tells_text tree
comes_to (tasks.Undo fixed report out) tree =
    loads_repaired fixed.now report.now out.now (specification tree)
comes_to (tasks.Verify certificate) tree = loads_certificate certificate.now (specification tree)
comes_to (tasks.Why image fact) tree = loads_explained image.now fact.now (specification tree)

-- what follows once the bytes of the file came for which a command waits
abbrev pub due : Waiting → List ℕ → Script
due (stages.Spec task) bytes = reads bytes (comes_to task)
due (stages.Image spec) bytes = checks spec bytes
due (stages.Damaged spec choice out) bytes = repairs out.now spec choice bytes
due (stages.Certificate spec) bytes = verifies spec bytes
due (stages.Audited spec choice report fixed) bytes =
    lays_out report.now fixed.now spec choice bytes
due (stages.AuditedReport spec choice layout image fixed) bytes =
    loads_for fixed.now spec (audits spec choice image.items bytes)
due (stages.AuditedEnd spec choice layout image report) bytes =
    audits spec choice image.items report.items bytes
due (stages.Repaired spec report out) bytes = loads_undone report.now out.now spec bytes
due (stages.UndoneReport spec fixed out) bytes = undoes out.now spec fixed.items bytes
due (stages.Explained spec fact) bytes = explains fact.now spec bytes
due (stages.Listed spec) bytes = lists_lost spec bytes
due (stages.Edited spec script out) bytes = opens script.now out.now spec bytes
due (stages.EditScript ready out) bytes = edits out.now ready.0 ready.1 bytes

-- how many files a task loads behind the specification
abbrev pub loaded_for : Task → ℕ
loaded_for (tasks.Audit image report fixed) = 3
loaded_for (tasks.Certify certificate) = 0
loaded_for (tasks.Check image) = 1
loaded_for (tasks.Edit image script out) = 2
loaded_for (tasks.Lost image) = 1
loaded_for tasks.Plan = 0
loaded_for (tasks.Repair image out) = 1
loaded_for tasks.Text = 0
loaded_for (tasks.Undo fixed report out) = 2
loaded_for (tasks.Verify certificate) = 1
loaded_for (tasks.Why image fact) = 1

-- how many files may still be loaded behind that one
abbrev pub left : Waiting → ℕ
left (stages.Spec task) = loaded_for task
left (stages.Image spec) = 0
left (stages.Damaged spec choice out) = 0
left (stages.Certificate spec) = 0
left (stages.Audited spec choice report fixed) = 2
left (stages.AuditedReport spec choice layout image fixed) = 1
left (stages.AuditedEnd spec choice layout image report) = 0
left (stages.Repaired spec report out) = 1
left (stages.UndoneReport spec fixed out) = 0
left (stages.Explained spec fact) = 0
left (stages.Listed spec) = 0
left (stages.Edited spec script out) = 1
left (stages.EditScript ready out) = 0

-- an image and a certificate are waited for with a typed specification, an image that is to be
-- repaired or audited with the plan that is taken, and a report with the layout of the image that
-- came before; an image isn't longer than any may be
abbrev pub is_ready : Waiting → List ℕ → Type 0
is_ready (stages.Spec task) bytes = ⊤
is_ready (stages.Image spec) bytes = IsTyped spec × (length bytes ≤ most_bytes)
is_ready (stages.Damaged spec choice out) bytes =
    IsTyped spec × IsTaken spec choice × (length bytes ≤ most_bytes)
is_ready (stages.Certificate spec) bytes = IsTyped spec
is_ready (stages.Audited spec choice report fixed) bytes =
    IsTyped spec × IsTaken spec choice × (length bytes ≤ most_bytes)
is_ready (stages.AuditedReport spec choice layout image fixed) bytes =
    IsTaken spec choice × IsImageOf spec layout image.items
is_ready (stages.AuditedEnd spec choice layout image report) bytes =
    IsTaken spec choice × IsImageOf spec layout image.items
is_ready (stages.Repaired spec report out) bytes = IsTyped spec × (length bytes ≤ most_bytes)
is_ready (stages.UndoneReport spec fixed out) bytes =
    IsTyped spec × (length fixed.items ≤ most_bytes)
is_ready (stages.Explained spec fact) bytes = IsTyped spec × (length bytes ≤ most_bytes)
is_ready (stages.Listed spec) bytes = IsTyped spec × (length bytes ≤ most_bytes)
is_ready (stages.Edited spec script out) bytes = IsTyped spec × (length bytes ≤ most_bytes)
is_ready (stages.EditScript ready out) bytes = ⊤
