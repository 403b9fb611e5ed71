-- A command, as its words ask for it.
use Rattle.std.specs.Prelude.{ℕ, List}
use Rattle.dsr_words.specs.Words.{Asked, Audit, Certify, Check, Edit, Lost, Plan, Repair, Text, Trial, Undo, Verify, Why}
use Rattle.dsr_words.specs.declared.commands.Command.{Command}
use Rattle.dsr_words.specs.declared.commands.Command.TheVariants as commands
use Rattle.dsr_words.specs.declared.commands.Task.{Task}
use Rattle.dsr_words.specs.declared.commands.Task.TheVariants as tasks

-- what is asked of the specification of this name
abbrev pub asked_for : List ℕ → Task → Asked
asked_for spec (tasks.Audit image report fixed) = Audit spec image.now report.now fixed.now
asked_for spec (tasks.Certify certificate) = Certify spec certificate.now
asked_for spec (tasks.Check image) = Check spec image.now
asked_for spec (tasks.Edit image script out) = Edit spec image.now script.now out.now
asked_for spec (tasks.Lost image) = Lost spec image.now
asked_for spec tasks.Plan = Plan spec
asked_for spec (tasks.Repair image out) = Repair spec image.now out.now
asked_for spec tasks.Text = Text spec
asked_for spec (tasks.Undo fixed report out) = Undo spec fixed.now report.now out.now
asked_for spec (tasks.Verify certificate) = Verify spec certificate.now
asked_for spec (tasks.Why image fact) = Why spec image.now fact.now

abbrev pub asked_of : Command → Asked
asked_of (commands.Of spec task) = asked_for spec.now task
asked_of (commands.Trial number) = Trial number
