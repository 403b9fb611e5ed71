use Rattle.std.proofs.Common.{arith, string_bytes}
use Rattle.dsr_words.proofs.NoCommand.{too_few, too_many}
use Rattle.dsr_words.proofs.commands.command_of.Goals as goal
use Rattle.dsr_words.proofs.commands.command_of.Goals.{in_default-via-then-words-lt2, in_default-via-else-words-lt2+else-words-lt3+else-words-lt4+else-words-lt5+else-words-lt6}

pub returns-in_default : goal.returns-in_default
returns-in_default c = elim c.in_default.branch [
  | in_default-via-then-words-lt2 w ↦ too_few string_bytes c.args.words.now (grind arith)
  | in_default-via-else-words-lt2+else-words-lt3+else-words-lt4+else-words-lt5+else-words-lt6 w ↦ too_many string_bytes c.args.words.now (grind arith)
]
