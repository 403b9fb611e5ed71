use Rattle.std.proofs.Common.{◌<◌, ℕ, None}
use Rattle.dsr_command_why.specs.Whys.{TellsOf}
use Rattle.dsr_ir.specs.declared.updates.Symbol.TheVariants as symbols
use Rattle.dsr_command_why.proofs.whys.Question.members_told.Given as goal

-- none so far has the text
abbrev pub invariant-loop-number : goal.invariant-loop-number
invariant-loop-number l = (k : ℕ) → k < l.number → TellsOf l.self.spec.now l.self.layout.now l.self.image.now l.self.word.now (symbols.Set k) None
