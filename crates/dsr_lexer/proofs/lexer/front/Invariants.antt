use Rattle.std.proofs.Common.{◌-◌, ◌≤◌, length, drop}
use Rattle.dsr_syntax_theory.specs.Tokens.{IsCut, is_second_version}
use Rattle.dsr_lexer.proofs.lexer.front.Given as goal

abbrev pub decreases-loop-place : goal.decreases-loop-place
decreases-loop-place l = length l.text - l.place

abbrev pub invariant-loop-place : goal.invariant-loop-place
invariant-loop-place l = record { within : l.place ≤ length l.text; cut : IsCut (is_second_version l.lexemes.items) 0 l.text l.lexemes.items l.place (drop l.place l.text) }
