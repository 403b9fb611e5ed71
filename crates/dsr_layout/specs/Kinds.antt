-- The number of a refusal's kind.
use Rattle.std.specs.Prelude.{ℕ}
use Rattle.dsr_meaning.specs.Refusals.{Refusal, Short, Arith, Outside, Overlap, Subtype, Zero, NoneIsCode, CodeTooWide, CountTooWide, Instances}

abbrev pub kind_of : Refusal → ℕ
kind_of Short = 1
kind_of Arith = 2
kind_of (Outside pool) = 3
kind_of (Overlap first second) = 4
kind_of (Subtype pool structure) = 5
kind_of (Zero pool) = 6
kind_of (NoneIsCode pool) = 7
kind_of (CodeTooWide pool structure field) = 8
kind_of (CountTooWide constraint) = 9
kind_of Instances = 10
