-- Of which sets variables are known to be members, as a table says it.
use Rattle.std.specs.Prelude.{ℕ, Bool, false, slice_index_or}
use Rattle.dsr_ir.specs.declared.constraints.Var.{Var}
use Rattle.dsr_ir.specs.declared.constraints.Var.TheVariants.{Head, First, Second}
use Rattle.dsr_goal.specs.declared.known.Known.{Known}

-- an entry outside the table is false, and so is each one of the head
abbrev pub known_by : Known → Var → ℕ → Bool
known_by known Head set = false
known_by known First set = slice_index_or known.first set false
known_by known Second set = slice_index_or known.second set false
