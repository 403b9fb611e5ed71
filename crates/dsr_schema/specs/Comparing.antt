-- Whether a comparison of two numbers holds, computed.
use Rattle.std.specs.Prelude.{ℕ, Bool, nat_eq, nat_le, nat_lt, not}
use Rattle.dsr_ir.specs.declared.rules.Op.{Op}
use Rattle.dsr_ir.specs.declared.rules.Op.TheVariants.{Eq, Ne, Lt, Le, Gt, Ge}

abbrev pub compares : Op → ℕ → ℕ → Bool
compares Eq value number = nat_eq value number
compares Ne value number = not (nat_eq value number)
compares Lt value number = nat_lt value number
compares Le value number = nat_le value number
compares Gt value number = nat_lt number value
compares Ge value number = nat_le number value
