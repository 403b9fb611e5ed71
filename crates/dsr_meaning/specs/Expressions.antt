-- The values of expressions: whole numbers from 0 to 2^64 - 1.
use Rattle.std.specs.Prelude.{ℕ, ◌+◌, ◌-◌, ◌*◌, ◌/◌, ◌^◌, nat_eq, nat_lt, nat_le, Option, None, Some, option_and_then, if◌then◌else◌}
use Rattle.dsr_ir.specs.Exprs.{ExprShape, NumOf, FixedOf, SumOf, LessOf, TimesOf, OverOf}

-- a number that is no greater than 2^64 - 1, and otherwise no value
abbrev pub in_range : ℕ → Option ℕ
in_range n = if nat_lt n (2 ^ 64) then Some n else None

abbrev pub sum : ℕ → ℕ → Option ℕ
sum a b = in_range (a + b)

-- a difference below 0 has no value
abbrev pub difference : ℕ → ℕ → Option ℕ
difference a b = if nat_le b a then Some (a - b) else None

abbrev pub product : ℕ → ℕ → Option ℕ
product a b = in_range (a * b)

-- a division drops the rest, and has no value where the divisor is 0
abbrev pub quotient : ℕ → ℕ → Option ℕ
quotient a b = if nat_eq b 0 then None else Some (a / b)

-- what an operation makes of two sides, where both have values
abbrev pub of_both : (ℕ → ℕ → Option ℕ) → Option ℕ → Option ℕ → Option ℕ
of_both operation left right = option_and_then (λ a. option_and_then (operation a) right) left

-- the value of an expression, by those of the fixed fields
abbrev pub value_of : (ℕ → Option ℕ) → ExprShape → Option ℕ
value_of fixed (NumOf n) = Some n
value_of fixed (FixedOf field) = fixed field
value_of fixed (SumOf left right) = of_both sum (value_of fixed left) (value_of fixed right)
value_of fixed (LessOf left right) = of_both difference (value_of fixed left) (value_of fixed right)
value_of fixed (TimesOf left right) = of_both product (value_of fixed left) (value_of fixed right)
value_of fixed (OverOf left right) = of_both quotient (value_of fixed left) (value_of fixed right)
