-- The write that makes a guard true, or false.
use Rattle.std.specs.Prelude.{ℕ, ◌+◌, ◌-◌, ◌^◌, nat_eq, nat_lt, Bool, true, false, Option, None, Some, option_map, option_and_then, if◌then◌else◌}
use Rattle.dsr_ir.specs.declared.declarations.Field.{Field}
use Rattle.dsr_ir.specs.declared.declarations.Structures.{Structures}
use Rattle.dsr_ir.specs.declared.rules.Guard.{Guard}
use Rattle.dsr_ir.specs.declared.rules.Op.{Op}
use Rattle.dsr_ir.specs.declared.rules.Op.TheVariants.{Eq, Ne, Lt, Le, Gt, Ge}
use Rattle.dsr_ir.specs.declared.rules.Test.{Test}
use Rattle.dsr_ir.specs.declared.rules.Test.TheVariants.{Cmp, IsNone}
use Rattle.dsr_ir.specs.declared.updates.Pick.{Pick}
use Rattle.dsr_ir.specs.declared.updates.Pick.TheVariants.{Num, NoneCode}
use Rattle.dsr_ir.specs.declared.updates.Write.{Write}
use Rattle.dsr_meaning.specs.Cells.{width_bits}
use Rattle.dsr_meaning.specs.Instances.{declared_field}

-- the least number other than this one
abbrev pub least_other : ℕ → ℕ
least_other k = if nat_eq k 0 then 1 else 0

-- the number before this one; 0 has none
abbrev pub before : ℕ → Option ℕ
before k = if nat_eq k 0 then None else Some (k - 1)

-- the number by which a comparison becomes true, whatever the width
abbrev pub number_true : Op → ℕ → Option ℕ
number_true Eq k = Some k
number_true Ne k = Some (least_other k)
number_true Lt k = before k
number_true Le k = Some k
number_true Gt k = Some (k + 1)
number_true Ge k = Some k

-- and by which it becomes false
abbrev pub number_false : Op → ℕ → Option ℕ
number_false Eq k = Some (least_other k)
number_false Ne k = Some k
number_false Lt k = Some k
number_false Le k = Some (k + 1)
number_false Gt k = Some k
number_false Ge k = before k

-- the number, where the field is wide enough for it
abbrev pub fitting : Field → ℕ → Option ℕ
fitting f n = if nat_lt n (2 ^ width_bits f.width) then Some n else None

-- what is to be written so that the test is true; that a reference is legal, illegal or not none
-- can't be written
abbrev pub pick_true : Field → Test → Option Pick
pick_true f (Cmp op k) = option_map Num (option_and_then (fitting f) (number_true op k))
pick_true f IsNone = Some NoneCode
pick_true f _ = None

-- or false: none is neither legal nor illegal
abbrev pub pick_false : Field → Test → Option Pick
pick_false f (Cmp op k) = option_map Num (option_and_then (fitting f) (number_false op k))
pick_false f IsNone = None
pick_false f _ = Some NoneCode

abbrev pub pick_wanted : Bool → Field → Test → Option Pick
pick_wanted true f test = pick_true f test
pick_wanted false f test = pick_false f test

-- the write of the field that makes the guard true, or false, where there is one; a fixed field is
-- never written
abbrev pub guard_write : Structures → Bool → Guard → Option Write
guard_write base wanted guard =
    option_and_then
    (λ f. if f.fixed then None
    else option_map
    (λ pick. record { path = guard.path; pick = pick; wants = Some (guard.test, wanted) })
    (pick_wanted wanted f guard.test))
    (declared_field base guard.path.field)
