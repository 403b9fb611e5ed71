-- The size of a normal form, as it is counted before the form is made.
use Rattle.std.specs.Prelude.{if◌then◌else◌, ◌+◌, ◌*◌, Bool, nat_lt, ◌==◌, ◌||◌, List, length, min, max}
use Rattle.dsr_ir.specs.declared.constraints.Literal.{Literal}
use Rattle.dsr_language_theory.specs.NormalForms.{longest}
use Rattle.dsr_normal.specs.declared.sizes.Size.{Size}

-- the size as it is counted: beyond the limits it is all the same
abbrev pub size_of : List (List Literal) → Size
size_of conjs = record { conjunctions = min (length conjs) 17; longest = min (longest conjs) 9 }

-- a counted size beyond the limits
abbrev pub is_large : Size → Bool
is_large size = nat_lt 16 size.conjunctions || nat_lt 8 size.longest

-- the counted size of two lists, one behind the other
abbrev pub added : Size → Size → Size
added a b =
    record { conjunctions = min (a.conjunctions + b.conjunctions) 17; longest = max a.longest b.longest }

-- the counted size of two lists that are joined
abbrev pub multiplied : Size → Size → Size
multiplied a b =
    if a.conjunctions == 0 then record { conjunctions = 0; longest = 0 }
    else if b.conjunctions == 0 then record { conjunctions = 0; longest = 0 }
    else record { conjunctions = min (a.conjunctions * b.conjunctions) 17; longest = min (a.longest + b.longest) 9 }
