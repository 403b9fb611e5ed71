-- Calls that are made to fail by their numbers, which count from 1.
use Rattle.std.specs.Prelude.{ℕ, ◌+◌, ◌-◌, ◌^◌, ◌&&◌, Bool, List, [], ◌∷◌, min, nat_eq, nat_le, nat_lt, if◌then◌else◌, Result, Ok, Err}
use Rattle.std.specs.List.{list_any}
use Rattle.dsr_store.specs.declared.outside.ShelfFault.{ShelfFault}
use Rattle.dsr_store.specs.declared.outside.ShelfFault.TheVariants.{Failed, NoMemory}

-- how many entries of the list are numbers of calls that were made
abbrev pub failures : List ℕ → ℕ → ℕ
failures [] calls = 0
failures (number ∷ fail) calls = (if nat_le number calls then 1 else 0) + failures fail calls

-- whether the call after these is made to fail: it can be counted, and the list has its number
abbrev pub is_due : List ℕ → ℕ → Bool
is_due fail calls = nat_lt calls (2 ^ 64 - 1) && list_any (λ number. nat_eq number (calls + 1)) fail

-- the count of calls after one more, which stays at the last value of a u64
abbrev pub one_more : ℕ → ℕ
one_more calls = min (calls + 1) (2 ^ 64 - 1)

-- the count of calls after a call of a shelf, which doesn't count if it ran out of memory
abbrev pub calls_after : {T : Type 0} → Result T ShelfFault → ℕ → ℕ
calls_after (Err NoMemory) calls = calls
calls_after (Err Failed) calls = one_more calls
calls_after (Ok x) calls = one_more calls
