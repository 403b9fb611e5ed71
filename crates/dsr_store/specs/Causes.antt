-- What lets a call say that it failed, and what such an answer leaves behind.
use Rattle.std.specs.Prelude.{◌≡◌, ◌≤◌, ◌+◌, ◌-◌, ◌^◌, ℕ, min, Option, Some, Result, Ok, Err}
use Rattle.dsr_store.specs.declared.outside.ShelfFault.{ShelfFault}
use Rattle.dsr_store.specs.declared.outside.ShelfFault.TheVariants.{Failed, NoMemory}
use Rattle.dsr_store.specs.declared.outside.Missed.{Missed}

-- the count is higher than before, or stands at the last value of a u64
abbrev pub Rose : ℕ → ℕ → Type 0
Rose old new = min (old + 1) (2 ^ 64 - 1) ≤ new

-- `Failed` makes this call the last that failed, and each other answer leaves the mark
abbrev pub Marks :
    {T : Type 0} → Result T ShelfFault → Missed → Option Missed → Option Missed → Type 0
Marks (Err Failed) missed old new = new ≡ Some missed
Marks (Err NoMemory) missed old new = new ≡ old
Marks (Ok x) missed old new = new ≡ old
