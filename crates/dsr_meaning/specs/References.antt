-- What the value of a reference to a pool means.
use Rattle.std.specs.Prelude.{◌≡◌, ◌<◌, ℕ, ◌+◌, ◌*◌, Some, IsSomeAnd}
use Rattle.dsr_ir.specs.Layouts.{pool_numbers}
use Rattle.dsr_ir.specs.declared.layouts.Layout.{Layout}
use Rattle.dsr_ir.specs.declared.layouts.PoolNumbers.{PoolNumbers}

-- the value is the code of the slot
pub record IsCodeOf (layout : Layout) (pool slot value : ℕ) : Type 0 where
  pub numbers : PoolNumbers
  pub declared : pool_numbers layout pool ≡ Some numbers
  pub below : slot < numbers.count
  pub code : value ≡ numbers.code + slot * numbers.step

-- the value is the one of no slot
abbrev pub IsNoneOf : Layout → ℕ → ℕ → Type 0
IsNoneOf layout pool value = IsSomeAnd (pool_numbers layout pool) (λ n. value ≡ n.none)

-- the value is the code of some slot
abbrev pub IsLegal : Layout → ℕ → ℕ → Type 0
IsLegal layout pool value = (slot : ℕ) × IsCodeOf layout pool slot value

-- the value is neither
pub record IsIllegal (layout : Layout) (pool value : ℕ) : Type 0 where
  pub not_none : IsNoneOf layout pool value → ⊥
  pub not_legal : IsLegal layout pool value → ⊥
