-- Values that are put into cells, one after the other.
use Rattle.std.specs.Prelude.{ℕ, List, [], ◌∷◌}
use Rattle.dsr_ir.specs.declared.layouts.Cell.{Cell}
use Rattle.dsr_meaning.specs.Writes.{AreBytes, BesideStay, Puts}

-- the value is put into the cell, no other bit changes, cells that share no bit with it keep their
-- values, and what is left are bytes
pub record IsPut (cell : Cell) (value : ℕ) (old new : List ℕ) : Type 0 where
  pub puts : Puts cell value old new
  pub beside : BesideStay cell old new
  pub bytes : AreBytes new

-- each value is put into its cell, in order, and no other bit changes
pub data ArePut : List (Cell × ℕ) → List ℕ → List ℕ → Type 0 where
  done : {bytes : List ℕ} → ArePut [] bytes bytes
  put :
      {rest : List (Cell × ℕ)} {old middle new : List ℕ} → (cell : Cell) (value : ℕ)
      → IsPut cell value old middle → ArePut rest middle new → ArePut ((cell, value) ∷ rest) old new
