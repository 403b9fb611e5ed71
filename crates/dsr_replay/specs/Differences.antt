-- Where two lists differ first.
use Rattle.std.specs.Prelude.{◌≡◌, ◌≢◌, ℕ, List, take, slice_get}

-- All items before the place are the same, and those at the place aren't; where one list ends at
-- the place, the other goes on.
pub record IsFirstDifference (xs ys : List ℕ) (place : ℕ) : Type 0 where
  pub same : take place xs ≡ take place ys
  pub differs : slice_get xs place ≢ slice_get ys place
