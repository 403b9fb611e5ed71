-- Two lists of one length, whose items belong together.
use Rattle.std.specs.Prelude.{◌≡◌, ℕ, List, Some, length, slice_get}

-- each item of the second list belongs to that of the first with the same place
pub record ArePaired {A B : Type 0} (R : ℕ → A → B → Type 0) (xs : List A) (ys : List B) : Type 0 where
  pub as_many : length ys ≡ length xs
  pub are : (n : ℕ) (x : A) (y : B) → slice_get xs n ≡ Some x → slice_get ys n ≡ Some y → R n x y
