-- Named files as a finite map from names to bytes, and what a load or a save says of them.
use Rattle.std.specs.Prelude.{◌≡◌, ◌≢◌, ℕ, List, Option, None, IfSome, IsSomeAnd, take}
use Rattle.std.specs.Option.{option_map}
use Rattle.std.specs.Ordering.{nat_cmp}
use Rattle.std.specs.Cmp.Lexicographic.{slice_cmp}
use Rattle.std.specs.FinMap.{FinMap, get, insert}

-- what a shelf holds: for each name that it has, the bytes under it
abbrev pub Files : Type 0
Files = FinMap (slice_cmp nat_cmp) (List ℕ)

-- where the files are told, the name is held, and these are its first bytes, up to the cap
abbrev pub IsFrontOf : Option Files → List ℕ → ℕ → List ℕ → Type 0
IsFrontOf held name cap bytes =
    IfSome held (λ files. IsSomeAnd (get files name) (λ whole. bytes ≡ take cap whole))

-- the files are told, and none has the name
abbrev pub Lacks : Option Files → List ℕ → Type 0
Lacks held name = IsSomeAnd held (λ files. get files name ≡ None)

-- where the files are told, those with these bytes under the name
abbrev pub with_file : Option Files → List ℕ → List ℕ → Option Files
with_file held name bytes = option_map (λ files. insert files name bytes) held

-- under each other name stands what stood there
abbrev pub OthersStand : Option Files → Option Files → List ℕ → Type 0
OthersStand old new name =
    (other : List ℕ) → other ≢ name
    → option_map (λ files. get files other) new ≡ option_map (λ files. get files other) old
