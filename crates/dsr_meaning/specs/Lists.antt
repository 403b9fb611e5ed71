-- What is made of the items of a list.
use Rattle.std.specs.Prelude.{ℕ, suc, Bool, false, ◌||◌, List, [], ◌∷◌, ◌++◌}

-- whether some item of a list passes a test
abbrev pub any_of : {T : Type 0} → (T → Bool) → List T → Bool
any_of test [] = false
any_of test (x ∷ xs) = test x || any_of test xs

-- what each item of a list gives, by its number, which counts from n
abbrev pub each_at : {S T : Type 0} → (ℕ → S → List T) → ℕ → List S → List T
each_at f n [] = []
each_at f n (x ∷ xs) = f n x ++ each_at f (suc n) xs
