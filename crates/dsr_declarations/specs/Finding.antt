-- What a name finds among declarations.
use Rattle.std.specs.Prelude.{ℕ, List, [], ◌∷◌, Option, None, Some, if◌then◌else◌}
use Rattle.dsr_names.specs.Tables.{is_named}

-- the first of some items with this name, where one has it
abbrev pub first_named : {T : Type 0} → (T → Option (List ℕ)) → List ℕ → List T → Option T
first_named own_name name [] = None
first_named own_name name (x ∷ xs) =
    if is_named (own_name x) name then Some x else first_named own_name name xs
