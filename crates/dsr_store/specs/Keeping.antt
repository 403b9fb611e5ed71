-- A list of files, and the map that it stands for: where a name stands twice, its first file
-- counts.
use Rattle.std.specs.Prelude.{ℕ, ◌+◌, List, [], ◌∷◌, Option, None, Some, if◌then◌else◌}
use Rattle.std.specs.Str.{bytes_eq}
use Rattle.std.specs.FinMap.{from_entries}
use Rattle.dsr_store.specs.Files.{Files}
use Rattle.dsr_store.specs.declared.outside.Held.{Held}

-- the files as pairs of a name and bytes
abbrev pub entries_of : List Held → List (List ℕ × List ℕ)
entries_of [] = []
entries_of (file ∷ files) = (file.name, file.bytes) ∷ entries_of files

-- the map that the list stands for
abbrev pub files_of : List Held → Files
files_of files = from_entries (entries_of files)

-- the place of the first file of the name, where the list's own places begin at n
abbrev pub place_from : ℕ → List ℕ → List Held → Option ℕ
place_from n name [] = None
place_from n name (file ∷ files) =
    if bytes_eq name file.name then Some n else place_from (n + 1) name files

-- the same, as a shelf that tells its files
abbrev pub held_in : List Held → Option Files
held_in files = Some (files_of files)
