-- The limits of the language: how much a specification may declare, and how long an image may be.
use Rattle.std.specs.Prelude.{ℕ}

-- how many bytes an image may have, in version 2
abbrev pub most_bytes : ℕ
most_bytes = 67108864

-- how many structures there may be
abbrev pub most_structures : ℕ
most_structures = 64

-- how many fields a structure may have of its own
abbrev pub most_fields : ℕ
most_fields = 64

-- how many sets and relations there may be together
abbrev pub most_symbols : ℕ
most_symbols = 64

-- how many rules there may be
abbrev pub most_rules : ℕ
most_rules = 128

-- how many constraints there may be, in version 2
abbrev pub most_constraints : ℕ
most_constraints = 128
