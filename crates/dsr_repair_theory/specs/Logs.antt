-- What a log holds.
use Rattle.std.specs.Prelude.{ℕ, List}
use Rattle.dsr_repair_theory.specs.declared.entries.Entry.{Entry}

-- the entries in order, and how many more can be pushed without memory
pub record Logged : Type 0 where
  pub entries : List Entry
  pub spare : ℕ
