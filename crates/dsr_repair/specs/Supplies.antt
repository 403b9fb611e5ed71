-- Which slots of a pool are no fresh records.
use Rattle.std.specs.Prelude.{◌≡◌, ◌≤◌, ℕ, List}
use Rattle.dsr_ir.specs.declared.tuples.Element.{Element}
use Rattle.dsr_ir.specs.declared.tuples.Fact.{Fact}
use Rattle.dsr_ir.specs.declared.tuples.Fact.TheVariants.{Member}
use Rattle.dsr_meaning.specs.Counting.{IsIn}

-- the record is a member of one of the sets
abbrev pub IsUsed : (Fact → Type 0) → List ℕ → Element → Type 0
IsUsed is_fact sets e = (set : ℕ) × IsIn set sets × is_fact (Member set e)

-- all members of the set are slots of the pool, and none comes behind this one
abbrev pub AreInSlots : (Fact → Type 0) → ℕ → ℕ → ℕ → Type 0
AreInSlots is_fact set pool last =
    (e : Element) → is_fact (Member set e) → (e.pool ≡ pool) × (e.slot ≤ last)
