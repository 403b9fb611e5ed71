-- What is told of the value of a reference.
use Rattle.std.specs.Prelude.{ℕ}
use Rattle.dsr_ir.specs.declared.layouts.Layout.{Layout}
use Rattle.dsr_layout.specs.declared.references.Ref.{Ref}
use Rattle.dsr_layout.specs.declared.references.Ref.TheVariants as refs
use Rattle.dsr_meaning.specs.References.{IsCodeOf, IsNoneOf, IsIllegal}

-- the value of a reference to the pool means this
abbrev pub Means : Layout → ℕ → ℕ → Ref → Type 0
Means layout pool value refs.None = IsNoneOf layout pool value
Means layout pool value (refs.Slot slot) = IsCodeOf layout pool slot value
Means layout pool value refs.Illegal = IsIllegal layout pool value
