-- What a model gains and loses where bytes change.
use Rattle.std.specs.Prelude.{ℕ, List, Option, None, Some}
use Rattle.dsr_ir.specs.declared.declarations.Spec.{Spec}
use Rattle.dsr_ir.specs.declared.layouts.Layout.{Layout}
use Rattle.dsr_ir.specs.declared.tuples.Fact.{Fact}
use Rattle.dsr_ir.specs.declared.tuples.Fact.TheVariants.{Member, Pair}
use Rattle.dsr_ir.specs.declared.tuples.Instance.{Instance}
use Rattle.dsr_meaning.specs.Models.{IsDerivedBy, IsFact, base_of}

-- some instance gives the fact by the new bytes that didn't give it by the old ones
abbrev pub IsNewlyGiven : Spec → Layout → List ℕ → List ℕ → Fact → Type 0
IsNewlyGiven spec layout old new fact =
    (i : Instance) × IsDerivedBy spec layout new i fact × (IsDerivedBy spec layout old i fact → ⊥)

-- the fact, of which no instance need speak, holds by the new bytes alone
abbrev pub IsNewFact : Spec → Layout → List ℕ → List ℕ → Fact → Type 0
IsNewFact spec layout old new fact = IsFact spec layout new fact × (IsFact spec layout old fact → ⊥)

abbrev pub IsGainedBy : Spec → Layout → List ℕ → List ℕ → Fact → Option ℕ → Type 0
IsGainedBy spec layout old new fact None = IsNewlyGiven spec layout old new fact
IsGainedBy spec layout old new fact (Some base) = IsNewFact spec layout old new fact

-- the fact is gained: some instance newly gives it, or, in a complement, it newly holds
abbrev pub IsGained : Spec → Layout → List ℕ → List ℕ → Fact → Type 0
IsGained spec layout old new (Member set e) =
    IsGainedBy spec layout old new (Member set e) (base_of spec set)
IsGained spec layout old new (Pair rel e target) =
    IsNewlyGiven spec layout old new (Pair rel e target)

-- the fact is lost: it would be gained by the way back
abbrev pub IsLost : Spec → Layout → List ℕ → List ℕ → Fact → Type 0
IsLost spec layout old new fact = IsGained spec layout new old fact
