-- What the code's claims mean.
use Rattle.dsr_facts.specs.declared.claims.Claim.{Claim}
use Rattle.dsr_facts.specs.declared.claims.Claim.TheVariants as own
use Rattle.dsr_update_theory.specs.Facts.{ConstraintFact, Injective, Exclusive, Apart}

-- the fact that a claim states
abbrev pub claimed : Claim → ConstraintFact
claimed (own.Injective rel) = Injective rel
claimed (own.Exclusive a b) = Exclusive a b
claimed (own.Apart p q) = Apart p q
