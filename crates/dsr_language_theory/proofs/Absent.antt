-- What follows where a fault isn't there.
use Rattle.std.proofs.Common.{◌≡◌, ℕ, Bool, true, false, [], refl}
use Rattle.dsr_tree.specs.declared.faults.Condition.{Condition}
use Rattle.dsr_language_theory.specs.Faults.{when}

-- a test whose fault isn't there fails
pub when_absent : (test : Bool) (condition : Condition) (place : ℕ) → when test condition place ≡ [] → test ≡ false
when_absent true condition place e = absurd cc
when_absent false condition place e = refl
