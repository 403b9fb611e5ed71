-- Steps of checks.
use Rattle.std.proofs.Common.{◌≡◌, ℕ, Bool, ◌&&◌, Option, subst}
use Rattle.dsr_tree.specs.declared.faults.Condition.{Condition}
use Rattle.dsr_tree.specs.declared.faults.Condition.TheVariants as conditions
use Rattle.dsr_tree.specs.declared.faults.Fault.{Fault}
use Rattle.dsr_language_theory.specs.Faults.{when}
use Rattle.dsr_names.specs.Telling.{Finds}
use Rattle.dsr_names.proofs.Finding.{finds_when}

-- a place that was computed in another way
pub finds_at : {p q : ℕ} (b : Bool) (condition : Condition) {old new : Option Fault} → p ≡ q → Finds (when b condition p) old new → Finds (when b condition q) old new
finds_at b condition {old} {new} e f = subst (λ n. Finds (when b condition n) old new) e f

-- pools and kinds, asked where all names are known
pub finds_mismatch : {k k' m m' : Bool} {p q : ℕ} {old new : Option Fault} → k ≡ k' → m ≡ m' → p ≡ q → Finds (when (k && m) conditions.PoolMismatch p) old new → Finds (when (k' && m') conditions.PoolMismatch q) old new
finds_mismatch known mismatched place f = finds_at _ _ place (finds_when _ _ (λ i. known i && mismatched i) f)
