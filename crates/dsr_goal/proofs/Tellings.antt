-- What is known of each variable, by two tables.
use Rattle.std.proofs.Common.{◌≡◌, ◌↔◌, ℕ, IsTrue, refl}
use Rattle.dsr_ir.specs.declared.constraints.Quant.{Quant}
use Rattle.dsr_ir.specs.declared.constraints.Var.{Var}
use Rattle.dsr_ir.specs.declared.constraints.Var.TheVariants.{Head, First, Second}
use Rattle.dsr_ir.specs.declared.declarations.Spec.{Spec}
use Rattle.dsr_update_theory.specs.KnownSets.{IsKnown}
use Rattle.dsr_update_theory.specs.KnownSets.IsKnown.{quantified, source, target, base}
use Rattle.dsr_update_theory.specs.Templates.{TellsKnown}
use Rattle.dsr_goal.specs.Knowing.{known_by}
use Rattle.dsr_goal.specs.declared.known.Known.{Known}

-- nothing is known of the head
pub never_head : {spec : Spec} {quant : Quant} {v : Var} {set : ℕ} → IsKnown spec quant v set → v ≡ Head → ⊥
never_head (quantified set q) e = cc
never_head (source rel set q given) e = cc
never_head (target rel set q given) e = cc
never_head (base v set below higher given) e = never_head higher e

-- two tables, each of which tells what is known of one variable
pub tables_tell : (spec : Spec) (quant : Quant) (known : Known) → ((set : ℕ) → IsTrue (known_by known First set) ↔ IsKnown spec quant First set) → ((set : ℕ) → IsTrue (known_by known Second set) ↔ IsKnown spec quant Second set) → TellsKnown spec quant (known_by known)
tables_tell spec quant known first second Head set = ((λ h. absurd cc), (λ h. absurd (never_head h refl)))
tables_tell spec quant known first second First set = first set
tables_tell spec quant known first second Second set = second set
