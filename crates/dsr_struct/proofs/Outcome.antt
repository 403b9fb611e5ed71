-- What the fault that a check found, or that it found none, says of a tree.
use Rattle.std.proofs.Common.{◌≡◌, [], All, Option, None, Some, sym, ap, ◌∙◌, subst}
use Rattle.dsr_tree.specs.Trees.{TreeShape}
use Rattle.dsr_tree.specs.declared.faults.Fault.{Fault}
use Rattle.dsr_language_theory.specs.Declarations.{declaration_faults, faults_with}
use Rattle.dsr_language_theory.specs.Faults.{IsToldOf}
use Rattle.dsr_language_theory.specs.Names.{Names, names_of}
use Rattle.dsr_struct.specs.Known.{AllFit, HasLegalWidths}
use Rattle.dsr_names.specs.Telling.{told_after, Finds}
use Rattle.dsr_struct.proofs.Faultless.{faultless}
use Rattle.dsr_names.proofs.Least.{told, none_told}

module _ (t : TreeShape) (names : Names) (known : names ≡ names_of t) (found : Option Fault) (finds : Finds (faults_with names) None found) where
  -- what was found is what is told of all faults
  found_is : told_after None (declaration_faults t) ≡ found
  found_is = sym (finds.is ∙ ap (λ n. told_after None (faults_with n)) known)

  -- a fault that was found is told
  pub fault_told : (f : Fault) → found ≡ Some f → IsToldOf (declaration_faults t) f
  fault_told f e = told (declaration_faults t) f (found_is ∙ e)

  -- where none was found, none is there, so numbers fit and widths are legal
  pub no_fault : found ≡ None → declaration_faults t ≡ []
  no_fault e = none_told (declaration_faults t) (found_is ∙ e)

  pub numbers_fit : found ≡ None → AllFit names
  numbers_fit e = subst AllFit (sym known) (faultless t (no_fault e)).fit

  pub widths_legal : found ≡ None → All HasLegalWidths t.structures
  widths_legal e = (faultless t (no_fault e)).legal
