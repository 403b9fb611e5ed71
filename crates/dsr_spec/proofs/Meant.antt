-- What a tree, or that there is none, says of a text.
use Rattle.std.proofs.Common.{◌≡◌, ◌≢◌, ◌∙◌, ℕ, List, [], Option, None, Some, Result, Ok, Err, IfOk, IfNone, IfSome, ap, refl, subst}
use Rattle.dsr_names.specs.FaultsTold.{Tells}
use Rattle.dsr_names.specs.declared.refusals.SpecFault.{SpecFault}
use Rattle.dsr_names.specs.declared.refusals.SpecFault.TheVariants.{At, NoMemory}
use Rattle.dsr_ir.specs.declared.declarations.Spec.{Spec}
use Rattle.dsr_meaning.specs.Counting.{IsIn}
use Rattle.dsr_parse.proofs.TreesOnce.{tree_unique}
use Rattle.dsr_syntax_theory.specs.Parsing.{IsTreeOf}
use Rattle.dsr_syntax_theory.specs.Sentences.{IsSpecText}
use Rattle.dsr_tree.specs.Trees.{TreeShape}
use Rattle.dsr_tree.specs.declared.faults.Fault.{Fault}
use Rattle.dsr_language_theory.specs.Specifications.{IsSpecificationOf, specification, specification_faults}

-- a list of which a fault is told isn't empty
pub told_of_some : (faults : List Fault) (fault : SpecFault) → Tells faults fault → fault ≢ NoMemory → faults ≢ []
told_of_some faults (At kind place) told known = λ e. subst (IsIn (record { place = place; condition = told.0 })) e told.2.held
told_of_some faults NoMemory told known = absurd (known refl)

-- what follows where nothing was found
none_then : {A : Type 0} {P Q : Type 0} (o : Option A) → IfNone o P → (P → Q) → IfNone o Q
none_then None h f = f h
none_then (Some x) h f = tt

-- a text that has no tree means nothing
pub no_tree : (text : List ℕ) → (IsSpecText text → ⊥) → (spec : Spec) → IsSpecificationOf text spec → ⊥
no_tree text none spec is = none (record { lexemes = is.is_tree.lexemes; lexed = is.is_tree.lexed; sentence = is.is_tree.sentence })

module _ (text : List ℕ) (tree : TreeShape) (is_tree : IsTreeOf text tree) where
  -- the text means what its tree means
  pub tree_means : {E : Type 0} (read : Result (Option Spec) E) → IfOk read (λ o. IfSome o (λ _. specification_faults tree ≡ [])) → IfOk read (λ o. IfSome o (λ s. s ≡ specification tree)) → IfOk read (λ o. IfSome o (IsSpecificationOf text))
  tree_means (Ok (Some s)) no_fault is = record { tree = tree; is_tree = is_tree; no_fault = no_fault; is = is }
  tree_means (Ok None) no_fault is = tt
  tree_means (Err e) no_fault is = tt

  -- a tree that has faults means nothing, and it is the only one
  faulty : specification_faults tree ≢ [] → (spec : Spec) → IsSpecificationOf text spec → ⊥
  faulty some spec is = some (ap specification_faults (tree_unique text tree is.tree is_tree is.is_tree) ∙ is.no_fault)

  pub tree_means_none : {E : Type 0} (read : Result (Option Spec) E) → IfOk read (λ o. IfNone o (specification_faults tree ≢ [])) → IfOk read (λ o. IfNone o ((spec : Spec) → IsSpecificationOf text spec → ⊥))
  tree_means_none (Ok o) h = none_then o h faulty
  tree_means_none (Err e) h = tt
