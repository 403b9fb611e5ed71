-- The specification that a tree means, and the faults for which there is none.
use Rattle.std.specs.Prelude.{◌≡◌, ℕ, List, [], ◌∷◌}
use Rattle.dsr_ir.specs.declared.declarations.Spec.{Spec}
use Rattle.dsr_ir.specs.declared.declarations.Structures.{Structures}
use Rattle.dsr_tree.specs.Trees.{TreeShape}
use Rattle.dsr_tree.specs.declared.faults.Fault.{Fault}
use Rattle.dsr_language_theory.specs.Declarations.{declaration_faults}
use Rattle.dsr_syntax_theory.specs.Parsing.{IsTreeOf}
use Rattle.dsr_language_theory.specs.Tables.{tables}
use Rattle.dsr_language_theory.specs.Constraints.{constraints_faults}
use Rattle.dsr_language_theory.specs.Known.{known_in}
use Rattle.dsr_language_theory.specs.RuleFaults.{rules_faults}
use Rattle.dsr_language_theory.specs.TypedConstraints.{typed_constraints}
use Rattle.dsr_language_theory.specs.TypedRules.{typed_rules}

-- the faults of the first part that has any
abbrev pub first_of : List Fault → List Fault → List Fault
first_of [] later = later
first_of (fault ∷ faults) later = fault ∷ faults

-- declarations are asked first, then rules, then constraints
abbrev pub faults_over : Structures → TreeShape → List Fault
faults_over base t =
    first_of (rules_faults (known_in base) t.rules) (constraints_faults (known_in base) t.rules t.constraints)

abbrev pub specification_faults : TreeShape → List Fault
specification_faults t = first_of (declaration_faults t) (faults_over (tables t) t)

-- what a tree without faults means
abbrev pub specification_over : Structures → TreeShape → Spec
specification_over base t =
    record {
      base = base;
      rules = typed_rules (known_in base) t.rules;
      constraints = typed_constraints (known_in base) t.constraints;
    }

abbrev pub specification : TreeShape → Spec
specification t = specification_over (tables t) t

-- the text means the specification
pub record IsSpecificationOf (text : List ℕ) (spec : Spec) : Type 0 where
  pub tree : TreeShape
  pub is_tree : IsTreeOf text tree
  pub no_fault : specification_faults tree ≡ []
  pub is : spec ≡ specification tree
