-- The specification of rules and constraints over tables of declarations.
use Rattle.std.specs.Prelude.{List}
use Rattle.dsr_ir.specs.declared.declarations.Spec.{Spec}
use Rattle.dsr_ir.specs.declared.declarations.Structures.{Structures}
use Rattle.dsr_tree.specs.Trees.{ConstraintTree}
use Rattle.dsr_tree.specs.declared.tree.Rule.{Rule}
use Rattle.dsr_language_theory.specs.Known.{known_in}
use Rattle.dsr_language_theory.specs.TypedConstraints.{typed_constraints}
use Rattle.dsr_language_theory.specs.TypedRules.{typed_rules}

abbrev pub meant : Structures → List Rule → List ConstraintTree → Spec
meant base rules constraints =
    record {
      base = base;
      rules = typed_rules (known_in base) rules;
      constraints = typed_constraints (known_in base) constraints;
    }
