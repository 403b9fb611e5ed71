-- What a fault of rules or of constraints, or that there is none, says of a tree.
use Rattle.std.proofs.Common.{◌≡◌, List, [], ◌∷◌, sym, subst}
use Rattle.dsr_ir.specs.declared.constraints.Constraint.{Constraint}
use Rattle.dsr_ir.specs.declared.declarations.Structures.{Structures}
use Rattle.dsr_ir.specs.declared.rules.Rule.{Rule}
use Rattle.dsr_tree.specs.Trees.{TreeShape}
use Rattle.dsr_tree.specs.declared.faults.Fault.{Fault}
use Rattle.dsr_meaning.specs.Typed.{AreTyped, IsTyped}
use Rattle.dsr_language_theory.specs.Declarations.{declaration_faults}
use Rattle.dsr_language_theory.specs.Tables.{tables}
use Rattle.dsr_language_theory.specs.Constraints.{constraints_faults}
use Rattle.dsr_language_theory.specs.Known.{known_in}
use Rattle.dsr_language_theory.specs.RuleFaults.{rules_faults}
use Rattle.dsr_language_theory.specs.Specifications.{first_of, faults_over, specification_faults, specification_over}
use Rattle.dsr_language_theory.specs.TypedConstraints.{typed_constraints}
use Rattle.dsr_language_theory.specs.TypedRules.{typed_rules}
use Rattle.dsr_language_laws.proofs.TypedConstraints.{constraints_are_typed, few_constraints, names_differ}
use Rattle.dsr_language_laws.proofs.TypedRules.{rules_are_typed, few_rules}
use Rattle.dsr_names.specs.FaultsTold.{Tells}
use Rattle.dsr_names.specs.declared.refusals.SpecFault.{SpecFault}
use Rattle.dsr_names.specs.declared.refusals.SpecFault.TheVariants.{At, NoMemory}

-- a fault of the first of two parts is told of both
tells_first : (xs ys : List Fault) (f : SpecFault) → Tells xs f → Tells (first_of xs ys) f
tells_first [] ys (At kind place) t = absurd t.2.held
tells_first [] ys NoMemory t = tt
tells_first (x ∷ xs) ys f t = t

-- one of the second part is told where the first has none
tells_later : (xs ys : List Fault) (f : SpecFault) → xs ≡ [] → Tells ys f → Tells (first_of xs ys) f
tells_later xs ys f e t = subst (λ zs. Tells (first_of zs ys) f) (sym e) t

module _ (t : TreeShape) (base : Structures) (no_fault : declaration_faults t ≡ []) (is : base ≡ tables t) where
  over_told : (f : SpecFault) → Tells (faults_over base t) f → Tells (specification_faults t) f
  over_told f h = tells_later (declaration_faults t) (faults_over (tables t) t) f no_fault (subst (λ b. Tells (faults_over b t) f) is h)

  pub rules_told : (f : SpecFault) → Tells (rules_faults (known_in base) t.rules) f → Tells (specification_faults t) f
  rules_told f h = over_told f (tells_first (rules_faults (known_in base) t.rules) (constraints_faults (known_in base) t.rules t.constraints) f h)

  pub constraints_told : (f : SpecFault) → rules_faults (known_in base) t.rules ≡ [] → Tells (constraints_faults (known_in base) t.rules t.constraints) f → Tells (specification_faults t) f
  constraints_told f e h = over_told f (tells_later (rules_faults (known_in base) t.rules) (constraints_faults (known_in base) t.rules t.constraints) f e h)

-- what has no fault is typed
pub typed_over : (t : TreeShape) (base : Structures) (rules : List Rule) (constraints : List Constraint) → AreTyped base → rules_faults (known_in base) t.rules ≡ [] → constraints_faults (known_in base) t.rules t.constraints ≡ [] → rules ≡ typed_rules (known_in base) t.rules → constraints ≡ typed_constraints (known_in base) t.constraints → IsTyped (record { base = base; rules = rules; constraints = constraints })
typed_over t base rules constraints typed no_rule no_constraint r c =
    let all : IsTyped (specification_over base t) = record {
      base = typed;
      few_rules = few_rules base t.rules no_rule;
      rules = rules_are_typed base t.rules no_rule;
      few_constraints = few_constraints base t.rules t.constraints no_constraint;
      constraints = constraints_are_typed base typed t.rules t.constraints no_rule no_constraint;
      constraint_names = names_differ base t.rules t.constraints no_constraint;
    } in
    subst IsTyped (λ i. record { base = base; rules = sym r i; constraints = sym c i }) all
