-- Why a template breaks a constraint, by causes of which each stands once.
use Rattle.std.proofs.Common.{◌≡◌, ◌↔◌, ◌++◌, ◌&&◌, ℕ, IsTrue, Bool, true, false, nat_eq, All, List, [], ◌∷◌, Option, None, Some, IfSome, slice_get, refl, sym, ap, subst, ◌∙◌, arith}
use Rattle.std.specs.Prelude.{if◌then◌else◌}
use Rattle.std.specs.List.{flat_map}
use Rattle.std.proofs.lemmas.Bool.{false≢true, and_parts}
use Rattle.std.proofs.lemmas.Bool.Decides.{nat_tests}
use Rattle.std.proofs.lemmas.List.Elements.{All-head, All-tail}
use Rattle.dsr_graph_theory.specs.Breaks.{Breaks, IsFirstReason, MayBreakBy, MayFalsify, SomeUpdate, first, later, none}
use Rattle.dsr_graph_theory.specs.Causes.{constraint_causes, is_once, literal_causes, literals_of, quantifier_causes, symbol_of}
use Rattle.dsr_graph_theory.specs.declared.causes.Cause.{Cause}
use Rattle.dsr_graph_theory.specs.declared.causes.Reason.{Reason}
use Rattle.dsr_graph.proofs.Once.{of_once}
use Rattle.dsr_graph.specs.Told.{IsOfDeclared}
use Rattle.dsr_ir.specs.declared.constraints.Constraint.{Constraint}
use Rattle.dsr_ir.specs.declared.constraints.Literal.{Literal}
use Rattle.dsr_ir.specs.declared.constraints.Quant.{Quant}
use Rattle.dsr_ir.specs.declared.constraints.Quant.TheVariants.{Once, Each, Pairs}
use Rattle.dsr_ir.specs.declared.declarations.Structures.{Structures}
use Rattle.dsr_ir.specs.declared.updates.Template.{Template}
use Rattle.dsr_graph_theory.specs.Excuses.{MayHappen}
use Rattle.dsr_graph_theory.specs.Owners.{Owner}
use Rattle.dsr_meaning.specs.Counting.{IsIn}
use Rattle.dsr_update_theory.specs.Effects.{IsDeclared}
use Rattle.dsr_update_theory.specs.Templates.{AreOnce}

abbrev causes_by : Bool → Quant → List Literal → List Cause
causes_by own quant literals = quantifier_causes quant ++ (if own && is_once quant then [] else flat_map literal_causes literals)

no_causes : (quant : Quant) (literals : List Literal) → is_once quant ≡ true → causes_by true quant literals ≡ []
no_causes Once literals is = refl
no_causes (Each set) literals is = absurd (false≢true is)
no_causes (Pairs rel) literals is = absurd (false≢true is)

-- the constraint with its own number is itself
pub same_once : (owner : Owner) (n : ℕ) (its : Constraint) → slice_get owner.spec.constraints owner.number ≡ Some owner.constraint → slice_get owner.spec.constraints n ≡ Some its → (nat_eq owner.number n && is_once owner.constraint.quant) ≡ (nat_eq owner.number n && is_once its.quant)
same_once owner n its own there =
    elim (nat_eq owner.number n) as (λ t. nat_eq owner.number n ≡ t → (t && is_once owner.constraint.quant) ≡ (t && is_once its.quant)) [
      | true ↦ λ e.
          let same : owner.number ≡ n = grind (arith, nat_tests) in
          let both : Some owner.constraint ≡ Some its = sym own ∙ (ap (slice_get owner.spec.constraints) same ∙ there) in
          let is : owner.constraint ≡ its = cc in
          ap (λ c. is_once c.quant) is
      | false ↦ λ e. refl
    ] refl

-- a literal may turn false by what may turn it false
pub falsify_if : (owner : Owner) (template : Template) (literal : Literal) (causes : List Cause) (r : Bool) → causes ≡ literal_causes literal → IsTrue r ↔ ((cause : Cause) × IsIn cause causes × SomeUpdate owner template (λ c. MayHappen c cause.reason)) → IsTrue r ↔ MayFalsify owner template literal
falsify_if owner template literal causes r are decides = (
  λ t. let found = decides.0 t in record { cause = found.0; among = subst (IsIn found.0) are found.1; happens = found.2 },
  λ may. decides.1 (may.cause, subst (IsIn may.cause) (sym are) may.among, may.happens),
)

module _ (owner other : Owner) (template : Template) where
  abbrev pub Such : Cause → Type 0
  Such cause = SomeUpdate owner template (MayBreakBy owner other cause)

  -- its own updates break nothing where there is one binding
  pub own_once : (nat_eq owner.number other.number && is_once other.constraint.quant) ≡ true → Breaks owner other template None
  own_once both =
      let parts = and_parts (nat_eq owner.number other.number) (is_once other.constraint.quant) both in
      subst (λ causes. IsFirstReason Such causes None)
      (sym (ap (λ b. causes_by b other.constraint.quant (literals_of other.constraint)) parts.0 ∙ no_causes other.constraint.quant (literals_of other.constraint) parts.1))
      none

  -- otherwise the causes are those of any other constraint
  pub by_causes : (causes : List Cause) (reason : Option Reason) → (nat_eq owner.number other.number && is_once other.constraint.quant) ≡ false → AreOnce [] (constraint_causes false other.constraint) causes → IsFirstReason Such causes reason → Breaks owner other template reason
  by_causes causes reason neither once its =
      subst (λ all. IsFirstReason Such all reason)
      (sym (ap (λ b. quantifier_causes other.constraint.quant ++ (if b then [] else flat_map literal_causes (literals_of other.constraint))) neither))
      (of_once Such reason once its)

-- the reason is of a declared set or relation where all causes are
pub first_declared : (Such : Cause → Type 0) (base : Structures) (causes : List Cause) (reason : Option Reason) → IsFirstReason Such causes reason → All (IsOfDeclared base) causes → IfSome reason (λ r. IsDeclared base (symbol_of r))
first_declared Such base [] _ none all = tt
first_declared Such base (cause ∷ causes) _ (first its such) all = All-head (IsOfDeclared base) cause causes all
first_declared Such base (cause ∷ causes) reason (later its not_such rest) all = first_declared Such base causes reason rest (All-tail (IsOfDeclared base) cause causes all)
