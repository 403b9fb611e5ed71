-- Each of the nine constraints is violated on the image, where its literal is false.
use Rattle.std.proofs.Common.{◌≡◌, ◌≤◌, ◌∙◌, ℕ, Bool, true, false, List, [], ◌∷◌, length, All, Some, inl, inr, refl, sym, subst, arith}
use Rattle.std.proofs.lemmas.List.Elements.{All-nil, All-cons, All-head}
use Rattle.std.specs.Prelude.{slice_get}
use Rattle.dsr_ir.specs.declared.constraints.Atom.{Atom}
use Rattle.dsr_ir.specs.declared.constraints.Atom.TheVariants as atoms
use Rattle.dsr_ir.specs.declared.constraints.Bound.TheVariants as bounds
use Rattle.dsr_ir.specs.declared.constraints.Conj.{Conj}
use Rattle.dsr_ir.specs.declared.constraints.Constraint.{Constraint}
use Rattle.dsr_ir.specs.declared.constraints.Literal.{Literal}
use Rattle.dsr_ir.specs.declared.constraints.Measure.TheVariants.{Whole, Out}
use Rattle.dsr_ir.specs.declared.constraints.Var.TheVariants.{First}
use Rattle.dsr_ir.specs.declared.rules.Op.TheVariants.{Eq, Le, Ge}
use Rattle.dsr_ir.specs.declared.tuples.Binding.{Binding}
use Rattle.dsr_ir.specs.declared.tuples.Binding.TheVariants.{Once, Each}
use Rattle.dsr_ir.specs.declared.tuples.Element.{Element}
use Rattle.dsr_ir.specs.declared.tuples.Fact.{Fact}
use Rattle.dsr_ir.specs.declared.tuples.Fact.TheVariants.{Member, Pair}
use Rattle.dsr_ir.specs.declared.tuples.Target.{Target}
use Rattle.dsr_ir.specs.declared.tuples.Target.TheVariants.{Elem}
use Rattle.dsr_meaning.specs.Consistency.{ConjHolds, IsBinding, IsViolated}
use Rattle.dsr_meaning.specs.Counting.{AreMany, IsIn}
use Rattle.dsr_meaning.specs.Models.{IsFact}
use Rattle.dsr_meaning.specs.Truth.{LiteralHolds}
use Rattle.dsr_step_laws.proofs.Constraints.{constraint_0, constraint_1, constraint_2, constraint_3, constraint_4, constraint_5, constraint_6, constraint_7, constraint_8}
use Rattle.dsr_step_laws.proofs.Given.{example, image, layout, slot}
use Rattle.dsr_step_laws.proofs.Model.{derived, in_first, in_marked, in_model, in_second, slots_differ, to_itself, value_of_first}

-- the facts of the image
abbrev pub IsTrueNow : Fact → Type 0
IsTrueNow = IsFact example layout image

-- ---- sizes

-- A has two members at least
pub two_members : (n : ℕ) → AreMany (λ e. IsTrueNow (Member 0 e)) n → 2 ≤ n
two_members n many = by_list many.things many.counted (many.enumerated.all (slot 0) (derived in_first)) (many.enumerated.all (slot 1) (derived in_second)) where
  by_list : (xs : List Element) → length xs ≡ n → IsIn (slot 0) xs → IsIn (slot 1) xs → 2 ≤ n
  by_list [] counted a b = absurd a
  by_list (x ∷ []) counted (inl a) (inl b) = absurd (slots_differ (a ∙ sym b))
  by_list (x ∷ []) counted (inl a) (inr b) = absurd b
  by_list (x ∷ []) counted (inr a) b = absurd a
  by_list (x ∷ y ∷ zs) counted a b = omega (arith, counted)

-- slot 0 has no target under N
pub no_target : (t : Target) → IsTrueNow (Pair 0 (slot 0) t) → ⊥
no_target t fact = slots_differ (in_model (Pair 0 (slot 0) t) fact).0

pub no_targets : (n : ℕ) → AreMany (λ t. IsTrueNow (Pair 0 (slot 0) t)) n → n ≡ 0
no_targets n many = by_list many.things many.counted many.enumerated.only where
  by_list : (xs : List Target) → length xs ≡ n → ((t : Target) → IsIn t xs → IsTrueNow (Pair 0 (slot 0) t)) → n ≡ 0
  by_list [] counted only = sym counted
  by_list (t ∷ ts) counted only = absurd (no_target t (only t (inl refl)))

-- ---- a constraint of one literal

-- its only literal
abbrev pub literal_of : Atom → Bool → Literal
literal_of atom negated = record { atom = atom; negated = negated; given = false }

abbrev pub one_literal : Literal → List Conj
one_literal literal = record { literals = literal ∷ [] } ∷ []

abbrev pub IsFalseNow : Binding → Literal → Type 0
IsFalseNow b literal = LiteralHolds IsTrueNow b literal → ⊥

pub none_holds : (conjs : List Conj) (b : Binding) (literal : Literal) → conjs ≡ one_literal literal → IsFalseNow b literal → All (λ conj. ConjHolds IsTrueNow b conj → ⊥) conjs
none_holds conjs b literal same is_false =
    subst (All (λ conj. ConjHolds IsTrueNow b conj → ⊥)) (sym same)
    (All-cons (λ conj. ConjHolds IsTrueNow b conj → ⊥) (record { literals = literal ∷ [] }) []
    (λ holds. is_false (All-head (LiteralHolds IsTrueNow b) literal [] holds)) (All-nil (λ conj. ConjHolds IsTrueNow b conj → ⊥)))

-- it is violated where the literal is false
abbrev pub violated : (number : ℕ) (constraint : Constraint) (b : Binding) (literal : Literal) → slice_get example.constraints number ≡ Some constraint → constraint.conjs ≡ one_literal literal → IsBinding IsTrueNow constraint.quant b → IsFalseNow b literal → IsViolated IsTrueNow example (record { constraint = number; binding = b })
violated number constraint b literal declared conjs is_binding is_false = record {
  constraint = constraint;
  declared = declared;
  is_binding = is_binding;
  no_conjunction = none_holds constraint.conjs b literal conjs is_false;
}

-- ---- the literals, by the numbers of their constraints

abbrev pub literal_0 : Literal
literal_0 = literal_of (atoms.Member First 1) false

abbrev pub literal_1 : Literal
literal_1 = literal_of (atoms.Pair First First 0) false

abbrev pub literal_2 : Literal
literal_2 = literal_of (atoms.Pair First First 0) true

abbrev pub literal_3 : Literal
literal_3 = literal_of (atoms.Value First 1 Eq (bounds.Num 1)) false

abbrev pub literal_4 : Literal
literal_4 = literal_of (atoms.Count (Whole 0) Le 1) false

abbrev pub literal_5 : Literal
literal_5 = literal_of (atoms.Count (Out First 0) Ge 1) false

abbrev pub literal_6 : Literal
literal_6 = literal_of (atoms.Count (Out First 0) Eq 1) false

abbrev pub literal_7 : Literal
literal_7 = literal_of (atoms.Count (Whole 0) Eq 1) false

abbrev pub literal_8 : Literal
literal_8 = literal_of (atoms.Member First 1) true

-- ---- each is false at the binding

-- slot 0 isn't in B
pub false_0 : IsFalseNow (Each (slot 0)) literal_0
false_0 holds = slots_differ (in_model (Member 1 (slot 0)) holds)

-- slot 0 isn't related to itself, and slot 1 is
pub false_1 : IsFalseNow (Each (slot 0)) literal_1
false_1 holds = no_target (Elem (slot 0)) holds

pub false_2 : IsFalseNow (Each (slot 1)) literal_2
false_2 holds = holds (derived to_itself)

-- the value of slot 0 is 0
pub false_3 : IsFalseNow (Each (slot 0)) literal_3
false_3 holds = let zero_is = holds.2 0 (derived value_of_first) in let bound = holds.1 in omega (arith, zero_is, bound)

-- A has two members, and slot 0 no target
pub false_4 : IsFalseNow Once literal_4
false_4 holds = let many = two_members holds.0 holds.1 in let few = holds.2 in omega (arith, many, few)

pub false_5 : IsFalseNow (Each (slot 0)) literal_5
false_5 holds = let none = no_targets holds.0 holds.1 in let some = holds.2 in omega (arith, none, some)

pub false_6 : IsFalseNow (Each (slot 0)) literal_6
false_6 holds = let none = no_targets holds.0 holds.1 in let one = holds.2 in omega (arith, none, one)

pub false_7 : IsFalseNow Once literal_7
false_7 holds = let many = two_members holds.0 holds.1 in let one = holds.2 in omega (arith, many, one)

-- slot 1 is in B
pub false_8 : IsFalseNow (Each (slot 1)) literal_8
false_8 holds = holds (derived in_marked)

-- ---- so each constraint is violated there

-- a binding of `Once` is always one, and one of `Each A` is a member of A
abbrev pub violated_0 : IsViolated IsTrueNow example (record { constraint = 0; binding = Each (slot 0) })
violated_0 = violated 0 constraint_0 (Each (slot 0)) literal_0 refl refl (derived in_first) false_0

abbrev pub violated_1 : IsViolated IsTrueNow example (record { constraint = 1; binding = Each (slot 0) })
violated_1 = violated 1 constraint_1 (Each (slot 0)) literal_1 refl refl (derived in_first) false_1

abbrev pub violated_2 : IsViolated IsTrueNow example (record { constraint = 2; binding = Each (slot 1) })
violated_2 = violated 2 constraint_2 (Each (slot 1)) literal_2 refl refl (derived in_second) false_2

abbrev pub violated_3 : IsViolated IsTrueNow example (record { constraint = 3; binding = Each (slot 0) })
violated_3 = violated 3 constraint_3 (Each (slot 0)) literal_3 refl refl (derived in_first) false_3

abbrev pub violated_4 : IsViolated IsTrueNow example (record { constraint = 4; binding = Once })
violated_4 = violated 4 constraint_4 Once literal_4 refl refl tt false_4

abbrev pub violated_5 : IsViolated IsTrueNow example (record { constraint = 5; binding = Each (slot 0) })
violated_5 = violated 5 constraint_5 (Each (slot 0)) literal_5 refl refl (derived in_first) false_5

abbrev pub violated_6 : IsViolated IsTrueNow example (record { constraint = 6; binding = Each (slot 0) })
violated_6 = violated 6 constraint_6 (Each (slot 0)) literal_6 refl refl (derived in_first) false_6

abbrev pub violated_7 : IsViolated IsTrueNow example (record { constraint = 7; binding = Once })
violated_7 = violated 7 constraint_7 Once literal_7 refl refl tt false_7

abbrev pub violated_8 : IsViolated IsTrueNow example (record { constraint = 8; binding = Each (slot 1) })
violated_8 = violated 8 constraint_8 (Each (slot 1)) literal_8 refl refl (derived in_second) false_8
