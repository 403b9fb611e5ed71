-- By a plan some conjunction's tests are passed, and of a violated constraint some literal there can be repaired.
use Rattle.std.proofs.Common.{◌≡◌, ◌⊎◌, ℕ, Bool, true, false, not, IsTrue, List, [], All, Option, None, Some, inl, inr, refl, sym, ap, subst, ◌∙◌, slice_get, get_or, arith, if◌then◌else◌}
use Rattle.std.specs.Option.{option_and_then, option_map_or}
use Rattle.std.proofs.lemmas.Bool.{false≢true}
use Rattle.std.proofs.lemmas.Option.{slice_get-get_or, slice_get_within}
use Rattle.dsr_repair.specs.Chosen.{AreDecided}
use Rattle.dsr_repair.specs.Literals.{IsFalseAt, IsFirstFalse, IsFirstPassing, NoneIsFalse, NonePasses, Passes, ways_at}
use Rattle.dsr_ir.specs.declared.constraints.Atom.{Atom}
use Rattle.dsr_ir.specs.declared.constraints.Conj.{Conj}
use Rattle.dsr_ir.specs.declared.constraints.Constraint.{Constraint}
use Rattle.dsr_ir.specs.declared.constraints.Literal.{Literal}
use Rattle.dsr_ir.specs.declared.declarations.Spec.{Spec}
use Rattle.dsr_ir.specs.declared.tuples.Binding.{Binding}
use Rattle.dsr_ir.specs.declared.tuples.Fact.{Fact}
use Rattle.dsr_ir.specs.declared.updates.Template.{Template}
use Rattle.dsr_meaning.specs.Consistency.{BoundConstraint, ConjHolds}
use Rattle.dsr_meaning.specs.Truth.{LiteralHolds}
use Rattle.dsr_meaning.proofs.Firing.{found_fits}
use Rattle.dsr_plan_theory.specs.Plans.{IsPlan, IsRowOf, Truth, comes_out, way_at}
use Rattle.dsr_plan_theory.specs.declared.choices.Choice.{Choice}
use Rattle.dsr_plan_theory.specs.declared.choices.Row.{Row}
use Rattle.dsr_plan_theory.specs.declared.choices.Way.{Way}
use Rattle.dsr_plan_theory.specs.declared.choices.Way.TheVariants.{Test, By}
use Rattle.dsr_repair_theory.specs.Due.{IsDue, IsDueBinding, IsDueConj, IsDueLiteral, IsToRepair, TestsHold}
use Rattle.dsr_update_theory.specs.Templates.{literal_at}

-- ---- a way of a row, by the ways of its conjunction

way_among : (ways : Option (List Way)) (n : ℕ) → option_and_then (λ ws. slice_get ws n) ways ≡ slice_get (option_map_or (λ ws. ws) ways []) n
way_among None n = refl
way_among (Some ways) n = refl

pub way_of : (row : Row) (place n : ℕ) → way_at row place n ≡ slice_get (ways_at row place) n
way_of row place n = way_among (slice_get row.ways place) n

pub literal_of :
    (constraint : Constraint) (place n : ℕ) (conj : Conj) → slice_get constraint.conjs place ≡ Some conj
    → literal_at constraint place n ≡ slice_get conj.literals n
literal_of constraint place n conj at = ap (option_and_then (λ l. slice_get l.literals n)) at

-- ---- what is true, as a test of atoms

abbrev positive : Atom → Literal
positive atom = record { atom = atom; negated = false; given = false }

module _ (is_fact : Fact → Type 0) (b : Binding) (decided : AreDecided is_fact) where
  abbrev tells : {A : Type 0} → A ⊎ (A → ⊥) → Bool
  tells (inl holds) = true
  tells (inr fails) = false

  abbrev truth : Truth
  truth atom = tells (decided b (record { atom = atom; negated = false; given = false }))

  told_true : {A : Type 0} (d : A ⊎ (A → ⊥)) → IsTrue (tells d) → A
  told_true (inl holds) is = holds
  told_true (inr fails) is = absurd (false≢true is)

  told_false : {A : Type 0} (d : A ⊎ (A → ⊥)) → IsTrue (not (tells d)) → A → ⊥
  told_false (inl holds) is a = absurd (false≢true is)
  told_false (inr fails) is a = fails a

  out_true :
      (negated : Bool) (atom : Atom) (given : Bool)
      → IsTrue (if negated then not (truth atom) else truth atom)
      → LiteralHolds is_fact b (record { atom = atom; negated = negated; given = given })
  out_true false atom given is = told_true (decided b (positive atom)) is
  out_true true atom given is = told_false (decided b (positive atom)) is

  holds_out : (its : Literal) → IsTrue (comes_out truth its) → LiteralHolds is_fact b its
  holds_out its is = out_true its.negated its.atom its.given is

  module _ (spec : Spec) (choice : Choice) (plan : IsPlan spec choice) (number : ℕ) (constraint : Constraint) (row : Row)
      (row_of : IsRowOf spec choice number constraint row) where
    -- some conjunction's tests are passed
    pub some_passes : NonePasses is_fact b constraint row → ⊥
    some_passes none =
        let some = plan.covers number constraint row row_of truth in
        none some.number some.conj some.conj_is (λ n its at tested.
        holds_out its (some.passes n its at (way_of row some.number n ∙ tested)))

    holds_by_way :
        (conj : Conj) (place n : ℕ) (its : Literal) (way : Way) → slice_get conj.literals n ≡ Some its
        → slice_get (ways_at row place) n ≡ Some way
        → Passes is_fact b constraint row place conj → NoneIsFalse is_fact b conj.literals (ways_at row place)
        → LiteralHolds is_fact b its
    holds_by_way conj place n its Test at way passes none = passes n its at way
    holds_by_way conj place n its (By k template) at way passes none = elim (decided b its) [
      | inl holds ↦ holds
      | inr fails ↦ absurd (none n its template (record { number = k; literal_is = at; way_is = way; is_false = fails }))
    ]

    -- where none can be repaired, all are true
    all_hold :
        (conj : Conj) (place : ℕ) → slice_get constraint.conjs place ≡ Some conj
        → Passes is_fact b constraint row place conj → NoneIsFalse is_fact b conj.literals (ways_at row place)
        → ConjHolds is_fact b conj
    all_hold conj place there passes none = λ n d below.
        let at = slice_get-get_or conj.literals n d below in
        let its = get_or conj.literals n d in
        let way = (plan.ways number constraint row row_of).ways place n its (literal_of constraint place n conj there ∙ at) in
        holds_by_way conj place n its way.0 at (sym (way_of row place n) ∙ way.1) passes none

    -- of a violated constraint some literal of the conjunction can be repaired
    pub some_false :
        (conj : Conj) (place : ℕ) (ways : List Way) → All (λ c. ConjHolds is_fact b c → ⊥) constraint.conjs
        → IsFirstPassing is_fact b constraint row place conj ways → NoneIsFalse is_fact b conj.literals ways → ⊥
    some_false conj place ways violated first none =
        found_fits (λ c. ConjHolds is_fact b c → ⊥) constraint.conjs place conj violated first.conj_is
        (all_hold conj place first.conj_is first.passes
        (subst (NoneIsFalse is_fact b conj.literals) first.ways_are none))

-- ---- the literal that is due

tests_hold :
    (is_fact : Fact → Type 0) (b : Binding) (constraint : Constraint) (row : Row) (place : ℕ) (conj : Conj)
    → slice_get constraint.conjs place ≡ Some conj → Passes is_fact b constraint row place conj
    → TestsHold is_fact b constraint row place
tests_hold is_fact b constraint row place conj there passes n its at tested =
    passes n its (sym (literal_of constraint place n conj there) ∙ at) (sym (way_of row place n) ∙ tested)

tests_passed :
    (is_fact : Fact → Type 0) (b : Binding) (constraint : Constraint) (row : Row) (place : ℕ) (conj : Conj)
    → slice_get constraint.conjs place ≡ Some conj → TestsHold is_fact b constraint row place
    → Passes is_fact b constraint row place conj
tests_passed is_fact b constraint row place conj there holds n its at tested =
    holds n its (literal_of constraint place n conj there ∙ at) (way_of row place n ∙ tested)

module _ (is_fact : Fact → Type 0) (b : Binding) (constraint : Constraint) (row : Row) (place : ℕ) (conj : Conj) (ways : List Way)
    (first : IsFirstPassing is_fact b constraint row place conj ways) where
  due_conj : IsDueConj is_fact b constraint row place
  due_conj = record {
    there = slice_get_within constraint.conjs place conj first.conj_is;
    tests = tests_hold is_fact b constraint row place conj first.conj_is first.passes;
    none_before = λ earlier less holds.
        let within = slice_get_within constraint.conjs place conj first.conj_is in
        let at = slice_get-get_or constraint.conjs earlier conj (omega (arith, less, within)) in
        first.none_before earlier (get_or constraint.conjs earlier conj) less at
        (tests_passed is_fact b constraint row earlier (get_or constraint.conjs earlier conj) at holds);
  }

  module _ (n : ℕ) (its : Literal) (template : Template) where
    to_repair : IsFalseAt is_fact b conj.literals ways n its template → IsToRepair is_fact b constraint row place n its template
    to_repair is = record {
      literal_is = literal_of constraint place n conj first.conj_is ∙ is.literal_is;
      template_is = record {
        number = is.number;
        way_is = way_of row place n ∙ (ap (λ ws. slice_get ws n) (sym first.ways_are) ∙ is.way_is);
      };
      is_false = is.is_false;
    }

    repaired : IsToRepair is_fact b constraint row place n its template → IsFalseAt is_fact b conj.literals ways n its template
    repaired is = record {
      number = is.template_is.number;
      literal_is = sym (literal_of constraint place n conj first.conj_is) ∙ is.literal_is;
      way_is = ap (λ ws. slice_get ws n) first.ways_are ∙ (sym (way_of row place n) ∙ is.template_is.way_is);
      is_false = is.is_false;
    }

  due_literal :
      (n : ℕ) (its : Literal) (template : Template) → IsFirstFalse is_fact b conj.literals ways n its template
      → IsDueLiteral is_fact b constraint row place n its template
  due_literal n its template is = record {
    repaired = to_repair n its template is.is;
    none_before = λ earlier other by less again. is.none_before earlier other by less (repaired earlier other by again);
  }

pub all_due :
    (is_fact : Fact → Type 0) (spec : Spec) (choice : Choice) (v : BoundConstraint) (constraint : Constraint) (row : Row)
    (place : ℕ) (conj : Conj) (ways : List Way) (n : ℕ) (its : Literal) (template : Template)
    → IsDueBinding is_fact spec choice v constraint row
    → IsFirstPassing is_fact v.binding constraint row place conj ways
    → IsFirstFalse is_fact v.binding conj.literals ways n its template
    → IsDue is_fact spec choice v place n its template
all_due is_fact spec choice v constraint row place conj ways n its template binding first is = record {
  constraint = constraint;
  row = row;
  binding_is = binding;
  conj_is = due_conj is_fact v.binding constraint row place conj ways first;
  literal_is = due_literal is_fact v.binding constraint row place conj ways first n its template is;
}
