-- Where the same is a fact, the same is due and the same is chosen.
use Rattle.std.proofs.Common.{◌≡◌, ℕ, List, Option, None, Some, IfSome, IsSomeAnd, MatchOption, inl, inr}
use Rattle.dsr_repair_theory.specs.Choices.{Adds, CountsNothing, IsFresh, IsFreshFrom, IsNumberFor, IsOutside, IsToGo, written_size}
use Rattle.dsr_repair.specs.Chosen.{AreDecided}
use Rattle.dsr_repair.specs.Cursors.{AreSatisfiedBefore, IsCursor}
use Rattle.dsr_repair.specs.Supplies.{IsUsed}
use Rattle.dsr_repair.specs.Violations.{bound_of}
use Rattle.dsr_repair.specs.declared.bindings.Violation.{Violation}
use Rattle.dsr_repair.specs.declared.cursors.Cursor.{Cursor}
use Rattle.dsr_ir.specs.declared.constraints.Atom.{Atom}
use Rattle.dsr_ir.specs.declared.constraints.Atom.TheVariants as atoms
use Rattle.dsr_ir.specs.declared.constraints.Constraint.{Constraint}
use Rattle.dsr_ir.specs.declared.constraints.Literal.{Literal}
use Rattle.dsr_ir.specs.declared.constraints.Measure.{Measure}
use Rattle.dsr_ir.specs.declared.declarations.Pool.{Pool}
use Rattle.dsr_ir.specs.declared.declarations.Spec.{Spec}
use Rattle.dsr_ir.specs.declared.layouts.Layout.{Layout}
use Rattle.dsr_ir.specs.declared.tuples.Binding.{Binding}
use Rattle.dsr_ir.specs.declared.tuples.Element.{Element}
use Rattle.dsr_ir.specs.declared.tuples.Fact.{Fact}
use Rattle.dsr_ir.specs.declared.tuples.Fact.TheVariants.{Member}
use Rattle.dsr_ir.specs.declared.updates.Goal.{Goal}
use Rattle.dsr_ir.specs.declared.updates.Goal.TheVariants as goals
use Rattle.dsr_ir.specs.declared.updates.Template.{Template}
use Rattle.dsr_ir.specs.declared.updates.Write.{Write}
use Rattle.dsr_meaning.specs.Consistency.{AreSatisfied, BoundConstraint}
use Rattle.dsr_meaning.specs.Truth.{HasSize}
use Rattle.dsr_meaning.specs.Typed.{pool_at}
use Rattle.dsr_plan_theory.specs.declared.choices.Choice.{Choice}
use Rattle.dsr_plan_theory.specs.declared.choices.Row.{Row}
use Rattle.dsr_repair_theory.specs.Due.{IsDue, IsDueBinding, IsDueConj, IsDueLiteral, IsToRepair, TestsHold}
use Rattle.dsr_repair_theory.specs.Turns.{IsUsedUp}
use Rattle.dsr_fixpoint.proofs.SameFacts.{AreSame, literal_same, size_same, violated_same}
use Rattle.dsr_step_theory.specs.Steps.{IsSlot}

module _ (P Q : Fact → Type 0) (same : AreSame P Q) where
  abbrev back : AreSame Q P
  back = λ fact. ((same fact).1, (same fact).0)

  -- ---- what is due

  pub satisfied : (spec : Spec) → AreSatisfied P spec → AreSatisfied Q spec
  satisfied spec none v violated = none v (violated_same Q P back spec v violated)

  -- the same cursor may be gone on from
  pub cursor_same : (spec : Spec) (choice : Choice) (cursor : Cursor) → IsCursor P spec choice cursor → IsCursor Q spec choice cursor
  cursor_same spec choice cursor is = record { ordered = is.ordered; before = before cursor.last is.before } where
    before : (last : Option Violation) → IfSome last (λ l. AreSatisfiedBefore P spec choice (bound_of l))
        → IfSome last (λ l. AreSatisfiedBefore Q spec choice (bound_of l))
    before None none = tt
    before (Some l) satisfied = λ w earlier violated. satisfied w earlier (violated_same Q P back spec w violated)

  due_binding :
      (spec : Spec) (choice : Choice) (v : BoundConstraint) (constraint : Constraint) (row : Row)
      → IsDueBinding P spec choice v constraint row → IsDueBinding Q spec choice v constraint row
  due_binding spec choice v constraint row is = record {
    row_of = is.row_of;
    violated = violated_same P Q same spec v is.violated;
    lowest = λ w other violated at. is.lowest w other (violated_same Q P back spec w violated) at;
    first = λ w other violated at level. is.first w other (violated_same Q P back spec w violated) at level;
    least = λ b violated before. is.least b (violated_same Q P back spec (record { constraint = v.constraint; binding = b }) violated) before;
  }

  module _ (b : Binding) (constraint : Constraint) (row : Row) where
    tests : (conj : ℕ) → TestsHold P b constraint row conj → TestsHold Q b constraint row conj
    tests conj hold n its at tested = literal_same P Q same b its (hold n its at tested)

    tests_back : (conj : ℕ) → TestsHold Q b constraint row conj → TestsHold P b constraint row conj
    tests_back conj hold n its at tested = literal_same Q P back b its (hold n its at tested)

    due_conj : (conj : ℕ) → IsDueConj P b constraint row conj → IsDueConj Q b constraint row conj
    due_conj conj is = record {
      there = is.there;
      tests = tests conj is.tests;
      none_before = λ earlier less hold. is.none_before earlier less (tests_back earlier hold);
    }

    module _ (conj : ℕ) where
      to_repair : (n : ℕ) (its : Literal) (by : Template) → IsToRepair P b constraint row conj n its by → IsToRepair Q b constraint row conj n its by
      to_repair n its by is = record {
        literal_is = is.literal_is;
        template_is = is.template_is;
        is_false = λ holds. is.is_false (literal_same Q P back b its holds);
      }

      repair_back : (n : ℕ) (its : Literal) (by : Template) → IsToRepair Q b constraint row conj n its by → IsToRepair P b constraint row conj n its by
      repair_back n its by is = record {
        literal_is = is.literal_is;
        template_is = is.template_is;
        is_false = λ holds. is.is_false (literal_same P Q same b its holds);
      }

      due_literal : (n : ℕ) (its : Literal) (by : Template) → IsDueLiteral P b constraint row conj n its by → IsDueLiteral Q b constraint row conj n its by
      due_literal n its by is = record {
        repaired = to_repair n its by is.repaired;
        none_before = λ earlier other of less again. is.none_before earlier other of less (repair_back earlier other of again);
      }

  pub due_same :
      (spec : Spec) (choice : Choice) (v : BoundConstraint) (conj literal : ℕ) (its : Literal) (by : Template)
      → IsDue P spec choice v conj literal its by → IsDue Q spec choice v conj literal its by
  due_same spec choice v conj literal its by is = record {
    constraint = is.constraint;
    row = is.row;
    binding_is = due_binding spec choice v is.constraint is.row is.binding_is;
    conj_is = due_conj v.binding is.constraint is.row conj is.conj_is;
    literal_is = due_literal v.binding is.constraint is.row conj literal its by is.literal_is;
  }

  pub decided_same : AreDecided Q → AreDecided P
  decided_same decided b its = elim (decided b its) [
    | inl holds ↦ inl (literal_same Q P back b its holds)
    | inr fails ↦ inr (λ holds. fails (literal_same P Q same b its holds))
  ]

  -- ---- what is chosen

  nothing : (b : Binding) (atom : Atom) → CountsNothing P b atom → CountsNothing Q b atom
  nothing b (atoms.Member v set) is = is
  nothing b (atoms.Pair v w rel) is = is
  nothing b (atoms.Count measure op k) is = λ fact counted q. is fact counted ((same fact).1 q)
  nothing b (atoms.Value v rel op bound) is = is

  pub adds_same : (b : Binding) (atom : Atom) (goal : Goal) → Adds P b atom goal → Adds Q b atom goal
  adds_same b atom goals.AddSet is = is
  adds_same b atom goals.RemoveSet is = is
  adds_same b atom goals.AddTuple is = is
  adds_same b atom goals.RemoveTuple is = is
  adds_same b atom goals.SetValue is = is
  adds_same b atom goals.Trim is = is
  adds_same b atom goals.Supply is = is
  adds_same b atom goals.ExactlyOne is = nothing b atom is

  pub to_go_same : (b : Binding) (atom : Atom) (fact : Fact) → IsToGo P b atom fact → IsToGo Q b atom fact
  to_go_same b (atoms.Member v set) fact is = is
  to_go_same b (atoms.Pair v w rel) fact is = is
  to_go_same b (atoms.Count measure op k) fact is = record {
    of_kind = (is.of_kind.0, (same fact).0 is.of_kind.1);
    none_after = λ other counted after. is.none_after other (counted.0, (same other).1 counted.1) after;
  }
  to_go_same b (atoms.Value v rel op bound) fact is = is

  number_by : (b : Binding) (size : Option Measure) (n : ℕ) → MatchOption size (n ≡ 0) (λ m. HasSize P b m n) → MatchOption size (n ≡ 0) (λ m. HasSize Q b m n)
  number_by b None n is = is
  number_by b (Some measure) n is = size_same P Q same b measure n is

  pub number_same : (b : Binding) (writes : List Write) (n : ℕ) → IsNumberFor P b writes n → IsNumberFor Q b writes n
  number_same b writes n is = number_by b (written_size writes) n is

  -- ---- fresh records

  outside_by :
      (e : Element) (d : Option Pool)
      → IsSomeAnd d (λ p. IsSomeAnd p.avoid (λ sets. IsOutside P sets e))
      → IsSomeAnd d (λ p. IsSomeAnd p.avoid (λ sets. IsOutside Q sets e))
  outside_by e None is = is
  outside_by e (Some p) is = avoided p.avoid is where
    avoided : (sets : Option (List ℕ)) → IsSomeAnd sets (λ ss. IsOutside P ss e) → IsSomeAnd sets (λ ss. IsOutside Q ss e)
    avoided None is = is
    avoided (Some ss) is = λ set here q. is set here ((same (Member set e)).1 q)

  outside_back :
      (e : Element) (d : Option Pool)
      → IsSomeAnd d (λ p. IsSomeAnd p.avoid (λ sets. IsOutside Q sets e))
      → IsSomeAnd d (λ p. IsSomeAnd p.avoid (λ sets. IsOutside P sets e))
  outside_back e None is = is
  outside_back e (Some p) is = avoided p.avoid is where
    avoided : (sets : Option (List ℕ)) → IsSomeAnd sets (λ ss. IsOutside Q ss e) → IsSomeAnd sets (λ ss. IsOutside P ss e)
    avoided None is = is
    avoided (Some ss) is = λ set here p. is set here ((same (Member set e)).0 p)

  module _ (spec : Spec) (layout : Layout) (pool : ℕ) where
    pub fresh_same : (e : Element) → IsFreshFrom P spec layout pool e → IsFreshFrom Q spec layout pool e
    fresh_same e is = record {
      supplied = record {
        pool_is = is.supplied.pool_is;
        slot = is.supplied.slot;
        outside = outside_by e (pool_at spec.base pool) is.supplied.outside;
      };
      least = λ f supplied before. is.least f (record {
        pool_is = supplied.pool_is;
        slot = supplied.slot;
        outside = outside_back f (pool_at spec.base pool) supplied.outside;
      }) before;
    }

    used_by :
        (d : Option Pool)
        → IsSomeAnd d (λ p. IsSomeAnd p.avoid (λ sets. (e : Element) → e.pool ≡ pool → IsSlot layout e → IsUsed P sets e))
        → IsSomeAnd d (λ p. IsSomeAnd p.avoid (λ sets. (e : Element) → e.pool ≡ pool → IsSlot layout e → IsUsed Q sets e))
    used_by None is = is
    used_by (Some p) is = avoided p.avoid is where
      avoided :
          (sets : Option (List ℕ))
          → IsSomeAnd sets (λ ss. (e : Element) → e.pool ≡ pool → IsSlot layout e → IsUsed P ss e)
          → IsSomeAnd sets (λ ss. (e : Element) → e.pool ≡ pool → IsSlot layout e → IsUsed Q ss e)
      avoided None is = is
      avoided (Some ss) is = λ e of slot. let taken = is e of slot in (taken.0, taken.1, (same (Member taken.0 e)).0 taken.2)

    pub used_same : IsUsedUp P spec layout pool → IsUsedUp Q spec layout pool
    used_same is = used_by (pool_at spec.base pool) is

  pub fresh_or_none : (spec : Spec) (layout : Layout) (pool : Option ℕ) (fresh : Option Element) → IsFresh P spec layout pool fresh → IsFresh Q spec layout pool fresh
  fresh_or_none spec layout None fresh is = is
  fresh_or_none spec layout (Some pool) None is = is
  fresh_or_none spec layout (Some pool) (Some e) is = fresh_same spec layout pool e is
