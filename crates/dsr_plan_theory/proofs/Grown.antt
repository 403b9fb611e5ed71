-- What is so of members is so of fewer, or of more.
use Rattle.std.proofs.Common.{ℕ}
use Rattle.dsr_ir.specs.declared.constraints.Constraint.{Constraint}
use Rattle.dsr_ir.specs.declared.declarations.Spec.{Spec}
use Rattle.dsr_graph_theory.specs.Owners.{Owner}
use Rattle.dsr_plan_theory.specs.Plans.{Covers, owner_at}
use Rattle.dsr_plan_theory.specs.Stuck.{CanRepair, IsHeld, MayBeFirst, MustTest, relied, uncovered}

pub covers_fewer : (constraint : Constraint) (T S : ℕ → ℕ → Type 0) → ((conj n : ℕ) → S conj n → T conj n) → Covers constraint T → Covers constraint S
covers_fewer constraint T S fewer covers truth =
    let passes = covers truth in
    record {
      number = passes.number;
      conj = passes.conj;
      conj_is = passes.conj_is;
      passes = λ n literal is tested. passes.passes n literal is (fewer passes.number n tested);
    }

module _ (M N : ℕ → Type 0) (more : (n : ℕ) → M n → N n) where
  pub repair_fewer : (owner : Owner) (conj literal : ℕ) → CanRepair owner N conj literal → CanRepair owner M conj literal
  repair_fewer owner conj literal can = record {
    its = can.its;
    literal_is = can.literal_is;
    number = can.number;
    template = can.template;
    may = can.may;
    spares = λ n other reason member. can.spares n other reason (more n member);
  }

  pub test_more : (owner : Owner) (conj literal : ℕ) → MustTest owner M conj literal → MustTest owner N conj literal
  test_more owner conj literal must can = must (repair_fewer owner conj literal can)

  covers_more : (spec : Spec) (n : ℕ) (constraint : Constraint) → Covers constraint (MustTest (owner_at spec n constraint) N) → Covers constraint (MustTest (owner_at spec n constraint) M)
  covers_more spec n constraint = covers_fewer constraint (MustTest (owner_at spec n constraint) N) (MustTest (owner_at spec n constraint) M) (test_more (owner_at spec n constraint))

  -- who may be first before many may be first before few
  pub first_fewer : (spec : Spec) (n : ℕ) (constraint : Constraint) → MayBeFirst spec N n constraint → MayBeFirst spec M n constraint
  first_fewer spec n constraint first = record {
    relied_by_none = λ m member. first.relied_by_none m (more m member);
    covered = covers_more spec n constraint first.covered;
  }

  -- and whom few hold, many hold
  pub held_more : (spec : Spec) (n : ℕ) (constraint : Constraint) → IsHeld spec M n constraint → IsHeld spec N n constraint
  held_more spec n constraint (relied m member relies) = relied m (more m member) relies
  held_more spec n constraint (uncovered fails) = uncovered (λ covers. fails (covers_more spec n constraint covers))

pub not_both : (spec : Spec) (M : ℕ → Type 0) (n : ℕ) (constraint : Constraint) → MayBeFirst spec M n constraint → IsHeld spec M n constraint → ⊥
not_both spec M n constraint first (relied m member relies) = first.relied_by_none m member relies
not_both spec M n constraint first (uncovered fails) = fails first.covered
