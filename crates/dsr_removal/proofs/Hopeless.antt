-- Who couldn't be repaired even if templates broke nothing.
use Rattle.std.proofs.Common.{◌≡◌, ℕ, zero, suc, Bool, true, false, IsTrue, Some, not, replicate, slice_get, refl, sym, subst, ◌∙◌}
use Rattle.std.specs.Prelude.{Decides, MatchBool, slice_index_or}
use Rattle.std.proofs.lemmas.Bool.{false≢true}
use Rattle.dsr_ir.specs.declared.constraints.Constraint.{Constraint}
use Rattle.dsr_ir.specs.declared.declarations.Spec.{Spec}
use Rattle.dsr_plan_theory.proofs.Grown.{first_fewer, held_more}
use Rattle.dsr_plan_theory.specs.Plans.{Covers, owner_at}
use Rattle.dsr_plan_theory.specs.StuckSets.{IsHopeless}
use Rattle.dsr_plan_theory.specs.Stuck.{IsHeld, MayBeFirst, MustTest, relied, uncovered}

-- nobody is marked where no mark is set
pub marks_none : (many n : ℕ) → IsTrue (slice_index_or (replicate many false) n false) → ⊥
marks_none zero n marked = false≢true marked
marks_none (suc many) zero marked = false≢true marked
marks_none (suc many) (suc n) marked = marks_none many n marked

not_held : (spec : Spec) (n : ℕ) (constraint : Constraint) → IsHeld spec (λ _. ⊥) n constraint → Covers constraint (MustTest (owner_at spec n constraint) (λ _. ⊥)) → ⊥
not_held spec n constraint (relied m member relies) covers = member
not_held spec n constraint (uncovered fails) covers = fails covers

module _ (spec : Spec) (n : ℕ) (constraint : Constraint) (there : slice_get spec.constraints n ≡ Some constraint) (Member Nobody : ℕ → Type 0) (nobody : (m : ℕ) → Nobody m → ⊥) (member : Member n) where
  pub hopeless_if : (first : Bool) → MatchBool first (MayBeFirst spec Nobody n constraint) (IsHeld spec Nobody n constraint) → Decides (not first) (IsHopeless spec Member n)
  hopeless_if true may = (
    λ no_more. absurd (false≢true no_more),
    λ hopeless.
        let both : Some hopeless.constraint ≡ Some constraint = sym hopeless.constraint_is ∙ there in
        let same : hopeless.constraint ≡ constraint = cc in
        let covered = (first_fewer (λ _. ⊥) Nobody (λ m none. absurd none) spec n constraint may).covered in
        absurd (subst (λ x. Covers x (MustTest (owner_at spec n x) (λ _. ⊥)) → ⊥) same hopeless.uncovered covered),
  )
  hopeless_if false held = (
    λ _. record {
      member = member;
      constraint = constraint;
      constraint_is = there;
      uncovered = not_held spec n constraint (held_more Nobody (λ _. ⊥) nobody spec n constraint held);
    },
    λ _. refl,
  )
