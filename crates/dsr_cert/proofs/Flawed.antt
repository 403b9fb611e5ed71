-- A plan has no flaw.
use Rattle.std.proofs.Common.{◌≡◌, ◌⊎◌, ℕ, inl, inr, true, Some, sym, subst, ◌∙◌}
use Rattle.std.proofs.lemmas.Bool.{false≢true}
use Rattle.dsr_cert.specs.Flaws.{Uncovered, Unlisted, Falsifying, Breaking, Relying, HasNoFlaw, HasWay}
use Rattle.dsr_ir.specs.declared.declarations.Spec.{Spec}
use Rattle.dsr_plan_theory.specs.Plans.{IsListedAt, IsPlan, IsWayFor, MayRepair, owner_at}
use Rattle.dsr_plan_theory.specs.declared.choices.Choice.{Choice}
use Rattle.dsr_plan_theory.specs.declared.choices.Way.TheVariants.{By}

module _ (spec : Spec) (choice : Choice) (plan : IsPlan spec choice) where
  may_repair : (n conj literal : ℕ) (way : HasWay spec choice n conj literal) → MayRepair (owner_at spec n way.constraint) conj literal way.its way.number way.template
  may_repair n conj literal way =
      let its = (plan.ways n way.constraint way.row way.row_of).ways conj literal way.its way.literal_is in
      let both : Some its.0 ≡ Some (By way.number way.template) = sym its.1 ∙ way.way_is in
      let same : its.0 ≡ By way.number way.template = cc in
      subst (IsWayFor (owner_at spec n way.constraint) conj literal way.its) same its.2

  listed_clash : (n conj literal : ℕ) (way : HasWay spec choice n conj literal) → (way.its.given ≡ true) ⊎ (IsListedAt (owner_at spec n way.constraint) conj literal way.number way.template → ⊥) → ⊥
  listed_clash n conj literal way (inl given) = false≢true (sym (may_repair n conj literal way).free ∙ given)
  listed_clash n conj literal way (inr unlisted) = unlisted (may_repair n conj literal way).listed

  pub no_flaw : HasNoFlaw spec choice
  no_flaw (Uncovered n) flaw = flaw.uncovered (plan.covers n flaw.constraint flaw.row flaw.row_of)
  no_flaw (Unlisted n conj literal) flaw = listed_clash n conj literal flaw.way flaw.unlisted
  no_flaw (Falsifying n conj literal) flaw = (may_repair n conj literal flaw.way).falsifies_none flaw.falsified flaw.falsifies.may
  no_flaw (Breaking n conj literal m) flaw =
      flaw.not_higher (plan.breaks n m flaw.way.constraint flaw.other flaw.way.row flaw.other_row conj literal flaw.way.template flaw.reason flaw.way.row_of flaw.other_of (record { number = flaw.way.number; way_is = flaw.way.way_is }) flaw.breaks)
  no_flaw (Relying n on) flaw = flaw.not_lower (plan.relies n on flaw.constraint flaw.other flaw.row flaw.other_row flaw.row_of flaw.other_of flaw.relies)
