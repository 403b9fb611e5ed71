-- The numbers of flaws are below the limits of a specification.
use Rattle.std.proofs.Common.{◌≡◌, ◌≤◌, ◌<◌, ℕ, true, false, nat_eq, [], ◌∷◌, Some, slice_get, refl, arith}
use Rattle.std.specs.Prelude.{if◌then◌else◌}
use Rattle.std.proofs.lemmas.Option.{slice_get_within}
use Rattle.dsr_cert.specs.Flaws.{Flaw, Uncovered, Unlisted, Falsifying, Breaking, Relying, HasWay, rank}
use Rattle.dsr_cert.specs.Searches.{BeginsWith, IsFlawUnder, kind_of}
use Rattle.dsr_cert.specs.declared.flaws.Wrong.{Wrong}
use Rattle.dsr_cert.specs.declared.flaws.Wrong.TheVariants as wrongs
use Rattle.dsr_ir.specs.declared.constraints.Constraint.{Constraint}
use Rattle.dsr_ir.specs.declared.constraints.Literal.{Literal}
use Rattle.dsr_ir.specs.declared.declarations.Spec.{Spec}
use Rattle.dsr_meaning.proofs.Firing.{found_fits}
use Rattle.dsr_meaning.specs.Typed.{IsTyped, IsTypedConj, IsTypedConstraint, constraint_limit}
use Rattle.dsr_placement.proofs.Marks.{parts_of}
use Rattle.dsr_plan_theory.specs.declared.choices.Choice.{Choice}
use Rattle.dsr_update_theory.specs.Templates.{literal_at}

pub limit : (version : ℕ) → constraint_limit version ≤ 128
limit version = elim (nat_eq version 2) as (λ t. (if t then 128 else 64) ≤ 128) [ true ↦ omega arith | false ↦ omega arith ]

pub kind_low : (wrong : Wrong) → 1 ≤ kind_of wrong
kind_low wrongs.Unlisted = omega arith
kind_low wrongs.Falsifying = omega arith
kind_low wrongs.Breaking = omega arith

pub kind_high : (wrong : Wrong) → kind_of wrong ≤ 3
kind_high wrongs.Unlisted = omega arith
kind_high wrongs.Falsifying = omega arith
kind_high wrongs.Breaking = omega arith

module _ (spec : Spec) (typed : IsTyped spec) where
  pub number_below : (n : ℕ) (c : Constraint) → slice_get spec.constraints n ≡ Some c → n < 128
  number_below n c is =
      let less = slice_get_within spec.constraints n c is in
      let few = typed.few_constraints in
      let most = limit spec.base.version in
      omega (arith, less, few, most)

  pub conj_below : (n : ℕ) (c : Constraint) (conj literal : ℕ) (its : Literal) → slice_get spec.constraints n ≡ Some c → literal_at c conj literal ≡ Some its → conj < 16
  conj_below n c conj literal its is there =
      let sound = found_fits (IsTypedConstraint spec) spec.constraints n c typed.constraints is in
      let parts = parts_of c conj literal its there in
      let less = slice_get_within c.conjs conj parts.0 parts.1 in
      let few = sound.few_conjs in
      omega (arith, less, few)

  pub literal_below : (n : ℕ) (c : Constraint) (conj literal : ℕ) (its : Literal) → slice_get spec.constraints n ≡ Some c → literal_at c conj literal ≡ Some its → literal < 8
  literal_below n c conj literal its is there =
      let sound = found_fits (IsTypedConstraint spec) spec.constraints n c typed.constraints is in
      let parts = parts_of c conj literal its there in
      let fits = found_fits (IsTypedConj spec c.quant) c.conjs conj parts.0 sound.conjs parts.1 in
      let less = slice_get_within parts.0.literals literal its parts.2 in
      let few = fits.few_literals in
      omega (arith, less, few)

  module _ (choice : Choice) where
    way_number : (n conj literal : ℕ) → HasWay spec choice n conj literal → n < 128
    way_number n conj literal way = number_below n way.constraint way.row_of.constraint_is

    way_conj : (n conj literal : ℕ) → HasWay spec choice n conj literal → conj < 16
    way_conj n conj literal way = conj_below n way.constraint conj literal way.its way.row_of.constraint_is way.literal_is

    way_literal : (n conj literal : ℕ) → HasWay spec choice n conj literal → literal < 8
    way_literal n conj literal way = literal_below n way.constraint conj literal way.its way.row_of.constraint_is way.literal_is

    pub covered_number : (flaw : Flaw) → IsFlawUnder spec choice (0 ∷ []) flaw → (k : ℕ) × (k < 128) × BeginsWith (0 ∷ k ∷ []) (rank flaw)
    covered_number (Uncovered n) its = (n, number_below n its.is.constraint its.is.row_of.constraint_is, (refl, (refl, tt)))
    covered_number _ its = let e = its.begins.0 in absurd (omega (arith, e))

    pub relying_number : (flaw : Flaw) → IsFlawUnder spec choice (4 ∷ []) flaw → (k : ℕ) × (k < 128) × BeginsWith (4 ∷ k ∷ []) (rank flaw)
    relying_number (Relying n on) its = (n, number_below n its.is.constraint its.is.row_of.constraint_is, (refl, (refl, tt)))
    relying_number _ its = let e = its.begins.0 in absurd (omega (arith, e))

    pub on_number : (n : ℕ) (flaw : Flaw) → IsFlawUnder spec choice (4 ∷ n ∷ []) flaw → (k : ℕ) × (k < 128) × BeginsWith (4 ∷ n ∷ k ∷ []) (rank flaw)
    on_number n (Relying m on) its = (on, number_below on its.is.other its.is.other_of.constraint_is, (refl, (its.begins.1.0, (refl, tt))))
    on_number n _ its = let e = its.begins.0 in absurd (omega (arith, e))

    pub other_number : (n conj literal : ℕ) (flaw : Flaw) → IsFlawUnder spec choice (3 ∷ n ∷ conj ∷ literal ∷ []) flaw → (k : ℕ) × (k < 128) × BeginsWith (3 ∷ n ∷ conj ∷ literal ∷ k ∷ []) (rank flaw)
    other_number n conj literal (Breaking m c l other) its =
        (other, number_below other its.is.other its.is.other_of.constraint_is, (refl, (its.begins.1.0, (its.begins.1.1.0, (its.begins.1.1.1.0, (refl, tt))))))
    other_number n conj literal _ its = let e = its.begins.0 in absurd (omega (arith, e))

    -- of the kinds that speak of templates
    module _ (w : ℕ) (low : 1 ≤ w) (high : w ≤ 3) where
      pub template_number : (flaw : Flaw) → IsFlawUnder spec choice (w ∷ []) flaw → (k : ℕ) × (k < 128) × BeginsWith (w ∷ k ∷ []) (rank flaw)
      template_number (Uncovered n) its = let e = its.begins.0 in absurd (omega (arith, e, low))
      template_number (Unlisted n c l) its = (n, way_number n c l its.is.way, (its.begins.0, (refl, tt)))
      template_number (Falsifying n c l) its = (n, way_number n c l its.is.way, (its.begins.0, (refl, tt)))
      template_number (Breaking n c l other) its = (n, way_number n c l its.is.way, (its.begins.0, (refl, tt)))
      template_number (Relying n on) its = let e = its.begins.0 in absurd (omega (arith, e, high))

      pub conj_number : (n : ℕ) (flaw : Flaw) → IsFlawUnder spec choice (w ∷ n ∷ []) flaw → (k : ℕ) × (k < 16) × BeginsWith (w ∷ n ∷ k ∷ []) (rank flaw)
      conj_number n (Uncovered m) its = let e = its.begins.0 in absurd (omega (arith, e, low))
      conj_number n (Unlisted m c l) its = (c, way_conj m c l its.is.way, (its.begins.0, (its.begins.1.0, (refl, tt))))
      conj_number n (Falsifying m c l) its = (c, way_conj m c l its.is.way, (its.begins.0, (its.begins.1.0, (refl, tt))))
      conj_number n (Breaking m c l other) its = (c, way_conj m c l its.is.way, (its.begins.0, (its.begins.1.0, (refl, tt))))
      conj_number n (Relying m on) its = let e = its.begins.0 in absurd (omega (arith, e, high))

      pub literal_number : (n conj : ℕ) (flaw : Flaw) → IsFlawUnder spec choice (w ∷ n ∷ conj ∷ []) flaw → (k : ℕ) × (k < 8) × BeginsWith (w ∷ n ∷ conj ∷ k ∷ []) (rank flaw)
      literal_number n conj (Uncovered m) its = let e = its.begins.0 in absurd (omega (arith, e, low))
      literal_number n conj (Unlisted m c l) its = (l, way_literal m c l its.is.way, (its.begins.0, (its.begins.1.0, (its.begins.1.1.0, (refl, tt)))))
      literal_number n conj (Falsifying m c l) its = (l, way_literal m c l its.is.way, (its.begins.0, (its.begins.1.0, (its.begins.1.1.0, (refl, tt)))))
      literal_number n conj (Breaking m c l other) its = (l, way_literal m c l its.is.way, (its.begins.0, (its.begins.1.0, (its.begins.1.1.0, (refl, tt)))))
      literal_number n conj (Relying m on) its = let e = its.begins.0 in absurd (omega (arith, e, high))

  -- of all
  pub kind_number : (choice : Choice) (flaw : Flaw) → IsFlawUnder spec choice [] flaw → (k : ℕ) × (k < 5) × BeginsWith (k ∷ []) (rank flaw)
  kind_number choice (Uncovered n) its = (0, omega arith, (refl, tt))
  kind_number choice (Unlisted n c l) its = (1, omega arith, (refl, tt))
  kind_number choice (Falsifying n c l) its = (2, omega arith, (refl, tt))
  kind_number choice (Breaking n c l other) its = (3, omega arith, (refl, tt))
  kind_number choice (Relying n on) its = (4, omega arith, (refl, tt))
