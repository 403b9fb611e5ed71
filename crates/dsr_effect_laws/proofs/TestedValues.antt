-- What numbers stand for, as tests see it.
use Rattle.std.proofs.Common.{◌≡◌, ◌∙◌, ℕ, Option, None, Some, IsSomeAnd, sym, subst}
use Rattle.dsr_layout.proofs.Meanings.{legal_pool}
use Rattle.dsr_meaning.specs.Legal.{IsLegalLayout}
use Rattle.std.proofs.lemmas.Option.{none-some}
use Rattle.dsr_ir.specs.declared.layouts.Layout.{Layout}
use Rattle.dsr_ir.specs.declared.rules.Test.{Test}
use Rattle.dsr_ir.specs.declared.rules.Test.TheVariants as tests
use Rattle.dsr_meaning.specs.Instances.{Compares, Meets}
use Rattle.dsr_meaning.specs.References.{IsLegal, IsNoneOf}
use Rattle.dsr_update_theory.specs.Values.{CellValue, Number, LegalReference, IllegalReference, NoneReference, Passes}
use Rattle.dsr_effect_laws.specs.Leaving.{IsTestOf, StandsFor}

-- no code of a slot is the one of no slot
abbrev pub AreTold : Layout → Type 0
AreTold layout = (pool value : ℕ) → IsNoneOf layout pool value → IsLegal layout pool value → ⊥

-- so it is in a legal layout
pub none_told : (layout : Layout) → IsLegalLayout layout → AreTold layout
none_told layout legal pool value none (slot, code) =
    let n = code.numbers in
    let is_none : value ≡ n.none = subst (λ o. IsSomeAnd o (λ m. value ≡ m.none)) code.declared none in
    (legal_pool layout pool n legal code.declared).none_apart slot code.below (sym is_none ∙ code.code)

module _ (layout : Layout) (told : AreTold layout) where
  -- a test holds of a number where it passes what the number stands for, and only there
  pub meets_passes : (pool : Option ℕ) (test : Test) (n : ℕ) (v : CellValue) → IsTestOf pool test → StandsFor layout pool n v → Meets layout pool test n → Passes test v
  meets_passes None (tests.Cmp op k) n (Number m) of s h = subst (λ x. Compares op x k) s h
  meets_passes None (tests.Cmp op k) n LegalReference of s h = absurd s
  meets_passes None (tests.Cmp op k) n IllegalReference of s h = absurd s
  meets_passes None (tests.Cmp op k) n NoneReference of s h = absurd s
  meets_passes None tests.Legal n v of s h = absurd h
  meets_passes None tests.Illegal n v of s h = absurd h
  meets_passes None tests.IsNone n v of s h = absurd h
  meets_passes None tests.IsSome n v of s h = absurd h
  meets_passes (Some pool) (tests.Cmp op k) n v of s h = absurd (none-some pool (sym of))
  meets_passes (Some pool) tests.Legal n (Number m) of s h = absurd s
  meets_passes (Some pool) tests.Legal n LegalReference of s h = tt
  meets_passes (Some pool) tests.Legal n IllegalReference of s h = absurd (s.not_legal h)
  meets_passes (Some pool) tests.Legal n NoneReference of s h = absurd (told pool n s h)
  meets_passes (Some pool) tests.Illegal n (Number m) of s h = absurd s
  meets_passes (Some pool) tests.Illegal n LegalReference of s h = absurd (h.not_legal s)
  meets_passes (Some pool) tests.Illegal n IllegalReference of s h = tt
  meets_passes (Some pool) tests.Illegal n NoneReference of s h = absurd (h.not_none s)
  meets_passes (Some pool) tests.IsNone n (Number m) of s h = absurd s
  meets_passes (Some pool) tests.IsNone n LegalReference of s h = absurd (told pool n h s)
  meets_passes (Some pool) tests.IsNone n IllegalReference of s h = absurd (s.not_none h)
  meets_passes (Some pool) tests.IsNone n NoneReference of s h = tt
  meets_passes (Some pool) tests.IsSome n (Number m) of s h = absurd s
  meets_passes (Some pool) tests.IsSome n LegalReference of s h = tt
  meets_passes (Some pool) tests.IsSome n IllegalReference of s h = tt
  meets_passes (Some pool) tests.IsSome n NoneReference of s h = absurd (h s)

  pub passes_meets : (pool : Option ℕ) (test : Test) (n : ℕ) (v : CellValue) → StandsFor layout pool n v → Passes test v → Meets layout pool test n
  passes_meets None (tests.Cmp op k) n (Number m) s p = subst (λ x. Compares op x k) (sym s) p
  passes_meets None (tests.Cmp op k) n LegalReference s p = absurd s
  passes_meets None (tests.Cmp op k) n IllegalReference s p = absurd s
  passes_meets None (tests.Cmp op k) n NoneReference s p = absurd s
  passes_meets None tests.Legal n (Number m) s p = absurd p
  passes_meets None tests.Legal n LegalReference s p = absurd s
  passes_meets None tests.Legal n IllegalReference s p = absurd s
  passes_meets None tests.Legal n NoneReference s p = absurd s
  passes_meets None tests.Illegal n (Number m) s p = absurd p
  passes_meets None tests.Illegal n LegalReference s p = absurd s
  passes_meets None tests.Illegal n IllegalReference s p = absurd s
  passes_meets None tests.Illegal n NoneReference s p = absurd s
  passes_meets None tests.IsNone n (Number m) s p = absurd p
  passes_meets None tests.IsNone n LegalReference s p = absurd s
  passes_meets None tests.IsNone n IllegalReference s p = absurd s
  passes_meets None tests.IsNone n NoneReference s p = absurd s
  passes_meets None tests.IsSome n (Number m) s p = absurd p
  passes_meets None tests.IsSome n LegalReference s p = absurd s
  passes_meets None tests.IsSome n IllegalReference s p = absurd s
  passes_meets None tests.IsSome n NoneReference s p = absurd s
  passes_meets (Some pool) (tests.Cmp op k) n (Number m) s p = absurd s
  passes_meets (Some pool) (tests.Cmp op k) n LegalReference s p = absurd p
  passes_meets (Some pool) (tests.Cmp op k) n IllegalReference s p = absurd p
  passes_meets (Some pool) (tests.Cmp op k) n NoneReference s p = absurd p
  passes_meets (Some pool) tests.Legal n (Number m) s p = absurd s
  passes_meets (Some pool) tests.Legal n LegalReference s p = s
  passes_meets (Some pool) tests.Legal n IllegalReference s p = absurd p
  passes_meets (Some pool) tests.Legal n NoneReference s p = absurd p
  passes_meets (Some pool) tests.Illegal n (Number m) s p = absurd s
  passes_meets (Some pool) tests.Illegal n LegalReference s p = absurd p
  passes_meets (Some pool) tests.Illegal n IllegalReference s p = s
  passes_meets (Some pool) tests.Illegal n NoneReference s p = absurd p
  passes_meets (Some pool) tests.IsNone n (Number m) s p = absurd s
  passes_meets (Some pool) tests.IsNone n LegalReference s p = absurd p
  passes_meets (Some pool) tests.IsNone n IllegalReference s p = absurd p
  passes_meets (Some pool) tests.IsNone n NoneReference s p = s
  passes_meets (Some pool) tests.IsSome n (Number m) s p = absurd s
  passes_meets (Some pool) tests.IsSome n LegalReference s p = λ none. told pool n none s
  passes_meets (Some pool) tests.IsSome n IllegalReference s p = s.not_none
  passes_meets (Some pool) tests.IsSome n NoneReference s p = absurd p

  -- what stands for none leads nowhere
  pub none_leads : (pool : ℕ) (n : ℕ) → StandsFor layout (Some pool) n NoneReference → IsLegal layout pool n → ⊥
  none_leads pool n s legal = told pool n s legal
