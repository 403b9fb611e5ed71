-- Entries with the same texts have one report.
use Rattle.std.proofs.Common.{◌≡◌, ◌+◌, ◌∙◌, ℕ, zero, suc, List, [], ◌∷◌, ◌++◌, Some, IsSomeAnd, length, slice_get, refl, sym, ap, subst, arith}
use Rattle.dsr_ir.specs.declared.declarations.Spec.{Spec}
use Rattle.dsr_meaning.specs.Lists.{each_at}
use Rattle.dsr_repair_theory.specs.declared.entries.Entry.{Entry}
use Rattle.dsr_replay.specs.Audits.{AreTold}
use Rattle.dsr_report.specs.Reports.{end_line, entry_text, report_text}

module _ (spec : Spec) where
  -- the texts are the same, where entries count from a number on
  abbrev AreToldFrom : ℕ → List Entry → List Entry → Type 0
  AreToldFrom first log run = (k : ℕ) (made : Entry) → slice_get run k ≡ Some made → IsSomeAnd (slice_get log k) (λ told. entry_text spec (first + k) told ≡ entry_text spec (first + k) made)

  texts_from : (first : ℕ) (log run : List Entry) → length run ≡ length log → AreToldFrom first log run → each_at (entry_text spec) first log ≡ each_at (entry_text spec) first run
  texts_from first [] [] long told = refl
  texts_from first [] (f ∷ run) long told = absurd (omega (arith, long))
  texts_from first (e ∷ log) [] long told = absurd (omega (arith, long))
  texts_from first (e ∷ log) (f ∷ run) long told =
      let zeroth : first + 0 ≡ first = omega arith in
      let here : entry_text spec first e ≡ entry_text spec first f = subst (λ n. entry_text spec n e ≡ entry_text spec n f) zeroth (told 0 f refl) in
      let rest = texts_from (suc first) log run (omega (arith, long)) (λ k made is.
      let next : first + suc k ≡ suc first + k = omega arith in
      subst (λ n. IsSomeAnd (slice_get log k) (λ t. entry_text spec n t ≡ entry_text spec n made)) next (told (suc k) made is)) in
      λ i. here i ++ rest i

  pub told_text : (log run : List Entry) → length run ≡ length log → AreTold spec log run → report_text spec log ≡ report_text spec run
  told_text log run long told =
      let texts = texts_from 1 log run long (λ k made is.
      let next : k + 1 ≡ 1 + k = omega arith in
      subst (λ n. IsSomeAnd (slice_get log k) (λ t. entry_text spec n t ≡ entry_text spec n made)) next (told k made is)) in
      λ i. texts i ++ end_line (sym long i)
