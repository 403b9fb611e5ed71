-- Flaws by their ranks, and searches for the first one.
use Rattle.std.proofs.Common.{◌≡◌, ◌<◌, ◌+◌, ◌++◌, ◌⊎◌, ℕ, inl, inr, true, false, nat_eq, Result, Ok, Err, List, [], ◌∷◌, refl, sym, subst, ◌∙◌, arith}
use Rattle.std.proofs.lemmas.Bool.Decides.{nat_tests}
use Rattle.dsr_cert.specs.Flaws.{Flaw, Uncovered, Unlisted, Falsifying, Breaking, Relying, IsFirstFlaw, IsFlaw, RanksBefore, Tells, rank, told_as}
use Rattle.dsr_cert.specs.Searches.{BeginsWith, IsFirstUnder, IsFlawUnder, NoneUnder, Searches}
use Rattle.dsr_cert.specs.declared.faults.CertFault.{CertFault}
use Rattle.dsr_cert.specs.declared.faults.CertFault.TheVariants as faults
use Rattle.dsr_ir.specs.declared.declarations.Spec.{Spec}
use Rattle.dsr_plan_theory.specs.declared.choices.Choice.{Choice}

-- ---- lists of numbers

begins_itself : (xs : List ℕ) → BeginsWith xs xs
begins_itself [] = tt
begins_itself (x ∷ xs) = (refl, begins_itself xs)

-- what begins with a list isn't before it
not_before : (xs ys : List ℕ) → BeginsWith xs ys → RanksBefore ys xs → ⊥
not_before [] [] begins before = before
not_before [] (y ∷ ys) begins before = before
not_before (x ∷ xs) [] begins before = before
not_before (x ∷ xs) (y ∷ ys) begins (inl less) = let same = begins.0 in absurd (omega (arith, less, same))
not_before (x ∷ xs) (y ∷ ys) begins (inr rest) = not_before xs ys begins.1 rest.1

begins_front : (front : List ℕ) (i : ℕ) (ys : List ℕ) → BeginsWith (front ++ i ∷ []) ys → BeginsWith front ys
begins_front [] i ys begins = tt
begins_front (x ∷ front) i [] begins = absurd begins
begins_front (x ∷ front) i (y ∷ ys) begins = (begins.0, begins_front front i ys begins.1)

-- what is before has a smaller number behind the front, or the same one
abbrev Splits : List ℕ → ℕ → List ℕ → Type 0
Splits front i ys = ((k : ℕ) × (k < i) × BeginsWith (front ++ k ∷ []) ys) ⊎ BeginsWith (front ++ i ∷ []) ys

splits_more : (x y : ℕ) (front : List ℕ) (i : ℕ) (ys : List ℕ) → x ≡ y → Splits front i ys → Splits (x ∷ front) i (y ∷ ys)
splits_more x y front i ys same (inl less) = inl (less.0, less.1, (same, less.2))
splits_more x y front i ys same (inr begins) = inr (same, begins)

splits : (front : List ℕ) (i : ℕ) (xs ys : List ℕ) → BeginsWith (front ++ i ∷ []) xs → BeginsWith front ys → RanksBefore ys xs → Splits front i ys
splits [] i [] ys begins there before = absurd begins
splits [] i (x ∷ xs) [] begins there before = absurd before
splits [] i (x ∷ xs) (y ∷ ys) begins there (inl less) = let same = begins.0 in inl (y, omega (arith, less, same), (refl, tt))
splits [] i (x ∷ xs) (y ∷ ys) begins there (inr rest) = inr (begins.0 ∙ sym rest.0, tt)
splits (f ∷ front) i [] ys begins there before = absurd begins
splits (f ∷ front) i (x ∷ xs) [] begins there before = absurd there
splits (f ∷ front) i (x ∷ xs) (y ∷ ys) begins there (inl less) =
    let one = begins.0 in
    let two = there.0 in
    absurd (omega (arith, less, one, two))
splits (f ∷ front) i (x ∷ xs) (y ∷ ys) begins there (inr rest) =
    splits_more f y front i ys there.0 (splits front i xs ys begins.1 there.1 rest.1)

-- ---- flaws

-- a flaw whose rank begins with another's is that one
same_rank : (a b : Flaw) → BeginsWith (rank a) (rank b) → b ≡ a
same_rank (Uncovered n) (Uncovered m) e = λ i. Uncovered (sym e.1.0 i)
same_rank (Unlisted n c l) (Unlisted m d k) e = λ i. Unlisted (sym e.1.0 i) (sym e.1.1.0 i) (sym e.1.1.1.0 i)
same_rank (Falsifying n c l) (Falsifying m d k) e = λ i. Falsifying (sym e.1.0 i) (sym e.1.1.0 i) (sym e.1.1.1.0 i)
same_rank (Breaking n c l o) (Breaking m d k p) e = λ i. Breaking (sym e.1.0 i) (sym e.1.1.0 i) (sym e.1.1.1.0 i) (sym e.1.1.1.1.0 i)
same_rank (Relying n o) (Relying m p) e = λ i. Relying (sym e.1.0 i) (sym e.1.1.0 i)
same_rank _ _ e = let no_such = e.0 in absurd (omega (arith, no_such))

module _ (spec : Spec) (choice : Choice) where
  -- where this flaw is none, there is none under its rank
  pub none_there : (flaw : Flaw) → (IsFlaw spec choice flaw → ⊥) → NoneUnder spec choice (rank flaw)
  none_there flaw none other its = none (subst (IsFlaw spec choice) (same_rank flaw other its.begins) its.is)

  -- and where it is one, it is the first
  pub first_there : (flaw : Flaw) → IsFlaw spec choice flaw → IsFirstUnder spec choice (rank flaw) (told_as flaw)
  first_there flaw is = record {
    flaw = flaw;
    its = record { is = is; begins = begins_itself (rank flaw) };
    first = λ other its before. not_before (rank flaw) (rank other) its.begins before;
    told = refl;
  }

  -- none behind the front with a smaller number
  abbrev pub NoneBelow : List ℕ → ℕ → Type 0
  NoneBelow front i = (k : ℕ) → k < i → NoneUnder spec choice (front ++ k ∷ [])

  pub none_yet : (front : List ℕ) → NoneBelow front 0
  none_yet front k less = absurd (omega (arith, less))

  pub none_more : (front : List ℕ) (i : ℕ) → NoneUnder spec choice (front ++ i ∷ []) → NoneBelow front i → NoneBelow front (i + 1)
  none_more front i here before k less =
      elim (nat_eq k i) as (λ t. nat_eq k i ≡ t → NoneUnder spec choice (front ++ k ∷ [])) [
        | true ↦ λ e. let same : i ≡ k = grind (arith, nat_tests) in subst (λ m. NoneUnder spec choice (front ++ m ∷ [])) same here
        | false ↦ λ e. before k (grind (arith, nat_tests))
      ] refl

  -- the first one with the next number is the first one of all
  pub first_found : (front : List ℕ) (i : ℕ) (fault : CertFault) → NoneBelow front i → IsFirstUnder spec choice (front ++ i ∷ []) fault → IsFirstUnder spec choice front fault
  first_found front i fault before found = record {
    flaw = found.flaw;
    its = record { is = found.its.is; begins = begins_front front i (rank found.flaw) found.its.begins };
    first = λ other its comes. which other its comes (splits front i (rank found.flaw) (rank other) found.its.begins its.begins comes);
    told = found.told;
  } where
    which : (other : Flaw) → IsFlawUnder spec choice front other → RanksBefore (rank other) (rank found.flaw) → Splits front i (rank other) → ⊥
    which other its comes (inl less) = before less.0 less.1 other (record { is = its.is; begins = less.2 })
    which other its comes (inr begins) = found.first other (record { is = its.is; begins = begins }) comes

  pub tells_found : (front : List ℕ) (i : ℕ) (fault : CertFault) → NoneBelow front i → Tells (IsFirstUnder spec choice (front ++ i ∷ [])) fault → Tells (IsFirstUnder spec choice front) fault
  tells_found front i faults.NoMemory before found = tt
  tells_found front i (faults.Text line) before found = first_found front i (faults.Text line) before found
  tells_found front i (faults.Coverage n) before found = first_found front i (faults.Coverage n) before found
  tells_found front i (faults.NotATemplate n c l) before found = first_found front i (faults.NotATemplate n c l) before found
  tells_found front i (faults.Falsifies n c l) before found = first_found front i (faults.Falsifies n c l) before found
  tells_found front i (faults.Edge n m) before found = first_found front i (faults.Edge n m) before found
  tells_found front i (faults.Reliance n m) before found = first_found front i (faults.Reliance n m) before found

  -- none at all, where each has a number below the bound
  pub none_all : (front : List ℕ) (bound : ℕ) → ((flaw : Flaw) → IsFlawUnder spec choice front flaw → (k : ℕ) × (k < bound) × BeginsWith (front ++ k ∷ []) (rank flaw)) → NoneBelow front bound → NoneUnder spec choice front
  none_all front bound numbers before flaw its =
      let n = numbers flaw its in
      before n.0 n.1 flaw (record { is = its.is; begins = n.2 })

  -- a flaw is of one of five kinds
  kind_number : (flaw : Flaw) → IsFlawUnder spec choice [] flaw → (k : ℕ) × (k < 5) × BeginsWith (k ∷ []) (rank flaw)
  kind_number (Uncovered n) its = (0, omega arith, (refl, tt))
  kind_number (Unlisted n conj literal) its = (1, omega arith, (refl, tt))
  kind_number (Falsifying n conj literal) its = (2, omega arith, (refl, tt))
  kind_number (Breaking n conj literal other) its = (3, omega arith, (refl, tt))
  kind_number (Relying n on) its = (4, omega arith, (refl, tt))

  -- the last kind's search is that of all kinds
  pub searches_last : (r : Result (Unit {0}) CertFault) → NoneBelow [] 4 → Searches spec choice (4 ∷ []) r → Searches spec choice [] r
  searches_last (Ok done) before here = none_all [] 5 kind_number (none_more [] 4 here before)
  searches_last (Err fault) before here = tells_found [] 4 fault before here

  -- what is told of all of them
  pub first_of_all : (fault : CertFault) → IsFirstUnder spec choice [] fault → IsFirstFlaw spec choice fault
  first_of_all fault found = record {
    flaw = found.flaw;
    is = found.its.is;
    first = λ other is comes. found.first other (record { is = is; begins = tt }) comes;
    told = found.told;
  }
