-- Lists of truth values that begin alike.
use Rattle.std.proofs.Common.{◌≡◌, ◌<◌, ◌≤◌, ◌+◌, ℕ, zero, suc, Bool, true, false, List, [], ◌∷◌, take, get_or, set, length, refl, sym, ap, subst, ◌∙◌, arith}
use Rattle.dsr_placement.specs.Atoms.{CoversFrom, IsTested, truth_by}
use Rattle.dsr_ir.specs.declared.constraints.Atom.{Atom}
use Rattle.dsr_ir.specs.declared.constraints.Constraint.{Constraint}
use Rattle.dsr_plan_theory.specs.Plans.{SomeConjPasses}

all_taken : (n : ℕ) (xs : List Bool) → length xs ≤ n → take n xs ≡ xs
all_taken zero [] past = refl
all_taken zero (x ∷ xs) past = absurd (omega (arith, past))
all_taken (suc n) [] past = refl
all_taken (suc n) (x ∷ xs) past = ap (λ ys. x ∷ ys) (all_taken n xs (omega (arith, past)))

pub set_length : (xs : List Bool) (n : ℕ) (b : Bool) → length (set xs n b) ≡ length xs
set_length [] n b = refl
set_length (x ∷ xs) zero b = refl
set_length (x ∷ xs) (suc n) b = ap suc (set_length xs n b)

-- what was set stands behind what was there
front_set : (n : ℕ) (xs ys : List Bool) (b : Bool) → length xs ≡ length ys → take (suc n) ys ≡ take (suc n) (set xs n b) → take n ys ≡ take n xs
front_set n [] [] b long same = refl
front_set n [] (y ∷ ys) b long same = absurd (omega (arith, long))
front_set n (x ∷ xs) [] b long same = absurd (omega (arith, long))
front_set zero (x ∷ xs) (y ∷ ys) b long same = refl
front_set (suc n) (x ∷ xs) (y ∷ ys) b long same =
    let first : y ≡ x = cc in
    let rest : take (suc n) ys ≡ take (suc n) (set xs n b) = cc in
    ap (λ z. z ∷ take n ys) first ∙ ap (λ zs. x ∷ zs) (front_set n xs ys b (omega (arith, long)) rest)

pub front_back : (n : ℕ) (xs ys : List Bool) (b : Bool) → length ys ≡ length (set xs n b) → take (n + 1) ys ≡ take (n + 1) (set xs n b) → take n ys ≡ take n xs
front_back n xs ys b long same =
    let next : n + 1 ≡ suc n = omega arith in
    front_set n xs ys b (sym (long ∙ set_length xs n b)) (subst (λ m. take m ys ≡ take m (set xs n b)) next same)

set_front : (n : ℕ) (xs ys : List Bool) (d : Bool) → length ys ≡ length xs → n < length xs → take n ys ≡ take n xs → take (suc n) ys ≡ take (suc n) (set xs n (get_or ys n d))
set_front n [] ys d long less same = absurd (omega (arith, less))
set_front n (x ∷ xs) [] d long less same = absurd (omega (arith, long))
set_front zero (x ∷ xs) (y ∷ ys) d long less same = refl
set_front (suc n) (x ∷ xs) (y ∷ ys) d long less same =
    let first : y ≡ x = cc in
    let rest : take n ys ≡ take n xs = cc in
    ap (λ z. z ∷ take (suc n) ys) first ∙ ap (λ zs. x ∷ zs) (set_front n xs ys d (omega (arith, long)) (omega (arith, less)) rest)

module _ (atoms : List Atom) (c : Constraint) (tests : List (List Bool)) where
  Passes : List Bool → Type 0
  Passes all = SomeConjPasses c (IsTested tests) (truth_by atoms all)

  -- at the end there is one list
  pub at_end : (truths : List Bool) (n : ℕ) → length truths ≤ n → SomeConjPasses c (IsTested tests) (truth_by atoms truths) → CoversFrom atoms c tests truths n
  at_end truths n past passes all long front =
      let same : all ≡ truths = sym (all_taken n all (omega (arith, past, long))) ∙ (front ∙ all_taken n truths past) in
      subst (λ ts. SomeConjPasses c (IsTested tests) (truth_by atoms ts)) (sym same) passes

  -- where all are covered, those with this value are
  pub with_value : (truths set_so : List Bool) (n : ℕ) (b : Bool) → set_so ≡ set truths n b → CoversFrom atoms c tests truths n → CoversFrom atoms c tests set_so (n + 1)
  with_value truths set_so n b so covers all long front =
      let next : n + 1 ≡ suc n = omega arith in
      let set_long = set_length truths n b in
      let so_long = ap length so in
      let long_too : length all ≡ length truths = long ∙ (so_long ∙ set_long) in
      covers all long_too (front_set n truths all b (sym long_too) (subst (λ m. take m all ≡ take m (set truths n b)) next (front ∙ ap (take (n + 1)) so)))

  -- what is covered depends on the front alone
  pub same_front : (truths others : List Bool) (n : ℕ) → length others ≡ length truths → take n others ≡ take n truths → CoversFrom atoms c tests truths n → CoversFrom atoms c tests others n
  same_front truths others n many same covers all long front = covers all (long ∙ many) (front ∙ same)

  -- and those with either are all
  pub with_both : (truths first second : List Bool) (n : ℕ) (between : List Bool) → n < length truths → first ≡ set truths n true → length between ≡ length first → take (n + 1) between ≡ take (n + 1) first → second ≡ set between n false → CoversFrom atoms c tests first (n + 1) → CoversFrom atoms c tests second (n + 1) → CoversFrom atoms c tests truths n
  with_both truths first second n between less first_is between_long between_front second_is if_true if_false all long front = by (get_or all n false) refl where
    next : n + 1 ≡ suc n
    next = omega arith

    first_long : length first ≡ length truths
    first_long = ap length first_is ∙ set_length truths n true

    second_long : length second ≡ length truths
    second_long = ap length second_is ∙ (set_length between n false ∙ (between_long ∙ (ap length first_is ∙ set_length truths n true)))

    between_same : take n between ≡ take n truths
    between_same = front_back n truths between true (between_long ∙ ap length first_is) (between_front ∙ ap (take (n + 1)) first_is)

    by : (b : Bool) → get_or all n false ≡ b → SomeConjPasses c (IsTested tests) (truth_by atoms all)
    by true is =
        if_true all (long ∙ sym first_long) (subst (λ m. take m all ≡ take m first) (sym next)
        (set_front n truths all false long less front ∙ (ap (λ b. take (suc n) (set truths n b)) is ∙ ap (take (suc n)) (sym first_is))))
    by false is =
        let many : length between ≡ length truths = between_long ∙ first_long in
        if_false all (long ∙ sym second_long) (subst (λ m. take m all ≡ take m second) (sym next)
        (set_front n between all false (long ∙ sym many) (omega (arith, less, many)) (front ∙ sym between_same) ∙ (ap (λ b. take (suc n) (set between n b)) is ∙ ap (take (suc n)) (sym second_is))))
