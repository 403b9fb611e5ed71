-- The writes that make guards true, where one more is looked at.
use Rattle.std.proofs.Common.{◌≡◌, ◌<◌, ◌≤◌, ◌+◌, ◌-◌, ℕ, true, false, List, [], ◌∷◌, ◌++◌, take, drop, length, get_or, Option, None, Some, option_map, option_and_then, if◌then◌else◌, refl, sym, ap, ◌∙◌, append_assoc}
use Rattle.std.proofs.lemmas.List.{append-nil, drop_more, drop_all, take_more, take_rest}
use Rattle.dsr_ir.specs.declared.declarations.FieldRef.{FieldRef}
use Rattle.dsr_ir.specs.declared.declarations.Structures.{Structures}
use Rattle.dsr_ir.specs.declared.rules.Guard.{Guard}
use Rattle.dsr_ir.specs.declared.updates.Write.{Write}
use Rattle.dsr_meaning.specs.Lists.{any_of}
use Rattle.dsr_update_theory.specs.Guards.{guard_write}
use Rattle.dsr_update_theory.specs.Templates.{all_true, is_on, others}

-- ---- guards on other fields

others_push : (field : FieldRef) (xs : List Guard) (x : Guard) → others field (xs ++ x ∷ []) ≡ others field xs ++ (if is_on field x then [] else x ∷ [])
others_push field [] x = elim (is_on field x) as (λ b. (if b then [] else x ∷ []) ≡ (if b then [] else x ∷ [])) [ true ↦ refl | false ↦ refl ]
others_push field (y ∷ ys) x = elim (is_on field y) as (λ b. (if b then others field (ys ++ x ∷ []) else y ∷ others field (ys ++ x ∷ [])) ≡ (if b then others field ys else y ∷ others field ys) ++ (if is_on field x then [] else x ∷ [])) [
  | true ↦ others_push field ys x
  | false ↦ ap (λ zs. y ∷ zs) (others_push field ys x)
]

module _ (field : FieldRef) (xs : List Guard) (i : ℕ) (d : Guard) (lt : i < length xs) where
  others_next : others field (take (i + 1) xs) ≡ others field (take i xs) ++ (if is_on field (get_or xs i d) then [] else get_or xs i d ∷ [])
  others_next = ap (others field) (take_more xs i d lt) ∙ others_push field (take i xs) (get_or xs i d)

  -- one guard more is on the field, or it isn't
  pub others_skips : is_on field (get_or xs i d) ≡ true → {kept : List Guard} → kept ≡ others field (take i xs) → kept ≡ others field (take (i + 1) xs)
  others_skips on before =
      before
      ∙ sym (others_next ∙ ap (λ b. others field (take i xs) ++ (if b then [] else get_or xs i d ∷ [])) on ∙ append-nil (others field (take i xs)))

  pub others_keeps : is_on field (get_or xs i d) ≡ false → {kept more : List Guard} → more ≡ kept ++ get_or xs i d ∷ [] → kept ≡ others field (take i xs) → more ≡ others field (take (i + 1) xs)
  others_keeps off grown before =
      grown
      ∙ ap (λ gs. gs ++ get_or xs i d ∷ []) before
      ∙ sym (others_next ∙ ap (λ b. others field (take i xs) ++ (if b then [] else get_or xs i d ∷ [])) off)

-- ---- all guards made true

-- the write of the first guard, where no other one is on its field
abbrev pub first_write : Structures → Guard → List Guard → Option Write
first_write base guard rest =
    if any_of (is_on guard.path.field) rest then None else guard_write base true guard

all_true_is : (base : Structures) (guard : Guard) (rest : List Guard) → all_true base (guard ∷ rest) ≡ option_and_then (λ w. option_map (λ ws. w ∷ ws) (all_true base rest)) (first_write base guard rest)
all_true_is base guard rest = elim (any_of (is_on guard.path.field) rest) as (λ b. (if b then None else option_and_then (λ w. option_map (λ ws. w ∷ ws) (all_true base rest)) (guard_write base true guard)) ≡ option_and_then (λ w. option_map (λ ws. w ∷ ws) (all_true base rest)) (if b then None else guard_write base true guard)) [ true ↦ refl | false ↦ refl ]

left_is : (base : Structures) (xs : List Guard) (i : ℕ) (d : Guard) → i < length xs → all_true base (drop i xs) ≡ option_and_then (λ w. option_map (λ ws. w ∷ ws) (all_true base (drop (i + 1) xs))) (first_write base (get_or xs i d) (drop (i + 1) xs))
left_is base xs i d lt =
    ap (all_true base) (drop_more xs i d lt)
    ∙ all_true_is base (get_or xs i d) (drop (i + 1) xs)

behind : (front : List Write) (w : Write) (made : Option (List Write)) → option_map (λ ws. (front ++ w ∷ []) ++ ws) made ≡ option_map (λ ws. front ++ ws) (option_map (λ ws. w ∷ ws) made)
behind front w None = refl
behind front w (Some ws) = ap Some (append_assoc front (w ∷ []) ws)

module _ (base : Structures) (xs : List Guard) (i : ℕ) (d : Guard) (lt : i < length xs) (front : List Write) (whole : Option (List Write)) (left : option_map (λ ws. front ++ ws) (all_true base (drop i xs)) ≡ whole) where
  -- one guard more has its write; the code looks at the slice behind it
  pub true_next : (w : Write) {written : List Write} → written ≡ front ++ w ∷ [] → first_write base (get_or xs i d) (take (length xs - (i + 1)) (drop (i + 1) xs)) ≡ Some w → option_map (λ ws. written ++ ws) (all_true base (drop (i + 1) xs)) ≡ whole
  true_next w grown has =
      ap (λ zs. option_map (λ ws. zs ++ ws) (all_true base (drop (i + 1) xs))) grown
      ∙ behind front w (all_true base (drop (i + 1) xs))
      ∙ ap (λ o. option_map (λ ws. front ++ ws) (option_and_then (λ v. option_map (λ ws. v ∷ ws) (all_true base (drop (i + 1) xs))) o)) (sym has ∙ ap (first_write base (get_or xs i d)) (take_rest xs (i + 1)))
      ∙ sym (ap (option_map (λ ws. front ++ ws)) (left_is base xs i d lt))
      ∙ left

  -- or it has none, and then all haven't
  pub true_stops : first_write base (get_or xs i d) (take (length xs - (i + 1)) (drop (i + 1) xs)) ≡ None → None ≡ whole
  true_stops none =
      ap (λ o. option_map (λ ws. front ++ ws) (option_and_then (λ v. option_map (λ ws. v ∷ ws) (all_true base (drop (i + 1) xs))) o)) (sym none ∙ ap (first_write base (get_or xs i d)) (take_rest xs (i + 1)))
      ∙ sym (ap (option_map (λ ws. front ++ ws)) (left_is base xs i d lt))
      ∙ left

pub true_ends : (base : Structures) (xs : List Guard) (i : ℕ) {front : List Write} {whole : Option (List Write)} → length xs ≤ i → option_map (λ ws. front ++ ws) (all_true base (drop i xs)) ≡ whole → Some front ≡ whole
true_ends base xs i {front} past left =
    ap Some (sym (append-nil front))
    ∙ ap (λ gs. option_map (λ ws. front ++ ws) (all_true base gs)) (sym (drop_all i xs past))
    ∙ left
