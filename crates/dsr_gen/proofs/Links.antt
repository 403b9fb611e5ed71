-- How many links there are, and one more of the straight ones.
use Rattle.std.proofs.Common.{◌≡◌, ◌≤◌, ◌+◌, ◌-◌, ◌/◌, ◌%◌, ◌++◌, ◌∷◌, ◌∙◌, ℕ, List, [], length, zero, suc, refl, ap, sym, arith, add-one}
use Rattle.std.proofs.lemmas.List.{length-set}
use Rattle.std.proofs.lemmas.List.FromFn.{length-range_with_len}
use Rattle.std.proofs.lemmas.Grind.{common_steps}
use Rattle.std.specs.List.{range_with_len}
use Rattle.std.specs.Prelude.{slice_set}
use Rattle.dsr_gen.specs.Images.{straight_links, next_seed, seed_at, links_after, trial_links}

range_more : (a n : ℕ) → range_with_len a (suc n) ≡ range_with_len a n ++ (a + n) ∷ []
range_more a zero =
    let e : a ≡ a + 0 = omega arith in ap (λ x. x ∷ []) e
range_more a (suc n) =
    let e : a + 1 + n ≡ a + suc n = omega arith in
    ap (λ xs. a ∷ xs) (range_more (a + 1) n ∙ ap (λ x. range_with_len (a + 1) n ++ x ∷ []) e)

-- one more slot, whose node leads to the next one
pub straight_more : (slot : ℕ) → 1 ≤ slot → range_with_len 2 (slot + 1 - 1) ≡ range_with_len 2 (slot - 1) ++ (slot + 1) ∷ []
straight_more slot some =
    let e : slot + 1 - 1 ≡ suc (slot - 1) = omega arith in
    let f : 2 + (slot - 1) ≡ slot + 1 = omega arith in
    rw e (range_more 2 (slot - 1) ∙ ap (λ x. range_with_len 2 (slot - 1) ++ x ∷ []) f)

-- there is one link a node
pub straight_count : (number : ℕ) → length (straight_links number) ≡ number
straight_count zero = refl
straight_count (suc last) = grind (arith, common_steps, length-range_with_len)

pub links_count : (number round : ℕ) → length (links_after number round) ≡ number
unfolding links_after
links_count number zero = straight_count number
links_count number (suc round) =
    length-set (links_after number round) (seed_at number (suc round) % number) (seed_at number (suc round) / 8 % (number + 2))
    ∙ links_count number round

pub trial_count : (number : ℕ) → length (trial_links number) ≡ number
trial_count zero = refl
trial_count (suc last) =
    let count = links_count (suc last) 8 in
    grind (arith, common_steps, count)

-- one round more
pub seed_next : (number round seed next : ℕ) → seed ≡ seed_at number round → next ≡ next_seed seed → next ≡ seed_at number (round + 1)
unfolding seed_at
seed_next number round seed next before made =
    made ∙ ap next_seed before ∙ ap (seed_at number) (sym (add-one round))

pub link_led : (number round seed place eighth wide : ℕ) (links : List ℕ) → links ≡ links_after number round → seed ≡ seed_at number (round + 1) → place ≡ seed % number → eighth ≡ seed / 8 → wide ≡ number → slice_set links place (eighth % (wide + 2)) ≡ links_after number (round + 1)
unfolding links_after
link_led number round seed place eighth wide links links_are seed_is place_is eighth_is wide_is =
    rw (links_are, place_is, eighth_is, wide_is, seed_is, add-one round) refl
