-- The ancestors of a structure among those that are declared so far.
use Rattle.std.proofs.Common.{◌≡◌, ◌<◌, ◌≤◌, ℕ, true, false, nat_eq, List, [], ◌∷◌, length, refl, ◌∙◌, arith}
use Rattle.std.specs.Option.{option_map_or}
use Rattle.std.proofs.lemmas.Bool.{cond-true, cond-false}
use Rattle.std.proofs.lemmas.Grind.{common_steps}
use Rattle.dsr_ir.specs.declared.declarations.Structure.{Structure}
use Rattle.dsr_meaning.specs.Typed.{ancestors_among}

-- a structure changes nothing for those before it
pub in_earlier : (s : Structure) (earlier : List Structure) (i : ℕ) → i < length earlier → ancestors_among (s ∷ earlier) i ≡ ancestors_among earlier i
in_earlier s earlier i lt =
    let other : nat_eq i (length earlier) ≡ false = grind (arith, common_steps) in
    cond-false (nat_eq i (length earlier)) (option_map_or (λ p. p ∷ ancestors_among earlier p) s.parent []) (ancestors_among earlier i) other

-- its own ancestors are found among those before it
pub of_last : (s : Structure) (earlier : List Structure) (i : ℕ) → i ≡ length earlier → ancestors_among (s ∷ earlier) i ≡ option_map_or (λ p. p ∷ ancestors_among earlier p) s.parent []
of_last s earlier i is =
    let found : nat_eq i (length earlier) ≡ true = grind (arith, common_steps) in
    cond-true (nat_eq i (length earlier)) (option_map_or (λ p. p ∷ ancestors_among earlier p) s.parent []) (ancestors_among earlier i) found

-- a number past the end is that of no structure
pub past_end : (ss : List Structure) (i : ℕ) → length ss ≤ i → ancestors_among ss i ≡ []
past_end [] i le = refl
past_end (s ∷ earlier) i le =
    let other : nat_eq i (length earlier) ≡ false = let lt : length earlier < i = omega arith in grind (arith, common_steps) in
    cond-false (nat_eq i (length earlier)) (option_map_or (λ p. p ∷ ancestors_among earlier p) s.parent []) (ancestors_among earlier i) other
    ∙ past_end earlier i (omega arith)
