-- The ancestors of structures, where one more structure is declared behind them.
use Rattle.std.proofs.Common.{◌≡◌, ◌<◌, ◌+◌, ℕ, true, false, nat_eq, nat_lt, List, [], ◌∷◌, ◌++◌, map, take, length, reverse, get_or, Option, None, Some, if◌then◌else◌, refl, sym, ap, ◌∙◌, add-one, zero-add, arith}
use Rattle.std.proofs.Math.Seq.{take-suc}
use Rattle.std.proofs.lemmas.Bool.{cond-true, cond-false}
use Rattle.std.proofs.lemmas.Grind.{common_steps}
use Rattle.std.proofs.lemmas.List.{length-reverse, map-append, reverse-append}
use Rattle.std.specs.Option.{option_map_or}
use Rattle.dsr_tree.specs.Trees.{StructureTree, structure_shape}
use Rattle.dsr_tree.specs.declared.tree.PlacedName.{PlacedName}
use Rattle.dsr_tree.specs.declared.tree.Structure.{Structure}
use Rattle.dsr_language_theory.specs.Names.{all_ancestors, ancestors_in, before, is_head, parent_number, with_ancestors}
use Rattle.dsr_names.proofs.ByNumber.{by_number, by_number-get, by_number-length, by_number-push, by_number-same}

-- a parent with its ancestors, where there is one
pub line_is : (f : ℕ → List ℕ) (parent : Option ℕ) → option_map_or (λ p. p ∷ f p) parent [] ≡ with_ancestors f parent
line_is f None = refl
line_is f (Some p) = refl

-- a parent stands before its structure, so only the ancestors of earlier structures are asked
module _ (f g : ℕ → List ℕ) (n : ℕ) (same : (p : ℕ) → p < n → f p ≡ g p) where
  before_same : (found : Option ℕ) → with_ancestors f (before n found) ≡ with_ancestors g (before n found)
  before_same None = refl
  before_same (Some p) = elim (nat_lt p n) as (λ b. nat_lt p n ≡ b → with_ancestors f (if b then Some p else None) ≡ with_ancestors g (if b then Some p else None)) [
    | true ↦ λ e. ap (λ line. p ∷ line) (same p (grind (arith, common_steps)))
    | false ↦ λ e. refl
  ] refl

  parent_same : (number : List ℕ → Option ℕ) (parent : Option PlacedName) → with_ancestors f (parent_number number n parent) ≡ with_ancestors g (parent_number number n parent)
  parent_same number None = refl
  parent_same number (Some q) = elim (is_head q.name) as (λ b. with_ancestors f (if b then None else before n (number q.name)) ≡ with_ancestors g (if b then None else before n (number q.name))) [
    | true ↦ refl
    | false ↦ before_same (number q.name)
  ]

module _ (number : List ℕ → Option ℕ) where
  -- a structure changes nothing for those before it
  in_earlier : (s : StructureTree) (earlier : List StructureTree) (i : ℕ) → i < length earlier → ancestors_in number (s ∷ earlier) i ≡ ancestors_in number earlier i
  in_earlier s earlier i lt =
      let other : nat_eq i (length earlier) ≡ false = grind (arith, common_steps) in
      cond-false (nat_eq i (length earlier)) (with_ancestors (ancestors_in number earlier) (parent_number number i s.parent)) (ancestors_in number earlier i) other

  -- its own ancestors are found among those before it
  of_last : (s : StructureTree) (earlier : List StructureTree) (i : ℕ) → i ≡ length earlier → ancestors_in number (s ∷ earlier) i ≡ with_ancestors (ancestors_in number earlier) (parent_number number i s.parent)
  of_last s earlier i is =
      let found : nat_eq i (length earlier) ≡ true = grind (arith, common_steps) in
      cond-true (nat_eq i (length earlier)) (with_ancestors (ancestors_in number earlier) (parent_number number i s.parent)) (ancestors_in number earlier i) found

  -- the ancestors of all structures, where one more stands behind
  ancestors_push : (ss : List StructureTree) (s : StructureTree) → all_ancestors number (ss ++ s ∷ []) ≡ all_ancestors number ss ++ with_ancestors (λ p. get_or (all_ancestors number ss) p []) (parent_number number (length ss) s.parent) ∷ []
  ancestors_push ss s =
      let many = length-reverse ss in
      let was = ancestors_in number (reverse ss) in
      let now = ancestors_in number (s ∷ reverse ss) in
      let earlier : by_number now 0 ss ≡ by_number was 0 ss = by_number-same now was 0 ss (λ i lt. in_earlier s (reverse ss) i (rw many (omega arith))) in
      let last : now (0 + length ss) ≡ with_ancestors (λ p. get_or (all_ancestors number ss) p []) (parent_number number (length ss) s.parent) =
      ap now (zero-add (length ss))
      ∙ of_last s (reverse ss) (length ss) (sym many)
      ∙ parent_same was (λ p. get_or (all_ancestors number ss) p []) (length ss) (λ p lt. sym (by_number-get was 0 ss p [] lt ∙ ap was (zero-add p))) number s.parent in
      ap (λ rs. by_number (ancestors_in number rs) 0 (ss ++ s ∷ [])) (reverse-append ss (s ∷ []))
      ∙ by_number-push now 0 ss s
      ∙ (λ j. earlier j ++ last j ∷ [])

  -- the ancestors of the structures up to one, and then of that one too
  pub ancestors_next : (old : List (List ℕ)) {new : List (List ℕ)} {line : List ℕ} (xs : List Structure) (i : ℕ) (x : Structure) → i < length xs → x ≡ get_or xs i x → old ≡ all_ancestors number (map structure_shape (take i xs)) → new ≡ old ++ line ∷ [] → line ≡ with_ancestors (λ p. get_or old p []) (parent_number number (length old) x.parent) → new ≡ all_ancestors number (map structure_shape (take (i + 1) xs))
  ancestors_next old xs i x lt is known pushed told =
      let ss = map structure_shape (take i xs) in
      let more : take (i + 1) xs ≡ take i xs ++ x ∷ [] = rw add-one (take-suc xs i x lt ∙ ap (λ y. take i xs ++ y ∷ []) (sym is)) in
      let many : length (all_ancestors number ss) ≡ length ss = by_number-length (ancestors_in number (reverse ss)) 0 ss in
      pushed
      ∙ ap (λ l. old ++ l ∷ []) told
      ∙ ap (λ ls. ls ++ with_ancestors (λ p. get_or ls p []) (parent_number number (length ls) x.parent) ∷ []) known
      ∙ ap (λ n. all_ancestors number ss ++ with_ancestors (λ p. get_or (all_ancestors number ss) p []) (parent_number number n x.parent) ∷ []) many
      ∙ sym (ancestors_push ss (structure_shape x))
      ∙ sym (ap (λ ys. all_ancestors number (map structure_shape ys)) more ∙ ap (all_ancestors number) (map-append structure_shape (take i xs) (x ∷ [])))
