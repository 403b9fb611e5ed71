-- The instances of all rules have a list, and so have the facts that they give, and all bindings.
use Rattle.std.proofs.Common.{◌≡◌, ◌≤◌, ◌+◌, ◌*◌, ℕ, zero, suc, List, [], ◌∷◌, ◌++◌, map, length, Some, slice_get, inl, inr, refl, sym, subst, ◌∙◌, arith}
use Rattle.std.proofs.Math.Nat.{suc-mul}
use Rattle.std.proofs.lemmas.List.{length-append, length-map}
use Rattle.dsr_ir.specs.declared.declarations.Spec.{Spec}
use Rattle.dsr_ir.specs.declared.layouts.Layout.{Layout}
use Rattle.dsr_ir.specs.declared.rules.Rule.{Rule}
use Rattle.dsr_ir.specs.declared.tuples.Instance.{Instance}
use Rattle.dsr_meaning.specs.Counting.{IsIn}
use Rattle.dsr_meaning.specs.Instances.{IsInstance, index_count, premise_pool, record_count}
use Rattle.dsr_meaning.specs.Refusals.{rule_instances}
use Rattle.dsr_bound_laws.proofs.Sublists.{numbers_below}
use Rattle.dsr_meaning.proofs.Items.{in_left, in_right, map_in}

-- a thing for each of one list with each of another
grid : {A : Type 0} → (ℕ → ℕ → A) → List ℕ → List ℕ → List A
grid f [] ys = []
grid f (x ∷ xs) ys = map (f x) ys ++ grid f xs ys

grid_long : {A : Type 0} (f : ℕ → ℕ → A) (xs ys : List ℕ) → length (grid f xs ys) ≡ length xs * length ys
unfolding grid
grid_long f [] ys = omega arith
grid_long f (x ∷ xs) ys =
    let rest = grid_long f xs ys in
    let both = length-append (map (f x) ys) (grid f xs ys) in
    let here = length-map ys (f x) in
    let more = suc-mul (length xs) (length ys) in
    omega (arith, rest, both, here, more)

in_grid : {A : Type 0} (f : ℕ → ℕ → A) (a b : ℕ) (xs ys : List ℕ) → IsIn a xs → IsIn b ys → IsIn (f a b) (grid f xs ys)
unfolding grid
in_grid f a b [] ys i j = absurd i
in_grid f a b (x ∷ xs) ys (inl e) j = in_left (f a b) (map (f x) ys) (grid f xs ys) (subst (λ z. IsIn (f a b) (map (f z) ys)) e (map_in (f a) b ys j))
in_grid f a b (x ∷ xs) ys (inr i) j = in_right (f a b) (map (f x) ys) (grid f xs ys) (in_grid f a b xs ys i j)

module _ (spec : Spec) (layout : Layout) where
  -- the instances of a rule with its number
  at : ℕ → ℕ → ℕ → ℕ → Instance
  at k pool slot index = record { rule = k; elem = record { pool = pool; slot = slot }; index = index }

  of_rule : ℕ → Rule → List Instance
  of_rule k rule = grid (at k (premise_pool spec rule)) (numbers_below (record_count layout (premise_pool spec rule))).0 (numbers_below (index_count layout rule.span)).0

  of_rule_long : (k : ℕ) (rule : Rule) → length (of_rule k rule) ≡ rule_instances spec layout rule
  unfolding of_rule
  of_rule_long k rule =
      let records = numbers_below (record_count layout (premise_pool spec rule)) in
      let entries = numbers_below (index_count layout rule.span) in
      grid_long (at k (premise_pool spec rule)) records.0 entries.0 ∙ (λ t. records.1.0 t * entries.1.0 t)

  in_rule : (k : ℕ) (rule : Rule) (i : Instance) → i.rule ≡ k → IsInstance spec layout i rule → IsIn i (of_rule k rule)
  unfolding of_rule at
  in_rule k rule i k_is instance =
      let records = numbers_below (record_count layout (premise_pool spec rule)) in
      let entries = numbers_below (index_count layout rule.span) in
      let there = in_grid (at k (premise_pool spec rule)) i.elem.slot i.index records.0 entries.0 (records.1.1 i.elem.slot instance.slot_below) (entries.1.1 i.index instance.index_below) in
      subst (λ (x : Instance). IsIn x (grid (at k (premise_pool spec rule)) records.0 entries.0))
      (λ t. record { rule = sym k_is t; elem = record { pool = sym instance.pool_is t; slot = i.elem.slot }; index = i.index }) there

  -- those of rules of which the first has the number k
  pub record AllInstances (k few : ℕ) (rules : List Rule) : Type 0 where
    pub instances : List Instance
    pub bounded : length instances ≤ length rules * few
    pub all :
        (j : ℕ) (rule : Rule) (i : Instance) → slice_get rules j ≡ Some rule → i.rule ≡ k + j
        → IsInstance spec layout i rule → IsIn i instances

  pub all_from : (k few : ℕ) (rules : List Rule) → ((j : ℕ) (rule : Rule) → slice_get rules j ≡ Some rule → rule_instances spec layout rule ≤ few) → AllInstances k few rules
  all_from k few [] less = record { instances = []; bounded = omega arith; all = λ j rule i is n instance. absurd cc }
  all_from k few (rule ∷ rules) less =
      let rest = all_from (suc k) few rules (λ j r is. less (suc j) r is) in
      record {
        instances = of_rule k rule ++ rest.instances;
        bounded =
            let both = length-append (of_rule k rule) rest.instances in
            let here = of_rule_long k rule in
            let few_here = less 0 rule refl in
            let few_there = rest.bounded in
            let more = suc-mul (length rules) few in
            omega (arith, both, here, few_here, few_there, more);
        all = here_or_later rest;
      } where
        here_or_later :
            (rest : AllInstances (suc k) few rules) (j : ℕ) (r : Rule) (i : Instance) → slice_get (rule ∷ rules) j ≡ Some r → i.rule ≡ k + j
            → IsInstance spec layout i r → IsIn i (of_rule k rule ++ rest.instances)
        here_or_later rest zero r i is n instance =
            let same : rule ≡ r = cc in
            in_left i (of_rule k rule) rest.instances (in_rule k rule i (omega (arith, n)) (subst (λ x. IsInstance spec layout i x) (sym same) instance))
        here_or_later rest (suc j) r i is n instance =
            in_right i (of_rule k rule) rest.instances (rest.all j r i is (omega (arith, n)) instance)
