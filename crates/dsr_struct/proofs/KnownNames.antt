-- The numbers for which names of structures, pools and sets stand are numbers of entries of the tables.
use Rattle.std.proofs.Common.{◌≡◌, ◌<◌, ℕ, true, false, List, [], length, codes, None, Some, IfSome, is_none, if◌then◌else◌, slice_get, refl, sym, ◌∙◌, subst, arith}
use Rattle.std.specs.Prelude.{◌≢◌, IsSomeAnd, IsTrue}
use Rattle.std.specs.Str.{bytes_eq}
use Rattle.std.proofs.lemmas.List.{length-map}
use Rattle.std.proofs.lemmas.Option.{IfSome_then}
use Rattle.std.proofs.lemmas.Slice.Eq.{bytes_eq-Decides}
use Rattle.dsr_tree.specs.Trees.{StructureTree, TreeShape}
use Rattle.dsr_tree.specs.declared.faults.Condition.TheVariants as conditions
use Rattle.dsr_tree.specs.declared.tree.PlacedName.{PlacedName}
use Rattle.dsr_language_theory.specs.Declarations.{unknown_name}
use Rattle.dsr_language_theory.specs.Names.{names_of, is_head, structure_number, used_structure}
use Rattle.dsr_meaning.specs.Typed.{IsPoolNumber, IsOtherStructure}
use Rattle.dsr_language_theory.specs.Tables.{pool_in, typed_structure, typed_pool, tables}
use Rattle.dsr_language_theory.proofs.Absent.{when_absent}
use Rattle.dsr_struct.proofs.Faultless.{AllEmpty}
use Rattle.dsr_struct.proofs.Found.{known_has, IsFound, found_passes, found_within, found_below}
use Rattle.dsr_struct.proofs.NamesInExprs.{number_has}

-- a structure of both names has one name
one_name : (ss : List StructureTree) (k : ℕ) (p q : List ℕ) → IsFound (λ s. bytes_eq s.name.name p) ss k → IsFound (λ s. bytes_eq s.name.name q) ss k → p ≡ q
one_name ss k p q is_p is_q =
    elim (slice_get ss k) as (λ o. IsSomeAnd o (λ s. IsTrue (bytes_eq s.name.name p)) → IsSomeAnd o (λ s. IsTrue (bytes_eq s.name.name q)) → p ≡ q) [
      | None ↦ λ a _. absurd a
      | Some s ↦ λ a b. sym ((bytes_eq-Decides s.name.name p).0 a) ∙ (bytes_eq-Decides s.name.name q).0 b
    ] is_p is_q

module _ (t : TreeShape) (empty : AllEmpty t) where
  -- `Head` is declared
  head_known : is_none (structure_number t (codes "Head")) ≡ false
  head_known = when_absent (is_none (structure_number t (codes "Head"))) conditions.UnknownName 0 empty.head

  -- the number of a structure that isn't called `Head` isn't that of `Head`
  is_other : (q : List ℕ) → is_head q ≡ false → (k : ℕ) → IsFound (λ s. bytes_eq s.name.name q) t.structures k → k ≢ (tables t).head
  is_other q e k found same =
      let head = known_has (structure_number t (codes "Head")) (IsFound (λ s. bytes_eq s.name.name (codes "Head")) t.structures) head_known (found_passes (λ s. bytes_eq s.name.name (codes "Head")) t.structures) in
      let called : q ≡ codes "Head" = one_name t.structures k q (codes "Head") found (subst (IsFound (λ s. bytes_eq s.name.name (codes "Head")) t.structures) (sym same) head) in
      let is : is_head q ≡ true = (bytes_eq-Decides q (codes "Head")).1 called in
      absurd cc

  pub other_structures : (q : List ℕ) → IfSome (used_structure (names_of t) q) (IsOtherStructure (tables t))
  other_structures q =
      elim (is_head q) as (λ b. is_head q ≡ b → IfSome (if b then None else structure_number t q) (IsOtherStructure (tables t))) [
        | true ↦ λ _. tt
        | false ↦ λ e. IfSome_then (structure_number t q) (found_passes (λ s. bytes_eq s.name.name q) t.structures) (λ k found. record {
          declared = rw (length-map t.structures (typed_structure (names_of t))) (found_within (λ s. bytes_eq s.name.name q) t.structures k found);
          other = is_other q e k found;
        })
      ] refl

  pub pool_numbers : (q : PlacedName) → unknown_name (names_of t).pool q ≡ [] → IsPoolNumber (tables t) (pool_in (names_of t) q)
  pool_numbers q e =
      let below = number_has (names_of t).pool (λ k. k < length t.pools) q (found_below (λ p. bytes_eq p.name.name q.name) t.pools) e in
      record { from = omega arith; to = rw (length-map t.pools (typed_pool (names_of t))) (omega (arith, below)) }
