-- Which records a relation may have, by the pools of one of its pairs.
use Rattle.std.proofs.Common.{◌≡◌, ◌∙◌, ℕ, List, Option, None, Some, IsSomeAnd, option_map, slice_get, sym, ap, subst}
use Rattle.std.proofs.lemmas.Option.{same_Some}
use Rattle.std.specs.Option.{option_map_or}
use Rattle.dsr_given.specs.Shapes.{target_in}
use Rattle.dsr_ir.specs.declared.tuples.Element.{Element}
use Rattle.dsr_ir.specs.declared.tuples.Fact.{Fact}
use Rattle.dsr_ir.specs.declared.tuples.Fact.TheVariants.{Pair}
use Rattle.dsr_ir.specs.declared.tuples.Target.{Target}
use Rattle.dsr_ir.specs.declared.tuples.Target.TheVariants.{Elem}
use Rattle.dsr_ir.specs.declared.updates.Symbol.TheVariants.{Rel}
use Rattle.dsr_meaning.specs.Looking.{FindsNextFact, IsOf}
use Rattle.dsr_model.specs.declared.sets.SetMarks.{SetMarks}
use Rattle.dsr_model.specs.Facts.{IsInModel, MayBeOf}
use Rattle.dsr_model.specs.Views.{ModelView}
use Rattle.dsr_relations.specs.Tuples.{IsInPools, MayBeTuple}
use Rattle.dsr_relations.specs.declared.rows.RelationRow.{RelationRow}

-- the record that is told by its pool and its slot
of_pool : (e : Element) (pool : ℕ) → e.pool ≡ pool → e ≡ record { pool = pool; slot = e.slot }
of_pool e pool same = λ i. record { pool = same i; slot = e.slot }

target_pool : (pools : Option ℕ) (t : Element) (n : ℕ) (other : Element) → Elem t ≡ target_in pools n → t.pool ≡ other.pool
    → Elem other ≡ target_in pools other.slot
target_pool None t n other is same = absurd cc
target_pool (Some pool) t n other is same =
    let one : t ≡ record { pool = pool; slot = n } = cc in
    ap Elem (of_pool other pool (sym same ∙ ap (λ (e : Element). e.pool) one))

in_pools : (row : RelationRow) (from to source target : Element) → IsInPools row from (Elem to)
    → from.pool ≡ source.pool → to.pool ≡ target.pool → IsInPools row source (Elem target)
in_pools row from to source target is one two = (
  (source.slot, target.slot),
  record {
    source_is = of_pool source row.source (sym one ∙ ap (λ (e : Element). e.pool) is.1.source_is);
    target_is = target_pool row.target to is.0.1 target is.1.target_is two;
  },
)

-- what has the pools of a pair that may be may be too
pub may_be : (rows : List RelationRow) (rel : ℕ) (from to source target : Element) → MayBeTuple rows rel from (Elem to)
    → from.pool ≡ source.pool → to.pool ≡ target.pool → MayBeTuple rows rel source (Elem target)
may_be rows rel from to source target is one two = of_row (slice_get rows rel) is where
  of_row : (found : Option RelationRow) → IsSomeAnd found (λ row. IsInPools row from (Elem to))
      → IsSomeAnd found (λ row. IsInPools row source (Elem target))
  of_row None none = absurd none
  of_row (Some row) its = in_pools row from to source target its one two

-- the pool of the set
pub set_pool_is : (found : Option SetMarks) (pool : ℕ) → Some pool ≡ option_map (λ s. s.pool) found → pool ≡ option_map_or (λ s. s.pool) found 0
set_pool_is None pool is = absurd cc
set_pool_is (Some s) pool is = same_Some pool s.pool is

-- the first fact of a relation, which may be a pair of it
pub first_may_be : (model : ModelView) (rel : ℕ) (fact : Fact) (r : ℕ) (source : Element) (target : Target) (to : Element)
    → FindsNextFact (IsInModel model) (Rel rel) None (Some fact)
    → ((other : Fact) → IsOf (IsInModel model) (Rel rel) other → MayBeOf model (Rel rel) other)
    → fact ≡ Pair r source target → target ≡ Elem to → MayBeTuple model.relations rel source (Elem to)
first_may_be model rel fact r source target to next kinds fact_is target_is =
    let is : fact ≡ Pair r source (Elem to) = fact_is ∙ ap (Pair r source) target_is in
    let may : MayBeOf model (Rel rel) (Pair r source (Elem to)) = subst (MayBeOf model (Rel rel)) is (kinds fact next.of_kind.0) in
    subst (λ n. MayBeTuple model.relations n source (Elem to)) may.0 may.1
