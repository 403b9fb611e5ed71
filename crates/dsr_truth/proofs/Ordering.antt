-- Bindings in order, and facts in the same order.
use Rattle.std.proofs.Common.{◌≡◌, ℕ, ◌<◌, ◌⊎◌, Option, None, Some, IfSome, IsSomeAnd, slice_get, option_map, refl, sym, subst, ◌∙◌, arith, inl, inr}
use Rattle.dsr_ir.specs.declared.constraints.Quant.TheVariants as quants
use Rattle.dsr_ir.specs.declared.tuples.Binding.{Binding}
use Rattle.dsr_ir.specs.declared.tuples.Binding.TheVariants as bindings
use Rattle.dsr_ir.specs.declared.tuples.Element.{Element}
use Rattle.dsr_ir.specs.declared.tuples.Fact.{Fact}
use Rattle.dsr_ir.specs.declared.tuples.Fact.TheVariants.{Member, Pair}
use Rattle.dsr_ir.specs.declared.tuples.Target.TheVariants.{Elem, Num}
use Rattle.dsr_ir.specs.declared.updates.Symbol.TheVariants.{Set, Rel}
use Rattle.dsr_given.specs.Shapes.{target_in}
use Rattle.dsr_meaning.specs.Looking.{FindsNextFact, Follows, IsLater, IsOf}
use Rattle.dsr_meaning.specs.Orders.{BindingPrecedes, Precedes}
use Rattle.dsr_model.proofs.Found.{symbol_same}
use Rattle.dsr_model.specs.Facts.{IsInModel, MayBeOf, facts_after}
use Rattle.dsr_model.specs.Views.{ModelView}
use Rattle.dsr_relations.specs.Tuples.{IsInPools}
use Rattle.dsr_relations.specs.declared.rows.RelationRow.{RelationRow}
use Rattle.dsr_truth.specs.Walks.{ComesAfter, FindsLeastBinding, IsLaterBinding, MayBind, bindings_after, each, pair}
use Rattle.dsr_relations.proofs.Facts.{same_relation}
use Rattle.dsr_meaning.proofs.Ordered.{elements_follow}

-- ---- what comes later than what comes later

pairs_follow : (a b c x y z : Element) → Precedes a b ⊎ ((a ≡ b) × Precedes x y)
    → Precedes b c ⊎ ((b ≡ c) × Precedes y z)
    → Precedes a c ⊎ ((a ≡ c) × Precedes x z)
pairs_follow a b c x y z (inl p) (inl q) = inl (elements_follow a b c p q)
pairs_follow a b c x y z (inl p) (inr q) = inl (subst (Precedes a) q.0 p)
pairs_follow a b c x y z (inr p) (inl q) = inl (subst (λ e. Precedes e c) (sym p.0) q)
pairs_follow a b c x y z (inr p) (inr q) = inr (p.0 ∙ q.0, elements_follow x y z p.1 q.1)

pub bindings_follow : (a b c : Binding) → BindingPrecedes a b → BindingPrecedes b c → BindingPrecedes a c
bindings_follow bindings.Once bindings.Once c p q = absurd p
bindings_follow bindings.Once (bindings.Each b) bindings.Once p q = absurd q
bindings_follow bindings.Once (bindings.Each b) (bindings.Each c) p q = tt
bindings_follow bindings.Once (bindings.Each b) (bindings.Pair c d) p q = tt
bindings_follow bindings.Once (bindings.Pair b e) bindings.Once p q = absurd q
bindings_follow bindings.Once (bindings.Pair b e) (bindings.Each c) p q = absurd q
bindings_follow bindings.Once (bindings.Pair b e) (bindings.Pair c d) p q = tt
bindings_follow (bindings.Each a) bindings.Once c p q = absurd p
bindings_follow (bindings.Each a) (bindings.Each b) bindings.Once p q = absurd q
bindings_follow (bindings.Each a) (bindings.Each b) (bindings.Each c) p q = elements_follow a b c p q
bindings_follow (bindings.Each a) (bindings.Each b) (bindings.Pair c d) p q = tt
bindings_follow (bindings.Each a) (bindings.Pair b e) bindings.Once p q = absurd q
bindings_follow (bindings.Each a) (bindings.Pair b e) (bindings.Each c) p q = absurd q
bindings_follow (bindings.Each a) (bindings.Pair b e) (bindings.Pair c d) p q = tt
bindings_follow (bindings.Pair a x) bindings.Once c p q = absurd p
bindings_follow (bindings.Pair a x) (bindings.Each b) c p q = absurd p
bindings_follow (bindings.Pair a x) (bindings.Pair b y) bindings.Once p q = absurd q
bindings_follow (bindings.Pair a x) (bindings.Pair b y) (bindings.Each c) p q = absurd q
bindings_follow (bindings.Pair a x) (bindings.Pair b y) (bindings.Pair c z) p q = pairs_follow a b c x y z p q

-- ---- members as bindings

abbrev member : ℕ → Element → Fact
member set e = Member set e

-- the binding of a member
abbrev pub each_of : Option Fact → Option Binding
each_of None = None
each_of (Some (Member s e)) = Some (bindings.Each e)
each_of (Some (Pair r e t)) = None

module _ (m : ModelView) (set : ℕ) where
  member_later : (before : Option Element) (e : Element) → ComesAfter (option_map each before) (bindings.Each e)
      → Follows (option_map (member set) before) (Member set e)
  member_later None e after = tt
  member_later (Some x) e after = inr (refl, after)

  each_later : (before : Option Element) (e : Element) → Follows (option_map (member set) before) (Member set e)
      → ComesAfter (option_map each before) (bindings.Each e)
  each_later None e after = tt
  each_later (Some x) e (inl less) = absurd (omega (arith, less))
  each_later (Some x) e (inr after) = after.1

  each_is : (before : Option Element) (b : Binding) → IsLaterBinding (IsInModel m) (quants.Each set)
      (option_map each before) b
      → (e : Element) × (b ≡ bindings.Each e) × IsLater (IsInModel m) (Set set) (option_map (member set) before)
      (Member set e)
  each_is before bindings.Once is = absurd is.0
  each_is before (bindings.Each e) is = (e, refl, ((refl, is.0), member_later before e is.1))
  each_is before (bindings.Pair e f) is = absurd is.0

  pub each_next : (before : Option Element) (answer : Option Fact)
      → FindsNextFact (IsInModel m) (Set set) (option_map (member set) before) answer
      → FindsLeastBinding (IsLaterBinding (IsInModel m) (quants.Each set) (option_map each before))
      (each_of answer)
  each_next before None h = λ b is. let it = each_is before b is in h (Member set it.0) it.2
  each_next before (Some (Member s e)) h =
      let same : s ≡ set = symbol_same s set h.of_kind.0.0 in
      let held : IsInModel m (Member set e) = subst (λ k. IsInModel m (Member k e)) same h.of_kind.0.1 in
      let after : Follows (option_map (member set) before) (Member set e) =
      subst (λ k. Follows (option_map (member set) before) (Member k e)) same h.of_kind.1 in
      record {
        of_kind = (held, each_later before e after);
        none_before = λ other is less.
            let it = each_is before other is in
            h.none_before (Member set it.0) it.2
            (inr (sym same, subst (λ b. BindingPrecedes b (bindings.Each e)) it.1 less));
      }
  each_next before (Some (Pair r e t)) h = absurd cc

  pub each_kind : (answer : Option Fact) → ((f : Fact) → IsOf (IsInModel m) (Set set) f → MayBeOf m (Set set) f)
      → (before : Option Element) → FindsNextFact (IsInModel m) (Set set) (option_map (member set) before) answer
      → IfSome (each_of answer) (MayBind m (quants.Each set))
  each_kind None kinds before h = tt
  each_kind (Some (Member s e)) kinds before h =
      let same : s ≡ set = symbol_same s set h.of_kind.0.0 in
      subst (λ k. MayBeOf m (Set set) (Member k e)) same (kinds (Member s e) h.of_kind.0)
  each_kind (Some (Pair r e t)) kinds before h = tt

  pub each_fewer : (answer : Option Fact) (before : Option Element)
      → FindsNextFact (IsInModel m) (Set set) (option_map (member set) before) answer
      → IfSome answer (λ next.
      facts_after m (Set set) (Some next) < facts_after m (Set set) (option_map (member set) before))
      → IfSome (each_of answer) (λ next. bindings_after m (quants.Each set) (Some next)
      < bindings_after m (quants.Each set) (option_map each before))
  each_fewer None before h fewer = tt
  each_fewer (Some (Member s e)) None h fewer =
      let same : s ≡ set = symbol_same s set h.of_kind.0.0 in
      subst (λ k. facts_after m (Set set) (Some (Member k e)) < facts_after m (Set set) None) same fewer
  each_fewer (Some (Member s e)) (Some x) h fewer =
      let same : s ≡ set = symbol_same s set h.of_kind.0.0 in
      let behind = facts_after m (Set set) (Some (Member set x)) in
      subst (λ k. facts_after m (Set set) (Some (Member k e)) < behind) same fewer
  each_fewer (Some (Pair r e t)) before h fewer = tt

-- ---- pairs as bindings

abbrev related : ℕ → Element × Element → Fact
related rel p = Pair rel p.0 (Elem p.1)

-- the binding of a pair of records
abbrev pub pair_of : Option Fact → Option Binding
pair_of None = None
pair_of (Some (Member s e)) = None
pair_of (Some (Pair r e (Elem f))) = Some (bindings.Pair e f)
pair_of (Some (Pair r e (Num n))) = None

-- a relation has targets of one kind
one_kind : (o : Option RelationRow) (e x : Element) (f : Element) (n : ℕ)
    → IsSomeAnd o (λ row. IsInPools row e (Elem f))
    → IsSomeAnd o (λ row. IsInPools row x (Num n)) → ⊥
one_kind None e x f n a b = a
one_kind (Some row) e x f n a b = by_pool row.target a.0.1 b.0.1 a.1.target_is b.1.target_is
  where
    by_pool : (pool : Option ℕ) (i j : ℕ) → Elem f ≡ target_in pool i → Num n ≡ target_in pool j → ⊥
    by_pool None i j p q = cc
    by_pool (Some pool) i j p q = cc

module _ (m : ModelView) (rel : ℕ) where
  related_later : (before : Option (Element × Element)) (e f : Element) → ComesAfter (option_map pair before)
      (bindings.Pair e f)
      → Follows (option_map (related rel) before) (Pair rel e (Elem f))
  related_later None e f after = tt
  related_later (Some x) e f after = inr (refl, after)

  pair_later : (before : Option (Element × Element)) (e f : Element) → Follows (option_map (related rel) before)
      (Pair rel e (Elem f))
      → ComesAfter (option_map pair before) (bindings.Pair e f)
  pair_later None e f after = tt
  pair_later (Some x) e f (inl less) = absurd (omega (arith, less))
  pair_later (Some x) e f (inr after) = after.1

  pair_is : (before : Option (Element × Element)) (b : Binding) → IsLaterBinding (IsInModel m)
      (quants.Pairs rel) (option_map pair before) b
      → (e : Element) × (f : Element) × (b ≡ bindings.Pair e f) × IsLater (IsInModel m) (Rel rel)
      (option_map (related rel) before) (Pair rel e (Elem f))
  pair_is before bindings.Once is = absurd is.0
  pair_is before (bindings.Each e) is = absurd is.0
  pair_is before (bindings.Pair e f) is = (e, f, refl, ((refl, is.0), related_later before e f is.1))

  pub pair_next : (before : Option (Element × Element)) (answer : Option Fact)
      → ((f : Fact) → IsOf (IsInModel m) (Rel rel) f → MayBeOf m (Rel rel) f)
      → FindsNextFact (IsInModel m) (Rel rel) (option_map (related rel) before) answer
      → FindsLeastBinding (IsLaterBinding (IsInModel m) (quants.Pairs rel) (option_map pair before))
      (pair_of answer)
  pair_next before None kinds h = λ b is. let it = pair_is before b is in h (Pair rel it.0 (Elem it.1)) it.3
  pair_next before (Some (Member s e)) kinds h = absurd cc
  pair_next before (Some (Pair r e (Elem f))) kinds h =
      let same : r ≡ rel = same_relation r rel h.of_kind.0.0 in
      let held : IsInModel m (Pair rel e (Elem f)) =
      subst (λ k. IsInModel m (Pair k e (Elem f))) same h.of_kind.0.1 in
      let after : Follows (option_map (related rel) before) (Pair rel e (Elem f)) =
      subst (λ k. Follows (option_map (related rel) before) (Pair k e (Elem f))) same h.of_kind.1 in
      record {
        of_kind = (held, pair_later before e f after);
        none_before = λ other is less.
            let it = pair_is before other is in
            h.none_before (Pair rel it.0 (Elem it.1)) it.3
            (inr (sym same, subst (λ b. BindingPrecedes b (bindings.Pair e f)) it.2 less));
      }
  pair_next before (Some (Pair r e (Num n))) kinds h = λ b is.
      let it = pair_is before b is in
      let same : r ≡ rel = same_relation r rel h.of_kind.0.0 in
      let number = (kinds (Pair r e (Num n)) h.of_kind.0).1 in
      let mine = (kinds (Pair rel it.0 (Elem it.1)) it.3.0).1 in
      one_kind (slice_get m.relations rel) it.0 e it.1 n mine
      (subst (λ k. IsSomeAnd (slice_get m.relations k) (λ row. IsInPools row e (Num n))) same number)

  pub pair_kind : (answer : Option Fact) → ((f : Fact) → IsOf (IsInModel m) (Rel rel) f → MayBeOf m (Rel rel) f)
      → (before : Option (Element × Element)) → FindsNextFact (IsInModel m) (Rel rel)
      (option_map (related rel) before) answer
      → IfSome (pair_of answer) (MayBind m (quants.Pairs rel))
  pair_kind None kinds before h = tt
  pair_kind (Some (Member s e)) kinds before h = tt
  pair_kind (Some (Pair r e (Elem f))) kinds before h =
      let same : r ≡ rel = same_relation r rel h.of_kind.0.0 in
      subst (λ k. MayBeOf m (Rel rel) (Pair k e (Elem f))) same (kinds (Pair r e (Elem f)) h.of_kind.0)
  pair_kind (Some (Pair r e (Num n))) kinds before h = tt

  pub pair_fewer : (answer : Option Fact) (before : Option (Element × Element))
      → FindsNextFact (IsInModel m) (Rel rel) (option_map (related rel) before) answer
      → IfSome answer (λ next.
      facts_after m (Rel rel) (Some next) < facts_after m (Rel rel) (option_map (related rel) before))
      → IfSome (pair_of answer) (λ next. bindings_after m (quants.Pairs rel) (Some next)
      < bindings_after m (quants.Pairs rel) (option_map pair before))
  pair_fewer None before h fewer = tt
  pair_fewer (Some (Member s e)) before h fewer = tt
  pair_fewer (Some (Pair r e (Elem f))) None h fewer =
      let same : r ≡ rel = same_relation r rel h.of_kind.0.0 in
      subst (λ k. facts_after m (Rel rel) (Some (Pair k e (Elem f))) < facts_after m (Rel rel) None) same fewer
  pair_fewer (Some (Pair r e (Elem f))) (Some x) h fewer =
      let same : r ≡ rel = same_relation r rel h.of_kind.0.0 in
      let behind = facts_after m (Rel rel) (Some (Pair rel x.0 (Elem x.1))) in
      subst (λ k. facts_after m (Rel rel) (Some (Pair k e (Elem f))) < behind) same fewer
  pair_fewer (Some (Pair r e (Num n))) before h fewer = tt
