-- The inclusion of a rule without fault is typed.
use Rattle.std.proofs.Common.{◌≡◌, ℕ, true, false, not, ◌&&◌, ◌||◌, nat_eq, [], Option, None, Some, is_some, is_none, cond, slice_get, option_map, refl, sym, ap, ◌∙◌, subst, true≢false}
use Rattle.std.proofs.lemmas.Bool.{not-false, or_parts, eqb-true}
use Rattle.dsr_ir.specs.declared.declarations.FieldRef.{FieldRef}
use Rattle.dsr_ir.specs.declared.declarations.Structures.{Structures}
use Rattle.dsr_tree.specs.declared.faults.Condition.TheVariants as conditions
use Rattle.dsr_tree.specs.declared.tree.Inclusion.{Inclusion}
use Rattle.dsr_tree.specs.declared.tree.Inclusion.TheVariants as inclusions
use Rattle.dsr_tree.specs.declared.tree.MemberPart.{MemberPart}
use Rattle.dsr_tree.specs.declared.tree.MemberPart.TheVariants as parts
use Rattle.dsr_tree.specs.declared.tree.Path.{Path}
use Rattle.dsr_tree.specs.declared.tree.PlacedName.{PlacedName}
use Rattle.dsr_tree.specs.declared.tree.Rule.{Rule}
use Rattle.dsr_tree.specs.declared.tree.Term.{Term}
use Rattle.dsr_tree.specs.declared.tree.Term.TheVariants as terms
use Rattle.dsr_tree.specs.declared.tree.Var.{Var}
use Rattle.dsr_tree.specs.declared.tree.Var.TheVariants as vars
use Rattle.dsr_meaning.specs.Instances.{kind_pool, pool_of_premise}
use Rattle.dsr_meaning.specs.Typed.{IsPlainSetOf, IsPoolNumber, IsTypedInc, CountsSlots, GivesTarget, pool_at}
use Rattle.dsr_meaning.proofs.Empty.{both_empty}
use Rattle.dsr_language_theory.specs.Declarations.{disagree}
use Rattle.dsr_language_theory.proofs.Absent.{when_absent}
use Rattle.dsr_language_theory.specs.Known.{field_is, known_in, is_nil, pool_named, plain_set, plain_named, is_this, differ}
use Rattle.dsr_language_theory.specs.Rules.{path_field}
use Rattle.dsr_language_theory.specs.RuleFaults.{refers_elsewhere, is_other_target, is_other_head, is_scalar, path_names, is_foreign, index_faults, counts_others, slot_faults, term_names, term_faults, term_pool, is_no_pair, relates_others, pair_mismatches, member_names, member_faults, member_mismatches, inclusion_place, inclusion_names, inclusion_indexes, inclusion_mismatches, inclusion_faults}
use Rattle.dsr_language_theory.specs.TypedRules.{number_of, pool_in, path_in, rule_in, typed_pair, typed_member, typed_inclusion, typed_span}
use Rattle.dsr_language_laws.proofs.FoundNames.{FoundItem, found_relation, relation_is, found_pool, pool_is, FoundPlain, found_plain, plain_is}
use Rattle.dsr_language_laws.proofs.RulePaths.{second_fails, name_there, same_length, path_here, index_here, reads_here}
use Rattle.dsr_language_laws.proofs.RuleScopes.{FieldHere, is_some_and, tested, Grounded, scope_in, premise_in}

-- ---- tests

pub agree : (a b : ℕ) → disagree (Some a) (Some b) ≡ false → a ≡ b
agree a b e = eqb-true a b (not-false (nat_eq a b) e)

-- two pools that are known and don't disagree
pub agree_known : (o p : Option ℕ) (a b : ℕ) → o ≡ Some a → p ≡ Some b → disagree o p ≡ false → a ≡ b
agree_known o p a b x y e =
    let known : disagree o p ≡ disagree (Some a) (Some b) = λ i. disagree (x i) (y i) in
    agree a b (sym known ∙ e)

-- targets that are no other ones
pub same_target : (a b : Option ℕ) → is_other_target a b ≡ false → a ≡ b
same_target None None e = refl
same_target (Some a) (Some b) e = ap Some (eqb-true a b (not-false (nat_eq a b) e))
same_target None (Some b) e = absurd (true≢false e)
same_target (Some a) None e = absurd (true≢false e)

-- a reference to a pool
refers_here : (p : ℕ) (kind : Option ℕ) → (is_none kind || disagree kind (Some p)) ≡ false → kind ≡ Some p
refers_here p None e = absurd (true≢false e)
refers_here p (Some a) e = ap Some (agree a p e)

none_there : {T : Type 0} (o : Option T) → is_some o ≡ false → is_none o ≡ true
none_there None e = refl
none_there (Some x) e = absurd (true≢false e)

module _ (base : Structures) (r : Rule) (g : Grounded base r) where
  -- the index counts the slots of a pool
  counts : (q k : PlacedName) → is_none ((known_in base).pool q.name) ≡ false → slot_faults (scope_in base r) q k ≡ [] → CountsSlots base (typed_span (scope_in base r) r.span) (pool_in (known_in base) q)
  counts q k known e =
      let scope = scope_in base r in
      let both = both_empty _ _ e in
      let f = found_pool base q.name known in
      let own = not-false (is_this scope.index k.name) (when_absent (is_foreign scope (Some k)) conditions.BadIndex r.place both.0) in
      let over = g.index (name_there scope.index k.name own) in
      let lengths = second_fails (is_this scope.index k.name) _ own (when_absent (counts_others scope q k) conditions.LengthMismatch r.place both.1) in
      let there : option_map (λ d. d.count) (pool_named (known_in base) q.name) ≡ Some f.item.count = ap (option_map (λ d. d.count)) (pool_is base q.name f) in
      let both_known : differ scope.entries (option_map (λ d. d.count) (pool_named (known_in base) q.name)) ≡ differ (Some over.count) (Some f.item.count) = λ i. differ (over.entries i) (there i) in
      let same = same_length over.count f.item.count (sym both_known ∙ lengths) in
      let number = ap number_of f.found in
      let counted : option_map (λ d. d.count) (pool_at base (pool_in (known_in base) q)) ≡ Some f.item.count = ap (λ n. option_map (λ d. d.count) (pool_at base n)) number ∙ ap (option_map (λ d. d.count)) f.is in
      record {
        declared = subst (IsPoolNumber base) (sym number) (record { from = f.from; to = f.to });
        same_length = over.same ∙ (ap Some same ∙ sym counted);
      }

  -- ---- pairs

  -- a path that stands beside a slot has an index
  indexed_here : (o : Option FieldRef) (a : FieldHere base (premise_in base r) o) (index : Option PlacedName) → index_faults (scope_in base r) o index ≡ [] → (is_none index && field_is base is_scalar o) ≡ false → is_some index ≡ true
  indexed_here o a (Some k) faultless paired = refl
  indexed_here o a None faultless paired =
      let scalar = ap is_none (index_here base r g o a None faultless) in
      absurd (true≢false (sym scalar ∙ (sym (tested base (premise_in base r) o a is_scalar) ∙ paired)))

  module _ (path : Path) (relation : PlacedName) (f : FoundItem base.rels ((known_in base).relation relation.name)) where
    -- the path gives a target of the relation, whose source is the term's pool
    gives_target : (term : Term) (source : ℕ) → term_pool (scope_in base r) term ≡ Some source → path_names (scope_in base r) path.var path.field ≡ [] → index_faults (scope_in base r) (path_field (scope_in base r) path.var path.field) path.index ≡ [] → is_other_head (scope_in base r) path.var ≡ false → relates_others (scope_in base r) term path (Some f.item) ≡ false → GivesTarget base (rule_in (scope_in base r) r) (number_of ((known_in base).relation relation.name)) source (path_in (scope_in base r) path)
    gives_target term source from names index own e =
        let scope = scope_in base r in
        let premise = premise_in base r in
        let o = path_field scope path.var path.field in
        let a = path_here base r g path.var path.field names own in
        let both = or_parts (disagree (Some f.item.source) (term_pool scope term)) _ e in
        let target = same_target (kind_pool a.field.kind) f.item.target (sym (tested base premise o a (λ x. is_other_target (kind_pool x.kind) f.item.target)) ∙ both.1) in
        let at : slice_get base.rels (number_of ((known_in base).relation relation.name)) ≡ Some f.item = ap (λ n. slice_get base.rels (number_of n)) f.found ∙ f.is in
        record {
          target = f.item.target;
          relates = is_some_and (λ x. (x.source ≡ source) × (x.target ≡ f.item.target)) (slice_get base.rels (number_of ((known_in base).relation relation.name))) f.item at (agree_known (Some f.item.source) (term_pool scope term) f.item.source source refl from both.0, refl);
          reads = reads_here base r g path.var path.field path.index a f.item.target index target;
        }

    typed_pair_here : (term : Term) → term_names (scope_in base r) term ≡ [] → path_names (scope_in base r) path.var path.field ≡ [] → term_faults (scope_in base r) term ≡ [] → index_faults (scope_in base r) (path_field (scope_in base r) path.var path.field) path.index ≡ [] → pair_mismatches (scope_in base r) term path (Some f.item) ≡ false → IsTypedInc base (rule_in (scope_in base r) r) (typed_pair (scope_in base r) term (number_of ((known_in base).relation relation.name)) (path_in (scope_in base r) path))
    typed_pair_here (terms.Head place) names path_known indexes index e =
        let scope = scope_in base r in
        let term = terms.Head place in
        let kinds = or_parts (is_no_pair scope term path) _ e in
        let rest = or_parts (is_other_head scope path.var) (relates_others scope term path (Some f.item)) kinds.1 in
        let pool : term_pool scope term ≡ Some (pool_of_premise base (premise_in base r)) = ap (λ b. cond b (Some 0) None) (none_there scope.name kinds.0) ∙ sym (ap (λ p. Some (pool_of_premise base p)) (g.premise.head kinds.0)) in
        gives_target term (pool_of_premise base (premise_in base r)) pool path_known index rest.0 rest.1
    typed_pair_here (terms.Named q None) names path_known indexes index e =
        let scope = scope_in base r in
        let term = terms.Named q None in
        let kinds = or_parts (is_no_pair scope term path) _ e in
        let rest = or_parts (is_other_head scope path.var) (relates_others scope term path (Some f.item)) kinds.1 in
        let own = not-false (is_this scope.name q.name) (when_absent (not (is_this scope.name q.name)) conditions.UnknownName q.place names) in
        let pool : term_pool scope term ≡ Some (pool_of_premise base (premise_in base r)) = ap (λ b. cond b scope.pool None) own ∙ g.premise.pool in
        gives_target term (pool_of_premise base (premise_in base r)) pool path_known index rest.0 rest.1
    typed_pair_here (terms.Named q (Some k)) names path_known indexes index e =
        let scope = scope_in base r in
        let term = terms.Named q (Some k) in
        let kinds = or_parts (is_no_pair scope term path) _ e in
        let rest = or_parts (is_other_head scope path.var) (relates_others scope term path (Some f.item)) kinds.1 in
        let known = when_absent (is_none ((known_in base).pool q.name)) conditions.UnknownName q.place names in
        let p = found_pool base q.name known in (
          counts q k known indexes,
          gives_target term (pool_in (known_in base) q) (p.found ∙ ap Some (sym (ap number_of p.found))) path_known index rest.0 rest.1,
          indexed_here (path_field scope path.var path.field) (path_here base r g path.var path.field path_known rest.0) path.index index kinds.0,
        )

  -- ---- members

  module _ (set : PlacedName) (f : FoundPlain base set.name) where
    plain_here : IsPlainSetOf base f.item.pool (number_of (plain_set (known_in base) set.name))
    plain_here = is_some_and (λ s. (s.pool ≡ f.item.pool) × (s.except ≡ None)) (slice_get base.sets (number_of (plain_set (known_in base) set.name))) f.item (ap (λ n. slice_get base.sets (number_of n)) f.found ∙ f.is) (refl, f.plain)

    typed_member_here : (var : Var) (part : Option MemberPart) → member_names (scope_in base r) var part ≡ [] → member_faults (scope_in base r) var part ≡ [] → member_mismatches (scope_in base r) var part (Some f.item.pool) ≡ false → IsTypedInc base (rule_in (scope_in base r) r) (typed_member (scope_in base r) (number_of (plain_set (known_in base) set.name)) var part)
    typed_member_here var (Some (parts.Field field index)) names indexes e =
        let scope = scope_in base r in
        let premise = premise_in base r in
        let o = path_field scope var field in
        let kinds = or_parts (is_other_head scope var) _ e in
        let a = path_here base r g var field names kinds.0 in
        let refers = refers_here f.item.pool (kind_pool a.field.kind) (sym (tested base premise o a (refers_elsewhere (Some f.item.pool))) ∙ kinds.1) in
        (f.item.pool, plain_here, reads_here base r g var field index a (Some f.item.pool) indexes refers)
    typed_member_here (vars.Head place) None names indexes e = absurd (true≢false e)
    typed_member_here (vars.Name q) None names indexes e =
        let scope = scope_in base r in
        let pool = pool_of_premise base (premise_in base r) in
        subst (λ p. IsPlainSetOf base p (number_of (plain_set (known_in base) set.name))) (sym (agree_known scope.pool (Some f.item.pool) pool f.item.pool g.premise.pool refl e)) plain_here
    typed_member_here (vars.Head place) (Some (parts.Slot k)) names indexes e = absurd (true≢false e)
    typed_member_here (vars.Name q) (Some (parts.Slot k)) names indexes e =
        let known = when_absent (is_none ((known_in base).pool q.name)) conditions.UnknownName q.place names in
        let p = found_pool base q.name known in
        let pool : pool_in (known_in base) q ≡ f.item.pool = ap number_of p.found ∙ agree_known ((known_in base).pool q.name) (Some f.item.pool) p.number f.item.pool p.found refl e in
        (subst (λ n. IsPlainSetOf base n (number_of (plain_set (known_in base) set.name))) (sym pool) plain_here, counts q k known indexes)

  -- ---- both

  inclusion_of : (inc : Inclusion) → inclusion_names (scope_in base r) inc ≡ [] → inclusion_indexes (scope_in base r) inc ≡ [] → inclusion_mismatches (scope_in base r) inc ≡ false → IsTypedInc base (rule_in (scope_in base r) r) (typed_inclusion (scope_in base r) inc)
  inclusion_of (inclusions.Pair place term path relation) names indexes e =
      let scope = scope_in base r in
      let known = both_empty _ _ names in
      let rest = both_empty (term_names scope term) (path_names scope path.var path.field) known.1 in
      let last = both_empty (term_faults scope term) _ indexes in
      let f = found_relation base relation.name (when_absent (is_none ((known_in base).relation relation.name)) conditions.UnknownName relation.place known.0) in
      typed_pair_here path relation f term rest.0 rest.1 last.0 last.1 (sym (ap (pair_mismatches scope term path) (relation_is base relation.name f)) ∙ e)
  inclusion_of (inclusions.Member member set) names indexes e =
      let scope = scope_in base r in
      let known = both_empty _ _ names in
      let f = found_plain base set.name (when_absent (is_none (plain_set (known_in base) set.name)) conditions.UnknownName set.place known.0) in
      let pool : option_map (λ s. s.pool) (plain_named (known_in base) set.name) ≡ Some f.item.pool = ap (option_map (λ s. s.pool)) (plain_is base set.name f) in
      typed_member_here set f member.var member.part known.1 indexes (sym (ap (member_mismatches scope member.var member.part) pool) ∙ e)

  pub inclusion_here : (inc : Inclusion) → inclusion_faults (scope_in base r) inc ≡ [] → IsTypedInc base (rule_in (scope_in base r) r) (typed_inclusion (scope_in base r) inc)
  inclusion_here inc e =
      let scope = scope_in base r in
      let names = both_empty (inclusion_names scope inc) _ e in
      let rest = both_empty (inclusion_indexes scope inc) _ names.1 in
      let test = when_absent (is_nil (inclusion_names scope inc) && inclusion_mismatches scope inc) conditions.PoolMismatch (inclusion_place inc) rest.1 in
      inclusion_of inc names.0 rest.0 (second_fails (is_nil (inclusion_names scope inc)) (inclusion_mismatches scope inc) (ap is_nil names.0) test)
