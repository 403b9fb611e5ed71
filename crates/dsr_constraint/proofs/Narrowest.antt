-- The widths that rules give to relations, and constants that don't fit them.
use Rattle.std.proofs.Common.{◌≡◌, ◌≢◌, ◌<◌, ◌≤◌, ◌+◌, ◌^◌, ℕ, true, false, ◌||◌, nat_eq, leb, min, List, [], ◌∷◌, ◌++◌, take, length, get_or, set, Option, None, Some, IfSome, if◌then◌else◌, refl, sym, ap, ◌∙◌, add-one, subst, arith}
use Rattle.std.proofs.Math.Pow.{pow_mono}
use Rattle.std.proofs.Math.Seq.{take-suc}
use Rattle.std.proofs.lemmas.Bool.Decides.{nat_tests}
use Rattle.std.proofs.lemmas.List.{get_or-set_same, get_or-set_other, length-set}
use Rattle.dsr_ir.specs.declared.declarations.Field.{Field}
use Rattle.dsr_ir.specs.declared.declarations.FieldRef.{FieldRef}
use Rattle.dsr_meaning.specs.Cells.{width_bits}
use Rattle.dsr_meaning.specs.Instances.{declared_field}
use Rattle.dsr_meaning.specs.Lists.{any_of}
use Rattle.dsr_tree.specs.declared.tree.Inclusion.{Inclusion}
use Rattle.dsr_tree.specs.declared.tree.Inclusion.TheVariants as inclusions
use Rattle.dsr_tree.specs.declared.tree.Rule.{Rule}
use Rattle.dsr_language_theory.specs.Names.{is_at}
use Rattle.dsr_language_theory.specs.Known.{Known, field_is}
use Rattle.dsr_language_theory.specs.Rules.{Scope, scope_of, path_field}
use Rattle.dsr_language_theory.specs.Constraints.{inclusion_field, value_field, is_too_narrow}
use Rattle.std.specs.Option.{option_map_or}
use Rattle.dsr_constraint.specs.Widest.{given_relation, read_field, field_width, given_width, least_width, CountRelations}

-- ---- the table

-- the width that one rule gives to a relation
abbrev one_width : Known → ℕ → Rule → ℕ
one_width known rel r = if is_at rel (given_relation known r.inclusion) then given_width known r else 64

-- the table is right for the rules that were read
pub record IsLowered (known : Known) (rs : List Rule) (least : List ℕ) : Type 0 where
  pub long : length least ≡ length known.base.rels
  pub is : (rel : ℕ) → get_or least rel 64 ≡ least_width known rs rel

at_most : (known : Known) (rs : List Rule) (rel : ℕ) → least_width known rs rel ≤ 64
at_most known [] rel = omega arith
at_most known (r ∷ rs) rel = let rest = at_most known rs rel in omega (arith, rest)

last_width : (known : Known) (rs : List Rule) (r : Rule) (rel : ℕ) → least_width known (rs ++ r ∷ []) rel ≡ min (least_width known rs rel) (one_width known rel r)
last_width known [] r rel = omega arith
last_width known (s ∷ rs) r rel = let rest = last_width known rs r rel in omega (arith, rest)

rules_more : (known : Known) (rs : List Rule) (i : ℕ) (r : Rule) (rel : ℕ) → i < length rs → r ≡ get_or rs i r → least_width known (take (i + 1) rs) rel ≡ min (least_width known (take i rs) rel) (one_width known rel r)
rules_more known rs i r rel below is =
    let e : take (i + 1) rs ≡ take i rs ++ r ∷ [] = rw add-one (take-suc rs i r below ∙ ap (λ s. take i rs ++ s ∷ []) (sym is)) in
    ap (λ ss. least_width known ss rel) e ∙ last_width known (take i rs) r rel

-- an item that was lowered, and the others
entry : (least : List ℕ) (w rel at width : ℕ) → w ≤ 64 → get_or least rel 64 ≡ w → at < length least → get_or (set least at (min (get_or least at 64) width)) rel 64 ≡ min w (if nat_eq at rel then width else 64)
entry least w rel at width most is within =
    elim (nat_eq at rel) as (λ b. nat_eq at rel ≡ b → get_or (set least at (min (get_or least at 64) width)) rel 64 ≡ min w (if b then width else 64)) [
      | true ↦ λ e.
          let same : at ≡ rel = grind (arith, nat_tests) in
          ap (λ k. get_or (set least at (min (get_or least at 64) width)) k 64) (sym same) ∙ get_or-set_same least at (min (get_or least at 64) width) 64 within ∙ ap (λ k. min (get_or least k 64) width) same ∙ ap (λ k. min k width) is
      | false ↦ λ e.
          let other : rel ≢ at = λ q. absurd (grind (arith, nat_tests)) in
          get_or-set_other least at rel (min (get_or least at 64) width) 64 other ∙ is ∙ omega arith
    ] refl

-- the relation that a rule gives is one of the table
found_within : (o : Option ℕ) (n at : ℕ) → IfSome o (λ k. k < n) → o ≡ Some at → at < n
found_within o n at p e = let q : IfSome (Some at) (λ k. k < n) = subst (λ x. IfSome x (λ k. k < n)) e p in q

pub given_within : {known : Known} → CountRelations known → (inc : Inclusion) (at : ℕ) → given_relation known inc ≡ Some at → at < length known.base.rels
given_within {known} count (inclusions.Pair place term path relation) at e = found_within (known.relation relation.name) (length known.base.rels) at (count.within relation.name) e
given_within count (inclusions.Member member set) at e = absurd cc

module _ (known : Known) (rs : List Rule) (i : ℕ) (r : Rule) (below : i < length rs) (is : r ≡ get_or rs i r) where
  -- a rule that gives no pair changes nothing
  pub lowered_none : {least : List ℕ} → given_relation known r.inclusion ≡ None → IsLowered known (take i rs) least → IsLowered known (take (i + 1) rs) least
  lowered_none {least} none before = record {
    long = before.long;
    is = λ rel.
        let most = at_most known (take i rs) rel in
        let one : one_width known rel r ≡ 64 = ap (λ o. if is_at rel o then given_width known r else 64) none in
        before.is rel ∙ (let e : least_width known (take i rs) rel ≡ min (least_width known (take i rs) rel) (one_width known rel r) = omega (arith, most, one) in e) ∙ sym (rules_more known rs i r rel below is);
  }

  -- one that does lowers one width
  pub lowered_next : {least lower : List ℕ} (at width : ℕ) → given_relation known r.inclusion ≡ Some at → width ≡ given_width known r → at < length least → lower ≡ set least at (min (get_or least at 64) width) → IsLowered known (take i rs) least → IsLowered known (take (i + 1) rs) lower
  lowered_next {least} {lower} at width some given within changed before = record {
    long = ap length changed ∙ length-set least at (min (get_or least at 64) width) ∙ before.long;
    is = λ rel.
        let most = at_most known (take i rs) rel in
        let one : one_width known rel r ≡ (if nat_eq at rel then width else 64) = (λ j. if is_at rel (some j) then sym given j else 64) in
        let written : get_or lower rel 64 ≡ min (least_width known (take i rs) rel) (if nat_eq at rel then width else 64) = ap (λ xs. get_or xs rel 64) changed ∙ entry least (least_width known (take i rs) rel) rel at width most (before.is rel) within in
        written ∙ ap (min (least_width known (take i rs) rel)) (sym one) ∙ sym (rules_more known rs i r rel below is);
  }

-- ---- constants

-- a number of 64 bits fits 64 bits
fits_all : (k : ℕ) → k < 2 ^ 64 → leb (2 ^ 64) k ≡ false
fits_all k below = grind (arith, nat_tests)

-- a constant that is at least the greater of two numbers is at least the less
wider : (p q k : ℕ) → p ≤ q → (leb p k || leb q k) ≡ leb p k
wider p q k le = grind (arith, nat_tests)

wider' : (p q k : ℕ) → q ≤ p → (leb p k || leb q k) ≡ leb q k
wider' p q k le = grind (arith, nat_tests)

-- a constant doesn't fit the narrower of two widths exactly where it doesn't fit one of them
narrower : (a b k : ℕ) → (leb (2 ^ a) k || leb (2 ^ b) k) ≡ leb (2 ^ min a b) k
narrower a b k = elim (leb a b) as (λ t. leb a b ≡ t → (leb (2 ^ a) k || leb (2 ^ b) k) ≡ leb (2 ^ min a b) k) [
  | true ↦ λ e.
      let le : a ≤ b = grind (arith, nat_tests) in
      let most : 2 ^ a ≤ 2 ^ b = pow_mono le in
      let is : min a b ≡ a = omega arith in
      rw is (wider (2 ^ a) (2 ^ b) k most)
  | false ↦ λ e.
      let le : b ≤ a = grind (arith, nat_tests) in
      let most : 2 ^ b ≤ 2 ^ a = pow_mono le in
      let is : min a b ≡ b = omega arith in
      rw is (wider' (2 ^ a) (2 ^ b) k most)
] refl

module _ (known : Known) (k : ℕ) (below : k < 2 ^ 64) where
  -- what is known of a field
  field_fits : (f : Option Field) → option_map_or (is_too_narrow k) f false ≡ leb (2 ^ option_map_or (λ g. width_bits g.width) f 64) k
  field_fits None = sym (fits_all k below)
  field_fits (Some f) = refl

  place_fits : (place : Option FieldRef) → field_is known.base (is_too_narrow k) place ≡ leb (2 ^ field_width known place) k
  place_fits None = sym (fits_all k below)
  place_fits (Some place) = field_fits (declared_field known.base place)

  inclusion_fits : (rel : ℕ) (scope : Scope) (inc : Inclusion) → field_is known.base (is_too_narrow k) (inclusion_field known rel scope inc) ≡ leb (2 ^ (if is_at rel (given_relation known inc) then field_width known (read_field scope inc) else 64)) k
  inclusion_fits rel scope (inclusions.Pair place term path relation) =
      elim (is_at rel (known.relation relation.name)) as (λ b. field_is known.base (is_too_narrow k) (if b then path_field scope path.var path.field else None) ≡ leb (2 ^ (if b then field_width known (path_field scope path.var path.field) else 64)) k) [
        | true ↦ place_fits (path_field scope path.var path.field)
        | false ↦ sym (fits_all k below)
      ]
  inclusion_fits rel scope (inclusions.Member member set) = sym (fits_all k below)

  -- the constant fits no field of a relation exactly where it doesn't fit the least width
  pub least_fits : (rel : ℕ) (rs : List Rule) → any_of (λ r. field_is known.base (is_too_narrow k) (value_field known rel r)) rs ≡ leb (2 ^ least_width known rs rel) k
  least_fits rel [] = sym (fits_all k below)
  least_fits rel (r ∷ rs) =
      (λ j. inclusion_fits rel (scope_of known r) r.inclusion j || least_fits rel rs j)
      ∙ narrower (one_width known rel r) (least_width known rs rel) k
