-- What stands where a name is known: the item of the tables that has it.
use Rattle.std.proofs.Common.{◌≡◌, ◌≤◌, ◌+◌, ◌-◌, ℕ, suc, Bool, true, false, not, nat_eq, List, [], ◌∷◌, length, Option, None, Some, is_some, is_none, cond, slice_get, option_map, option_and_then, inl, inr, refl, ap, ◌∙◌, arith}
use Rattle.std.specs.List.{position_from}
use Rattle.std.specs.Str.{bytes_eq}
use Rattle.std.proofs.lemmas.Bool.{and_parts, eqb-true}
use Rattle.std.proofs.lemmas.Option.{slice_get_within}
use Rattle.dsr_ir.specs.declared.declarations.Field.{Field}
use Rattle.dsr_ir.specs.declared.declarations.FieldRef.{FieldRef}
use Rattle.dsr_ir.specs.declared.declarations.Kind.{Kind}
use Rattle.dsr_ir.specs.declared.declarations.Kind.TheVariants.{Number, Refers, Gap}
use Rattle.dsr_ir.specs.declared.declarations.Pool.{Pool}
use Rattle.dsr_ir.specs.declared.declarations.SetDecl.{SetDecl}
use Rattle.dsr_ir.specs.declared.declarations.Structure.{Structure}
use Rattle.dsr_ir.specs.declared.declarations.Structures.{Structures}
use Rattle.dsr_meaning.specs.Counting.{IsIn}
use Rattle.dsr_meaning.specs.Instances.{declared_field}
use Rattle.dsr_meaning.specs.Typed.{HasName, pool_at}
use Rattle.dsr_language_theory.specs.Known.{is_gap, has_field_name, own_field, first_field, known_in, pool_named, set_named, relation_named, plain_number, plain_set, plain_named}

-- the item whose number a search from n on gives
pub record FoundAt {T : Type 0} (test : T → Bool) (xs : List T) (n k : ℕ) : Type 0 where
  pub at : ℕ
  pub item : T
  pub counted : k ≡ n + at
  pub is : slice_get xs at ≡ Some item
  pub passes : test item ≡ true

pub found_at : {T : Type 0} (test : T → Bool) (xs : List T) (n k : ℕ) → position_from test n xs ≡ Some k → FoundAt test xs n k
found_at test [] n k e = absurd cc
found_at test (x ∷ xs) n k e =
    elim (test x) as (λ b. test x ≡ b → cond b (Some n) (position_from test (n + 1) xs) ≡ Some k → FoundAt test (x ∷ xs) n k) [
      | true ↦ λ passes h. let same : n ≡ k = cc in record { at = 0; item = x; counted = omega arith; is = refl; passes = passes }
      | false ↦ λ _ h. let f = found_at test xs (n + 1) k h in record { at = suc f.at; item = f.item; counted = omega (arith, f.counted); is = f.is; passes = f.passes }
    ] refl e

-- a value that is there
pub record Known {T : Type 0} (o : Option T) : Type 0 where
  pub value : T
  pub is : o ≡ Some value

pub known_value : {T : Type 0} (o : Option T) → is_none o ≡ false → Known o
known_value None e = absurd cc
known_value (Some x) e = record { value = x; is = refl }

-- ---- pools, sets and relations

-- the item of a number that a name stands for
pub record FoundItem {T : Type 0} (items : List T) (number : Option ℕ) : Type 0 where
  pub at : ℕ
  pub item : T
  pub found : number ≡ Some at
  pub is : slice_get items at ≡ Some item

found_item : {T : Type 0} (test : T → Bool) (items : List T) → is_none (position_from test 0 items) ≡ false → FoundItem items (position_from test 0 items)
found_item test items e =
    let k = known_value (position_from test 0 items) e in
    let f = found_at test items 0 k.value k.is in
    let same : k.value ≡ f.at = omega (arith, f.counted) in
    record { at = f.at; item = f.item; found = k.is ∙ ap Some same; is = f.is }

pub found_set : (base : Structures) (q : List ℕ) → is_none ((known_in base).set q) ≡ false → FoundItem base.sets ((known_in base).set q)
found_set base q e = found_item (λ s. bytes_eq s.name q) base.sets e

pub found_relation : (base : Structures) (q : List ℕ) → is_none ((known_in base).relation q) ≡ false → FoundItem base.rels ((known_in base).relation q)
found_relation base q e = found_item (λ r. bytes_eq r.name q) base.rels e

pub relation_is : (base : Structures) (q : List ℕ) (f : FoundItem base.rels ((known_in base).relation q)) → relation_named (known_in base) q ≡ Some f.item
relation_is base q f = ap (option_and_then (slice_get base.rels)) f.found ∙ f.is

pub set_is : (base : Structures) (q : List ℕ) (f : FoundItem base.sets ((known_in base).set q)) → set_named (known_in base) q ≡ Some f.item
set_is base q f = ap (option_and_then (slice_get base.sets)) f.found ∙ f.is

-- a pool; they are counted from 1
pub record FoundPool (base : Structures) (q : List ℕ) : Type 0 where
  pub number : ℕ
  pub item : Pool
  pub found : (known_in base).pool q ≡ Some number
  pub from : 1 ≤ number
  pub to : number ≤ length base.pools
  pub is : pool_at base number ≡ Some item

pool_behind : (base : Structures) (k : ℕ) (item : Pool) → slice_get base.pools k ≡ Some item → pool_at base (suc k) ≡ Some item
pool_behind base k item is =
    let same : suc k - 1 ≡ k = omega arith in
    elim (nat_eq (suc k) 0) as (λ b. nat_eq (suc k) 0 ≡ b → cond b None (slice_get base.pools (suc k - 1)) ≡ Some item) [
      | true ↦ λ e. absurd (omega (arith, eqb-true (suc k) 0 e))
      | false ↦ λ _. ap (slice_get base.pools) same ∙ is
    ] refl

pub found_pool : (base : Structures) (q : List ℕ) → is_none ((known_in base).pool q) ≡ false → FoundPool base q
found_pool base q e =
    let k = known_value ((known_in base).pool q) e in
    let f = found_at (λ p. bytes_eq p.name q) base.pools 1 k.value k.is in
    let same : k.value ≡ suc f.at = omega (arith, f.counted) in
    let within = slice_get_within base.pools f.at f.item f.is in
    record {
      number = suc f.at;
      item = f.item;
      found = k.is ∙ ap Some same;
      from = omega arith;
      to = omega (arith, within);
      is = pool_behind base f.at f.item f.is;
    }

pub pool_is : (base : Structures) (q : List ℕ) (f : FoundPool base q) → pool_named (known_in base) q ≡ Some f.item
pool_is base q f = ap (option_and_then (pool_at base)) f.found ∙ f.is

-- a set that is no complement
pub record FoundPlain (base : Structures) (q : List ℕ) : Type 0 where
  pub number : ℕ
  pub item : SetDecl
  pub found : plain_set (known_in base) q ≡ Some number
  pub is : slice_get base.sets number ≡ Some item
  pub plain : item.except ≡ None

record PlainAt (base : Structures) (n : ℕ) : Type 0 where
  pub item : SetDecl
  pub is : slice_get base.sets n ≡ Some item
  pub plain : item.except ≡ None
  pub found : plain_number (known_in base) n ≡ Some n

plain_at : (base : Structures) (n : ℕ) → is_none (plain_number (known_in base) n) ≡ false → PlainAt base n
plain_at base n e = of (slice_get base.sets n) refl e
  where
    of_set : (s : SetDecl) (x : Option ℕ) → slice_get base.sets n ≡ Some s → s.except ≡ x → is_none (cond (is_some x) None (Some n)) ≡ false → PlainAt base n
    of_set s None at is h = record { item = s; is = at; plain = is; found = ap (option_and_then (λ d. cond (is_some d.except) None (Some n))) at ∙ ap (λ y. cond (is_some y) None (Some n)) is }
    of_set s (Some k) at is h = absurd cc

    of : (o : Option SetDecl) → slice_get base.sets n ≡ o → is_none (option_and_then (λ s. cond (is_some s.except) None (Some n)) o) ≡ false → PlainAt base n
    of None at h = absurd cc
    of (Some s) at h = of_set s s.except at refl h

pub found_plain : (base : Structures) (q : List ℕ) → is_none (plain_set (known_in base) q) ≡ false → FoundPlain base q
found_plain base q e = of ((known_in base).set q) refl e
  where
    of : (o : Option ℕ) → (known_in base).set q ≡ o → is_none (option_and_then (plain_number (known_in base)) o) ≡ false → FoundPlain base q
    of None at h = absurd cc
    of (Some n) at h =
        let p = plain_at base n h in
        record { number = n; item = p.item; found = ap (option_and_then (plain_number (known_in base))) at ∙ p.found; is = p.is; plain = p.plain }

pub plain_is : (base : Structures) (q : List ℕ) (f : FoundPlain base q) → plain_named (known_in base) q ≡ Some f.item
plain_is base q f = ap (option_and_then (slice_get base.sets)) f.found ∙ f.is

-- ---- fields

-- a field with a name, in one of several structures
pub record FoundField (base : Structures) (is : List ℕ) (o : Option FieldRef) : Type 0 where
  pub place : FieldRef
  pub field : Field
  pub found : o ≡ Some place
  pub declared : declared_field base place ≡ Some field
  pub named : HasName field
  pub among : IsIn place.structure is

no_gap : (q : List ℕ) (f : Field) → has_field_name q f ≡ true → HasName f
no_gap q f e = λ is. of f.kind is (and_parts (not (is_gap f.kind)) (bytes_eq f.name q) e).0
  where
    of : (k : Kind) → k ≡ Gap → not (is_gap k) ≡ true → ⊥
    of (Number init) is h = absurd cc
    of (Refers pool) is h = absurd cc
    of Gap is h = absurd cc

-- the place of a number in a structure
abbrev ref : ℕ → ℕ → FieldRef
ref i k = record { structure = i; field = k }

abbrev own_of : List ℕ → ℕ → Structure → Option FieldRef
own_of q i s = option_map (ref i) (position_from (has_field_name q) 0 s.fields)

-- the field that a structure itself declares
found_own : (base : Structures) (q : List ℕ) (i : ℕ) (is : List ℕ) → is_some (own_field base q i) ≡ true → FoundField base (i ∷ is) (own_field base q i)
found_own base q i is e = of (slice_get base.structures i) refl e
  where
    of_position : (s : Structure) (o : Option ℕ) → slice_get base.structures i ≡ Some s → position_from (has_field_name q) 0 s.fields ≡ o → is_some (option_map (ref i) o) ≡ true → FoundField base (i ∷ is) (own_field base q i)
    of_position s None at is_at h = absurd cc
    of_position s (Some k) at is_at h =
        let f = found_at (has_field_name q) s.fields 0 k is_at in
        let same : k ≡ f.at = omega (arith, f.counted) in
        record {
          place = ref i f.at;
          field = f.item;
          found = ap (option_and_then (own_of q i)) at ∙ (ap (option_map (ref i)) is_at ∙ ap (λ j. Some (ref i j)) same);
          declared = ap (option_and_then (λ s. slice_get s.fields f.at)) at ∙ f.is;
          named = no_gap q f.item f.passes;
          among = inl refl;
        }

    of : (o : Option Structure) → slice_get base.structures i ≡ o → is_some (option_and_then (own_of q i) o) ≡ true → FoundField base (i ∷ is) (own_field base q i)
    of None at h = absurd cc
    of (Some s) at h = of_position s (position_from (has_field_name q) 0 s.fields) at refl h

-- a field of the first that has one
pub found_field : (base : Structures) (q : List ℕ) (is : List ℕ) → is_none (first_field base q is) ≡ false → FoundField base is (first_field base q is)
found_field base q [] e = absurd cc
found_field base q (i ∷ is) e =
    elim (is_some (own_field base q i)) as (λ b. is_some (own_field base q i) ≡ b → is_none (cond b (own_field base q i) (first_field base q is)) ≡ false → FoundField base (i ∷ is) (cond b (own_field base q i) (first_field base q is))) [
      | true ↦ λ some _. found_own base q i is some
      | false ↦ λ _ h. let f = found_field base q is h in record { place = f.place; field = f.field; found = f.found; declared = f.declared; named = f.named; among = inr f.among }
    ] refl e
