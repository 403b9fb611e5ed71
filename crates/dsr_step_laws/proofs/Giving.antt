-- What an instance of each rule gives, by the values that it reads.
use Rattle.std.proofs.Common.{◌≡◌, ◌<◌, ◌+◌, ◌*◌, ◌∙◌, ℕ, List, [], Option, None, Some, refl, sym, ap, arith}
use Rattle.std.proofs.lemmas.List.Elements.{All-nil, All-cons, All-head}
use Rattle.std.proofs.lemmas.Option.{same_Some}
use Rattle.std.specs.Prelude.{slice_get}
use Rattle.dsr_ir.specs.Layouts.{pool_numbers}
use Rattle.dsr_ir.specs.declared.layouts.PoolNumbers.{PoolNumbers}
use Rattle.dsr_ir.specs.declared.rules.Guard.{Guard}
use Rattle.dsr_ir.specs.declared.rules.Op.TheVariants.{Eq}
use Rattle.dsr_ir.specs.declared.rules.Path.{Path}
use Rattle.dsr_ir.specs.declared.rules.Test.TheVariants.{Cmp}
use Rattle.dsr_ir.specs.declared.tuples.Element.{Element}
use Rattle.dsr_ir.specs.declared.tuples.Fact.{Fact}
use Rattle.dsr_ir.specs.declared.tuples.Fact.TheVariants.{Member, Pair}
use Rattle.dsr_ir.specs.declared.tuples.Instance.{Instance}
use Rattle.dsr_ir.specs.declared.tuples.Target.{Target}
use Rattle.dsr_ir.specs.declared.tuples.Target.TheVariants.{Elem, Num}
use Rattle.dsr_meaning.specs.Cells.{value_at}
use Rattle.dsr_meaning.specs.Instances.{Gives, GuardHolds, HasTarget, LeadsTo, referred_pool}
use Rattle.dsr_meaning.specs.Truth.{head}
use Rattle.dsr_step_laws.proofs.Given.{example, from_head, layout, marked, of_node, path_to, rules, slot}

-- the instance of a rule at a record; no rule has an index
abbrev pub at : ℕ → Element → Instance
at rule e = record { rule = rule; elem = e; index = 0 }

-- what the layout says of the only pool
abbrev numbers : PoolNumbers
numbers = record { start = 2; slot = 2; count = 3; code = 1; step = 1; none = 0 }

pub element_same : (e f : Element) → e.pool ≡ f.pool → e.slot ≡ f.slot → e ≡ f
element_same e f pool slot = λ k. record { pool = pool k; slot = slot k }

pub instance_same : (i : Instance) (rule : ℕ) (e : Element) → i.rule ≡ rule → i.elem ≡ e → i.index ≡ 0 → i ≡ at rule e
instance_same i rule e same elem index = λ k. record { rule = same k; elem = elem k; index = index k }

-- the element has the code
pub record IsLed (e : Element) (value : ℕ) : Type 0 where
  pub pool : e.pool ≡ 1
  pub slot : e.slot + 1 ≡ value

-- a rule of the head gives the element that has the value as its code
pub record IsGivenAtHead (i : Instance) (value : ℕ) (fact : Fact) : Type 0 where
  pub elem : i.elem ≡ head
  pub index : i.index ≡ 0
  pub target : Element
  pub led : IsLed target value
  pub fact_is : fact ≡ Member 0 target

-- the rule of N gives the pair with the element that has the value as its code
pub record IsGivenNext (i : Instance) (value : ℕ) (fact : Fact) : Type 0 where
  pub target : Element
  pub led : IsLed target value
  pub fact_is : fact ≡ Pair 0 i.elem (Elem target)

-- a path leads to the element whose code it reads; a rule gives what it reads
module _ (bytes : List ℕ) (i : Instance) where
  leads : (path : Path) (e : Element) (value : ℕ) → referred_pool example path.field ≡ Some 1 → value_at layout bytes i.elem i.index path ≡ Some value → LeadsTo example layout bytes i path e → IsLed e value
  leads path e value refers read to =
      let pool : e.pool ≡ 1 = same_Some e.pool 1 (sym to.refers ∙ refers) in
      let same : to.value ≡ value = same_Some to.value value (sym to.read ∙ read) in
      let declared : Some numbers ≡ Some to.code.numbers = ap (pool_numbers layout) (sym pool) ∙ to.code.declared in
      let code : to.value ≡ 1 + e.slot * 1 = to.code.code ∙ ap (λ (n : PoolNumbers). n.code + e.slot * n.step) (sym (same_Some numbers to.code.numbers declared)) in
      record { pool = pool; slot = omega (arith, same, code) }

  pub head_gives : (field : ℕ) (fact : Fact) (value : ℕ) → referred_pool example (path_to 0 field).field ≡ Some 1 → value_at layout bytes head 0 (path_to 0 field) ≡ Some value → Gives example layout bytes i (from_head field) fact → IsGivenAtHead i value fact
  head_gives field fact value refers read gives =
      let slot_below : i.elem.slot < 1 = gives.is_instance.slot_below in
      let index_below : i.index < 1 = gives.is_instance.index_below in
      let elem : i.elem ≡ head = element_same i.elem head gives.is_instance.pool_is (omega (arith, slot_below)) in
      let given = gives.included in
      record {
        elem = elem;
        index = omega (arith, index_below);
        target = given.0;
        led = leads (path_to 0 field) given.0 value refers (ap (λ e. value_at layout bytes e 0 (path_to 0 field)) elem ∙ read) given.1;
        fact_is = given.2;
      }

  pub marked_gives : (fact : Fact) (value : ℕ) → value_at layout bytes i.elem 0 (path_to 1 1) ≡ Some value → Gives example layout bytes i marked fact → (value ≡ 1) × (fact ≡ Member 1 i.elem)
  marked_gives fact value read gives =
      let guard : Guard = record { path = path_to 1 1; test = Cmp Eq 1 } in
      let held = All-head (GuardHolds example layout bytes i) guard [] gives.guards in
      let same : value ≡ held.value = same_Some value held.value (sym read ∙ held.read) in
      let met : held.value ≡ 1 = held.met in
      (same ∙ met, gives.included)

  pub next_gives : (fact : Fact) (value : ℕ) → value_at layout bytes i.elem 0 (path_to 1 0) ≡ Some value → Gives example layout bytes i (of_node 0 0) fact → IsGivenNext i value fact
  next_gives fact value read gives = by_target gives.included.0 gives.included.1 gives.included.2 where
    by_target : (t : Target) → HasTarget example layout bytes i (path_to 1 0) t → fact ≡ Pair 0 i.elem t → IsGivenNext i value fact
    by_target (Elem e) to fact_is = record { target = e; led = leads (path_to 1 0) e value refl read to; fact_is = fact_is }
    by_target (Num n) to fact_is = (let none : ◌≡◌ {A = Option ℕ} (Some 1) None = to.number in absurd cc)

  pub value_gives : (fact : Fact) (value : ℕ) → value_at layout bytes i.elem 0 (path_to 1 1) ≡ Some value → Gives example layout bytes i (of_node 1 1) fact → fact ≡ Pair 1 i.elem (Num value)
  value_gives fact value read gives = by_target gives.included.0 gives.included.1 gives.included.2 where
    by_target : (t : Target) → HasTarget example layout bytes i (path_to 1 1) t → fact ≡ Pair 1 i.elem t → fact ≡ Pair 1 i.elem (Num value)
    by_target (Elem e) to fact_is = (let none : None ≡ Some e.pool = to.refers in absurd cc)
    by_target (Num n) to fact_is = fact_is ∙ ap (λ m. Pair 1 i.elem (Num m)) (same_Some n value (sym to.read ∙ read))

-- the index of an instance of a rule without one
pub index_none : (i : Instance) → i.index < 1 → i.index ≡ 0
index_none i below = omega (arith, below)

-- the other way: each rule's instance at a record whose cells have such values
module _ (bytes : List ℕ) where
  pub head_fires : (rule field s : ℕ) → slice_get rules rule ≡ Some (from_head field) → referred_pool example (path_to 0 field).field ≡ Some 1 → s < 3 → value_at layout bytes head 0 (path_to 0 field) ≡ Some (1 + s * 1) → Gives example layout bytes (at rule head) (from_head field) (Member 0 (slot s))
  head_fires rule field s rule_is refers below read = record {
    is_instance = record { rule_is = rule_is; pool_is = refl; slot_below = omega arith; index_below = omega arith };
    guards = All-nil (GuardHolds example layout bytes (at rule head));
    included = (
      slot s,
      record {
        value = 1 + s * 1;
        read = read;
        refers = refers;
        code = record { numbers = numbers; declared = refl; below = below; code = refl };
      },
      refl,
    );
  }

  pub marked_fires : (s : ℕ) → s < 3 → value_at layout bytes (slot s) 0 (path_to 1 1) ≡ Some 1 → Gives example layout bytes (at 2 (slot s)) marked (Member 1 (slot s))
  marked_fires s below read = record {
    is_instance = record { rule_is = refl; pool_is = refl; slot_below = below; index_below = omega arith };
    guards = All-cons (GuardHolds example layout bytes (at 2 (slot s))) (record { path = path_to 1 1; test = Cmp Eq 1 }) []
        (record { value = 1; read = read; met = refl }) (All-nil (GuardHolds example layout bytes (at 2 (slot s))));
    included = refl;
  }

  pub next_fires : (s t : ℕ) → s < 3 → t < 3 → value_at layout bytes (slot s) 0 (path_to 1 0) ≡ Some (1 + t * 1) → Gives example layout bytes (at 3 (slot s)) (of_node 0 0) (Pair 0 (slot s) (Elem (slot t)))
  next_fires s t below within read = record {
    is_instance = record { rule_is = refl; pool_is = refl; slot_below = below; index_below = omega arith };
    guards = All-nil (GuardHolds example layout bytes (at 3 (slot s)));
    included = (
      Elem (slot t),
      record {
        value = 1 + t * 1;
        read = read;
        refers = refl;
        code = record { numbers = numbers; declared = refl; below = within; code = refl };
      },
      refl,
    );
  }

  pub value_fires : (s value : ℕ) → s < 3 → value_at layout bytes (slot s) 0 (path_to 1 1) ≡ Some value → Gives example layout bytes (at 4 (slot s)) (of_node 1 1) (Pair 1 (slot s) (Num value))
  value_fires s value below read = record {
    is_instance = record { rule_is = refl; pool_is = refl; slot_below = below; index_below = omega arith };
    guards = All-nil (GuardHolds example layout bytes (at 4 (slot s)));
    included = (Num value, record { number = refl; read = read }, refl);
  }
