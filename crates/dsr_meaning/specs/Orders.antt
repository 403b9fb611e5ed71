-- The orders of records, of what is made of them, and of constraints with their bindings.
use Rattle.std.specs.Prelude.{◌≡◌, ◌<◌, ◌⊎◌, ◌↔◌}
use Rattle.std.specs.declared.cmp.Ordering.{Ordering}
use Rattle.std.specs.declared.cmp.Ordering.TheVariants.{Less, Equal}
use Rattle.dsr_ir.specs.declared.tuples.Binding.{Binding}
use Rattle.dsr_ir.specs.declared.tuples.Binding.TheVariants as bindings
use Rattle.dsr_ir.specs.declared.tuples.Element.{Element}
use Rattle.dsr_ir.specs.declared.tuples.Fact.{Fact}
use Rattle.dsr_ir.specs.declared.tuples.Fact.TheVariants.{Member, Pair}
use Rattle.dsr_ir.specs.declared.tuples.Instance.{Instance}
use Rattle.dsr_ir.specs.declared.tuples.Target.{Target}
use Rattle.dsr_ir.specs.declared.tuples.Target.TheVariants.{Elem, Num}

-- elements are ordered by pool, then slot
abbrev pub Precedes : Element → Element → Type 0
Precedes a b = (a.pool < b.pool) ⊎ ((a.pool ≡ b.pool) × (a.slot < b.slot))

-- elements come before numbers
abbrev pub TargetPrecedes : Target → Target → Type 0
TargetPrecedes (Elem a) (Elem b) = Precedes a b
TargetPrecedes (Elem a) (Num n) = Unit {0}
TargetPrecedes (Num m) (Elem b) = ⊥
TargetPrecedes (Num m) (Num n) = m < n

-- members come before pairs; each by its symbol, then its element or its source, and pairs then by
-- their targets
abbrev pub FactPrecedes : Fact → Fact → Type 0
FactPrecedes (Member s a) (Member t b) = (s < t) ⊎ ((s ≡ t) × Precedes a b)
FactPrecedes (Member s a) (Pair r b y) = Unit {0}
FactPrecedes (Pair r a x) (Member t b) = ⊥
FactPrecedes (Pair r a x) (Pair q b y) =
    (r < q) ⊎ ((r ≡ q) × (Precedes a b ⊎ ((a ≡ b) × TargetPrecedes x y)))

-- instances are ordered by rule, then record, then index
abbrev pub InstancePrecedes : Instance → Instance → Type 0
InstancePrecedes i j =
    (i.rule < j.rule)
    ⊎ ((i.rule ≡ j.rule) × (Precedes i.elem j.elem ⊎ ((i.elem ≡ j.elem) × (i.index < j.index))))

-- bindings of fewer variables come first, and those of as many
-- are ordered by their elements, the first before the second
abbrev pub BindingPrecedes : Binding → Binding → Type 0
BindingPrecedes bindings.Once bindings.Once = ⊥
BindingPrecedes bindings.Once _ = Unit {0}
BindingPrecedes (bindings.Each a) bindings.Once = ⊥
BindingPrecedes (bindings.Each a) (bindings.Each b) = Precedes a b
BindingPrecedes (bindings.Each a) (bindings.Pair b c) = Unit {0}
BindingPrecedes (bindings.Pair a c) (bindings.Pair b d) = Precedes a b ⊎ ((a ≡ b) × Precedes c d)
BindingPrecedes (bindings.Pair a c) _ = ⊥

-- a comparison tells an order: it is less exactly where the one comes
-- before the other, and equal exactly where they are the same
pub record TellsOrder {A : Type 0} (compare : A → A → Ordering) (Before : A → A → Type 0) : Type 0 where
  pub less : (a b : A) → (compare a b ≡ Less) ↔ Before a b
  pub equal : (a b : A) → (compare a b ≡ Equal) ↔ (a ≡ b)
