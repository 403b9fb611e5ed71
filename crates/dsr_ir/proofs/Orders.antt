-- The orders of records, and of what is bound and derived by them.
use Rattle.std.proofs.Common.{◌≡◌, ℕ, refl}
use Rattle.std.specs.Ordering.{ordering_then, nat_cmp}
use Rattle.std.specs.declared.cmp.Ordering.TheVariants.{Less}
use Rattle.dsr_ir.specs.declared.tuples.Binding.TheVariants.{Once, Each, Pair}
use Rattle.dsr_ir.specs.declared.tuples.Element.{Element}
use Rattle.dsr_ir.specs.declared.tuples.Fact.TheVariants as fact
use Rattle.dsr_ir.specs.declared.tuples.Instance.{Instance}
use Rattle.dsr_ir.specs.declared.tuples.Target.{Target}
use Rattle.dsr_ir.specs.contracts.tuples.BindingOrd.TheImpl as binding
use Rattle.dsr_ir.specs.contracts.tuples.ElementOrd.TheImpl as element
use Rattle.dsr_ir.specs.contracts.tuples.FactOrd.TheImpl as facts
use Rattle.dsr_ir.specs.contracts.tuples.InstanceOrd.TheImpl as instance
use Rattle.dsr_ir.specs.contracts.tuples.TargetOrd.TheImpl as target

-- records by pool, then by slot
pub cmp-Element : (a b : Element) → element.ghosts.cmp a b ≡ ordering_then (nat_cmp a.pool b.pool) (nat_cmp a.slot b.slot)
cmp-Element a b = refl

-- bindings by their number of records, then by these in order
pub cmp-Once-Each : (b : Element) → binding.ghosts.cmp Once (Each b) ≡ Less
cmp-Once-Each b = refl

pub cmp-Each-Pair : (a b c : Element) → binding.ghosts.cmp (Each a) (Pair b c) ≡ Less
cmp-Each-Pair a b c = refl

pub cmp-Each-Each : (a b : Element) → binding.ghosts.cmp (Each a) (Each b) ≡ element.ghosts.cmp a b
cmp-Each-Each a b = refl

pub cmp-Pair-Pair : (a b c d : Element) → binding.ghosts.cmp (Pair a b) (Pair c d) ≡ ordering_then (element.ghosts.cmp a c) (element.ghosts.cmp b d)
cmp-Pair-Pair a b c d = refl

-- instances by rule, then by record, then by index
pub cmp-Instance : (i j : Instance) → instance.ghosts.cmp i j ≡ ordering_then (nat_cmp i.rule j.rule) (ordering_then (element.ghosts.cmp i.elem j.elem) (nat_cmp i.index j.index))
cmp-Instance i j = refl

-- facts: members before pairs, then by number, then by records
pub cmp-Member-Pair : (s r : ℕ) (a b : Element) (t : Target) → facts.ghosts.cmp (fact.Member s a) (fact.Pair r b t) ≡ Less
cmp-Member-Pair s r a b t = refl

pub cmp-Member-Member : (s r : ℕ) (a b : Element) → facts.ghosts.cmp (fact.Member s a) (fact.Member r b) ≡ ordering_then (nat_cmp s r) (element.ghosts.cmp a b)
cmp-Member-Member s r a b = refl

pub cmp-Pairs : (s r : ℕ) (a b : Element) (t u : Target) → facts.ghosts.cmp (fact.Pair s a t) (fact.Pair r b u) ≡ ordering_then (nat_cmp s r) (ordering_then (element.ghosts.cmp a b) (target.ghosts.cmp t u))
cmp-Pairs s r a b t u = refl
