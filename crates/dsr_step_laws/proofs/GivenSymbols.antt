-- What an instance of a rule gives is a fact of the rule's symbol.
use Rattle.std.proofs.Common.{◌≡◌, ℕ, true, List, refl, sym, ap, subst}
use Rattle.std.proofs.lemmas.Bool.{eq-eqb}
use Rattle.dsr_ir.specs.Rules as rules
use Rattle.dsr_ir.specs.Rules.{gives, is_same_symbol}
use Rattle.dsr_ir.specs.declared.declarations.Spec.{Spec}
use Rattle.dsr_ir.specs.declared.layouts.Layout.{Layout}
use Rattle.dsr_ir.specs.declared.rules.Inc.{Inc}
use Rattle.dsr_ir.specs.declared.rules.Inc.TheVariants.{Own, OwnPair, Slot, SlotPair, Target}
use Rattle.dsr_ir.specs.declared.tuples.Fact.{Fact}
use Rattle.dsr_ir.specs.declared.tuples.Instance.{Instance}
use Rattle.dsr_ir.specs.declared.updates.Symbol.{Symbol}
use Rattle.dsr_ir.specs.declared.updates.Symbol.TheVariants.{Rel, Set}
use Rattle.dsr_meaning.specs.Instances.{Includes}
use Rattle.dsr_meaning.specs.Looking.{symbol_of}

module _ (spec : Spec) (layout : Layout) where
  pub symbol_is : (bytes : List ℕ) (i : Instance) (inc : Inc) (fact : Fact) → Includes spec layout bytes i inc fact → symbol_of fact ≡ rules.symbol_of inc
  symbol_is bytes i (Own set) fact h = ap symbol_of h
  symbol_is bytes i (Target set path) fact h = ap symbol_of h.2
  symbol_is bytes i (Slot set pool) fact h = ap symbol_of h
  symbol_is bytes i (OwnPair rel path) fact h = ap symbol_of h.2
  symbol_is bytes i (SlotPair rel pool path) fact h = ap symbol_of h.2

same_symbol : (s : Symbol) → is_same_symbol s s ≡ true
same_symbol (Set n) = eq-eqb n n refl
same_symbol (Rel n) = eq-eqb n n refl

-- the rule whose instance gives the fact is one of its symbol
pub giver_of : (spec : Spec) (layout : Layout) (bytes : List ℕ) (i : Instance) (inc : Inc) (fact : Fact) → Includes spec layout bytes i inc fact → gives (symbol_of fact) inc ≡ true
giver_of spec layout bytes i inc fact h = subst (λ s. is_same_symbol (rules.symbol_of inc) s ≡ true) (sym (symbol_is spec layout bytes i inc fact h)) (same_symbol (rules.symbol_of inc))
