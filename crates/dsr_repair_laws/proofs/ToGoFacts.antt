-- Of a fact that is to go: its symbol is the literal's, and its member or source is the record of the literal's variable.
use Rattle.std.proofs.Common.{◌≡◌, ℕ, Option, Some, IfSome, IsSomeAnd, sym, ap, subst}
use Rattle.dsr_repair_theory.specs.Choices.{IsToGo}
use Rattle.dsr_ir.specs.declared.constraints.Atom.{Atom}
use Rattle.dsr_ir.specs.declared.constraints.Atom.TheVariants as atoms
use Rattle.dsr_ir.specs.declared.constraints.Measure.{Measure}
use Rattle.dsr_ir.specs.declared.constraints.Measure.TheVariants.{Into, Out, Whole}
use Rattle.dsr_ir.specs.declared.tuples.Binding.{Binding}
use Rattle.dsr_ir.specs.declared.tuples.Element.{Element}
use Rattle.dsr_ir.specs.declared.tuples.Fact.{Fact}
use Rattle.dsr_ir.specs.declared.tuples.Fact.TheVariants.{Member, Pair}
use Rattle.dsr_ir.specs.declared.tuples.Target.TheVariants.{Elem}
use Rattle.dsr_ir.specs.declared.updates.Symbol.TheVariants as symbols
use Rattle.dsr_graph_theory.specs.Sides.{atom_symbol}
use Rattle.dsr_meaning.specs.Looking.{IsCounted, symbol_of}
use Rattle.dsr_meaning.specs.Truth.{element_of}
use Rattle.dsr_update_theory.specs.Templates.{counted_of, counted_symbol}
use Rattle.dsr_repair_laws.proofs.TriedUpdates.{taken_var}
use Rattle.dsr_meaning.proofs.Options.{some_and}

-- the member, or the source of the pair
abbrev pub source_of : Fact → Element
source_of (Member set e) = e
source_of (Pair rel e target) = e

module _ (b : Binding) where
  counted_in : (measure : Measure) (fact : Fact) → IsCounted b measure fact → symbol_of fact ≡ counted_symbol measure
  counted_in (Whole set) (Member s e) counted = ap symbols.Set counted
  counted_in (Whole set) (Pair r x t) counted = absurd counted
  counted_in (Out v rel) (Member s e) counted = absurd counted
  counted_in (Out v rel) (Pair r x t) counted = ap symbols.Rel counted.0
  counted_in (Into rel v) (Member s e) counted = absurd counted
  counted_in (Into rel v) (Pair r x t) counted = ap symbols.Rel counted.0

  counted_source : (measure : Measure) (fact : Fact) → IsCounted b measure fact → IfSome (counted_of measure) (λ x. element_of b x ≡ Some (source_of fact))
  counted_source (Whole set) fact counted = tt
  counted_source (Into rel v) fact counted = tt
  counted_source (Out v rel) (Pair r x target) counted = counted.1
  counted_source (Out v rel) (Member set e) counted = absurd counted

  -- the pair is that of the variables' records
  record IsPairTo (x : Element) (rel : ℕ) (fact : Fact) : Type 0 where
    to : Element
    is : fact ≡ Pair rel x (Elem to)

  pair_to : (o : Option Element) (rel : ℕ) (fact : Fact) (x : Element) → IsSomeAnd o (λ y. fact ≡ Pair rel x (Elem y)) → IsPairTo x rel fact
  pair_to o rel fact x h = let y = some_and o (λ y. fact ≡ Pair rel x (Elem y)) h in record { to = y.0; is = y.1.1 }

  module _ (is_fact : Fact → Type 0) where
    pub to_go_symbol : (atom : Atom) (fact : Fact) → IsToGo is_fact b atom fact → symbol_of fact ≡ atom_symbol atom
    to_go_symbol (atoms.Member v set) fact to_go = ap symbol_of (some_and (element_of b v) (λ x. fact ≡ Member set x) to_go).1.1
    to_go_symbol (atoms.Pair v w rel) fact to_go =
        let x = some_and (element_of b v) (λ x. IsSomeAnd (element_of b w) (λ y. fact ≡ Pair rel x (Elem y))) to_go in
        ap symbol_of (pair_to (element_of b w) rel fact x.0 x.1.1).is
    to_go_symbol (atoms.Count measure op k) fact to_go = counted_in measure fact to_go.of_kind.0
    to_go_symbol (atoms.Value v rel op bound) fact to_go = absurd to_go

    pub to_go_source : (atom : Atom) (fact : Fact) → IsToGo is_fact b atom fact → IfSome (taken_var atom) (λ x. element_of b x ≡ Some (source_of fact))
    to_go_source (atoms.Member v set) fact to_go =
        let x = some_and (element_of b v) (λ x. fact ≡ Member set x) to_go in
        subst (λ e. element_of b v ≡ Some e) (sym (ap source_of x.1.1)) x.1.0
    to_go_source (atoms.Pair v w rel) fact to_go =
        let x = some_and (element_of b v) (λ x. IsSomeAnd (element_of b w) (λ y. fact ≡ Pair rel x (Elem y))) to_go in
        subst (λ e. element_of b v ≡ Some e) (sym (ap source_of (pair_to (element_of b w) rel fact x.0 x.1.1).is)) x.1.0
    to_go_source (atoms.Count measure op k) fact to_go = counted_source measure fact to_go.of_kind.0
    to_go_source (atoms.Value v rel op bound) fact to_go = absurd to_go
