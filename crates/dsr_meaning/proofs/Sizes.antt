-- One size for each measure, and one number for each bound.
use Rattle.std.proofs.Common.{◌≡◌, ℕ, Option, None, Some, sym, ◌∙◌}
use Rattle.std.specs.Prelude.{IsSomeAnd}
use Rattle.dsr_ir.specs.declared.constraints.Bound.{Bound}
use Rattle.dsr_ir.specs.declared.constraints.Bound.TheVariants as bounds
use Rattle.dsr_ir.specs.declared.constraints.Measure.{Measure}
use Rattle.dsr_ir.specs.declared.constraints.Measure.TheVariants.{Whole, Out, Into}
use Rattle.dsr_ir.specs.declared.tuples.Binding.{Binding}
use Rattle.dsr_ir.specs.declared.tuples.Element.{Element}
use Rattle.dsr_ir.specs.declared.tuples.Fact.{Fact}
use Rattle.dsr_ir.specs.declared.tuples.Fact.TheVariants.{Member, Pair}
use Rattle.dsr_ir.specs.declared.tuples.Target.TheVariants.{Elem}
use Rattle.dsr_meaning.specs.Counting.{AreMany}
use Rattle.dsr_meaning.specs.Truth.{HasBound, HasSize, element_of}
use Rattle.dsr_meaning.proofs.Counts.{many_once}

-- of what a variable names there is one number, where it names something
named_once : {A : Type 0} (P : Element → A → Type 0) (e : Option Element) (n m : ℕ) → IsSomeAnd e (λ x. AreMany (P x) n) → IsSomeAnd e (λ x. AreMany (P x) m) → n ≡ m
named_once P None n m p q = absurd p
named_once P (Some x) n m p q = many_once (P x) n m p q

pub size_once : (is_fact : Fact → Type 0) (b : Binding) (measure : Measure) (n m : ℕ) → HasSize is_fact b measure n → HasSize is_fact b measure m → n ≡ m
size_once is_fact b (Whole set) n m p q = many_once (λ e. is_fact (Member set e)) n m p q
size_once is_fact b (Out v rel) n m p q = named_once (λ x t. is_fact (Pair rel x t)) (element_of b v) n m p q
size_once is_fact b (Into rel v) n m p q = named_once (λ y e. is_fact (Pair rel e (Elem y))) (element_of b v) n m p q

pub bound_once : (is_fact : Fact → Type 0) (b : Binding) (bound : Bound) (n m : ℕ) → HasBound is_fact b bound n → HasBound is_fact b bound m → n ≡ m
bound_once is_fact b (bounds.Num k) n m p q = p ∙ sym q
bound_once is_fact b (bounds.Size measure) n m p q = size_once is_fact b measure n m p q
