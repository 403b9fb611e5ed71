-- Where one set of facts has all facts of a symbol that another has, no size of it is less.
use Rattle.std.proofs.Common.{◌≡◌, ◌≤◌, ℕ, Option, None, Some, IsSome, IsSomeAnd, refl, subst, arith}
use Rattle.std.proofs.lemmas.Option.{same_Some, none-some}
use Rattle.dsr_graph_theory.specs.Causes.{read_at}
use Rattle.dsr_ir.specs.declared.constraints.Measure.{Measure}
use Rattle.dsr_ir.specs.declared.constraints.Measure.TheVariants.{Whole, Out, Into}
use Rattle.dsr_ir.specs.declared.constraints.Var.{Var}
use Rattle.dsr_ir.specs.declared.tuples.Binding.{Binding}
use Rattle.dsr_ir.specs.declared.tuples.Element.{Element}
use Rattle.dsr_ir.specs.declared.tuples.Fact.{Fact}
use Rattle.dsr_ir.specs.declared.tuples.Fact.TheVariants.{Member, Pair}
use Rattle.dsr_ir.specs.declared.tuples.Target.TheVariants.{Elem}
use Rattle.dsr_meaning.specs.Counting.{AreMany}
use Rattle.dsr_meaning.specs.Looking.{symbol_of}
use Rattle.dsr_meaning.specs.Truth.{HasSize, HasVariable, element_of}
use Rattle.dsr_effect_laws.specs.Allowed.{subject_of}
use Rattle.dsr_update_theory.specs.Templates.{counted_symbol}
use Rattle.dsr_meaning.proofs.Counts.{no_more}

many_le : {A : Type 0} (P Q : A → Type 0) (m n : ℕ) → ((x : A) → P x → Q x) → AreMany P m → AreMany Q n → m ≤ n
many_le P Q m n sub a b =
    let le = no_more a.things b.things a.enumerated.distinct (λ x i. b.enumerated.all x (sub x (a.enumerated.only x i))) in
    omega (arith, le, a.counted, b.counted)

some_le : {A : Type 0} (P Q : Element → A → Type 0) (o : Option Element) (m n : ℕ) → ((x : Element) (y : A) → o ≡ Some x → P x y → Q x y) → IsSomeAnd o (λ x. AreMany (P x) m) → IsSomeAnd o (λ x. AreMany (Q x) n) → m ≤ n
some_le P Q None m n sub a b = absurd a
some_le P Q (Some x) m n sub a b = many_le (P x) (Q x) m n (λ y. sub x y refl) a b

-- the fact is one of the record that the variable names, or any where there is none
abbrev pub IsReadAt : Binding → Option Var → Fact → Type 0
IsReadAt b at fact = (v : Var) → at ≡ Some v → element_of b v ≡ Some (subject_of fact)

pub size_le : (F G : Fact → Type 0) (b : Binding) (measure : Measure) (m n : ℕ) → ((fact : Fact) → symbol_of fact ≡ counted_symbol measure → IsReadAt b (read_at measure) fact → F fact → G fact) → HasSize F b measure m → HasSize G b measure n → m ≤ n
size_le F G b (Whole set) m n sub one two = many_le (λ e. F (Member set e)) (λ e. G (Member set e)) m n (λ e. sub (Member set e) refl (λ v some. absurd (none-some v some))) one two
size_le F G b (Out v rel) m n sub one two = some_le (λ x t. F (Pair rel x t)) (λ x t. G (Pair rel x t)) (element_of b v) m n (λ x t is. sub (Pair rel x t) refl (λ w some. subst (λ u. element_of b u ≡ Some x) (same_Some v w some) is)) one two
size_le F G b (Into rel v) m n sub one two = some_le (λ y e. F (Pair rel e (Elem y))) (λ y e. G (Pair rel e (Elem y))) (element_of b v) m n (λ y e is. sub (Pair rel e (Elem y)) refl (λ u some. absurd (none-some u some))) one two

named : (o : Option Element) (P : Element → Type 0) → IsSomeAnd o P → IsSome o
named None P h = absurd h
named (Some x) P h = refl

-- where there is a size, the variable is bound
pub has_variable : (F : Fact → Type 0) (b : Binding) (measure : Measure) (n : ℕ) → HasSize F b measure n → HasVariable b measure
has_variable F b (Whole set) n size = tt
has_variable F b (Out v rel) n size = named (element_of b v) (λ x. AreMany (λ t. F (Pair rel x t)) n) size
has_variable F b (Into rel v) n size = named (element_of b v) (λ y. AreMany (λ e. F (Pair rel e (Elem y))) n) size
