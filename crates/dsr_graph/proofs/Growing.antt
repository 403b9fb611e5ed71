-- Kinds of literals, with one more behind the others.
use Rattle.std.proofs.Common.{◌<◌, ◌++◌, ℕ, zero, suc, All, List, [], ◌∷◌, length, arith, slice_get, inl, inr, refl, sym, subst}
use Rattle.std.specs.Prelude.{IsSomeAnd}
use Rattle.std.proofs.lemmas.List.Elements.{All-push}
use Rattle.dsr_compensate.proofs.Each.{got_front, got_last}
use Rattle.dsr_graph.specs.Kinds.{AreAlike, AreNumberedBy, Grows, HasKind, IsRowOf, KeepsKinds}
use Rattle.dsr_graph.specs.declared.kinds.First.{First}
use Rattle.dsr_graph.proofs.Paired.{paired_weaker}
use Rattle.dsr_ir.specs.declared.constraints.Literal.{Literal}

pub alike_itself : (literal : Literal) → AreAlike literal literal
alike_itself literal = record { atom = refl; negated = refl }

pub alike_turned : (a b : Literal) → AreAlike a b → AreAlike b a
alike_turned a b alike = record { atom = sym alike.atom; negated = sym alike.negated }

within : {T : Type 0} (P : T → Type 0) (xs : List T) (k : ℕ) → IsSomeAnd (slice_get xs k) P → k < length xs
within P [] k h = absurd h
within P (x ∷ xs) zero h = omega arith
within P (x ∷ xs) (suc k) h = let less = within P xs k h in omega (arith, less)

-- a kind that was there is there still
pub kinds_kept : (firsts : List First) (next : First) → KeepsKinds firsts (firsts ++ next ∷ [])
kinds_kept firsts next kind literal has =
    let less = within (λ first. AreAlike first.literal literal) firsts kind has in
    subst (λ o. IsSomeAnd o (λ first. AreAlike first.literal literal)) (sym (got_front firsts (next ∷ []) kind less)) has

pub kept_itself : (firsts : List First) → KeepsKinds firsts firsts
kept_itself firsts kind literal has = has

pub kept_then : (a b c : List First) → KeepsKinds a b → KeepsKinds b c → KeepsKinds a c
kept_then a b c first second kind literal has = second kind literal (first kind literal has)

pub grown_kept : (old new : List First) (next : First) → Grows old next new → KeepsKinds old new
grown_kept old new next (inl same) = subst (KeepsKinds old) (sym same) (kept_itself old)
grown_kept old new next (inr more) = subst (KeepsKinds old) (sym more) (kinds_kept old next)

pub grown_all : (P : First → Type 0) (old new : List First) (next : First) → Grows old next new → P next → All P old → All P new
grown_all P old new next (inl same) its all = subst (All P) (sym same) all
grown_all P old new next (inr more) its all = subst (All P) (sym more) (All-push P old next all its)

pub last_has : (firsts : List First) (next : First) → HasKind (firsts ++ next ∷ []) (length firsts) next.literal
last_has firsts next =
    subst (λ o. IsSomeAnd o (λ first. AreAlike first.literal next.literal)) (sym (got_last firsts next)) (alike_itself next.literal)

pub numbered_kept : (old new : List First) (literals : List Literal) (kinds : List ℕ) → KeepsKinds old new → AreNumberedBy old literals kinds → AreNumberedBy new literals kinds
numbered_kept old new literals kinds kept its =
    paired_weaker (λ n literal kind. HasKind old kind literal) (λ n literal kind. HasKind new kind literal) literals kinds (λ n literal kind has. kept kind literal has) its

pub row_kept : (old new : List First) (literals : List Literal) (kinds : List ℕ) → KeepsKinds old new → IsRowOf old literals kinds → IsRowOf new literals kinds
row_kept old new literals kinds kept its = record { few = its.few; numbered = numbered_kept old new literals kinds kept its.numbered }
