-- Literals of a constraint by their kinds.
use Rattle.std.specs.Prelude.{◌≡◌, ◌⊎◌, ◌≤◌, ◌++◌, ℕ, All, IsSomeAnd, List, [], ◌∷◌, Some, length, slice_get}
use Rattle.dsr_ir.specs.declared.constraints.Constraint.{Constraint}
use Rattle.dsr_ir.specs.declared.constraints.Literal.{Literal}
use Rattle.dsr_update_theory.specs.Templates.{literal_at}
use Rattle.dsr_graph.specs.Paired.{ArePaired}
use Rattle.dsr_graph.specs.declared.kinds.First.{First}
use Rattle.dsr_graph.specs.declared.kinds.Kinds.{Kinds}

-- They differ in `given` alone, or not at all. Such literals have the same list, since neither what
-- is tried nor what may turn them false asks for more; plain distribution repeats literals many
-- times, and each kind is judged once.
pub record AreAlike (a b : Literal) : Type 0 where
  pub atom : a.atom ≡ b.atom
  pub negated : a.negated ≡ b.negated

-- the literal is of this kind
abbrev pub HasKind : List First → ℕ → Literal → Type 0
HasKind firsts kind literal = IsSomeAnd (slice_get firsts kind) (λ first. AreAlike first.literal literal)

-- it is nothing new, or put behind the others
abbrev pub Grows : List First → First → List First → Type 0
Grows old next new = (new ≡ old) ⊎ (new ≡ old ++ next ∷ [])

-- what has a kind has it still
abbrev pub KeepsKinds : List First → List First → Type 0
KeepsKinds old new = (kind : ℕ) (literal : Literal) → HasKind old kind literal → HasKind new kind literal

abbrev pub IsFirstIn : Constraint → First → Type 0
IsFirstIn constraint first = literal_at constraint first.conj first.place ≡ Some first.literal

-- each literal has the kind with its place
abbrev pub AreNumberedBy : List First → List Literal → List ℕ → Type 0
AreNumberedBy firsts literals kinds = ArePaired (λ n literal kind. HasKind firsts kind literal) literals kinds

-- the literals of a conjunction, of which there are few, have these kinds
pub record IsRowOf (firsts : List First) (literals : List Literal) (kinds : List ℕ) : Type 0 where
  pub few : length literals ≤ 8
  pub numbered : AreNumberedBy firsts literals kinds

-- the first literal of each kind is there, and each literal has the kind with its place
pub record AreKindsOf (constraint : Constraint) (kinds : Kinds) : Type 0 where
  pub firsts : All (IsFirstIn constraint) kinds.firsts.items
  pub numbered :
      ArePaired (λ n conj row. IsRowOf kinds.firsts.items conj.literals row.items) constraint.conjs
      kinds.numbers.items
