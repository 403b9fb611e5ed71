-- Marks of the symbols that some fields affect.
use Rattle.std.specs.Prelude.{◌≡◌, ◌<◌, ◌↔◌, ◌&&◌, ◌||◌, ℕ, Bool, true, false, not, IsTrue, List, [], ◌∷◌, Some, slice_get, slice_index_or, slice_set}
use Rattle.std.specs.Option.{option_map_or}
use Rattle.dsr_affected.specs.declared.marks.Marks.{Marks}
use Rattle.dsr_affected_laws.specs.Affected.{IsAffected, IsAffectedConstraint, atom_symbols, quant_symbols, reads_any}
use Rattle.dsr_affected_laws.specs.Differing.{CoversAffected, IsRising}
use Rattle.dsr_ir.specs.Rules.{symbol_of}
use Rattle.dsr_ir.specs.declared.constraints.Conj.{Conj}
use Rattle.dsr_ir.specs.declared.constraints.Constraint.{Constraint}
use Rattle.dsr_ir.specs.declared.declarations.FieldRef.{FieldRef}
use Rattle.dsr_ir.specs.declared.declarations.SetDecl.{SetDecl}
use Rattle.dsr_ir.specs.declared.declarations.Spec.{Spec}
use Rattle.dsr_ir.specs.declared.declarations.Structures.{Structures}
use Rattle.dsr_ir.specs.declared.rules.Rule.{Rule}
use Rattle.dsr_ir.specs.declared.updates.Symbol.{Symbol}
use Rattle.dsr_ir.specs.declared.updates.Symbol.TheVariants.{Set, Rel}
use Rattle.dsr_meaning.specs.Counting.{IsIn}
use Rattle.dsr_meaning.specs.Lists.{any_of}

-- ---- marks

abbrev pub has_mark : Marks → Symbol → Bool
has_mark marks (Set set) = slice_index_or marks.sets set false
has_mark marks (Rel rel) = slice_index_or marks.rels rel false

abbrev pub with_mark : Marks → Symbol → Marks
with_mark marks (Set set) = record { sets = slice_set marks.sets set true; rels = marks.rels }
with_mark marks (Rel rel) = record { sets = marks.sets; rels = slice_set marks.rels rel true }

-- exactly the affected symbols are marked
abbrev pub AreMarksOf : Spec → List FieldRef → Marks → Type 0
AreMarksOf spec fields marks =
    (symbol : Symbol) → IsTrue (has_mark marks symbol) ↔ IsAffected spec fields symbol

-- ---- what follows from marks

abbrev pub is_premise_marked : Marks → Rule → Bool
is_premise_marked marks rule = option_map_or (λ set. has_mark marks (Set set)) rule.premise false

-- the rule's premise is marked, or it reads what a write of the fields may change
abbrev pub is_reached : Structures → List FieldRef → Marks → Rule → Bool
is_reached base fields marks rule = is_premise_marked marks rule || reads_any base fields rule

-- the set is the complement of a marked one
abbrev pub is_base_marked : Marks → SetDecl → Bool
is_base_marked marks set = option_map_or (λ base. has_mark marks (Set base)) set.except false

-- the rule is reached, and its symbol isn't marked
abbrev pub is_next : Structures → List FieldRef → Marks → Rule → Bool
is_next base fields marks rule =
    not (has_mark marks (symbol_of rule.inc)) && is_reached base fields marks rule

-- the set with this number is the complement of a marked one, and isn't marked
abbrev pub is_next_complement : Marks → ℕ → SetDecl → Bool
is_next_complement marks number set = not (has_mark marks (Set number)) && is_base_marked marks set

-- the symbol of each rule that is reached is marked
abbrev pub AreReachedMarked : Spec → List FieldRef → Marks → Type 0
AreReachedMarked spec fields marks =
    (k : ℕ) (rule : Rule) → slice_get spec.rules k ≡ Some rule
    → IsTrue (is_reached spec.base fields marks rule)
    → IsTrue (has_mark marks (symbol_of rule.inc))

-- it isn't marked, and a rule of it is reached
pub record IsNextReached (spec : Spec) (fields : List FieldRef) (marks : Marks)
    (symbol : Symbol) : Type 0 where
  pub unmarked : has_mark marks symbol ≡ false
  pub number : ℕ
  pub rule : Rule
  pub rule_is : slice_get spec.rules number ≡ Some rule
  pub gives : symbol_of rule.inc ≡ symbol
  pub reached : IsTrue (is_reached spec.base fields marks rule)

-- each complement of a marked set is marked
abbrev pub AreComplementsMarked : Spec → Marks → Type 0
AreComplementsMarked spec marks =
    (set : ℕ) (declared : SetDecl) → slice_get spec.base.sets set ≡ Some declared
    → IsTrue (is_base_marked marks declared) → IsTrue (has_mark marks (Set set))

-- it isn't marked, and is the complement of a marked set
pub record IsNextComplement (spec : Spec) (marks : Marks) (symbol : Symbol) : Type 0 where
  pub unmarked : has_mark marks symbol ≡ false
  pub set : ℕ
  pub declared : SetDecl
  pub declared_is : slice_get spec.base.sets set ≡ Some declared
  pub symbol_is : Set set ≡ symbol
  pub base : IsTrue (is_base_marked marks declared)

-- it isn't marked, and is affected where the marked ones are
pub record IsNext (spec : Spec) (fields : List FieldRef) (marks : Marks)
    (symbol : Symbol) : Type 0 where
  pub unmarked : has_mark marks symbol ≡ false
  pub follows :
      ((other : Symbol) → IsTrue (has_mark marks other) → IsAffected spec fields other)
      → IsAffected spec fields symbol

-- ---- symbols in order

-- sets come before relations, each in order of declaration
abbrev pub Precedes : Symbol → Symbol → Type 0
Precedes (Set s) (Set t) = s < t
Precedes (Set s) (Rel r) = Unit {0}
Precedes (Rel r) (Set t) = ⊥
Precedes (Rel r) (Rel q) = r < q

-- each comes before all later ones
abbrev pub AreInOrder : List Symbol → Type 0
AreInOrder [] = Unit {0}
AreInOrder (a ∷ rest) = ((b : Symbol) → IsIn b rest → Precedes a b) × AreInOrder rest

-- ---- symbols that are collected

-- the symbol is one of so many sets, or of so many relations
abbrev pub IsAmong : ℕ → ℕ → Symbol → Type 0
IsAmong sets rels (Set set) = set < sets
IsAmong sets rels (Rel rel) = rel < rels

-- exactly those of so many sets and so many relations that are marked, in order
pub record AreCollected (marks : Marks) (sets rels : ℕ) (symbols : List Symbol) : Type 0 where
  pub exactly :
      (symbol : Symbol)
      → IsIn symbol symbols ↔ (IsAmong sets rels symbol × IsTrue (has_mark marks symbol))
  pub order : AreInOrder symbols

-- ---- constraints

abbrev pub is_conj_marked : Marks → Conj → Bool
is_conj_marked marks conj =
    any_of (λ literal. any_of (has_mark marks) (atom_symbols literal.atom)) conj.literals

-- a symbol of the constraint is marked
abbrev pub is_constraint_marked : Marks → Constraint → Bool
is_constraint_marked marks c =
    any_of (has_mark marks) (quant_symbols c.quant) || any_of (is_conj_marked marks) c.conjs

-- exactly the affected constraints, by their numbers, in order
pub record AreAffected (spec : Spec) (fields : List FieldRef) (order : List ℕ) : Type 0 where
  pub covers : CoversAffected spec fields order
  pub only :
      (at k : ℕ) → slice_get order at ≡ Some k
      → (c : Constraint) × (slice_get spec.constraints k ≡ Some c) × IsAffectedConstraint spec fields c
  pub rising : IsRising order
