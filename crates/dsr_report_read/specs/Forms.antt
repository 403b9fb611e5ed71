-- Which texts are reports, and the first line that keeps a text from being one.
use Rattle.std.specs.Prelude.{◌≡◌, ◌≢◌, ◌≤◌, ◌<◌, ◌+◌, ◌^◌, ℕ, false, IsTrue, IsSome, is_some, IfSome, All, List, [], ◌∷◌, None, Some, MatchBool, length, take, slice_get}
use Rattle.dsr_ir.specs.declared.constraints.Constraint.{Constraint}
use Rattle.dsr_ir.specs.declared.constraints.Quant.{Quant}
use Rattle.dsr_ir.specs.declared.constraints.Quant.TheVariants as quants
use Rattle.dsr_ir.specs.declared.constraints.Var.TheVariants.{First, Second}
use Rattle.dsr_ir.specs.declared.declarations.Field.{Field}
use Rattle.dsr_ir.specs.declared.declarations.FieldRef.{FieldRef}
use Rattle.dsr_ir.specs.declared.declarations.Pool.{Pool}
use Rattle.dsr_ir.specs.declared.declarations.SetDecl.{SetDecl}
use Rattle.dsr_ir.specs.declared.declarations.Spec.{Spec}
use Rattle.dsr_ir.specs.declared.declarations.Structures.{Structures}
use Rattle.dsr_ir.specs.declared.tuples.Binding.{Binding}
use Rattle.dsr_ir.specs.declared.tuples.Binding.TheVariants as bindings
use Rattle.dsr_ir.specs.declared.tuples.Element.{Element}
use Rattle.dsr_meaning.specs.Counting.{IsIn}
use Rattle.dsr_meaning.specs.Instances.{declared_field}
use Rattle.dsr_meaning.specs.Typed.{Descends, HasName, pool_at, pool_of_var}
use Rattle.dsr_repair_theory.specs.declared.entries.ByteChange.{ByteChange}
use Rattle.dsr_repair_theory.specs.declared.entries.CellSet.{CellSet}
use Rattle.dsr_repair_theory.specs.declared.entries.Entry.{Entry}
use Rattle.dsr_report_read.specs.Lines.{kind_of, line_text, line_texts, may_follow, moved, start, state_after}
use Rattle.dsr_report_read.specs.declared.lines.Head.{Head}
use Rattle.dsr_report_read.specs.declared.lines.Kind.TheVariants as kinds
use Rattle.dsr_report_read.specs.declared.lines.Line.{Line}
use Rattle.dsr_report_read.specs.declared.lines.Line.TheVariants as lines
use Rattle.dsr_report_read.specs.declared.lines.State.{State}
use Rattle.dsr_update_theory.specs.Templates.{literal_at}

-- ---- what a line may tell

-- the head, or a slot of a declared pool
pub record IsRecord (spec : Spec) (elem : Element) : Type 0 where
  pub declared : elem.pool ≤ length spec.base.pools
  pub small : elem.slot < 2 ^ 32
  pub head : elem.pool ≡ 0 → elem.slot ≡ 0

-- a record of a set or of one side of a relation
abbrev pub IsRecordOf : Spec → Quant → Binding → Type 0
IsRecordOf spec (quants.Each set) (bindings.Each elem) =
    IsRecord spec elem × (pool_of_var spec.base (quants.Each set) First ≡ Some elem.pool)
IsRecordOf spec (quants.Pairs rel) (bindings.Pair source target) =
    IsRecord spec source × IsRecord spec target
    × (pool_of_var spec.base (quants.Pairs rel) First ≡ Some source.pool)
    × (pool_of_var spec.base (quants.Pairs rel) Second ≡ Some target.pool)
IsRecordOf spec quants.Once bindings.Once = Unit {0}
IsRecordOf spec quant binding = ⊥

-- a literal of a constraint at a binding as its quantifier asks, and a rule
pub record IsHead (spec : Spec) (head : Head) : Type 0 where
  pub constraint : Constraint
  pub constraint_is : slice_get spec.constraints head.constraint ≡ Some constraint
  pub binding : IsRecordOf spec constraint.quant head.binding
  pub literal : IsSome (literal_at constraint head.conj head.literal)
  pub rule : head.rule < length spec.rules

-- a structure by which records of the pool are read: its own, or that of a set; pool 0 has the head
pub data IsTop (base : Structures) (pool : ℕ) : ℕ → Type 0 where
  of_head : pool ≡ 0 → IsTop base pool base.head
  of_pool : (its : Pool) → pool_at base pool ≡ Some its → IsTop base pool its.structure
  of_set : (set : SetDecl) → IsIn set base.sets → set.pool ≡ pool → IsTop base pool set.structure

-- the fields of a pool's records are those of these structures and of their ancestors
pub record IsOfPool (base : Structures) (pool structure : ℕ) : Type 0 where
  pub top : ℕ
  pub is_top : IsTop base pool top
  pub descends : Descends base.structures top structure

pub record IsPoolField (base : Structures) (pool : ℕ) (place : FieldRef) (field : Field) : Type 0 where
  pub declared : declared_field base place ≡ Some field
  pub named : HasName field
  pub of_pool : IsOfPool base pool place.structure

-- a field of a record, with an index exactly where it is an array
pub record IsSet (spec : Spec) (set : CellSet) : Type 0 where
  pub elem : IsRecord spec set.elem
  pub field : Field
  pub is_field : IsPoolField spec.base set.elem.pool set.path.field field
  pub indexed : MatchBool set.path.indexed (IsSome field.len) (field.len ≡ None)
  pub index : set.index < 2 ^ 64
  pub no_index : set.path.indexed ≡ false → set.index ≡ 0
  pub old : set.old < 2 ^ 64
  pub new : set.new < 2 ^ 64

-- The first field of its name in the pool, among those that are arrays or among those that are
-- none: no structure that is declared before has such a one. Structures of one pool that aren't
-- related may have fields of one name, and a line tells the name alone. A text that the first field
-- doesn't give, none gives.
pub record IsFirstNamed (base : Structures) (pool : ℕ) (place : FieldRef) (field : Field) : Type 0 where
  pub none_before :
      (other : FieldRef) (its : Field) → IsPoolField base pool other its → its.name ≡ field.name
      → is_some its.len ≡ is_some field.len → other.structure < place.structure → ⊥

-- so of the first field of its name
pub record IsFirstSet (spec : Spec) (set : CellSet) : Type 0 where
  pub is_set : IsSet spec set
  pub is_first : IsFirstNamed spec.base set.elem.pool set.path.field is_set.field

pub record IsChange (change : ByteChange) : Type 0 where
  pub place : change.place < 2 ^ 64
  pub old : change.old < 256
  pub new : change.new < 256

-- of which form a line is
abbrev pub IsFormed : Spec → Line → Type 0
IsFormed spec (lines.Update head) = IsHead spec head
IsFormed spec (lines.Reset elem) = IsRecord spec elem × (0 < elem.pool)
IsFormed spec (lines.Set set) = IsSet spec set
IsFormed spec (lines.Byte change) = IsChange change
IsFormed spec lines.End = Unit {0}

-- the one that a reader takes, where several of the form have one text
abbrev pub IsLine : Spec → Line → Type 0
IsLine spec (lines.Update head) = IsHead spec head
IsLine spec (lines.Reset elem) = IsRecord spec elem × (0 < elem.pool)
IsLine spec (lines.Set set) = IsFirstSet spec set
IsLine spec (lines.Byte change) = IsChange change
IsLine spec lines.End = Unit {0}

-- ---- what a report may tell

-- for which literal the step was made, by which rule
abbrev pub head_told : Entry → Head
head_told entry = record {
  constraint = entry.constraint;
  binding = entry.binding;
  conj = entry.conj;
  literal = entry.literal;
  rule = entry.rule;
}

-- each of its lines is one that may be told
pub record IsTold (spec : Spec) (entry : Entry) : Type 0 where
  pub head : IsHead spec (head_told entry)
  pub reset : IfSome entry.reset (λ elem. IsRecord spec elem × (0 < elem.pool))
  pub sets : All (IsFirstSet spec) entry.sets
  pub bytes : All IsChange entry.bytes

-- all entries are such as a report may tell
abbrev pub IsReported : Spec → List Entry → Type 0
IsReported spec entries = All (IsTold spec) entries

-- ---- lines in a row

-- the line may stand there
pub record IsNext (spec : Spec) (state : State) (line : Line) : Type 0 where
  pub follows : IsTrue (may_follow state.last (kind_of line))
  pub is_line : IsLine spec line

-- each line may stand behind those before it
abbrev pub AreLines : Spec → State → List Line → Type 0
AreLines spec state [] = Unit {0}
AreLines spec state (line ∷ rest) = IsNext spec state line × AreLines spec (moved state line) rest

-- a text of these lines is a report, as these lines tell it
pub record IsReportOf (spec : Spec) (texts : List (List ℕ)) (lines : List Line) : Type 0 where
  pub are_lines : AreLines spec start lines
  pub texts_are : texts ≡ line_texts spec start lines
  pub ended : (state_after start lines).last ≡ Some kinds.End

-- ---- the first line that is wrong

-- so many lines are of the form, and no line of the form that may follow stands behind them
pub record IsWrongBehind (spec : Spec) (texts : List (List ℕ)) (before : List Line) : Type 0 where
  pub are_lines : AreLines spec start before
  pub texts_are : take (length before) texts ≡ line_texts spec start before
  pub within : length before ≤ length texts
  pub wrong :
      (line : Line) → IsTrue (may_follow (state_after start before).last (kind_of line))
      → IsFormed spec line
      → slice_get texts (length before) ≢ Some (line_text spec (state_after start before).count line)
  pub unended :
      (state_after start before).last ≡ Some kinds.End → length before < length texts

-- the first line that isn't of the form has this number, counted from 1
pub record IsFirstWrong (spec : Spec) (texts : List (List ℕ)) (number : ℕ) : Type 0 where
  pub before : List Line
  pub number_is : number ≡ length before + 1
  pub behind : IsWrongBehind spec texts before
