-- What a reader owes.
use Rattle.std.specs.Prelude.{◌≡◌, ◌<◌, ◌++◌, ℕ, nat_eq, MatchBool, List, Option, None, Some, IsSomeAnd, Result, Ok, Err, Vec, map}
use Rattle.std.specs.Borrow.{Bor}
use Rattle.std.specs.declared.alloc.Global.{Global}
use Rattle.dsr_ir.specs.declared.declarations.FieldRef.{FieldRef}
use Rattle.dsr_ir.specs.declared.declarations.SetDecl.{SetDecl}
use Rattle.dsr_ir.specs.declared.declarations.Spec.{Spec}
use Rattle.dsr_ir.specs.declared.declarations.Structures.{Structures}
use Rattle.dsr_ir.specs.declared.tuples.Element.{Element}
use Rattle.dsr_meaning.specs.Counting.{IsIn}
use Rattle.dsr_meaning.specs.Typed.{Descends, pool_at}
use Rattle.dsr_report_read.specs.Forms.{IsFirstSet, IsFirstWrong, IsHead, IsLine, IsNext, IsRecord, IsReportOf, IsSet}
use Rattle.dsr_report_read.specs.declared.faults.ReadFault.{ReadFault}
use Rattle.dsr_report_read.specs.declared.faults.ReadFault.TheVariants as faults
use Rattle.dsr_report_read.specs.Lines.{kind_of, line_text}
use Rattle.dsr_report_read.specs.declared.lines.Head.{Head}
use Rattle.dsr_report_read.specs.declared.lines.Kind.{Kind}
use Rattle.dsr_report_read.specs.declared.lines.Line.{Line}
use Rattle.dsr_report_read.specs.declared.lines.State.{State}
use Rattle.dsr_repair_theory.specs.declared.entries.CellSet.{CellSet}

-- the text is that of the value, which is of the kind; none where it is that of no such value
abbrev pub Reads : {T : Type 0} → (T → Type 0) → (T → List ℕ) → List ℕ → Option T → Type 0
Reads Such shown text None = (x : _) → Such x → text ≡ shown x → ⊥
Reads Such shown text (Some x) = Such x × (text ≡ shown x)

-- the text begins so
pub record Begins (text front : List ℕ) : Type 0 where
  pub rest : List ℕ
  pub is : text ≡ front ++ rest

-- the text is that of lines of this kind alone; none where it is that of no line
abbrev pub IsKindOf : List ℕ → Option Kind → Type 0
IsKindOf text None = (spec : Spec) (count : ℕ) (line : Line) → text ≡ line_text spec count line → ⊥
IsKindOf text (Some kind) =
    (spec : Spec) (count : ℕ) (line : Line) → text ≡ line_text spec count line → kind_of line ≡ kind

-- ---- what is read

abbrev pub IsPoolRecord : Spec → Element → Type 0
IsPoolRecord spec elem = IsRecord spec elem × (0 < elem.pool)

-- of a pool with this number
pub record IsRecordIn (spec : Spec) (pool : ℕ) (elem : Element) : Type 0 where
  pub is_record : IsPoolRecord spec elem
  pub pool_is : elem.pool ≡ pool

-- of a constraint with this number
pub record IsHeadOf (spec : Spec) (constraint : ℕ) (head : Head) : Type 0 where
  pub is_head : IsHead spec head
  pub constraint_is : head.constraint ≡ constraint

-- of a pool with this number
pub record IsSetIn (spec : Spec) (pool : ℕ) (set : CellSet) : Type 0 where
  pub is_set : IsSet spec set
  pub pool_is : set.elem.pool ≡ pool

-- so where its field is the first of its name
pub record IsFirstSetIn (spec : Spec) (pool : ℕ) (set : CellSet) : Type 0 where
  pub is_first : IsFirstSet spec set
  pub pool_is : set.elem.pool ≡ pool

-- and of a structure with this one
pub record IsSetUnder (spec : Spec) (pool structure : ℕ) (set : CellSet) : Type 0 where
  pub is_set : IsSet spec set
  pub pool_is : set.elem.pool ≡ pool
  pub structure_is : set.path.field.structure ≡ structure

-- and of a field there
pub record IsSetAt (spec : Spec) (pool : ℕ) (place : FieldRef) (set : CellSet) : Type 0 where
  pub is_set : IsSet spec set
  pub pool_is : set.elem.pool ≡ pool
  pub place_is : set.path.field ≡ place

-- what a fault tells of a text; want of memory tells nothing
abbrev pub Tells : (ℕ → Type 0) → ReadFault → Type 0
Tells Wrong (faults.Line number) = Wrong number
Tells Wrong faults.NoMemory = Unit {0}

-- ---- structures of a pool

-- the head's structure, or that of the pool, is this one or descends from it
abbrev pub IsOwn : Structures → ℕ → ℕ → Type 0
IsOwn base pool structure =
    MatchBool (nat_eq pool 0) (Descends base.structures base.head structure)
    (IsSomeAnd (pool_at base pool) (λ its. Descends base.structures its.structure structure))

-- so of the structure by which a set of the pool is read
pub record IsViewed (base : Structures) (pool structure : ℕ) : Type 0 where
  pub set : SetDecl
  pub is_in : IsIn set base.sets
  pub of_pool : set.pool ≡ pool
  pub descends : Descends base.structures set.structure structure

-- ---- lines

-- a line of this kind
pub record IsLineOf (spec : Spec) (kind : Kind) (line : Line) : Type 0 where
  pub is_line : IsLine spec line
  pub kind_is : kind_of line ≡ kind

-- the next line, which may stand there
abbrev pub ReadsLine : Spec → State → List ℕ → Option Line → Type 0
ReadsLine spec state text line = Reads (IsNext spec state) (line_text spec state.count) text line

-- all lines of the text up to the end, or the first wrong one
abbrev pub ReadsRow : Spec → List (List ℕ) → Result (Vec Line Global) ReadFault → Type 0
ReadsRow spec texts (Ok lines) = IsReportOf spec texts lines.items
ReadsRow spec texts (Err fault) = Tells (IsFirstWrong spec texts) fault

-- what the borrowed lines are
abbrev pub texts_of : List (Bor (List ℕ)) → List (List ℕ)
texts_of texts = map (λ text. text.now) texts
