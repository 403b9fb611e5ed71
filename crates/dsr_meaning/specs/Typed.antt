-- When a specification is typed: each number in it names an entry of the table for which it is
-- used, and no condition under which a specification is refused holds, as far as tables tell it.
use Rattle.std.specs.Prelude.{◌≡◌, ◌≢◌, ◌≤◌, ◌<◌, ◌+◌, ◌-◌, ◌^◌, ◌++◌, ℕ, suc, true, false, nat_eq, IsTrue, IsSome, List, [], ◌∷◌, map, reverse, length, take, codes, All, Option, None, Some, IfSome, IsSomeAnd, option_map, option_and_then, MatchBool, if◌then◌else◌, slice_get}
use Rattle.std.specs.Option.{option_map_or}
use Rattle.dsr_ir.specs.Exprs.{ExprShape, NumOf, FixedOf, SumOf, LessOf, TimesOf, OverOf}
use Rattle.dsr_ir.specs.Rules.{gives, target_of}
use Rattle.dsr_ir.specs.declared.constraints.Atom.{Atom}
use Rattle.dsr_ir.specs.declared.constraints.Atom.TheVariants as atoms
use Rattle.dsr_ir.specs.declared.constraints.Bound.{Bound}
use Rattle.dsr_ir.specs.declared.constraints.Bound.TheVariants as bounds
use Rattle.dsr_ir.specs.declared.constraints.Conj.{Conj}
use Rattle.dsr_ir.specs.declared.constraints.Constraint.{Constraint}
use Rattle.dsr_ir.specs.declared.constraints.Literal.{Literal}
use Rattle.dsr_ir.specs.declared.constraints.Measure.{Measure}
use Rattle.dsr_ir.specs.declared.constraints.Measure.TheVariants.{Whole, Out, Into}
use Rattle.dsr_ir.specs.declared.constraints.Quant.{Quant}
use Rattle.dsr_ir.specs.declared.constraints.Quant.TheVariants.{Once, Each, Pairs}
use Rattle.dsr_ir.specs.declared.constraints.Var.{Var}
use Rattle.dsr_ir.specs.declared.constraints.Var.TheVariants.{Head, First, Second}
use Rattle.dsr_ir.specs.declared.declarations.Field.{Field}
use Rattle.dsr_ir.specs.declared.declarations.FieldRef.{FieldRef}
use Rattle.dsr_ir.specs.declared.declarations.Kind.{Kind}
use Rattle.dsr_ir.specs.declared.declarations.Kind.TheVariants.{Number, Refers, Gap}
use Rattle.dsr_ir.specs.declared.declarations.Pool.{Pool}
use Rattle.dsr_ir.specs.declared.declarations.Rel.{Rel}
use Rattle.dsr_ir.specs.declared.declarations.SetDecl.{SetDecl}
use Rattle.dsr_ir.specs.declared.declarations.Spec.{Spec}
use Rattle.dsr_ir.specs.declared.declarations.Structure.{Structure}
use Rattle.dsr_ir.specs.declared.declarations.Structures.{Structures}
use Rattle.dsr_ir.specs.declared.declarations.Width.TheVariants.{U8}
use Rattle.dsr_ir.specs.declared.rules.Guard.{Guard}
use Rattle.dsr_ir.specs.declared.rules.Inc.{Inc}
use Rattle.dsr_ir.specs.declared.rules.Inc.TheVariants.{Own, Target, Slot, OwnPair, SlotPair}
use Rattle.dsr_ir.specs.declared.rules.Op.{Op}
use Rattle.dsr_ir.specs.declared.rules.Op.TheVariants.{Eq, Le, Ge}
use Rattle.dsr_ir.specs.declared.rules.Path.{Path}
use Rattle.dsr_ir.specs.declared.rules.Rule.{Rule}
use Rattle.dsr_ir.specs.declared.rules.Span.{Span}
use Rattle.dsr_ir.specs.declared.rules.Span.TheVariants.{Single, Array, Slots}
use Rattle.dsr_ir.specs.declared.rules.Test.{Test}
use Rattle.dsr_ir.specs.declared.rules.Test.TheVariants.{Cmp}
use Rattle.dsr_ir.specs.declared.updates.Symbol.TheVariants as symbols
use Rattle.dsr_meaning.specs.Cells.{width_bits}
use Rattle.dsr_meaning.specs.Counting.{IsIn, AreMany}
use Rattle.dsr_meaning.specs.FixedFields.{head_fields, is_fixed}
use Rattle.dsr_meaning.specs.Instances.{kind_pool, declared_field, pool_of_premise}
use Rattle.dsr_meaning.specs.Placeable.{IsLegalWidth, AreAligned}
use Rattle.dsr_meaning.specs.Limits.{most_constraints, most_fields, most_rules, most_structures, most_symbols}

-- ---- numbers of tables

-- pools are counted from 1
pub record IsPoolNumber (base : Structures) (p : ℕ) : Type 0 where
  pub from : 1 ≤ p
  pub to : p ≤ length base.pools

-- a structure other than `Head`
pub record IsOtherStructure (base : Structures) (i : ℕ) : Type 0 where
  pub declared : i < length base.structures
  pub other : i ≢ base.head

-- no name of a list stands twice there
abbrev pub AreDifferent : List (List ℕ) → Type 0
AreDifferent names =
    (i j : ℕ) (name : List ℕ) → slice_get names i ≡ Some name → slice_get names j ≡ Some name
    → i ≡ j

-- ---- structures that descend from others

-- the numbers of a structure's ancestors, the nearest first, among structures of which the last
-- declared comes first
abbrev pub ancestors_among : List Structure → ℕ → List ℕ
ancestors_among [] i = []
ancestors_among (s ∷ earlier) i =
    if nat_eq i (length earlier) then option_map_or (λ p. p ∷ ancestors_among earlier p) s.parent []
    else ancestors_among earlier i

-- the numbers of a structure's ancestors, the nearest first
abbrev pub ancestors : List Structure → ℕ → List ℕ
ancestors structures i = ancestors_among (reverse structures) i

-- a structure is another one or descends from it
abbrev pub Descends : List Structure → ℕ → ℕ → Type 0
Descends structures i a = IsIn a (i ∷ ancestors structures i)

-- ---- fields

-- each name of an expression is a fixed field
abbrev pub IsTypedExpr : Structures → ExprShape → Type 0
IsTypedExpr base (NumOf n) = Unit {0}
IsTypedExpr base (FixedOf k) = IsSomeAnd (slice_get (head_fields base) k) (λ f. IsTrue (is_fixed f))
IsTypedExpr base (SumOf left right) = IsTypedExpr base left × IsTypedExpr base right
IsTypedExpr base (LessOf left right) = IsTypedExpr base left × IsTypedExpr base right
IsTypedExpr base (TimesOf left right) = IsTypedExpr base left × IsTypedExpr base right
IsTypedExpr base (OverOf left right) = IsTypedExpr base left × IsTypedExpr base right

-- the field is no gap
abbrev pub HasName : Field → Type 0
HasName f = f.kind ≢ Gap

-- no other field of its structure, and none of an ancestor's, has the name
pub record HasOwnName (base : Structures) (i : ℕ) (s : Structure) (k : ℕ) (f : Field) : Type 0 where
  pub own :
      (j : ℕ) (g : Field) → slice_get s.fields j ≡ Some g → HasName g → g.name ≡ f.name → j ≡ k
  pub inherited :
      (a : ℕ) (t : Structure) (g : Field) → IsIn a (ancestors base.structures i)
      → slice_get base.structures a ≡ Some t → IsIn g t.fields → HasName g → g.name ≢ f.name

-- a gap is bytes without a name
pub record IsGap (f : Field) : Type 0 where
  pub width : f.width ≡ U8
  pub length : IsSome f.len
  pub free : f.fixed ≡ false
  pub name : f.name ≡ []

-- the reset value fits, and a pool is declared
abbrev pub IsTypedKind : Structures → Field → Kind → Type 0
IsTypedKind base f (Number init) = init < 2 ^ width_bits f.width
IsTypedKind base f (Refers pool) = IsPoolNumber base pool
IsTypedKind base f Gap = IsGap f

-- the field is no array, or its length is a number
abbrev pub HasKnownLength : Field → Type 0
HasKnownLength f = IfSome f.len (λ e. (n : ℕ) × (e ≡ NumOf n))

-- a fixed field is no array of `Head`, and stands behind known lengths alone
pub record MayBeFixed (base : Structures) (i : ℕ) (s : Structure) (k : ℕ) (f : Field) : Type 0 where
  pub in_head : i ≡ base.head
  pub scalar : f.len ≡ None
  pub own : All HasKnownLength (take k s.fields)
  pub inherited :
      (a : ℕ) (t : Structure) → IsIn a (ancestors base.structures i)
      → slice_get base.structures a ≡ Some t → All HasKnownLength t.fields

-- a field with its number, of a structure with its number
pub record IsTypedField (base : Structures) (i : ℕ) (s : Structure) (k : ℕ) (f : Field) : Type 0 where
  pub width : IsLegalWidth f.width
  pub length : IfSome f.len (IsTypedExpr base)
  pub kind : IsTypedKind base f f.kind
  pub own_name : HasName f → HasOwnName base i s k f
  pub fixed : IsTrue f.fixed → MayBeFixed base i s k f

-- ---- structures, pools, sets and relations

-- a structure with its number: its parent is declared before it
pub record IsTypedStructure (base : Structures) (i : ℕ) (s : Structure) : Type 0 where
  pub parent : IfSome s.parent (IsOtherStructure base)
  pub parent_before : IfSome s.parent (λ p. p < i)
  pub few_fields : length s.fields ≤ most_fields
  pub aligned : AreAligned 0 s.fields
  pub fields : (k : ℕ) (f : Field) → slice_get s.fields k ≡ Some f → IsTypedField base i s k f

-- a set of the pool that is no complement
abbrev pub IsPlainSetOf : Structures → ℕ → ℕ → Type 0
IsPlainSetOf base p n = IsSomeAnd (slice_get base.sets n) (λ s. (s.pool ≡ p) × (s.except ≡ None))

-- a pool with its number
pub record IsTypedPool (base : Structures) (p : ℕ) (d : Pool) : Type 0 where
  pub structure : IsOtherStructure base d.structure
  pub count : IsTypedExpr base d.count
  pub slot : IfSome d.slot (IsTypedExpr base)
  pub start : IsTypedExpr base d.start
  pub code : IsTypedExpr base d.code
  pub step : IsTypedExpr base d.step
  pub none : IsTypedExpr base d.none
  pub avoid : IfSome d.avoid (All (IsPlainSetOf base p))

-- the pool of a number, counted from 1
abbrev pub pool_at : Structures → ℕ → Option Pool
pool_at base p = if nat_eq p 0 then None else slice_get base.pools (p - 1)

-- a set is read by its pool's structure or one that descends from it, and a complement by its
-- pool's
pub record IsTypedSet (base : Structures) (s : SetDecl) : Type 0 where
  pub pool : IsPoolNumber base s.pool
  pub structure : IsOtherStructure base s.structure
  pub view : IsSomeAnd (pool_at base s.pool) (λ d. Descends base.structures s.structure d.structure)
  pub except : IfSome s.except (IsPlainSetOf base s.pool)
  pub complement_view :
      IsSome s.except → IsSomeAnd (pool_at base s.pool) (λ d. s.structure ≡ d.structure)

pub record IsTypedRel (base : Structures) (r : Rel) : Type 0 where
  pub source : r.source ≤ length base.pools
  pub target : IfSome r.target (IsPoolNumber base)

-- the names of sets, and then of relations
abbrev pub symbol_names : Structures → List (List ℕ)
symbol_names base = map (λ s. s.name) base.sets ++ map (λ r. r.name) base.rels

-- structures, pools, sets and relations
pub record AreTyped (base : Structures) : Type 0 where
  pub version : (1 ≤ base.version) × (base.version ≤ 2)
  pub head : IsSomeAnd (slice_get base.structures base.head) (λ s. s.name ≡ codes "Head")
  pub structures :
      (i : ℕ) (s : Structure) → slice_get base.structures i ≡ Some s → IsTypedStructure base i s
  pub pools : (i : ℕ) (d : Pool) → slice_get base.pools i ≡ Some d → IsTypedPool base (suc i) d
  pub sets : All (IsTypedSet base) base.sets
  pub rels : All (IsTypedRel base) base.rels
  pub structure_names : AreDifferent (map (λ s. s.name) base.structures)
  pub pool_names : AreDifferent (map (λ d. d.name) base.pools)
  pub symbol_names : AreDifferent (symbol_names base)
  pub few_structures : length base.structures ≤ most_structures
  pub few_pools : length base.pools ≤ 32
  pub few_symbols : length base.sets + length base.rels ≤ most_symbols

-- ---- rules

-- the structure by which the premise's record is read
abbrev pub premise_structure : Structures → Option ℕ → ℕ
premise_structure base premise =
    option_map_or (λ n. option_map_or (λ s. s.structure) (slice_get base.sets n) base.head) premise base.head

-- a field of the premise's record
pub record IsFieldOf (base : Structures) (premise : Option ℕ) (place : FieldRef) (f : Field) : Type 0 where
  pub declared : declared_field base place ≡ Some f
  pub named : HasName f
  pub of_record : Descends base.structures (premise_structure base premise) place.structure

-- the expression that says how many entries an index runs over
abbrev pub span_length : Structures → Span → Option ExprShape
span_length base Single = None
span_length base (Array place) = option_and_then (λ f. f.len) (declared_field base place)
span_length base (Slots pool) = option_map (λ d. d.count) (pool_at base pool)

-- an index over an array of the premise's record, or, under the head, over a pool
abbrev pub IsTypedSpan : Structures → Option ℕ → Span → Type 0
IsTypedSpan base premise Single = Unit {0}
IsTypedSpan base premise (Array place) = (f : Field) × IsFieldOf base premise place f × IsSome f.len
IsTypedSpan base premise (Slots pool) = (premise ≡ None) × IsPoolNumber base pool

-- the index runs over entries of an array as long as this one
abbrev pub RunsOver : Structures → Span → Option ExprShape → Type 0
RunsOver base (Array place) len = IsSome len × (span_length base (Array place) ≡ len)
RunsOver base _ len = ⊥

-- a path reads an array at the rule's index, and a scalar without one
pub record IsTypedPath (base : Structures) (rule : Rule) (path : Path) : Type 0 where
  pub field : Field
  pub is_field : IsFieldOf base rule.premise path.field field
  pub index : MatchBool path.indexed (RunsOver base rule.span field.len) (field.len ≡ None)

-- the path refers to this pool, or reads a number
pub record Reads (base : Structures) (rule : Rule) (path : Path) (pool : Option ℕ) : Type 0 where
  pub typed : IsTypedPath base rule path
  pub kind : kind_pool typed.field.kind ≡ pool

-- a comparison of a number with one that fits its field, or a test of a reference
abbrev pub IsTypedTest : Field → Test → Type 0
IsTypedTest f (Cmp op k) = (kind_pool f.kind ≡ None) × (k < 2 ^ width_bits f.width)
IsTypedTest f _ = IsSome (kind_pool f.kind)

pub record IsTypedGuard (base : Structures) (rule : Rule) (guard : Guard) : Type 0 where
  pub path : IsTypedPath base rule guard.path
  pub test : IsTypedTest path.field guard.test

-- the index counts the slots of a declared pool
pub record CountsSlots (base : Structures) (span : Span) (pool : ℕ) : Type 0 where
  pub declared : IsPoolNumber base pool
  pub same_length : span_length base span ≡ option_map (λ d. d.count) (pool_at base pool)

-- a relation with this source, 0 for the head, and this target
abbrev pub Relates : Structures → ℕ → ℕ → Option ℕ → Type 0
Relates base rel source target =
    IsSomeAnd (slice_get base.rels rel) (λ r. (r.source ≡ source) × (r.target ≡ target))

-- the path reads the target of a relation with this source
pub record GivesTarget (base : Structures) (rule : Rule) (rel source : ℕ) (path : Path) : Type 0 where
  pub target : Option ℕ
  pub relates : Relates base rel source target
  pub reads : Reads base rule path target

-- what a rule gives: a member of a plain set of its pool, or a pair of a relation of its pools; the
-- target of a pair whose source is the index's slot is read at that index
abbrev pub IsTypedInc : Structures → Rule → Inc → Type 0
IsTypedInc base rule (Own set) = IsPlainSetOf base (pool_of_premise base rule.premise) set
IsTypedInc base rule (Target set path) =
    (pool : ℕ) × IsPlainSetOf base pool set × Reads base rule path (Some pool)
IsTypedInc base rule (Slot set pool) = IsPlainSetOf base pool set × CountsSlots base rule.span pool
IsTypedInc base rule (OwnPair rel path) =
    GivesTarget base rule rel (pool_of_premise base rule.premise) path
IsTypedInc base rule (SlotPair rel pool path) =
    CountsSlots base rule.span pool × GivesTarget base rule rel pool path × (path.indexed ≡ true)

pub record IsTypedRule (base : Structures) (rule : Rule) : Type 0 where
  pub premise : IfSome rule.premise (λ n. IsSomeAnd (slice_get base.sets n) (λ s. s.except ≡ None))
  pub span : IsTypedSpan base rule.premise rule.span
  pub few_guards : length rule.guards ≤ 4
  pub guards : All (IsTypedGuard base rule) rule.guards
  pub inc : IsTypedInc base rule rule.inc

-- ---- constraints

-- what is bound: members of a set, or pairs of records
abbrev pub IsTypedQuant : Structures → Quant → Type 0
IsTypedQuant base Once = Unit {0}
IsTypedQuant base (Each set) = set < length base.sets
IsTypedQuant base (Pairs rel) = IsSomeAnd (slice_get base.rels rel) (λ r. IsSome r.target)

-- the pool of a variable, 0 for the head; none where the quantifier hasn't got the variable
abbrev pub pool_of_var : Structures → Quant → Var → Option ℕ
pool_of_var base quant Head = Some 0
pool_of_var base (Each set) First = option_map (λ s. s.pool) (slice_get base.sets set)
pool_of_var base (Pairs rel) First = option_map (λ r. r.source) (slice_get base.rels rel)
pool_of_var base (Pairs rel) Second = option_and_then (λ r. r.target) (slice_get base.rels rel)
pool_of_var base quant _ = None

-- a set, the targets of a variable or its sources
abbrev pub IsTypedMeasure : Structures → Quant → Measure → Type 0
IsTypedMeasure base quant (Whole set) = set < length base.sets
IsTypedMeasure base quant (Out v rel) =
    IsSomeAnd (slice_get base.rels rel) (λ r. pool_of_var base quant v ≡ Some r.source)
IsTypedMeasure base quant (Into rel v) =
    IsSomeAnd (slice_get base.rels rel) (λ r. IsSome r.target × (pool_of_var base quant v ≡ r.target))

-- what is counted are records
abbrev pub CountsRecords : Structures → Measure → Type 0
CountsRecords base (Out v rel) = IsSomeAnd (slice_get base.rels rel) (λ r. IsSome r.target)
CountsRecords base _ = Unit {0}

-- a number fits each field that gives a value of the relation
abbrev pub FitsValues : Spec → ℕ → ℕ → Type 0
FitsValues spec rel k =
    (rule : Rule) (path : Path) (f : Field) → IsIn rule spec.rules
    → IsTrue (gives (symbols.Rel rel) rule.inc) → target_of rule.inc ≡ Some path
    → declared_field spec.base path.field ≡ Some f → k < 2 ^ width_bits f.width

-- a number that fits, or a count of records
abbrev pub IsTypedBound : Spec → Quant → ℕ → Bound → Type 0
IsTypedBound spec quant rel (bounds.Num k) = FitsValues spec rel k
IsTypedBound spec quant rel (bounds.Size measure) =
    IsTypedMeasure spec.base quant measure × CountsRecords spec.base measure

-- sizes are compared by `<=`, `>=` and `=`
abbrev pub ComparesSizes : Op → Type 0
ComparesSizes Eq = Unit {0}
ComparesSizes Le = Unit {0}
ComparesSizes Ge = Unit {0}
ComparesSizes _ = ⊥

-- variables have the pools of the set or relation; complements
-- stand in no membership, where their bases stand for them
abbrev pub IsTypedAtom : Spec → Quant → Atom → Type 0
IsTypedAtom spec quant (atoms.Member v set) =
    (pool : ℕ) × (pool_of_var spec.base quant v ≡ Some pool) × IsPlainSetOf spec.base pool set
IsTypedAtom spec quant (atoms.Pair v w rel) =
    IsSomeAnd (slice_get spec.base.rels rel)
    (λ r. IsSome r.target × (pool_of_var spec.base quant v ≡ Some r.source)
    × (pool_of_var spec.base quant w ≡ r.target))
IsTypedAtom spec quant (atoms.Count measure op k) =
    IsTypedMeasure spec.base quant measure × ComparesSizes op
IsTypedAtom spec quant (atoms.Value v rel op bound) =
    IsSomeAnd (slice_get spec.base.rels rel)
    (λ r. (r.target ≡ None) × (pool_of_var spec.base quant v ≡ Some r.source))
    × IsTypedBound spec quant rel bound

-- only memberships are negated
abbrev pub MayBeNegated : Atom → Type 0
MayBeNegated (atoms.Count measure op k) = ⊥
MayBeNegated (atoms.Value v rel op bound) = ⊥
MayBeNegated _ = Unit {0}

pub record IsTypedLiteral (spec : Spec) (quant : Quant) (literal : Literal) : Type 0 where
  pub atom : IsTypedAtom spec quant literal.atom
  pub negated : IsTrue literal.negated → MayBeNegated literal.atom

pub record IsTypedConj (spec : Spec) (quant : Quant) (conj : Conj) : Type 0 where
  pub few_literals : length conj.literals ≤ 8
  pub literals : All (IsTypedLiteral spec quant) conj.literals

-- the atom stands in some literal of the constraint
abbrev pub HasAtom : Constraint → Atom → Type 0
HasAtom c atom =
    (conj : Conj) × (literal : Literal) × IsIn conj c.conjs × IsIn literal conj.literals
    × (literal.atom ≡ atom)

pub record IsTypedConstraint (spec : Spec) (c : Constraint) : Type 0 where
  pub quant : IsTypedQuant spec.base c.quant
  pub few_conjs : length c.conjs ≤ 16
  pub conjs : All (IsTypedConj spec c.quant) c.conjs
  pub few_atoms : (n : ℕ) → AreMany (HasAtom c) n → n ≤ 8

-- how many constraints there may be
abbrev pub constraint_limit : ℕ → ℕ
constraint_limit version = if nat_eq version 2 then most_constraints else 64

-- ---- a whole specification

-- Two conditions can't be read on tables, and are no part of it: how names are spelled, and that
-- complements stand in texts of version 2 alone. Both are the grammar's.
pub record IsTyped (spec : Spec) : Type 0 where
  pub base : AreTyped spec.base
  pub few_rules : length spec.rules ≤ most_rules
  pub rules : All (IsTypedRule spec.base) spec.rules
  pub few_constraints : length spec.constraints ≤ constraint_limit spec.base.version
  pub constraints : All (IsTypedConstraint spec) spec.constraints
  pub constraint_names : AreDifferent (map (λ c. c.name) spec.constraints)
