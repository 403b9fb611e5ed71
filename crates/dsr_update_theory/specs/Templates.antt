-- The updates towards the goal of a literal.
use Rattle.std.specs.Prelude.{◌≡◌, ◌-◌, ℕ, zero, suc, nat_eq, Bool, true, false, not, ◌&&◌, List, [], ◌∷◌, ◌++◌, map, length, min, max, IsTrue, ◌↔◌, MatchOption, Option, None, Some, is_some, option_map, option_and_then, slice_get, if◌then◌else◌}
use Rattle.std.specs.List.{filter_map, flat_map, range_with_len}
use Rattle.std.specs.Option.{option_map_or}
use Rattle.dsr_ir.specs.Rules.{target_of}
use Rattle.dsr_ir.specs.declared.constraints.Atom.{Atom}
use Rattle.dsr_ir.specs.declared.constraints.Atom.TheVariants as atoms
use Rattle.dsr_ir.specs.declared.constraints.Bound.{Bound}
use Rattle.dsr_ir.specs.declared.constraints.Bound.TheVariants as bounds
use Rattle.dsr_ir.specs.declared.constraints.Constraint.{Constraint}
use Rattle.dsr_ir.specs.declared.constraints.Literal.{Literal}
use Rattle.dsr_ir.specs.declared.constraints.Measure.{Measure}
use Rattle.dsr_ir.specs.declared.constraints.Measure.TheVariants.{Whole, Out, Into}
use Rattle.dsr_ir.specs.declared.constraints.Quant.{Quant}
use Rattle.dsr_ir.specs.declared.constraints.Quant.TheVariants.{Once, Each, Pairs}
use Rattle.dsr_ir.specs.declared.constraints.Var.{Var}
use Rattle.dsr_ir.specs.declared.constraints.Var.TheVariants.{Head, First, Second}
use Rattle.dsr_ir.specs.declared.declarations.FieldRef.{FieldRef}
use Rattle.dsr_ir.specs.declared.declarations.Spec.{Spec}
use Rattle.dsr_ir.specs.declared.declarations.Structures.{Structures}
use Rattle.dsr_ir.specs.declared.rules.Guard.{Guard}
use Rattle.dsr_ir.specs.declared.rules.Inc.{Inc}
use Rattle.dsr_ir.specs.declared.rules.Inc.TheVariants.{Target, OwnPair, SlotPair}
use Rattle.dsr_ir.specs.declared.rules.Op.{Op}
use Rattle.dsr_ir.specs.declared.rules.Op.TheVariants.{Eq, Le, Ge}
use Rattle.dsr_ir.specs.declared.rules.Path.{Path}
use Rattle.dsr_ir.specs.declared.rules.Rule.{Rule}
use Rattle.dsr_ir.specs.declared.rules.Test.{Test}
use Rattle.dsr_ir.specs.declared.rules.Test.TheVariants as tests
use Rattle.dsr_ir.specs.declared.updates.At.{At}
use Rattle.dsr_ir.specs.declared.updates.At.TheVariants as ats
use Rattle.dsr_ir.specs.declared.updates.Goal.{Goal}
use Rattle.dsr_ir.specs.declared.updates.Goal.TheVariants as goals
use Rattle.dsr_ir.specs.declared.updates.Pick.{Pick}
use Rattle.dsr_ir.specs.declared.updates.Pick.TheVariants as picks
use Rattle.dsr_ir.specs.declared.updates.Place.{Place}
use Rattle.dsr_ir.specs.declared.updates.Place.TheVariants as places
use Rattle.dsr_ir.specs.declared.updates.Symbol.{Symbol}
use Rattle.dsr_ir.specs.declared.updates.Symbol.TheVariants as symbols
use Rattle.dsr_ir.specs.declared.updates.Template.{Template}
use Rattle.dsr_ir.specs.declared.updates.Update.{Update}
use Rattle.dsr_ir.specs.declared.updates.Write.{Write}
use Rattle.dsr_meaning.specs.Counting.{IsIn}
use Rattle.dsr_meaning.specs.Instances.{declared_field, kind_pool}
use Rattle.dsr_meaning.specs.Lists.{any_of}
use Rattle.dsr_update_theory.specs.Givers.{each_giver, givers, is_own, is_single, is_slot}
use Rattle.dsr_update_theory.specs.Guards.{guard_write}
use Rattle.dsr_update_theory.specs.KnownSets.{IsKnown}
use Rattle.dsr_update_theory.specs.Options.{options, reference_write}

-- In what follows, `known` says of which sets the variables of the constraint are known to be
-- members.
abbrev pub KnownSets : Type 0
KnownSets = Var → ℕ → Bool

-- ---- where an update writes

-- the record of a variable
abbrev pub place_of : Var → Place
place_of Head = places.Head
place_of v = places.Of v

-- the variable's record is one from which the rule starts
abbrev pub starts_at : KnownSets → Var → Rule → Bool
starts_at known Head rule = not (is_some rule.premise)
starts_at known v rule = option_map_or (known v) rule.premise false

-- ---- updates that add

abbrev pub is_same_field : FieldRef → FieldRef → Bool
is_same_field a b = nat_eq a.structure b.structure && nat_eq a.field b.field

abbrev pub is_on : FieldRef → Guard → Bool
is_on field guard = is_same_field guard.path.field field

-- each guard made true, in order, where all can be and no two are on one field
abbrev pub all_true : Structures → List Guard → Option (List Write)
all_true base [] = Some []
all_true base (guard ∷ rest) =
    if any_of (is_on guard.path.field) rest then None
    else option_and_then (λ write. option_map (λ writes. write ∷ writes) (all_true base rest))
    (guard_write base true guard)

-- a reference to a slot passes the test
abbrev pub passes_slot : Test → Bool
passes_slot tests.Legal = true
passes_slot tests.IsSome = true
passes_slot _ = false

-- the guards on the field that is written ask for no more than a slot
abbrev pub accept_slot : FieldRef → List Guard → Bool
accept_slot field guards =
    not (any_of (λ guard. is_on field guard && not (passes_slot guard.test)) guards)

abbrev pub others : FieldRef → List Guard → List Guard
others field [] = []
others field (guard ∷ rest) =
    if is_on field guard then others field rest else guard ∷ others field rest

-- the target gets the code of a slot, and each other guard is made true
abbrev pub target_writes : Structures → Pick → Path → List Guard → Option (List Write)
target_writes base pick path guards =
    if accept_slot path.field guards
    then option_and_then
    (λ write. option_map (λ writes. write ∷ writes) (all_true base (others path.field guards)))
    (reference_write base pick path)
    else None

-- one update by the rule with this number, on the record of a variable
abbrev pub adding : Goal → ℕ → Var → Option ℕ → List Write → Template
adding goal k v fresh writes = record {
  goal = goal;
  updates = record {
    rule = k;
    place = place_of v;
    at = ats.Scalar;
    writes = writes;
    fresh = fresh;
  } ∷ [];
}

abbrev pub listed : {T : Type 0} → Option T → List T
listed None = []
listed (Some x) = x ∷ []

-- the rule, where it starts at the variable's record and has no index
abbrev pub serves : KnownSets → Var → Rule → Bool
serves known v rule = is_single rule.span && starts_at known v rule

-- the variable's record becomes a member by a rule that gives the record itself
abbrev pub joins_by : Structures → KnownSets → Var → ℕ → Rule → List Template
joins_by base known v k rule =
    if is_own rule.inc && serves known v rule
    then listed (option_map (adding goals.AddSet k v None) (all_true base rule.guards))
    else []

-- the pair joins by a rule that gives the record with a reference
abbrev pub relates_by : Structures → KnownSets → Var → Var → ℕ → Rule → List Template
relates_by base known v w k rule =
    if is_own rule.inc && serves known v rule
    then listed (option_map (adding goals.AddTuple k v None)
    (option_and_then (λ path. target_writes base (picks.CodeOf w) path rule.guards)
    (target_of rule.inc)))
    else []

-- the pool to which a field refers
abbrev pub referred : Structures → FieldRef → Option ℕ
referred base field = option_and_then (λ f. kind_pool f.kind) (declared_field base field)

-- a fresh record joins by a rule that gives the target of a reference of the variable's record
abbrev pub supplies_by : Structures → KnownSets → Var → ℕ → Rule → List Template
supplies_by base known v k rule =
    if serves known v rule
    then listed (option_and_then
    (λ path. option_map (adding goals.Supply k v (referred base path.field))
    (target_writes base picks.Fresh path rule.guards)) (target_of rule.inc))
    else []

-- the variables of a quantifier, `head` among them
abbrev pub variables : Quant → List Var
variables Once = Head ∷ []
variables (Each set) = Head ∷ First ∷ []
variables (Pairs rel) = Head ∷ First ∷ Second ∷ []

abbrev pub is_target : Inc → Bool
is_target (Target set path) = true
is_target _ = false

-- a fresh member of a set, by each rule and then each variable
abbrev pub set_supplies : Spec → KnownSets → Quant → ℕ → List Template
set_supplies spec known quant set =
    each_giver spec (symbols.Set set)
    (λ k rule. if is_target rule.inc
    then flat_map (λ v. supplies_by spec.base known v k rule) (variables quant)
    else [])

-- a fresh target of a variable's record, under a relation of records
abbrev pub target_supplies : Spec → KnownSets → Var → ℕ → List Template
target_supplies spec known v rel =
    each_giver spec (symbols.Rel rel)
    (λ k rule.
    if is_own rule.inc && is_some (option_and_then (λ r. r.target) (slice_get spec.base.rels rel))
    then supplies_by spec.base known v k rule else [])

-- what can supply what is counted; sources can't be supplied
abbrev pub supplies : Spec → KnownSets → Quant → Measure → List Template
supplies spec known quant (Whole set) = set_supplies spec known quant set
supplies spec known quant (Out v rel) = target_supplies spec known v rel
supplies spec known quant (Into rel v) = []

-- ---- updates that remove

-- the record of a removal by a rule: that of the literal's member or source, where the rule gives
-- the record itself and the variable is known; the head; or that of the instance which gives what
-- is to be removed
abbrev pub removal_place : Option Var → Rule → Place
removal_place (Some First) rule =
    if is_own rule.inc then places.Of First
    else (if is_some rule.premise then places.Deriver else places.Head)
removal_place (Some Second) rule =
    if is_own rule.inc then places.Of Second
    else (if is_some rule.premise then places.Deriver else places.Head)
removal_place v rule = if is_some rule.premise then places.Deriver else places.Head

-- the entry that is written
abbrev pub removal_at : Option Var → Rule → At
removal_at v rule =
    if is_slot rule.inc && is_some v then option_map_or ats.SlotOf v ats.Deriver
    else (if is_single rule.span then ats.Scalar else ats.Deriver)

-- an update that removes what an instance of the rule gives
abbrev pub removing : Option Var → ℕ → Rule → Write → Update
removing v k rule write = record {
  rule = k;
  place = removal_place v rule;
  at = removal_at v rule;
  writes = write ∷ [];
  fresh = None;
}

-- the item at a place, or the last one where the list is shorter
abbrev pub item_or_last : {T : Type 0} → List T → ℕ → Option T
item_or_last xs j = slice_get xs (min j (length xs - 1))

-- of each rule its option with this number, or its last
abbrev pub removal_updates : Structures → Option Var → ℕ → List (ℕ × Rule) → List Update
removal_updates base v j rules =
    filter_map (λ r. option_map (removing v r.0 r.1) (item_or_last (options base r.1) j)) rules

-- how many options the rule with the most has
abbrev pub most_options : Structures → List (ℕ × Rule) → ℕ
most_options base [] = 0
most_options base (r ∷ rest) =
    max (length (options base r.1)) (most_options base rest)

-- some rule has no option
abbrev pub lacks_option : Structures → List (ℕ × Rule) → Bool
lacks_option base rules = any_of (λ r. nat_eq (length (options base r.1)) 0) rules

-- one template for each number of options, each of all rules of the symbol
abbrev pub all_removals : Spec → Symbol → Goal → Option Var → List Template
all_removals spec symbol goal v =
    if lacks_option spec.base (givers spec symbol) then []
    else map (λ j. record {
      goal = goal;
      updates = removal_updates spec.base v j (givers spec symbol);
    }) (range_with_len 0 (most_options spec.base (givers spec symbol)))

-- the items of a list, each once, where it first stands; those in `seen` stood before
pub data AreOnce {T : Type 0} : List T → List T → List T → Type 0 where
  done : {seen : List T} → AreOnce seen [] []
  again :
      {seen xs ys : List T} → (x : T) → IsIn x seen → AreOnce seen xs ys → AreOnce seen (x ∷ xs) ys
  first :
      {seen xs ys : List T} → (x : T) → (IsIn x seen → ⊥) → AreOnce (x ∷ seen) xs ys
      → AreOnce seen (x ∷ xs) (x ∷ ys)

-- the removals of a symbol's facts, equal ones once: two guards that say the same are one option
abbrev pub AreRemovals : Spec → Symbol → Goal → Option Var → List Template → Type 0
AreRemovals spec symbol goal v templates = AreOnce [] (all_removals spec symbol goal v) templates

-- the variable whose members or targets are counted, if any
abbrev pub counted_of : Measure → Option Var
counted_of (Out v rel) = Some v
counted_of _ = None

abbrev pub counted_symbol : Measure → Symbol
counted_symbol (Whole set) = symbols.Set set
counted_symbol (Out v rel) = symbols.Rel rel
counted_symbol (Into rel v) = symbols.Rel rel

abbrev pub AreTrims : Spec → Measure → List Template → Type 0
AreTrims spec measure templates =
    AreRemovals spec (counted_symbol measure) goals.Trim (counted_of measure) templates

-- ---- one that is to be supplied or trimmed

abbrev pub is_into : Measure → Bool
is_into (Into rel v) = true
is_into _ = false

-- each supply with each trim, the supplies varying slowest
abbrev pub with_trims : List Template → List Template → List Template
with_trims supplied trims =
    flat_map
    (λ s. map (λ t. record { goal = goals.ExactlyOne; updates = s.updates ++ t.updates }) trims)
    supplied

-- ---- values

abbrev pub pick_of : Bound → Pick
pick_of (bounds.Num k) = picks.Num k
pick_of (bounds.Size measure) = picks.SizeOf measure

-- the write of a value to a path whose field isn't fixed
abbrev pub value_write : Structures → Pick → Path → Option Write
value_write base pick path =
    option_and_then
    (λ f. if f.fixed then None else Some (record { path = path; pick = pick; wants = None }))
    (declared_field base path.field)

-- a rule that gives the record with a number is set there; one that gives slots of a pool with
-- numbers of the head, at the slot
abbrev pub setting : Structures → Var → Pick → ℕ → Rule → Inc → Option Template
setting base v pick k rule (OwnPair rel path) =
    if is_single rule.span
    then option_map (λ write. adding goals.SetValue k v None (write ∷ []))
    (value_write base pick path)
    else None
setting base v pick k rule (SlotPair rel pool path) =
    if is_some rule.premise then None
    else option_map (λ write. record {
      goal = goals.SetValue;
      updates = record {
        rule = k;
        place = places.Head;
        at = ats.SlotOf v;
        writes = write ∷ [];
        fresh = None;
      } ∷ [];
    }) (value_write base pick path)
setting base v pick k rule inc = None

-- only where one rule alone gives the relation
abbrev pub settings : Structures → Var → Pick → List (ℕ × Rule) → List Template
settings base v pick (r ∷ []) = listed (setting base v pick r.0 r.1 r.1.inc)
settings base v pick _ = []

-- ---- literals

-- the templates for a size: too many are trimmed, none are supplied, and for exactly one both
abbrev pub AreSized : Spec → KnownSets → Quant → Measure → Op → ℕ → List Template → Type 0
AreSized spec known quant measure Le k templates = AreTrims spec measure templates
AreSized spec known quant measure Ge (suc zero) templates =
    templates ≡ supplies spec known quant measure
AreSized spec known quant measure Eq zero templates = AreTrims spec measure templates
AreSized spec known quant measure Eq (suc zero) templates =
    (trims : List Template) × AreTrims spec measure trims
    × (templates ≡ with_trims (supplies spec known quant measure) trims)
AreSized spec known quant measure op k templates = templates ≡ []

abbrev pub AreValued : Spec → Var → ℕ → Op → Bound → List Template → Type 0
AreValued spec v rel Eq bound templates =
    templates ≡ settings spec.base v (pick_of bound) (givers spec (symbols.Rel rel))
AreValued spec v rel Le bound templates =
    templates ≡ settings spec.base v (pick_of bound) (givers spec (symbols.Rel rel))
AreValued spec v rel Ge bound templates =
    templates ≡ settings spec.base v (pick_of bound) (givers spec (symbols.Rel rel))
AreValued spec v rel op bound templates = templates ≡ []

-- the templates of an atom that is to be true, or false where it is negated
abbrev pub AreTemplates : Spec → KnownSets → Quant → Atom → Bool → List Template → Type 0
AreTemplates spec known quant (atoms.Member v set) false templates =
    templates ≡ each_giver spec (symbols.Set set) (joins_by spec.base known v)
AreTemplates spec known quant (atoms.Member v set) true templates =
    AreRemovals spec (symbols.Set set) goals.RemoveSet (Some v) templates
AreTemplates spec known quant (atoms.Pair v w rel) false templates =
    templates ≡ each_giver spec (symbols.Rel rel) (relates_by spec.base known v w)
AreTemplates spec known quant (atoms.Pair v w rel) true templates =
    AreRemovals spec (symbols.Rel rel) goals.RemoveTuple (Some v) templates
AreTemplates spec known quant (atoms.Count measure op k) negated templates =
    AreSized spec known quant measure op k templates
AreTemplates spec known quant (atoms.Value v rel op bound) negated templates =
    AreValued spec v rel op bound templates

-- the raw templates of a literal, before any is left out for its effects
abbrev pub AreRaw : Spec → KnownSets → Quant → Literal → List Template → Type 0
AreRaw spec known quant literal templates =
    AreTemplates spec known quant literal.atom literal.negated templates

-- whether sets are known is told exactly
abbrev pub TellsKnown : Spec → Quant → KnownSets → Type 0
TellsKnown spec quant known = (v : Var) (set : ℕ) → IsTrue (known v set) ↔ IsKnown spec quant v set

-- the literal with these numbers of a constraint
abbrev pub literal_at : Constraint → ℕ → ℕ → Option Literal
literal_at c conj literal =
    option_and_then (λ l. slice_get l.literals literal) (slice_get c.conjs conj)

-- the raw templates of a constraint's literal; none where there is no such literal
abbrev pub AreRawOf : Spec → Constraint → ℕ → ℕ → List Template → Type 0
AreRawOf spec c conj literal templates =
    MatchOption (literal_at c conj literal) (templates ≡ [])
    (λ l. (known : KnownSets) → TellsKnown spec c.quant known
    → AreRaw spec known c.quant l templates)
