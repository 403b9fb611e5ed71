-- What an update does to the instances of a rule at the written record W and at the fresh record F.
use Rattle.std.specs.Prelude.{◌≡◌, ◌⊎◌, ◌↔◌, ◌||◌, ◌&&◌, ℕ, Bool, true, false, not, IsTrue, List, [], Option, None, Some, IsSomeAnd, option_and_then, unwrap_or, slice_get, if◌then◌else◌}
use Rattle.std.specs.Option.{option_map_or}
use Rattle.dsr_ir.specs.Rules.{target_of}
use Rattle.dsr_ir.specs.declared.declarations.FieldRef.{FieldRef}
use Rattle.dsr_ir.specs.declared.declarations.Pool.{Pool}
use Rattle.dsr_ir.specs.declared.rules.Guard.{Guard}
use Rattle.dsr_ir.specs.declared.rules.Path.{Path}
use Rattle.dsr_ir.specs.declared.rules.Rule.{Rule}
use Rattle.dsr_ir.specs.declared.rules.Span.TheVariants.{Single}
use Rattle.dsr_ir.specs.declared.rules.Test.{Test}
use Rattle.dsr_ir.specs.declared.updates.Goal.{Goal}
use Rattle.dsr_ir.specs.declared.updates.Goal.TheVariants as goals
use Rattle.dsr_ir.specs.declared.updates.Place.{Place}
use Rattle.dsr_ir.specs.declared.updates.Place.TheVariants as places
use Rattle.dsr_ir.specs.declared.updates.Write.{Write}
use Rattle.dsr_meaning.specs.Counting.{IsIn}
use Rattle.dsr_meaning.specs.Instances.{declared_field, premise_pool}
use Rattle.dsr_update_theory.specs.Avoided.{IsAvoided}
use Rattle.dsr_update_theory.specs.Changes.{Change, descends, fresh_pool, is_at_entry, is_touched, reads_touched, write_to, written_pool}
use Rattle.dsr_update_theory.specs.KnownSets.{IsKnown}
use Rattle.dsr_update_theory.specs.Values.{CellValue, ComesOut, MayLeave, NoneReference, reset_of}

-- ---- which rules are touched

-- no record that is written is a member of the premise: a set of which the variable at the place is
-- known to be a member has no member in common with it
abbrev pub IsKeptApartBy : Change → Place → Option ℕ → Type 0
IsKeptApartBy c (places.Of v) (Some premise) =
    (set : ℕ) × IsKnown c.spec c.quant v set × IsIn (premise, set) c.exclusive
IsKeptApartBy c place premise = ⊥

-- an instance of the rule at W reads a field whose value may be another one
pub record IsTouchedAtW (c : Change) (rule : Rule) : Type 0 where
  pub pool : written_pool c ≡ Some (premise_pool c.spec rule)
  pub reads : IsTrue (reads_touched c rule)
  pub apart : IsKeptApartBy c c.update.place rule.premise → ⊥

-- the sets that the supply of a pool names
abbrev pub named_by : Option Pool → List ℕ
named_by pool = option_map_or (λ d. unwrap_or d.avoid []) pool []

-- F may be one of the rule's records
pub record IsTouchedAtF (c : Change) (rule : Rule) : Type 0 where
  pub pool : c.update.fresh ≡ Some (premise_pool c.spec rule)
  pub premise : IsSomeAnd rule.premise (λ set. IsAvoided c.spec (named_by (fresh_pool c)) set → ⊥)

-- ---- what tests come to

abbrev pub is_removal : Goal → Bool
is_removal goals.RemoveSet = true
is_removal goals.RemoveTuple = true
is_removal goals.Trim = true
is_removal _ = false

-- The write of what the rule reads at W, where its cell is known to be the one that is read: of an
-- array's entries only for the instance at the written one, and not where W is a new member of the
-- premise (`joins`). Else nothing is known of the value, and so no test of it is surely anything,
-- not even `>= 0`.
abbrev pub write_read : Change → Rule → Bool → Path → Option Write
write_read c rule joins path =
    if path.indexed && (joins || not (is_at_entry c rule)) then None
    else write_to c.update.writes path.field

-- the cell of the write may hold the value afterwards
abbrev pub Leaves : Change → Write → CellValue → Type 0
Leaves c write value =
    IsSomeAnd (declared_field c.spec.base write.path.field)
    (λ field. MayLeave field (is_removal c.goal) write value)

-- whatever the write leaves, the test comes out so
abbrev pub IsSure : Change → Write → Bool → Test → Type 0
IsSure c write wanted test = (value : CellValue) → Leaves c write value → ComesOut wanted test value

abbrev pub IsSureAtW : Change → Rule → Bool → Bool → Guard → Type 0
IsSureAtW c rule joins wanted guard =
    IsSomeAnd (write_read c rule joins guard.path) (λ write. IsSure c write wanted guard.test)

-- none alone is left
abbrev pub LeavesNone : Change → Write → Type 0
LeavesNone c write = (value : CellValue) → Leaves c write value ↔ (value ≡ NoneReference)

-- what the field holds at F: the reset value of a field of its pool's structure
abbrev pub reset_value : Change → FieldRef → Option CellValue
reset_value c place =
    option_and_then
    (λ d. if descends c.spec.base.structures d.structure place.structure
    then option_and_then (λ field. reset_of field.kind) (declared_field c.spec.base place)
    else None)
    (fresh_pool c)

abbrev pub IsSureAtF : Change → Bool → Guard → Type 0
IsSureAtF c wanted guard = IsSomeAnd (reset_value c guard.path.field) (ComesOut wanted guard.test)

-- ---- which instances don't fire afterwards

-- some guard is of the kind, or the target is
abbrev pub HasGuardOrTarget : Rule → (Guard → Type 0) → (Path → Type 0) → Type 0
HasGuardOrTarget rule OfGuard OfTarget =
    ((guard : Guard) × IsIn guard rule.guards × OfGuard guard)
    ⊎ IsSomeAnd (target_of rule.inc) OfTarget

-- no instance fires at W, since a guard is surely false there, or the target is left none
abbrev pub IsBlockedAtW : Change → Rule → Bool → Type 0
IsBlockedAtW c rule joins =
    HasGuardOrTarget rule (IsSureAtW c rule joins false)
    (λ path. IsSomeAnd (write_read c rule joins path) (LeavesNone c))

abbrev pub IsBlockedAtF : Change → Rule → Type 0
IsBlockedAtF c rule =
    HasGuardOrTarget rule (IsSureAtF c false)
    (λ path. reset_value c path.field ≡ Some NoneReference)

-- ---- which instances that fired before fire afterwards, and give the same

-- all that the other rule asks the rule asks, too, of the same records, and where a record is
-- supplied they read the same target
pub record AsksAllOf (rule other : Rule) (goal : Goal) : Type 0 where
  pub premise : rule.premise ≡ other.premise
  pub single : rule.span ≡ Single
  pub guards : (guard : Guard) → IsIn guard other.guards → IsIn guard rule.guards
  pub target : goal ≡ goals.Supply → target_of rule.inc ≡ target_of other.inc

abbrev pub MakesFire : Goal → Type 0
MakesFire goals.AddSet = Unit {0}
MakesFire goals.Supply = Unit {0}
MakesFire _ = ⊥

-- the update is to make an instance fire that didn't, so neither did one of this rule
pub record IsQuiet (c : Change) (rule : Rule) : Type 0 where
  pub goal : MakesFire c.goal
  pub asks : IsSomeAnd (slice_get c.spec.rules c.update.rule) (λ own. AsksAllOf rule own c.goal)

-- an instance at W that fired before fires afterwards, and its target is the same
pub record IsUnmovedAtW (c : Change) (rule : Rule) : Type 0 where
  pub guards :
      (guard : Guard) → IsIn guard rule.guards → IsTrue (is_touched c guard.path.field)
      → IsSureAtW c rule false true guard
  pub target : (path : Path) → target_of rule.inc ≡ Some path → is_touched c path.field ≡ false

-- nothing is lost at W
abbrev pub StaysAtW : Change → Rule → Type 0
StaysAtW c rule = IsQuiet c rule ⊎ IsUnmovedAtW c rule

-- nothing is lost at F
pub record StaysAtF (c : Change) (rule : Rule) : Type 0 where
  pub guards : (guard : Guard) → IsIn guard rule.guards → IsSureAtF c true guard
  pub target : target_of rule.inc ≡ None
