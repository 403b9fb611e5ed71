-- An update as the code keeps it, and what is found for it once.
use Rattle.std.specs.Prelude.{◌≡◌, ◌<◌, ◌↔◌, ◌&&◌, ◌||◌, ℕ, Bool, false, true, not, Decides, IsTrue, IsSome, IsSomeAnd, MatchOption, if◌then◌else◌, length, List, map, None, Option, Some, option_map, slice_index_or}
use Rattle.dsr_effect.specs.declared.changes.Change.{Change as OwnChange}
use Rattle.dsr_ir.specs.declared.declarations.FieldRef.{FieldRef}
use Rattle.dsr_ir.specs.declared.declarations.Structures.{Structures}
use Rattle.dsr_ir.specs.declared.rules.Guard.{Guard}
use Rattle.dsr_ir.specs.declared.rules.Path.{Path}
use Rattle.dsr_ir.specs.declared.rules.Rule.{Rule}
use Rattle.dsr_ir.specs.declared.rules.Span.TheVariants.{Single}
use Rattle.dsr_ir.specs.declared.updates.Write.{Write}
use Rattle.dsr_effect.specs.ValueSets.{Has}
use Rattle.dsr_effect.specs.declared.readings.Reading.{Reading}
use Rattle.dsr_effect.specs.declared.touching.Touch.{Touch}
use Rattle.dsr_effect.specs.declared.values.Values.{Values}
use Rattle.dsr_meaning.specs.Counting.{IsIn}
use Rattle.dsr_meaning.specs.Lists.{any_of}
use Rattle.dsr_meaning.specs.Typed.{IsTyped}
use Rattle.dsr_update_theory.specs.Avoided.{IsAvoided}
use Rattle.dsr_update_theory.specs.Changes.{Change, are_related, fresh_pool, is_at_entry, is_foreign, is_touched, is_written, reads_touched, written_pool}
use Rattle.dsr_update_theory.specs.Effects.{tag_at_f, tag_at_w}
use Rattle.dsr_update_theory.specs.Touching.{IsBlockedAtF, IsBlockedAtW, IsKeptApartBy, IsSure, IsSureAtW, IsTouchedAtF, IsTouchedAtW, IsUnmovedAtW, Leaves, LeavesNone, StaysAtF, StaysAtW, named_by, write_read}
use Rattle.dsr_update_theory.specs.Values.{CellValue}
use Rattle.dsr_update_theory.specs.declared.effects.Tag.{Tag}
use Rattle.dsr_update_theory.specs.declared.effects.Direction.{Direction}
use Rattle.dsr_update_theory.specs.declared.effects.Direction.TheVariants.{Gain, Loss}

-- the update
abbrev pub change_of : OwnChange → Change
change_of c = record {
  spec = c.spec.now;
  exclusive = c.exclusive.now;
  quant = c.quant.now;
  goal = c.goal;
  update = c.update.now;
}

-- fields of the structure may share bytes with one that is written
abbrev pub is_foreign_structure : Structures → List Write → ℕ → Bool
is_foreign_structure base writes structure =
    any_of (λ w. not (are_related base structure w.path.field.structure)) writes

-- what was found for it is right
pub record IsTold (c : OwnChange) : Type 0 where
  pub typed : IsTyped c.spec.now
  pub foreign :
      (structure : ℕ) → structure < length c.spec.now.base.structures
      → slice_index_or c.foreign structure false
      ≡ is_foreign_structure c.spec.now.base c.update.now.writes structure
  pub pool : c.pool ≡ written_pool (change_of c)
  pub apart :
      (set : ℕ) → set < length c.spec.now.base.sets
      → IsTrue (slice_index_or c.apart set false) ↔ IsKeptApartBy (change_of c) c.update.now.place (Some set)
  pub fresh : option_map (λ d. d.now) c.fresh ≡ fresh_pool (change_of c)
  pub avoided :
      IsSome (fresh_pool (change_of c)) → (set : ℕ) → set < length c.spec.now.base.sets
      → IsTrue (slice_index_or c.avoided set false) ↔ IsAvoided c.spec.now (named_by (fresh_pool (change_of c))) set

-- an entry of a written array
abbrev pub is_written_entry : Change → Path → Bool
is_written_entry c path = path.indexed && is_written c path.field

-- a touched field that is no array
abbrev pub is_touched_scalar : Change → Path → Bool
is_touched_scalar c path = not path.indexed && is_touched c path.field

-- what the write may leave; nothing where its field isn't declared
abbrev pub IsLeft : Change → Write → Option Values → Type 0
IsLeft c write values =
    MatchOption values ((v : CellValue) → Leaves c write v → ⊥)
    (λ found. (v : CellValue) → Has found v ↔ Leaves c write v)

-- ---- what becomes of what rules read at W

-- the reading of both parts
abbrev pub both : Reading → Reading → Reading
both a b = record {
  touched = a.touched || b.touched;
  blocked = a.blocked || b.blocked;
  blocked_joining = a.blocked_joining || b.blocked_joining;
  unmoved = a.unmoved && b.unmoved;
}

-- what the rule reads by the path, where it is written, is known to be the written cell
abbrev pub is_known : Change → Rule → Bool → Path → Bool
is_known c rule joins path = not (path.indexed && (joins || not (is_at_entry c rule)))

-- of a written field, where what is left surely fails, or surely holds
abbrev pub written : Change → Rule → Path → Bool → Bool → Reading
written c rule path fails holds = record {
  touched = true;
  blocked = fails && is_known c rule false path;
  blocked_joining = fails && is_known c rule true path;
  unmoved = holds && is_known c rule false path;
}

-- of one that isn't written: it may have any other value, or its own stays
abbrev pub unwritten : Change → FieldRef → Option Reading
unwritten c field =
    if is_foreign c field then Some (record {
      touched = true;
      blocked = false;
      blocked_joining = false;
      unmoved = false;
    }) else None

-- the field may have another value, and these are so of what is read by the path
pub record IsPathReading (c : Change) (rule : Rule) (path : Path)
    (Fails Holds : Write → Type 0) (reading : Reading) : Type 0 where
  pub may_differ : is_touched c path.field ≡ true
  pub touched : reading.touched ≡ true
  pub blocked : Decides reading.blocked (IsSomeAnd (write_read c rule false path) Fails)
  pub blocked_joining :
      Decides reading.blocked_joining (IsSomeAnd (write_read c rule true path) Fails)
  pub unmoved : Decides reading.unmoved (IsSomeAnd (write_read c rule false path) Holds)

-- or its value stays
abbrev pub IsReadingOf :
    Change → Rule → Path → (Write → Type 0) → (Write → Type 0) → Option Reading → Type 0
IsReadingOf c rule path Fails Holds reading =
    MatchOption reading (is_touched c path.field ≡ false) (IsPathReading c rule path Fails Holds)

abbrev pub IsGuardReading : Change → Rule → Guard → Option Reading → Type 0
IsGuardReading c rule guard reading =
    IsReadingOf c rule guard.path (λ w. IsSure c w false guard.test)
    (λ w. IsSure c w true guard.test) reading

abbrev pub IsTargetReading : Change → Rule → Path → Option Reading → Type 0
IsTargetReading c rule path reading = IsReadingOf c rule path (LeavesNone c) (λ w. ⊥) reading

-- of these guards of the rule
pub record AreRead (c : Change) (rule : Rule) (guards : List Guard) (reading : Reading) :
    Type 0 where
  pub touched : reading.touched ≡ any_of (λ p. is_touched c p.field) (map (λ g. g.path) guards)
  pub blocked :
      Decides reading.blocked
      ((guard : Guard) × IsIn guard guards × IsSureAtW c rule false false guard)
  pub blocked_joining :
      Decides reading.blocked_joining
      ((guard : Guard) × IsIn guard guards × IsSureAtW c rule true false guard)
  pub unmoved :
      Decides reading.unmoved
      ((guard : Guard) → IsIn guard guards → IsTrue (is_touched c guard.path.field)
      → IsSureAtW c rule false true guard)

-- of all that the rule reads
pub record IsReading (c : Change) (rule : Rule) (reading : Reading) : Type 0 where
  pub touched : reading.touched ≡ reads_touched c rule
  pub blocked : Decides reading.blocked (IsBlockedAtW c rule false)
  pub blocked_joining : Decides reading.blocked_joining (IsBlockedAtW c rule true)
  pub unmoved : Decides reading.unmoved (IsUnmovedAtW c rule)

-- ---- what becomes of rules

-- the rule asks all that the other one asks, of the same records
pub record AsksAllButTarget (rule other : Rule) : Type 0 where
  pub premise : rule.premise ≡ other.premise
  pub single : rule.span ≡ Single
  pub guards : (guard : Guard) → IsIn guard other.guards → IsIn guard rule.guards

-- it tells whether the rule is touched, and what becomes of what it reads
pub record IsTouchOf (c : Change) (rule : Rule) (touch : Touch) : Type 0 where
  pub at_w : Decides touch.at_w (IsTouchedAtW c rule)
  pub at_f : Decides touch.at_f (IsTouchedAtF c rule)
  pub reading : IsReading c rule touch.reading

-- the rule's instances at W, and at F, may gain or lose something
abbrev pub ChangesAtW : Change → Rule → Direction → Type 0
ChangesAtW c rule Gain = IsTouchedAtW c rule × (IsBlockedAtW c rule false → ⊥)
ChangesAtW c rule Loss = IsTouchedAtW c rule × (StaysAtW c rule → ⊥)

abbrev pub ChangesAtF : Change → Rule → Direction → Type 0
ChangesAtF c rule Gain = IsTouchedAtF c rule × (IsBlockedAtF c rule → ⊥)
ChangesAtF c rule Loss = IsTouchedAtF c rule × (StaysAtF c rule → ⊥)

-- and of this record
abbrev pub MayChangeAtW : Change → Rule → Direction → Tag → Type 0
MayChangeAtW c rule direction tag = ChangesAtW c rule direction × (tag ≡ tag_at_w c rule direction rule.inc)

abbrev pub MayChangeAtF : Change → Rule → Direction → Tag → Type 0
MayChangeAtF c rule direction tag = ChangesAtF c rule direction × (tag ≡ tag_at_f rule.inc)
