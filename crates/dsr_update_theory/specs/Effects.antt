-- What an update may change, whatever the image.
use Rattle.std.specs.Prelude.{◌≡◌, ◌<◌, ◌+◌, ◌&&◌, ℕ, Bool, true, false, List, Some, length, slice_get, if◌then◌else◌}
use Rattle.std.specs.Option.{option_map_or}
use Rattle.dsr_ir.specs.Rules.{symbol_of}
use Rattle.dsr_ir.specs.declared.declarations.FieldRef.{FieldRef}
use Rattle.dsr_ir.specs.declared.declarations.Structures.{Structures}
use Rattle.dsr_ir.specs.declared.rules.Inc.{Inc}
use Rattle.dsr_ir.specs.declared.rules.Inc.TheVariants.{Own, Target, Slot, OwnPair, SlotPair}
use Rattle.dsr_ir.specs.declared.rules.Rule.{Rule}
use Rattle.dsr_ir.specs.declared.updates.Pick.{Pick}
use Rattle.dsr_ir.specs.declared.updates.Pick.TheVariants as picks
use Rattle.dsr_ir.specs.declared.updates.Symbol.{Symbol}
use Rattle.dsr_ir.specs.declared.updates.Symbol.TheVariants.{Set, Rel}
use Rattle.dsr_meaning.specs.Counting.{IsIn}
use Rattle.dsr_meaning.specs.Models.{base_of}
use Rattle.dsr_update_theory.specs.Changes.{Change, is_at_entry, write_to}
use Rattle.dsr_update_theory.specs.Givers.{is_own}
use Rattle.dsr_update_theory.specs.Touching.{IsBlockedAtW, IsBlockedAtF, IsTouchedAtW, IsTouchedAtF, StaysAtW, StaysAtF}
use Rattle.dsr_update_theory.specs.declared.effects.Effect.{Effect}
use Rattle.dsr_update_theory.specs.declared.effects.Tag.{Tag}
use Rattle.dsr_update_theory.specs.declared.effects.Tag.TheVariants.{Written, Entry, Fresh, Any}
use Rattle.dsr_update_theory.specs.declared.effects.Tags.{Tags}
use Rattle.dsr_update_theory.specs.declared.effects.Direction.{Direction}
use Rattle.dsr_update_theory.specs.declared.effects.Direction.TheVariants.{Gain, Loss}

-- ---- of which record a fact is

abbrev pub is_fresh_pick : Pick → Bool
is_fresh_pick picks.Fresh = true
is_fresh_pick _ = false

-- the field gets the code of the fresh record
abbrev pub gets_fresh : Change → FieldRef → Bool
gets_fresh c field =
    option_map_or (λ w. is_fresh_pick w.pick) (write_to c.update.writes field) false

abbrev pub is_gain : Direction → Bool
is_gain Gain = true
is_gain Loss = false

-- of an instance at W
abbrev pub tag_at_w : Change → Rule → Direction → Inc → Tag
tag_at_w c rule direction (Own set) = Written
tag_at_w c rule direction (OwnPair rel path) = Written
tag_at_w c rule direction (Slot set pool) = if is_at_entry c rule then Entry else Any
tag_at_w c rule direction (SlotPair rel pool path) = if is_at_entry c rule then Entry else Any
tag_at_w c rule direction (Target set path) =
    if is_gain direction && gets_fresh c path.field then Fresh else Any

-- of an instance at F
abbrev pub tag_at_f : Inc → Tag
tag_at_f inc = if is_own inc then Fresh else Any

-- of an instance at a record that joined or left the premise
abbrev pub tag_passed : Inc → Tag → Tag
tag_passed inc tag = if is_own inc then tag else Any

-- ---- the table

-- what the instances of the rule at W and at F may gain or lose
pub data MayChange (c : Change) (rule : Rule) : Direction → Tag → Type 0 where
  gain_at_w :
      IsTouchedAtW c rule → (IsBlockedAtW c rule false → ⊥)
      → MayChange c rule Gain (tag_at_w c rule Gain rule.inc)
  loss_at_w :
      IsTouchedAtW c rule → (StaysAtW c rule → ⊥)
      → MayChange c rule Loss (tag_at_w c rule Loss rule.inc)
  gain_at_f :
      IsTouchedAtF c rule → (IsBlockedAtF c rule → ⊥) → MayChange c rule Gain (tag_at_f rule.inc)
  loss_at_f :
      IsTouchedAtF c rule → (StaysAtF c rule → ⊥) → MayChange c rule Loss (tag_at_f rule.inc)

-- the rule has no instance at W, or at F, where that joins the premise
abbrev pub IsLeftOut : Change → Rule → Direction → Tag → Type 0
IsLeftOut c rule Gain Written = IsBlockedAtW c rule true
IsLeftOut c rule Gain Fresh = IsBlockedAtF c rule
IsLeftOut c rule direction tag = ⊥

abbrev pub other_direction : Direction → Direction
other_direction Gain = Loss
other_direction Loss = Gain

-- The least table in which stands what rules may gain or lose at W and at F, what they may since
-- their premise does, and for a complement what its set may, the other way round.
pub data InTable (c : Change) : Direction → Symbol → Tag → Type 0 where
  touched :
      (rule : Rule) (direction : Direction) (tag : Tag) → IsIn rule c.spec.rules
      → MayChange c rule direction tag
      → InTable c direction (symbol_of rule.inc) tag
  passed :
      (rule : Rule) (premise : ℕ) (direction : Direction) (tag : Tag) → IsIn rule c.spec.rules
      → rule.premise ≡ Some premise → InTable c direction (Set premise) tag
      → (IsLeftOut c rule direction tag → ⊥)
      → InTable c direction (symbol_of rule.inc) (tag_passed rule.inc tag)
  swapped :
      (set base : ℕ) (direction : Direction) (tag : Tag) → base_of c.spec set ≡ Some base
      → InTable c direction (Set base) tag → InTable c (other_direction direction) (Set set) tag

-- ---- a table as it is answered

-- the place of a symbol among sets and relations
abbrev pub symbol_number : Structures → Symbol → ℕ
symbol_number base (Set set) = set
symbol_number base (Rel rel) = length base.sets + rel

-- the symbol is declared
abbrev pub IsDeclared : Structures → Symbol → Type 0
IsDeclared base (Set set) = set < length base.sets
IsDeclared base (Rel rel) = rel < length base.rels

abbrev pub has_tag : Tag → Tags → Bool
has_tag Written tags = tags.written
has_tag Entry tags = tags.entry
has_tag Fresh tags = tags.fresh
has_tag Any tags = tags.any

abbrev pub tags_of : Direction → Effect → List Tags
tags_of Gain effect = effect.gains
tags_of Loss effect = effect.losses

-- the symbol may change so
abbrev pub changes : Structures → Effect → Direction → Symbol → Tag → Bool
changes base effect direction symbol tag =
    option_map_or (has_tag tag)
    (slice_get (tags_of direction effect) (symbol_number base symbol)) false
