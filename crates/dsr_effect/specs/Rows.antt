-- Rows of tags, and what they hand on to each other.
use Rattle.std.specs.Prelude.{◌≡◌, ◌<◌, ◌&&◌, ◌||◌, ℕ, Bool, true, false, not, List, slice_get, if◌then◌else◌}
use Rattle.std.specs.Option.{option_map_or}
use Rattle.dsr_effect.specs.declared.flows.Flow.{Flow}
use Rattle.dsr_meaning.specs.Counting.{IsIn}
use Rattle.dsr_update_theory.specs.Effects.{has_tag}
use Rattle.dsr_update_theory.specs.declared.effects.Tag.{Tag}
use Rattle.dsr_update_theory.specs.declared.effects.Tag.TheVariants.{Written, Entry, Fresh, Any}
use Rattle.dsr_update_theory.specs.declared.effects.Tags.{Tags}

abbrev pub no_tags : Tags
no_tags = record { written = false; entry = false; fresh = false; any = false }

-- one tag alone
abbrev pub only : Tag → Tags
only Written = record { written = true; entry = false; fresh = false; any = false }
only Entry = record { written = false; entry = true; fresh = false; any = false }
only Fresh = record { written = false; entry = false; fresh = true; any = false }
only Any = record { written = false; entry = false; fresh = false; any = true }

-- the tags of either
abbrev pub joined : Tags → Tags → Tags
joined a b = record {
  written = a.written || b.written;
  entry = a.entry || b.entry;
  fresh = a.fresh || b.fresh;
  any = a.any || b.any;
}

abbrev pub is_some : Tags → Bool
is_some tags = tags.written || tags.entry || tags.fresh || tags.any

-- the tags that a flow hands on, as they are
abbrev pub open_tags : Flow → Tags → Tags
open_tags flow tags = record {
  written = tags.written && not flow.without_written;
  entry = tags.entry;
  fresh = tags.fresh && not flow.without_fresh;
  any = tags.any;
}

-- what comes of them in the other row
abbrev pub passed_tags : Flow → Tags → Tags
passed_tags flow tags =
    if flow.keeps then open_tags flow tags
    else if is_some (open_tags flow tags) then only Any else no_tags

-- ---- one tag

-- the flow hands the tag on
abbrev pub is_open : Flow → Tag → Bool
is_open flow Written = not flow.without_written
is_open flow Fresh = not flow.without_fresh
is_open flow tag = true

-- what comes of it in the other row
abbrev pub tag_after : Flow → Tag → Tag
tag_after flow tag = if flow.keeps then tag else Any

-- the row has the tag
abbrev pub has_row_tag : List Tags → ℕ → Tag → Bool
has_row_tag rows row tag = option_map_or (has_tag tag) (slice_get rows row) false

-- the flow goes from one row to another
pub record IsBetween (count : ℕ) (flow : Flow) : Type 0 where
  pub from : flow.from < count
  pub to : flow.to < count

-- the row has the tag at first, or it is handed on to it
pub data IsHandedOn (flows : List Flow) (rows : List Tags) : ℕ → Tag → Type 0 where
  begins : (row : ℕ) (tag : Tag) → has_row_tag rows row tag ≡ true → IsHandedOn flows rows row tag
  goes :
      (flow : Flow) (tag : Tag) → IsIn flow flows → IsHandedOn flows rows flow.from tag
      → is_open flow tag ≡ true → IsHandedOn flows rows flow.to (tag_after flow tag)
