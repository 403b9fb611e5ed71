-- Rows of tags on the way to what flows hand on to them.
use Rattle.std.specs.Prelude.{◌≡◌, ◌+◌, ℕ, true, List, cond, slice_index_or, slice_set, sum_by}
use Rattle.dsr_effect.specs.Rows.{IsHandedOn, has_row_tag, joined, no_tags, passed_tags}
use Rattle.dsr_effect.specs.declared.flows.Flow.{Flow}
use Rattle.dsr_update_theory.specs.declared.effects.Tag.{Tag}
use Rattle.dsr_update_theory.specs.declared.effects.Tags.{Tags}

abbrev pub row_at : List Tags → ℕ → Tags
row_at rows row = slice_index_or rows row no_tags

-- what the flow makes of the row to which it goes
abbrev pub row_after : Flow → List Tags → Tags
row_after flow rows = joined (row_at rows flow.to) (passed_tags flow (row_at rows flow.from))

-- the rows after one flow
abbrev pub handed_on : Flow → List Tags → List Tags
handed_on flow rows = slice_set rows flow.to (row_after flow rows)

-- the flow adds nothing
abbrev pub IsDone : List Tags → Flow → Type 0
IsDone rows flow = handed_on flow rows ≡ rows

-- what the rows have is handed on to them from these ones
abbrev pub AreHandedOn : List Flow → List Tags → List Tags → Type 0
AreHandedOn flows rows after =
    (row : ℕ) (tag : Tag) → has_row_tag after row tag ≡ true → IsHandedOn flows rows row tag

-- no tag is gone
abbrev pub AreKept : List Tags → List Tags → Type 0
AreKept rows after =
    (row : ℕ) (tag : Tag) → has_row_tag rows row tag ≡ true → has_row_tag after row tag ≡ true

-- how many tags a row hasn't got
abbrev pub count_missing : Tags → ℕ
count_missing tags =
    cond tags.written 0 1 + cond tags.entry 0 1 + cond tags.fresh 0 1 + cond tags.any 0 1

abbrev pub missing : List Tags → ℕ
missing rows = sum_by count_missing rows
