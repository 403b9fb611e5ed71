use Rattle.std.proofs.Common.{◌≡◌, ◌<◌, ◌^◌, drop, option_map}
use Rattle.dsr_meaning.specs.Places.{bit_behind_fields}
use Rattle.dsr_layout.specs.Tables.{known, clip}
use Rattle.dsr_layout.proofs.places.bit_behind_fields.Given as goal

-- what is behind the fields that are left
abbrev pub invariant-loop-field : goal.invariant-loop-field
invariant-loop-field l = (l.bit < 2 ^ 64) × (option_map clip (bit_behind_fields (known l.fixed) l.bit (drop l.field-index l.fields)) ≡ option_map clip (bit_behind_fields (known l.fixed) l.start l.fields))
