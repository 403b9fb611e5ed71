use Rattle.std.proofs.Common.{◌≡◌, ◌<◌, ◌^◌, ◌++◌, map, drop, option_map}
use Rattle.dsr_meaning.specs.Places.{placed}
use Rattle.dsr_layout.specs.Tables.{known, clip_place}
use Rattle.dsr_layout.proofs.places.placed.Given as goal

-- the places so far and those of the fields that are left
abbrev pub invariant-loop-field : goal.invariant-loop-field
invariant-loop-field l = (l.bit < 2 ^ 64) × (option_map (λ ps. l.places.items ++ ps) (option_map (map clip_place) (placed (known l.fixed) l.bit (drop l.field-index l.fields))) ≡ option_map (map clip_place) (placed (known l.fixed) l.start l.fields))
