-- The text that tells what each step of a repair changed.
use Rattle.std.specs.Prelude.{ℕ, List, [], ◌∷◌, ◌++◌, ◌+◌, length, codes, decimal, if◌then◌else◌}
use Rattle.std.specs.List.{flat_map}
use Rattle.std.specs.Option.{option_map_or}
use Rattle.hex.specs.Hex.{encode_lower}
use Rattle.dsr_answers.specs.Texts.{binding_text, constraint_name, element_text, field_name}
use Rattle.dsr_ir.specs.declared.declarations.Spec.{Spec}
use Rattle.dsr_ir.specs.declared.tuples.Element.{Element}
use Rattle.dsr_meaning.specs.Lists.{each_at}
use Rattle.dsr_repair_theory.specs.declared.entries.ByteChange.{ByteChange}
use Rattle.dsr_repair_theory.specs.declared.entries.CellSet.{CellSet}
use Rattle.dsr_repair_theory.specs.declared.entries.Entry.{Entry}

-- a conjunction and a literal, counted from 1
abbrev pub place_text : Entry → List ℕ
place_text entry = decimal (entry.conj + 1) ++ codes "." ++ decimal (entry.literal + 1)

-- the number of the entry, and for what the step was made by which rule
abbrev pub update_line : Spec → ℕ → Entry → List ℕ
update_line spec number entry =
    codes "update " ++ decimal number ++ codes " " ++ constraint_name spec entry.constraint
    ++ codes " " ++ binding_text spec entry.binding ++ codes " " ++ place_text entry
    ++ codes " " ++ decimal (entry.rule + 1) ++ codes "\n"

abbrev pub reset_line : Spec → Element → List ℕ
reset_line spec e = codes "  reset " ++ element_text spec e ++ codes "\n"

-- the entry of an array, where the field is one
abbrev pub index_text : CellSet → List ℕ
index_text set =
    if set.path.indexed then codes "[" ++ decimal set.index ++ codes "]" else []

-- what was set: the record, its field and the entry
abbrev pub place_set : Spec → CellSet → List ℕ
place_set spec set =
    element_text spec set.elem ++ codes "."
    ++ field_name spec set.path.field.structure set.path.field.field ++ index_text set

-- with the value before and the new one
abbrev pub set_line : Spec → CellSet → List ℕ
set_line spec set =
    codes "  set " ++ place_set spec set ++ codes " " ++ decimal set.old
    ++ codes " " ++ decimal set.new ++ codes "\n"

-- two digits
abbrev pub byte_text : ℕ → List ℕ
byte_text byte = encode_lower (byte ∷ [])

abbrev pub byte_line : ByteChange → List ℕ
byte_line change =
    codes "  byte " ++ decimal change.place ++ codes " " ++ byte_text change.old
    ++ codes " " ++ byte_text change.new ++ codes "\n"

-- the lines of the entry with this number
abbrev pub entry_text : Spec → ℕ → Entry → List ℕ
entry_text spec number entry =
    update_line spec number entry ++ option_map_or (reset_line spec) entry.reset []
    ++ flat_map (set_line spec) entry.sets ++ flat_map byte_line entry.bytes

-- the lines of entries that stand behind so many others
abbrev pub entries_behind : Spec → ℕ → List Entry → List ℕ
entries_behind spec before entries = each_at (entry_text spec) (before + 1) entries

-- the lines of all entries, which count from 1
abbrev pub entries_text : Spec → List Entry → List ℕ
entries_text spec entries = entries_behind spec 0 entries

abbrev pub end_line : ℕ → List ℕ
end_line count = codes "updates " ++ decimal count ++ codes "\n"

-- and how many there are
abbrev pub report_text : Spec → List Entry → List ℕ
report_text spec entries = entries_text spec entries ++ end_line (length entries)
