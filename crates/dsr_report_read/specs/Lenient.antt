-- A lenient reading of a line, which takes for granted of what form it is; then it is printed and
-- compared.
use Rattle.std.specs.Prelude.{ℕ, ◌+◌, ◌-◌, ◌*◌, ◌%◌, ◌^◌, Bool, nat_lt, nat_eq, List, [], ◌∷◌, length, take, drop, slice_index, if◌then◌else◌, Result, Ok, Err}
use Rattle.std.specs.Char.{is_ascii_digit}
use Rattle.std.specs.List.{prefix_len}
use Rattle.std.specs.Option.{option_map_or}
use Rattle.hex.specs.Hex.{decode_sized}
use Rattle.hex.specs.declared.error.FromHexError.{FromHexError}
use Rattle.dsr_answers.specs.Texts.{constraint_name, field_name, pool_name}
use Rattle.dsr_ir.specs.declared.constraints.Quant.{Quant}
use Rattle.dsr_ir.specs.declared.constraints.Quant.TheVariants as quants
use Rattle.dsr_ir.specs.declared.constraints.Var.TheVariants.{First, Second}
use Rattle.dsr_ir.specs.declared.declarations.Spec.{Spec}
use Rattle.dsr_ir.specs.declared.rules.Path.{Path}
use Rattle.dsr_ir.specs.declared.tuples.Binding.{Binding}
use Rattle.dsr_ir.specs.declared.tuples.Binding.TheVariants as bindings
use Rattle.dsr_ir.specs.declared.tuples.Element.{Element}
use Rattle.dsr_meaning.specs.Typed.{pool_of_var}
use Rattle.dsr_repair_theory.specs.declared.entries.ByteChange.{ByteChange}
use Rattle.dsr_repair_theory.specs.declared.entries.CellSet.{CellSet}
use Rattle.dsr_report_read.specs.declared.lines.Head.{Head}

-- ---- numbers

-- what digits say behind a number, modulo 2^64
abbrev pub value_after : ℕ → List ℕ → ℕ
value_after value [] = value
value_after value (digit ∷ digits) =
    value_after ((value * 10 % 2 ^ 64 + (digit - 48)) % 2 ^ 64) digits

abbrev pub digits_len : List ℕ → ℕ
digits_len text = prefix_len is_ascii_digit text

-- the number at the front
abbrev pub number_ahead : List ℕ → ℕ
number_ahead text = value_after 0 (take (digits_len text) text)

-- what stands behind it
abbrev pub behind_number : List ℕ → List ℕ
behind_number text = drop (digits_len text) text

-- a number of 32 bits
abbrev pub narrow : ℕ → ℕ
narrow number = if nat_lt 4294967295 number then 0 else number

abbrev pub first_or_0 : Result (List ℕ) FromHexError → ℕ
first_or_0 (Ok bytes) = slice_index bytes 0
first_or_0 (Err fault) = 0

-- the byte whose two digits stand at the front
abbrev pub byte_ahead : List ℕ → ℕ
byte_ahead text = first_or_0 (decode_sized (take 2 text) 1)

-- ---- records

-- the record of this pool at the front, and what stands behind it
abbrev pub element_ahead : Spec → ℕ → List ℕ → Element
element_ahead spec pool text =
    if nat_eq pool 0 then record { pool = 0; slot = 0 }
    else record { pool = pool; slot = narrow (number_ahead (drop (length (pool_name spec pool) + 1) text)) }

abbrev pub behind_element : Spec → ℕ → List ℕ → List ℕ
behind_element spec pool text =
    if nat_eq pool 0 then drop 4 text
    else drop 1 (behind_number (drop (length (pool_name spec pool) + 1) text))

-- the pool of what is bound
abbrev pub first_pool : Spec → Quant → ℕ
first_pool spec quant = option_map_or (λ p. p) (pool_of_var spec.base quant First) 0

abbrev pub second_pool : Spec → Quant → ℕ
second_pool spec quant = option_map_or (λ p. p) (pool_of_var spec.base quant Second) 0

-- the binding at the front, and what stands behind it
abbrev pub binding_ahead : Spec → Quant → List ℕ → Binding
binding_ahead spec quants.Once text = bindings.Once
binding_ahead spec (quants.Each set) text =
    bindings.Each (element_ahead spec (first_pool spec (quants.Each set)) text)
binding_ahead spec (quants.Pairs rel) text = bindings.Pair
    (element_ahead spec (first_pool spec (quants.Pairs rel)) (drop 1 text))
    (element_ahead spec (second_pool spec (quants.Pairs rel))
    (drop 1 (behind_element spec (first_pool spec (quants.Pairs rel)) (drop 1 text))))

abbrev pub behind_binding : Spec → Quant → List ℕ → List ℕ
behind_binding spec quants.Once text = drop 1 text
behind_binding spec (quants.Each set) text = behind_element spec (first_pool spec (quants.Each set)) text
behind_binding spec (quants.Pairs rel) text =
    drop 1 (behind_element spec (second_pool spec (quants.Pairs rel))
    (drop 1 (behind_element spec (first_pool spec (quants.Pairs rel)) (drop 1 text))))

-- ---- lines

abbrev pub reset_in : Spec → ℕ → List ℕ → Element
reset_in spec pool text = element_ahead spec pool (drop 8 text)

abbrev pub change_in : List ℕ → ByteChange
change_in text = record {
  place = number_ahead (drop 7 text);
  old = byte_ahead (drop 1 (behind_number (drop 7 text)));
  new = byte_ahead (drop 4 (behind_number (drop 7 text)));
}

-- the index of an array's entry at the front, and what stands behind it
abbrev pub index_ahead : Bool → List ℕ → ℕ
index_ahead indexed text = if indexed then number_ahead (drop 1 text) else 0

abbrev pub behind_index : Bool → List ℕ → List ℕ
behind_index indexed text = if indexed then drop 1 (behind_number (drop 1 text)) else text

-- where the field's name begins, and what stands behind it
abbrev pub field_ahead : Spec → ℕ → List ℕ → List ℕ
field_ahead spec pool text = drop 1 (behind_element spec pool (drop 6 text))

abbrev pub behind_field : Spec → ℕ → Path → List ℕ → List ℕ
behind_field spec pool path text =
    drop (length (field_name spec path.field.structure path.field.field)) (field_ahead spec pool text)

-- where the value before begins
abbrev pub values_ahead : Spec → ℕ → Path → List ℕ → List ℕ
values_ahead spec pool path text = drop 1 (behind_index path.indexed (behind_field spec pool path text))

abbrev pub set_in : Spec → ℕ → Path → List ℕ → CellSet
set_in spec pool path text = record {
  elem = element_ahead spec pool (drop 6 text);
  path = path;
  index = index_ahead path.indexed (behind_field spec pool path text);
  old = number_ahead (values_ahead spec pool path text);
  new = number_ahead (drop 1 (behind_number (values_ahead spec pool path text)));
}

-- where the constraint's name begins
abbrev pub name_ahead : List ℕ → List ℕ
name_ahead text = drop 1 (behind_number (drop 7 text))

-- a number that counts from 1
abbrev pub place_of : ℕ → ℕ
place_of number = narrow (number - 1)

-- what stands behind a constraint's name
abbrev pub binding_in : Spec → ℕ → List ℕ → List ℕ
binding_in spec number text = drop (length (constraint_name spec number) + 1) (name_ahead text)

abbrev pub conj_in : Spec → Quant → ℕ → List ℕ → List ℕ
conj_in spec quant number text = drop 1 (behind_binding spec quant (binding_in spec number text))

abbrev pub literal_in : Spec → Quant → ℕ → List ℕ → List ℕ
literal_in spec quant number text = drop 1 (behind_number (conj_in spec quant number text))

abbrev pub rule_in : Spec → Quant → ℕ → List ℕ → List ℕ
rule_in spec quant number text = drop 1 (behind_number (literal_in spec quant number text))

abbrev pub head_in : Spec → Quant → ℕ → List ℕ → Head
head_in spec quant number text = record {
  constraint = number;
  binding = binding_ahead spec quant (binding_in spec number text);
  conj = place_of (number_ahead (conj_in spec quant number text));
  literal = place_of (number_ahead (literal_in spec quant number text));
  rule = place_of (number_ahead (rule_in spec quant number text));
}
