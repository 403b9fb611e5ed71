-- A lenient reading of a line, which takes for granted that it sets a value; then it is printed and
-- compared.
use Rattle.std.specs.Prelude.{◌≡◌, ℕ, Bool, true, false, nat_eq, List, [], ◌∷◌, Option, None, Some, drop, take, if◌then◌else◌}
use Rattle.std.specs.List.{prefix_len}
use Rattle.dsr_edit_text.specs.Scripts.{SetText}
use Rattle.dsr_report_read.specs.Lenient.{behind_number, number_ahead}
use Rattle.dsr_syntax_theory.specs.Tokens.{every, is_in_word}

-- ---- words

-- all of it are letters, digits and `_`
abbrev pub IsWord : List ℕ → Type 0
IsWord word = every is_in_word word ≡ true

-- the word at the front, and what stands behind it
abbrev pub word_ahead : List ℕ → List ℕ
word_ahead text = take (prefix_len is_in_word text) text

abbrev pub behind_word : List ℕ → List ℕ
behind_word text = drop (prefix_len is_in_word text) text

-- ---- numbers in brackets

-- an opening bracket stands at the front
abbrev pub opens : List ℕ → Bool
opens [] = false
opens (b ∷ rest) = nat_eq b 91

abbrev pub index_ahead : List ℕ → Option ℕ
index_ahead text = if opens text then Some (number_ahead (drop 1 text)) else None

abbrev pub behind_index : List ℕ → List ℕ
behind_index text = if opens text then drop 1 (behind_number (drop 1 text)) else text

-- ---- a line

-- behind the word `set`, and so on
abbrev pub pool_in : List ℕ → List ℕ
pool_in text = drop 4 text

abbrev pub slot_in : List ℕ → List ℕ
slot_in text = behind_word (pool_in text)

abbrev pub field_in : List ℕ → List ℕ
field_in text = drop 1 (behind_index (slot_in text))

abbrev pub index_in : List ℕ → List ℕ
index_in text = behind_word (field_in text)

abbrev pub value_in : List ℕ → List ℕ
value_in text = drop 1 (behind_index (index_in text))

abbrev pub set_in : List ℕ → SetText
set_in text = record {
  pool = word_ahead (pool_in text);
  slot = index_ahead (slot_in text);
  field = word_ahead (field_in text);
  index = index_ahead (index_in text);
  value = number_ahead (value_in text);
}
