-- What the words of the command line ask for.
use Rattle.std.specs.Prelude.{ℕ, List, [], ◌∷◌, length, Bool, true, ◌||◌, ◌&&◌, nat_eq, nat_le, nat_lt, codes, Option, None, Some, option_map, if◌then◌else◌}
use Rattle.std.specs.Str.{all_ascii_digits, bytes_eq}
use Rattle.std.specs.Str.Parse.{digits_value}

-- a command, with the names of its files
pub data Asked : Type 0 where
  -- whether a report is that of the repair of an image, and another image what that repair left
  Audit : (spec image report fixed : List ℕ) → Asked
  -- a certificate of the plan of a specification, saved under the second name
  Certify : (spec certificate : List ℕ) → Asked
  -- whether an image is consistent under a specification
  Check : (spec image : List ℕ) → Asked
  -- groups of writes, by a script, to an image under a specification, saved under the last name
  Edit : (spec image script out : List ℕ) → Asked
  -- the records of an image that no set has
  Lost : (spec image : List ℕ) → Asked
  -- the plan of a specification
  Plan : (spec : List ℕ) → Asked
  -- a repair of an image under a specification, saved under the last name
  Repair : (spec image out : List ℕ) → Asked
  -- the canonical text of a specification
  Text : (spec : List ℕ) → Asked
  -- the trial of this number
  Trial : (number : ℕ) → Asked
  -- what a report tells is taken back from an image, and the image saved under the last name
  Undo : (spec fixed report out : List ℕ) → Asked
  -- whether a certificate is one of a plan of the specification
  Verify : (spec certificate : List ℕ) → Asked
  -- a shortest chain of rules that gives the fact of this text in an image
  Why : (spec image fact : List ℕ) → Asked

-- an empty word, or one that begins with a dash
abbrev pub is_odd : List ℕ → Bool
is_odd [] = true
is_odd (b ∷ bs) = nat_eq b 45

-- the number of a trial: one to five decimal digits write it, and 16 bits hold it
abbrev pub trial_number : List ℕ → Option ℕ
trial_number word =
    if all_ascii_digits word && nat_le 1 (length word) && nat_le (length word) 5
    && nat_lt (digits_value 10 word) 65536 then Some (digits_value 10 word) else None

abbrev pub to_try : List ℕ → Option Asked
to_try word = option_map Trial (trial_number word)

-- the commands with one word behind them
abbrev pub with_one : (command word : List ℕ) → Option Asked
with_one command word =
    if bytes_eq command (codes "text") then Some (Text word)
    else if bytes_eq command (codes "plan") then Some (Plan word)
    else if bytes_eq command (codes "trial") then to_try word
    else None

-- what is saved has another name than the specification
abbrev pub to_certify : (spec certificate : List ℕ) → Option Asked
to_certify spec certificate =
    if bytes_eq certificate spec then None else Some (Certify spec certificate)

-- those with two
abbrev pub with_two : (command spec file : List ℕ) → Option Asked
with_two command spec file =
    if bytes_eq command (codes "check") then Some (Check spec file)
    else if bytes_eq command (codes "certify") then to_certify spec file
    else if bytes_eq command (codes "verify") then Some (Verify spec file)
    else if bytes_eq command (codes "lost") then Some (Lost spec file)
    else None

-- what is saved has another name than the specification, and may have that of the image
abbrev pub to_repair : (spec image out : List ℕ) → Option Asked
to_repair spec image out = if bytes_eq out spec then None else Some (Repair spec image out)

-- those with three
abbrev pub with_three : (command spec image word : List ℕ) → Option Asked
with_three command spec image word =
    if bytes_eq command (codes "repair") then to_repair spec image word
    else if bytes_eq command (codes "why") then Some (Why spec image word)
    else None

abbrev pub to_undo : (spec fixed report out : List ℕ) → Option Asked
to_undo spec fixed report out =
    if bytes_eq out spec then None else Some (Undo spec fixed report out)

abbrev pub to_edit : (spec image script out : List ℕ) → Option Asked
to_edit spec image script out =
    if bytes_eq out spec then None else Some (Edit spec image script out)

-- those with four
abbrev pub with_four : (command spec image file word : List ℕ) → Option Asked
with_four command spec image file word =
    if bytes_eq command (codes "audit") then Some (Audit spec image file word)
    else if bytes_eq command (codes "undo") then to_undo spec image file word
    else if bytes_eq command (codes "edit") then to_edit spec image file word
    else None

-- What the words ask for. None where they are no command: there is no word, the first one is none
-- of the commands, not so many words stand behind it as it takes, one of these is an odd word,
-- something is to be saved over its specification, or there is no trial of the number.
abbrev pub command_of : List (List ℕ) → Option Asked
command_of (command ∷ word ∷ []) = if is_odd word then None else with_one command word
command_of (command ∷ spec ∷ file ∷ []) =
    if is_odd spec || is_odd file then None else with_two command spec file
command_of (command ∷ spec ∷ image ∷ word ∷ []) =
    if is_odd spec || is_odd image || is_odd word then None else with_three command spec image word
command_of (command ∷ spec ∷ image ∷ file ∷ word ∷ []) =
    if is_odd spec || is_odd image || is_odd file || is_odd word then None
    else with_four command spec image file word
command_of _ = None
