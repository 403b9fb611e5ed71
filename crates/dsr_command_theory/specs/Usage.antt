-- Why words ask for nothing, and what all other words ask for.
use Rattle.std.specs.Prelude.{◌≡◌, ◌≢◌, ◌≤◌, ◌⊎◌, ℕ, List, [], ◌∷◌, ◌++◌, length, codes}
use Rattle.std.specs.Str.Parse.{digits_value}
use Rattle.dsr_meaning.specs.Counting.{IsIn}
use Rattle.dsr_words.specs.Words.{Asked, Audit, Certify, Check, Edit, Lost, Plan, Repair, Text, Trial, Undo, Verify, Why}

-- the commands, and how many words each takes behind it
pub data Takes : List ℕ → ℕ → Type 0 where
  audit : Takes (codes "audit") 4
  certify : Takes (codes "certify") 2
  check : Takes (codes "check") 2
  edit : Takes (codes "edit") 4
  lost : Takes (codes "lost") 2
  plan : Takes (codes "plan") 1
  repair : Takes (codes "repair") 3
  text : Takes (codes "text") 1
  trial : Takes (codes "trial") 1
  undo : Takes (codes "undo") 4
  verify : Takes (codes "verify") 2
  why : Takes (codes "why") 3

-- ---- six reasons for which words ask for nothing

-- there is no word, or an empty one
abbrev pub LacksWord : List (List ℕ) → Type 0
LacksWord words = (words ≡ []) ⊎ IsIn [] words

-- a word begins with a dash
abbrev pub HasDash : List (List ℕ) → Type 0
HasDash words = (rest : List ℕ) × IsIn (codes "-" ++ rest) words

-- the first word is none of the commands
pub data BeginsOtherwise : List (List ℕ) → Type 0 where
  no_command :
      (name : List ℕ) (more : List (List ℕ)) → ((count : ℕ) → Takes name count → ⊥)
      → BeginsOtherwise (name ∷ more)

-- there are fewer or more words behind the command than it takes
pub data HasOtherCount : List (List ℕ) → Type 0 where
  other_count :
      (name : List ℕ) (more : List (List ℕ)) (count : ℕ) → Takes name count → length more ≢ count
      → HasOtherCount (name ∷ more)

-- a certificate, or an image that is repaired, edited or taken back, has the name of its
-- specification
pub data SavesOverSpec : List (List ℕ) → Type 0 where
  certificate : (spec : List ℕ) → SavesOverSpec (codes "certify" ∷ spec ∷ spec ∷ [])
  repaired : (spec image : List ℕ) → SavesOverSpec (codes "repair" ∷ spec ∷ image ∷ spec ∷ [])
  undone :
      (spec fixed report : List ℕ)
      → SavesOverSpec (codes "undo" ∷ spec ∷ fixed ∷ report ∷ spec ∷ [])
  edited :
      (spec image script : List ℕ)
      → SavesOverSpec (codes "edit" ∷ spec ∷ image ∷ script ∷ spec ∷ [])

-- the word is the number of a trial: one to five decimal digits, zeros in front included, up to
-- 65,535
pub record IsTrialNumber (word : List ℕ) : Type 0 where
  pub digits : (byte : ℕ) → IsIn byte word → (48 ≤ byte) × (byte ≤ 57)
  pub some : 1 ≤ length word
  pub few : length word ≤ 5
  pub within : digits_value 10 word ≤ 65535

-- the word behind `trial` is the number of none
pub data HasNoTrial : List (List ℕ) → Type 0 where
  no_trial :
      (word : List ℕ) → (IsTrialNumber word → ⊥) → HasNoTrial (codes "trial" ∷ word ∷ [])

-- the words ask for nothing, for one of the reasons
pub data AskForNothing (words : List (List ℕ)) : Type 0 where
  word_lacks : LacksWord words → AskForNothing words
  dash : HasDash words → AskForNothing words
  otherwise : BeginsOtherwise words → AskForNothing words
  count : HasOtherCount words → AskForNothing words
  over_spec : SavesOverSpec words → AskForNothing words
  trial_lacks : HasNoTrial words → AskForNothing words

-- ---- what other words ask for

-- a command stands first, and the words behind it are taken by their places
pub data Says : List (List ℕ) → Asked → Type 0 where
  says_audit :
      (spec image report fixed : List ℕ)
      → Says (codes "audit" ∷ spec ∷ image ∷ report ∷ fixed ∷ []) (Audit spec image report fixed)
  says_certify :
      (spec certificate : List ℕ)
      → Says (codes "certify" ∷ spec ∷ certificate ∷ []) (Certify spec certificate)
  says_check :
      (spec image : List ℕ) → Says (codes "check" ∷ spec ∷ image ∷ []) (Check spec image)
  says_edit :
      (spec image script out : List ℕ)
      → Says (codes "edit" ∷ spec ∷ image ∷ script ∷ out ∷ []) (Edit spec image script out)
  says_lost :
      (spec image : List ℕ) → Says (codes "lost" ∷ spec ∷ image ∷ []) (Lost spec image)
  says_plan : (spec : List ℕ) → Says (codes "plan" ∷ spec ∷ []) (Plan spec)
  says_repair :
      (spec image out : List ℕ)
      → Says (codes "repair" ∷ spec ∷ image ∷ out ∷ []) (Repair spec image out)
  says_text : (spec : List ℕ) → Says (codes "text" ∷ spec ∷ []) (Text spec)
  says_trial : (word : List ℕ) → Says (codes "trial" ∷ word ∷ []) (Trial (digits_value 10 word))
  says_undo :
      (spec fixed report out : List ℕ)
      → Says (codes "undo" ∷ spec ∷ fixed ∷ report ∷ out ∷ []) (Undo spec fixed report out)
  says_verify :
      (spec certificate : List ℕ)
      → Says (codes "verify" ∷ spec ∷ certificate ∷ []) (Verify spec certificate)
  says_why :
      (spec image fact : List ℕ)
      → Says (codes "why" ∷ spec ∷ image ∷ fact ∷ []) (Why spec image fact)
