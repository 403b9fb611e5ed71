-- Which texts are scripts of edits, and the first line that keeps a text from being one.
use Rattle.std.specs.Prelude.{◌≡◌, ◌≢◌, ◌<◌, ◌≤◌, ◌+◌, ◌^◌, ◌++◌, ◌⊎◌, ℕ, Bool, IfSome, IsSome, List, [], ◌∷◌, Option, None, Some, All, length, map, take, codes, decimal, slice_get}
use Rattle.std.specs.List.{flat_map}
use Rattle.bstr.specs.Text.{lines_of}
use Rattle.dsr_edit_text.specs.declared.faults.ScriptFault.{ScriptFault}
use Rattle.dsr_edit_text.specs.declared.faults.ScriptFault.TheVariants as faults
use Rattle.dsr_syntax_theory.specs.Tokens.{Spells}
use Rattle.dsr_tree.specs.declared.tokens.Token.TheVariants as token

-- ---- a line that sets a value

-- a value for a field of a record, by their names; `head` has no slot, and a scalar no index
pub record SetText : Type 0 where
  pub pool : List ℕ
  pub slot : Option ℕ
  pub field : List ℕ
  pub index : Option ℕ
  pub value : ℕ

abbrev pub index_text : Option ℕ → List ℕ
index_text None = []
index_text (Some index) = codes "[" ++ decimal index ++ codes "]"

-- the line, with its line feed
abbrev pub set_text : SetText → List ℕ
set_text set =
    codes "set " ++ set.pool ++ index_text set.slot ++ codes "." ++ set.field
    ++ index_text set.index ++ codes " " ++ decimal set.value ++ codes "\n"

-- a name, as a specification's text has it
pub record IsName (second : Bool) (word : List ℕ) : Type 0 where
  pub spelled : Spells second word (token.Name word)
  pub small : length word ≤ 32

-- `head`, or a slot of something that has a name
abbrev pub IsRecordText : Bool → SetText → Type 0
IsRecordText second set =
    ((set.pool ≡ codes "head") × (set.slot ≡ None))
    ⊎ (IsName second set.pool × IsSome set.slot)

pub record IsSetText (second : Bool) (set : SetText) : Type 0 where
  pub record_is : IsRecordText second set
  pub field : IsName second set.field
  pub slot : IfSome set.slot (λ n. n < 2 ^ 64)
  pub index : IfSome set.index (λ n. n < 2 ^ 64)
  pub value : set.value < 2 ^ 64

-- ---- groups of lines

abbrev pub commit_text : List ℕ
commit_text = codes "commit\n"

-- the lines of a group, and its end
abbrev pub group_texts : List SetText → List (List ℕ)
group_texts group = map set_text group ++ commit_text ∷ []

abbrev pub script_texts : List (List SetText) → List (List ℕ)
script_texts groups = flat_map group_texts groups

-- the text is the script of these groups; `second` says whether names are those of version 2
pub record IsScript (second : Bool) (text : List ℕ) (groups : List (List SetText)) : Type 0 where
  pub formed : All (All (IsSetText second)) groups
  pub texts_are : lines_of text ≡ script_texts groups

-- ---- the first line that is wrong

-- the text begins with these groups, and these lines of a further one
pub record BeginsWith (second : Bool) (texts : List (List ℕ)) (groups : List (List SetText)) (group : List SetText) : Type 0 where
  pub formed : All (All (IsSetText second)) groups
  pub group_formed : All (IsSetText second) group
  pub texts_are :
      take (length (script_texts groups) + length group) texts
      ≡ script_texts groups ++ map set_text group
  pub within : length (script_texts groups) + length group ≤ length texts

-- the line at the place is none that sets a value, and none that ends a group
pub record IsNoLine (second : Bool) (texts : List (List ℕ)) (place : ℕ) : Type 0 where
  pub text : List ℕ
  pub text_is : slice_get texts place ≡ Some text
  pub no_set : (set : SetText) → IsSetText second set → text ≢ set_text set
  pub no_commit : text ≢ commit_text

-- the line with this number, counted from 1, is the first that isn't of the form; or it is one past
-- the last one, where the text ends inside a group
pub record IsFirstWrong (second : Bool) (text : List ℕ) (number : ℕ) : Type 0 where
  pub groups : List (List SetText)
  pub group : List SetText
  pub begins : BeginsWith second (lines_of text) groups group
  pub number_is : number ≡ length (script_texts groups) + length group + 1
  pub wrong :
      IsNoLine second (lines_of text) (length (script_texts groups) + length group)
      ⊎ ((length (script_texts groups) + length group ≡ length (lines_of text)) × (group ≢ []))

-- what a fault tells of a text; want of memory tells nothing
abbrev pub Tells : (ℕ → Type 0) → ScriptFault → Type 0
Tells Wrong (faults.Line number) = Wrong number
Tells Wrong faults.NoMemory = Unit {0}
