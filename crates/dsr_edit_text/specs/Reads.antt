-- What a reader owes.
use Rattle.std.specs.Prelude.{◌≡◌, ◌≢◌, ◌+◌, ◌⊎◌, ℕ, Bool, List, [], Option, None, Some, Result, Ok, Err, Vec, All, length}
use Rattle.std.specs.declared.alloc.Global.{Global}
use Rattle.dsr_edit_text.specs.Scripts.{BeginsWith, IsNoLine, IsSetText, SetText, Tells, script_texts, set_text}
use Rattle.dsr_edit_text.specs.Shown.{shown, shown_groups}
use Rattle.dsr_edit_text.specs.declared.faults.ScriptFault.{ScriptFault}
use Rattle.dsr_edit_text.specs.declared.lines.SetLine.{SetLine}

-- the text is that of the line; none where it is that of no line that sets a value
abbrev pub ReadsSet : Bool → List ℕ → Option SetLine → Type 0
ReadsSet second text None = (set : SetText) → IsSetText second set → text ≢ set_text set
ReadsSet second text (Some set) = IsSetText second (shown set) × (text ≡ set_text (shown set))

-- the lines are those of a script of these groups
pub record AreScript (second : Bool) (texts : List (List ℕ)) (groups : List (List SetText)) : Type 0 where
  pub formed : All (All (IsSetText second)) groups
  pub texts_are : texts ≡ script_texts groups

-- the first line that isn't of the form has this number
pub record IsWrongAt (second : Bool) (texts : List (List ℕ)) (number : ℕ) : Type 0 where
  pub groups : List (List SetText)
  pub group : List SetText
  pub begins : BeginsWith second texts groups group
  pub number_is : number ≡ length (script_texts groups) + length group + 1
  pub wrong :
      IsNoLine second texts (length (script_texts groups) + length group)
      ⊎ ((length (script_texts groups) + length group ≡ length texts) × (group ≢ []))

-- the groups of all lines, or the first wrong line
abbrev pub ReadsGroups : Bool → List (List ℕ) → Result (Vec (Vec SetLine Global) Global) ScriptFault → Type 0
ReadsGroups second texts (Ok groups) = AreScript second texts (shown_groups groups.items)
ReadsGroups second texts (Err fault) = Tells (IsWrongAt second texts) fault
