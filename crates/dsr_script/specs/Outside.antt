-- What a shelf and an output tell, and what is so of a shelf before a call and after it.
use Rattle.std.specs.Prelude.{◌≡◌, ◌⊎◌, ◌≤◌, ◌<◌, ℕ, List, length, true, false}
use Rattle.std.specs.Prelude.{Option, Some, IfSome, IsSomeAnd}
use Rattle.std.specs.FinMap.{get}
use Rattle.dsr_store.specs.Causes.{Rose}
use Rattle.dsr_store.specs.Files.{Files, Lacks, OthersStand, with_file}
use Rattle.dsr_store.specs.declared.outside.Missed.{Missed}
use Rattle.dsr_store.specs.declared.outside.Shelf
use Rattle.dsr_store.specs.declared.outside.Sink

-- what an output tells: all that was written, where it tells that, and a count of failures
pub record Output : Type 0 where
  pub written : Option (List ℕ)
  pub faults : ℕ

-- what a shelf tells, and what an output tells
pub record Outside : Type 0 where
  -- the files, where the shelf tells them
  pub held : Option Files
  -- the shelf's count of failures
  pub faults : ℕ
  -- the shelf's last call that failed
  pub last : Option Missed
  pub output : Output

-- what this output tells
abbrev pub output_of : {O : Type 0} → Sink.Ghosts O → O → Output
output_of sink out = record { written = sink.written out; faults = sink.faults out }

-- what this shelf and this output tell
abbrev pub told_by : {F O : Type 0} → Shelf.Ghosts F → Sink.Ghosts O → F → O → Outside
told_by tells sink shelf out = record {
  held = tells.held shelf;
  faults = tells.faults shelf;
  last = tells.last shelf;
  output = output_of sink out;
}

-- where the files are told: these bytes are the whole file of the name; they are at most so many
abbrev pub IsWhole : Option Files → List ℕ → ℕ → List ℕ → Type 0
IsWhole held name limit bytes = IfSome held (λ files. get files name ≡ Some bytes) × (length bytes ≤ limit)

-- where the files are told: the file of the name has more bytes than the limit
abbrev pub IsLonger : Option Files → List ℕ → ℕ → Type 0
IsLonger held name limit = IfSome held (λ files. IsSomeAnd (get files name) (λ whole. limit < length whole))

-- no call of the shelf failed
pub record NoneFailed (before after : Outside) : Type 0 where
  pub faults : after.faults ≡ before.faults
  pub last : after.last ≡ before.last

-- the shelf is as it was: nothing was saved, and no call failed
pub record Stands (before after : Outside) : Type 0 where
  pub held : after.held ≡ before.held
  pub calm : NoneFailed before after

-- the load of this name failed, and was the shelf's last call to fail
pub record IsMissing (before after : Outside) (name : List ℕ) : Type 0 where
  pub held : after.held ≡ before.held
  pub last : after.last ≡ Some (record { saving = false; name = name })
  -- a failure was counted, or the files are told and there is none of that name
  pub cause : Rose before.faults after.faults ⊎ Lacks before.held name

-- these bytes were saved under the name, and no call failed
pub record IsSaved (before after : Outside) (name bytes : List ℕ) : Type 0 where
  pub held : after.held ≡ with_file before.held name bytes
  pub calm : NoneFailed before after

-- the save under this name failed, and was the shelf's last call to fail: each other file stands
pub record IsUnsaved (before after : Outside) (name : List ℕ) : Type 0 where
  pub others : OthersStand before.held after.held name
  pub last : after.last ≡ Some (record { saving = true; name = name })
  pub cause : Rose before.faults after.faults
