-- The run of a script, by what a shelf and an output tell before it and after it.
use Rattle.std.specs.Prelude.{◌≡◌, ◌⊎◌, ℕ, List, [], ◌∷◌, ⊤, codes}
use Rattle.dsr_store.specs.Causes.{Rose}
use Rattle.dsr_store.specs.Written.{appended, AppendsFront}
use Rattle.dsr_script.specs.Outside.{Outside, Output, IsWhole, IsLonger, IsMissing, IsSaved, IsUnsaved, Stands}
use Rattle.dsr_script.specs.Scripts.{Answer, Came, Script, Next, Load, Save, Tell}
use Rattle.dsr_script.specs.declared.status.Status.{Status}
use Rattle.dsr_script.specs.declared.status.Status.TheVariants.{Said, TooLong, StoreFailed, OutputFailed, NoMemory}

-- memory ran out, and all is as it was
abbrev pub Stops : {A : Type 0} → A → A → Status → Type 0
Stops before after status = (status ≡ NoMemory) × (after ≡ before)

-- the text is put whole, and this status is told
abbrev pub IsPut : Output → Output → Status → List ℕ → Status → Type 0
IsPut before after says text status =
    (status ≡ says) × (after.written ≡ appended before.written text) × (after.faults ≡ before.faults)

-- the output failed, and only a front of the text is put
abbrev pub IsCut : Output → Output → List ℕ → Status → Type 0
IsCut before after text status =
    (status ≡ OutputFailed) × Rose before.faults after.faults × AppendsFront before.written after.written text

-- the text is put and this status told, or the output failed, or memory ran out and nothing is put
abbrev pub Puts : Output → Output → Status → List ℕ → Status → Type 0
Puts before after says text status =
    IsPut before after says text status ⊎ IsCut before after text status ⊎ Stops before after status

-- what is put where a file can't be loaded or saved
abbrev pub store_failed : List ℕ
store_failed = codes "store failed\n"

-- it is told that the store failed
abbrev pub TellsFailure : Outside → Outside → Status → Type 0
TellsFailure before after status = Puts before.output after.output StoreFailed store_failed status

-- the answer is told
abbrev pub TellsAnswer : Outside → Outside → Status → Answer → Type 0
TellsAnswer before after status answer =
    Puts before.output after.output (Said answer.verdict) answer.text status

-- how a run ends that does this next
abbrev pub Ends : Outside → Outside → Status → Next → Type 0
Ends before after status (Load name limit long) =
    (IsMissing before after name × TellsFailure before after status)
    ⊎ (IsLonger before.held name limit × Stands before after
    × Puts before.output after.output TooLong long status)
Ends before after status (Save name bytes answer) =
    (IsUnsaved before after name × TellsFailure before after status)
    ⊎ (IsSaved before after name bytes × TellsAnswer before after status answer)
Ends before after status (Tell answer) = Stands before after × TellsAnswer before after status answer

-- a run ends that does this next, or memory ran out before it told anything
abbrev pub Halts : Outside → Outside → Status → Next → Type 0
Halts before after status next = Stops before after status ⊎ Ends before after status next

-- the bytes that came are the whole file, which is within its limit
abbrev pub IsLoaded : Outside → Came → Type 0
IsLoaded before came = IsWhole before.held came.name came.limit came.bytes

-- each of these files is whole
abbrev pub AllLoaded : Outside → List Came → Type 0
AllLoaded before [] = ⊤
AllLoaded before (came ∷ more) = IsLoaded before came × AllLoaded before more

-- the run of a script: files came whole as it says, and the run ended by what is next; or memory
-- ran out
abbrev pub Runs : Script → Outside → Outside → Status → Type 0
Runs script before after status =
    Stops before after status
    ⊎ ((came : List Came) × (next : Next) × script came next × AllLoaded before came
    × Ends before after status next)

-- however the second script runs on from the middle, the first one runs so from before
abbrev pub Continues : Script → Outside → Script → Outside → Type 0
Continues script before then middle =
    (after : Outside) (status : Status) → Runs then middle after status → Runs script before after status
