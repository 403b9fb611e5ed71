-- What each end of a run says of a shelf and an output.
use Rattle.std.specs.Prelude.{◌≡◌, ◌≢◌, ◌⊎◌, ℕ, List}
use Rattle.dsr_store.specs.Causes.{Rose}
use Rattle.dsr_script.specs.Outside.{Outside, IsMissing, IsSaved, IsUnsaved, NoneFailed, Stands}
use Rattle.dsr_script.specs.Runs.{AllLoaded}
use Rattle.dsr_script.specs.Scripts.{Answer, Came, Script, Next, Load, Save, Tell}
use Rattle.dsr_script.specs.declared.status.Verdict.{Verdict}
use Rattle.dsr_script.specs.declared.status.Status.{Status}
use Rattle.dsr_script.specs.declared.status.Status.TheVariants as statuses

-- once files came whole, the script loads a file of this name
abbrev pub Asks : Script → Outside → List ℕ → Type 0
Asks script before name =
    (came : List Came) × (limit : ℕ) × (long : List ℕ) × AllLoaded before came
    × script came (Load name limit long)

-- once files came whole, the script saves these bytes under this name
abbrev pub Offers : Script → Outside → List ℕ → List ℕ → Type 0
Offers script before name bytes =
    (came : List Came) × (answer : Answer) × AllLoaded before came × script came (Save name bytes answer)

-- whatever files came, the script does nothing but tell
abbrev pub OnlyTells : Script → Type 0
OnlyTells script =
    (came : List Came) (next : Next) → script came next → (answer : Answer) × (next ≡ Tell answer)

-- a file that the script loads couldn't be loaded, or one that it saves couldn't be saved
abbrev pub LosesFile : Script → Outside → Outside → Type 0
LosesFile script before after =
    ((name : List ℕ) × Asks script before name × IsMissing before after name)
    ⊎ ((name : List ℕ) × (bytes : List ℕ) × Offers script before name bytes × IsUnsaved before after name)

-- a file that the script saves was saved, or that failed; each other file stands
abbrev pub Changes : Script → Outside → Outside → Type 0
Changes script before after =
    (name : List ℕ) × (bytes : List ℕ) × Offers script before name bytes
    × (IsSaved before after name bytes ⊎ IsUnsaved before after name)

-- what follows of how a run ended
pub record Causes (script : Script) (before after : Outside) (status : Status) : Type 0 where
  -- where the command spoke, no call of the shelf failed
  pub said : (verdict : Verdict) → status ≡ statuses.Said verdict → NoneFailed before after
  -- where a file is too long, the shelf is as it was
  pub long : status ≡ statuses.TooLong → Stands before after
  -- the store is said to have failed only where it did so to a file of the script
  pub store : status ≡ statuses.StoreFailed → LosesFile script before after
  -- whatever is told, a call of the shelf failed only for a file of the script
  pub marked : NoneFailed before after ⊎ LosesFile script before after
  -- the output is said to have failed only where it counted a failure
  pub output : status ≡ statuses.OutputFailed → Rose before.output.faults after.output.faults
  -- a failure of the output is always told
  pub counted : status ≢ statuses.OutputFailed → after.output.faults ≡ before.output.faults
  -- where memory ran out, nothing was put
  pub no_memory : status ≡ statuses.NoMemory → after.output ≡ before.output
  -- whatever is told, only a file that the script saves was changed
  pub files : (after.held ≡ before.held) ⊎ Changes script before after
  -- a script that does nothing but tell leaves the shelf as it was
  pub untouched : OnlyTells script → Stands before after
