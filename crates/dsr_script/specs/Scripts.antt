-- What a command does, as a script: which file it loads first, and what follows from the bytes that
-- came.
use Rattle.std.specs.Prelude.{◌≡◌, ℕ, List, [], ◌∷◌, Bool, true, false}
use Rattle.dsr_script.specs.declared.status.Verdict.{Verdict}

-- what a command says, and the text that goes with it
pub record Answer : Type 0 where
  pub verdict : Verdict
  pub text : List ℕ

-- what a command does next
pub data Next : Type 0 where
  -- loads the file of this name, which may have so many bytes: the long text is told where it has
  -- more
  Load : (name : List ℕ) (limit : ℕ) (long : List ℕ) → Next
  -- saves these bytes under the name, and tells the answer once that is done
  Save : (name bytes : List ℕ) (answer : Answer) → Next
  -- tells the answer
  Tell : (answer : Answer) → Next

-- a file that was loaded: its name and limit, what is told where it is longer, and the bytes that
-- came
pub record Came : Type 0 where
  pub name : List ℕ
  pub limit : ℕ
  pub long : List ℕ
  pub bytes : List ℕ

-- which files may come, the first one first, and what the command does next once they came
abbrev pub Script : Type 1
Script = List Came → Next → Type 0

-- a file is loaded, and what follows depends on its bytes
abbrev pub loads : List ℕ → ℕ → List ℕ → (List ℕ → Script) → Script
loads name limit long then [] next = next ≡ Load name limit long
loads name limit long then (came ∷ more) next =
    (came ≡ record { name = name; limit = limit; long = long; bytes = came.bytes })
    × then came.bytes more next

-- an answer that fits is told
abbrev pub tells : (Answer → Type 0) → Script
tells Fits [] next = (answer : Answer) × Fits answer × (next ≡ Tell answer)
tells Fits (came ∷ more) next = ⊥

-- bytes are saved under the name, and then an answer is told, where both fit
abbrev pub saves : List ℕ → (List ℕ → Answer → Type 0) → Script
saves name Fits [] next =
    (bytes : List ℕ) × (answer : Answer) × Fits bytes answer × (next ≡ Save name bytes answer)
saves name Fits (came ∷ more) next = ⊥

-- something that fits is picked once, and what follows depends on it
abbrev pub picks : {A : Type 0} → (A → Type 0) → (A → Script) → Script
picks Fits then came next = (x : _) × Fits x × then x came next

-- the first script where the test holds, and otherwise the second
abbrev pub chooses : Bool → Script → Script → Script
chooses true this other came next = this came next
chooses false this other came next = other came next
