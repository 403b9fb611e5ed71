-- The moves of a command, as a script.
use Rattle.std.specs.Prelude.{◌≡◌, ◌+◌, ℕ, List, [], ◌∷◌, ⊤, ◌≤◌, length}
use Rattle.dsr_script.specs.declared.moves.Told.{Told}
use Rattle.dsr_script.specs.declared.moves.Move.{Move}
use Rattle.dsr_script.specs.declared.moves.Move.TheVariants as moves
use Rattle.dsr_script.specs.Scripts.{Answer, Came, Next, Load, Save, Tell, Script, loads, saves, tells}

-- what is told, as an answer
abbrev pub shown : Told → Answer
shown told = record { verdict = told.verdict; text = told.text.items }

-- the script of a move, where a stage goes on so from the bytes that come
abbrev pub script_of : {S : Type 0} → (S → List ℕ → Script) → Move S → Script
script_of due (moves.Load name limit long stage) = loads name.now limit long.now (due stage)
script_of due (moves.Save name bytes told) = saves name.now (λ b a. (b ≡ bytes.items) × (a ≡ shown told))
script_of due (moves.Tell told) = tells (λ a. a ≡ shown told)

-- a stage that the move leaves waiting is ready for each file within the limit
abbrev pub IsReady : {S : Type 0} → (S → List ℕ → Type 0) → Move S → Type 0
IsReady ready (moves.Load name limit long stage) =
    (bytes : List ℕ) → length bytes ≤ limit → ready stage bytes
IsReady ready (moves.Save name bytes told) = ⊤
IsReady ready (moves.Tell told) = ⊤

-- the most files that may be loaded from this move on, where a stage has so many left
abbrev pub loads_of : {S : Type 0} → (S → ℕ) → Move S → ℕ
loads_of left (moves.Load name limit long stage) = left stage + 1
loads_of left (moves.Save name bytes told) = 0
loads_of left (moves.Tell told) = 0

-- the script allows all that its second part does, once this file came
abbrev pub Allows : Script → Came → Script → Type 0
Allows script came then = (more : List Came) (next : Next) → then more next → script (came ∷ more) next

-- the script allows the move, and all that may come after it
abbrev pub Follows : {S : Type 0} → (S → List ℕ → Script) → Script → Move S → Type 0
Follows due script (moves.Load name limit long stage) =
    script [] (Load name.now limit long.now)
    × ((bytes : List ℕ) → Allows script
    (record { name = name.now; limit = limit; long = long.now; bytes = bytes }) (due stage bytes))
Follows due script (moves.Save name bytes told) = script [] (Save name.now bytes.items (shown told))
Follows due script (moves.Tell told) = script [] (Tell (shown told))
