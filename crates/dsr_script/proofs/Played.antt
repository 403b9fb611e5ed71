-- How a run goes on after a move.
use Rattle.std.proofs.Common.{◌≡◌, ℕ, List, [], ◌∷◌, inl, inr, refl, sym, subst}
use Rattle.dsr_script.specs.Moves.{script_of, Follows}
use Rattle.dsr_script.specs.Outside.{Outside}
use Rattle.dsr_script.specs.Runs.{AllLoaded, Continues, Ends, Halts, IsLoaded, Runs, Stops}
use Rattle.dsr_script.specs.Scripts.{Came, Script, Next, loads}
use Rattle.dsr_script.specs.declared.moves.Move.{Move}
use Rattle.dsr_script.specs.declared.moves.Move.TheVariants as moves
use Rattle.dsr_script.specs.declared.status.Status.{Status}

-- a run that ends by what is due at once
pub at_once : (script : Script) (next : Next) (before after : Outside) (status : Status) → script [] next
    → Halts before after status next → Runs script before after status
at_once script next before after status due (inl stops) = inl stops
at_once script next before after status due (inr ends) = inr ([], next, due, tt, ends)

module _ {S : Type 0} (due : S → List ℕ → Script) where
  -- a script allows all that a move which follows does
  allowed : (script : Script) (move : Move S) → Follows due script move
      → (came : List Came) (next : Next) → script_of due move came next → script came next
  allowed script (moves.Load name limit long stage) f [] next h = subst (script []) (sym h) f.0
  allowed script (moves.Load name limit long stage) f (c ∷ more) next h = rw h.0 (f.1 c.bytes more next h.1)
  allowed script (moves.Save name bytes told) f [] next h = rw (h.3, h.2.0, h.2.1) f
  allowed script (moves.Save name bytes told) f (c ∷ more) next h = absurd h
  allowed script (moves.Tell told) f [] next h = rw (h.2, h.1) f
  allowed script (moves.Tell told) f (c ∷ more) next h = absurd h

  -- a run of a move that follows is one of the script
  pub runs_so : (script : Script) (move : Move S) (before : Outside) → Follows due script move
      → Continues script before (script_of due move) before
  runs_so script move before f after status (inl stops) = inl stops
  runs_so script move before f after status (inr r) =
      inr (r.0, r.1, allowed script move f r.0 r.1 r.2, r.3, r.4)

  -- a run of a move behind a load, which changed nothing, is one of the script that loads
  pub runs_on : (came : Came) (stage : S) (move : Move S) (before middle : Outside) → IsLoaded before came
      → Follows due (due stage came.bytes) move → middle ≡ before
      → Continues (loads came.name came.limit came.long (due stage)) before (script_of due move) middle
  runs_on came stage move before middle loaded f same after status (inl stops) =
      inl (subst (λ o. Stops o after status) same stops)
  runs_on came stage move before middle loaded f same after status (inr r) = inr (
    came ∷ r.0,
    r.1,
    (refl, allowed (due stage came.bytes) move f r.0 r.1 r.2),
    (loaded, subst (λ o. AllLoaded o r.0) same r.3),
    subst (λ o. Ends o after status r.1) same r.4,
  )
