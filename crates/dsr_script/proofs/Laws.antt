-- What a command's own theorem takes from a run: how a run ends in which the command spoke.
use Rattle.std.proofs.Common.{◌≡◌, ℕ, List, [], ◌∷◌, inl, inr}
use Rattle.dsr_script.specs.Causes.{OnlyTells}
use Rattle.dsr_script.specs.Outside.{Outside, Output, IsSaved, Stands}
use Rattle.dsr_script.specs.Runs.{Ends, IsPut, Puts}
use Rattle.dsr_script.specs.Scripts.{Answer, Load, Save, Tell, tells}
use Rattle.dsr_script.specs.declared.status.Status.{Status}
use Rattle.dsr_script.specs.declared.status.Status.TheVariants.{Said, TooLong, StoreFailed, OutputFailed, NoMemory}
use Rattle.dsr_script.specs.declared.status.Verdict.{Verdict}

-- what tells an answer does nothing else
pub only_tells : (Fits : Answer → Type 0) → OnlyTells (tells Fits)
only_tells Fits [] next told = (told.0, told.2)
only_tells Fits (came ∷ more) next told = absurd told

-- where the command spoke, the text was put whole
pub put_whole : (before after : Output) (says : Status) (text : List ℕ) (verdict : Verdict)
    → Puts before after says text (Said verdict) → IsPut before after says text (Said verdict)
put_whole before after says text verdict (inl put) = put
put_whole before after says text verdict (inr (inl cut)) =
    let c : Said verdict ≡ OutputFailed = cut.0 in absurd cc
put_whole before after says text verdict (inr (inr stops)) =
    let c : Said verdict ≡ NoMemory = stops.0 in absurd cc

module _ (before after : Outside) (verdict : Verdict) where
  -- the command spoke by this answer, whose text was put whole
  abbrev pub IsTold : Answer → Type 0
  IsTold answer =
      (verdict ≡ answer.verdict)
      × IsPut before.output after.output (Said answer.verdict) answer.text (Said verdict)

  -- where the command spoke, each file that it asked for came
  pub never_at_load : (name : List ℕ) (limit : ℕ) (long : List ℕ)
      → Ends before after (Said verdict) (Load name limit long) → ⊥
  never_at_load name limit long (inl e) =
      let put = put_whole before.output after.output StoreFailed _ verdict e.1 in
      let c : Said verdict ≡ StoreFailed = put.0 in cc
  never_at_load name limit long (inr e) =
      let put = put_whole before.output after.output TooLong long verdict e.2 in
      let c : Said verdict ≡ TooLong = put.0 in cc

  -- it saved what it says, and then told its answer
  pub said_at_save : (name bytes : List ℕ) (answer : Answer)
      → Ends before after (Said verdict) (Save name bytes answer)
      → IsSaved before after name bytes × IsTold answer
  said_at_save name bytes answer (inl e) =
      let put = put_whole before.output after.output StoreFailed _ verdict e.1 in
      let c : Said verdict ≡ StoreFailed = put.0 in absurd cc
  said_at_save name bytes answer (inr e) =
      let put = put_whole before.output after.output (Said answer.verdict) answer.text verdict e.1 in
      let c : Said verdict ≡ Said answer.verdict = put.0 in (e.0, (cc, put))

  -- it told its answer, and the shelf is as it was
  pub said_at_tell : (answer : Answer) → Ends before after (Said verdict) (Tell answer)
      → Stands before after × IsTold answer
  said_at_tell answer e =
      let put = put_whole before.output after.output (Said answer.verdict) answer.text verdict e.1 in
      let c : Said verdict ≡ Said answer.verdict = put.0 in (e.0, (cc, put))
