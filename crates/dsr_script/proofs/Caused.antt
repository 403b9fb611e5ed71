-- What follows of how a run ended.
use Rattle.std.proofs.Common.{◌≡◌, ◌≢◌, ℕ, List, ◌⊎◌, inl, inr, sym, ap, ◌∙◌}
use Rattle.dsr_store.specs.Causes.{Rose}
use Rattle.dsr_script.specs.Causes.{Causes, Changes, LosesFile, OnlyTells}
use Rattle.dsr_script.specs.Outside.{Outside, Output, NoneFailed, Stands}
use Rattle.dsr_script.specs.Runs.{AllLoaded, Ends, Puts, Runs, Stops}
use Rattle.dsr_script.specs.Scripts.{Answer, Came, Script, Next, Load, Save, Tell}
use Rattle.dsr_script.specs.declared.status.Status.{Status}
use Rattle.dsr_script.specs.declared.status.Status.TheVariants.{Said, TooLong, StoreFailed, OutputFailed, NoMemory}

-- what a text that was put says
record Put (before after : Output) (says status : Status) : Type 0 where
  pub is : (other : Status) → status ≡ other → other ≢ OutputFailed → other ≢ NoMemory → says ≡ other
  pub output : status ≡ OutputFailed → Rose before.faults after.faults
  pub counted : status ≢ OutputFailed → after.faults ≡ before.faults
  pub no_memory : status ≡ NoMemory → after ≡ before

put : {before after : Output} {says status : Status} (text : List ℕ) → says ≢ OutputFailed → says ≢ NoMemory
    → Puts before after says text status → Put before after says status
put text o n (inl p) = record {
  is = λ other e _ _. sym p.0 ∙ e;
  output = λ e. absurd (o (sym p.0 ∙ e));
  counted = λ _. p.2;
  no_memory = λ e. absurd (n (sym p.0 ∙ e));
}
put text o n (inr (inl p)) = record {
  is = λ other e f _. absurd (f (sym e ∙ p.0));
  output = λ _. p.1;
  counted = λ f. absurd (f p.0);
  no_memory = λ e. let c : OutputFailed ≡ NoMemory = sym p.0 ∙ e in absurd cc;
}
put text o n (inr (inr p)) = record {
  is = λ other e _ f. absurd (f (sym e ∙ p.0));
  output = λ e. let c : NoMemory ≡ OutputFailed = sym p.0 ∙ e in absurd cc;
  counted = λ _. ap (λ (o : Output). o.faults) p.1;
  no_memory = λ _. p.1;
}

module _ (script : Script) (before after : Outside) (status : Status) where
  -- what became of the files
  abbrev Kept : Type 0
  Kept = (after.held ≡ before.held) ⊎ Changes script before after

  -- the text that was put says this
  abbrev Says : Status → Type 0
  Says says = Put before.output after.output says status

  -- no call of the shelf failed
  quiet : (says : Status) → NoneFailed before after → Kept → (says ≡ TooLong → Stands before after)
      → says ≢ StoreFailed → (OnlyTells script → Stands before after) → Says says
      → Causes script before after status
  quiet says calm kept long stored untouched p = record {
    said = λ v e. calm;
    long = λ e. long (p.is TooLong e (λ c. cc) (λ c. cc));
    store = λ e. absurd (stored (p.is StoreFailed e (λ c. cc) (λ c. cc)));
    marked = inl calm;
    output = p.output;
    counted = p.counted;
    no_memory = p.no_memory;
    files = kept;
    untouched = untouched;
  }

  -- a call of the shelf failed
  lost : LosesFile script before after → Kept → (OnlyTells script → ⊥) → Says StoreFailed
      → Causes script before after status
  lost loses kept busy p = record {
    said = λ v e. let c : StoreFailed ≡ Said v = p.is (Said v) e (λ c. cc) (λ c. cc) in absurd cc;
    long = λ e. let c : StoreFailed ≡ TooLong = p.is TooLong e (λ c. cc) (λ c. cc) in absurd cc;
    store = λ _. loses;
    marked = inr loses;
    output = p.output;
    counted = p.counted;
    no_memory = p.no_memory;
    files = kept;
    untouched = λ only. absurd (busy only);
  }

  -- memory ran out before anything was told
  stopped : Stops before after status → Causes script before after status
  stopped stops =
      let calm : NoneFailed before after = record {
        faults = ap (λ (o : Outside). o.faults) stops.1;
        last = ap (λ (o : Outside). o.last) stops.1;
      } in
      let same : after.held ≡ before.held = ap (λ (o : Outside). o.held) stops.1 in
      let stands : Stands before after = record { held = same; calm = calm } in
      record {
        said = λ v e. calm;
        long = λ e. stands;
        store = λ e. let c : NoMemory ≡ StoreFailed = sym stops.0 ∙ e in absurd cc;
        marked = inl calm;
        output = λ e. let c : NoMemory ≡ OutputFailed = sym stops.0 ∙ e in absurd cc;
        counted = λ _. ap (λ (o : Outside). o.output.faults) stops.1;
        no_memory = λ _. ap (λ (o : Outside). o.output) stops.1;
        files = inl stands.held;
        untouched = λ only. stands;
      }

  -- a script that loads does more than tell
  loads_some : (came : List Came) (name : List ℕ) (limit : ℕ) (long : List ℕ)
      → script came (Load name limit long) → OnlyTells script → ⊥
  loads_some came name limit long due only =
      let o = only came (Load name limit long) due in let c : Load name limit long ≡ Tell o.0 = o.1 in cc

  -- and so does one that saves
  saves_some : (came : List Came) (name bytes : List ℕ) (answer : Answer)
      → script came (Save name bytes answer) → OnlyTells script → ⊥
  saves_some came name bytes answer due only =
      let o = only came (Save name bytes answer) due in let c : Save name bytes answer ≡ Tell o.0 = o.1 in cc

  -- the causes of an end by what is next
  caused_by : (came : List Came) (next : Next) → AllLoaded before came → script came next
      → Ends before after status next → Causes script before after status
  caused_by came (Load name limit long) all due (inl e) =
      lost (inl (name, (came, limit, long, all, due), e.0)) (inl e.0.held)
      (loads_some came name limit long due) (put _ (λ c. cc) (λ c. cc) e.1)
  caused_by came (Load name limit long) all due (inr e) =
      quiet TooLong e.1.calm (inl e.1.held) (λ _. e.1) (λ c. cc) (λ _. e.1) (put _ (λ c. cc) (λ c. cc) e.2)
  caused_by came (Save name bytes answer) all due (inl e) =
      lost (inr (name, bytes, (came, answer, all, due), e.0))
      (inr (name, bytes, (came, answer, all, due), inr e.0))
      (saves_some came name bytes answer due) (put _ (λ c. cc) (λ c. cc) e.1)
  caused_by came (Save name bytes answer) all due (inr e) =
      quiet (Said answer.verdict) e.0.calm (inr (name, bytes, (came, answer, all, due), inl e.0))
      (λ c. absurd cc) (λ c. cc) (λ only. absurd (saves_some came name bytes answer due only))
      (put _ (λ c. cc) (λ c. cc) e.1)
  caused_by came (Tell answer) all due e =
      quiet (Said answer.verdict) e.0.calm (inl e.0.held) (λ c. absurd cc) (λ c. cc) (λ _. e.0)
      (put _ (λ c. cc) (λ c. cc) e.1)

  -- a run has the causes of its end
  pub caused : Runs script before after status → Causes script before after status
  caused (inl s) = stopped s
  caused (inr r) = caused_by r.0 r.1 r.3 r.2 r.4
