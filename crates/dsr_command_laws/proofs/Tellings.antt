-- What a command has told that speaks, by its script and the files that a shelf tells.
use Rattle.std.proofs.Common.{◌≡◌, ◌≤◌, ◌⊎◌, ℕ, List, [], ◌∷◌, length, Some, IfSome, refl, sym, ap, subst, ◌∙◌, inl, inr}
use Rattle.std.proofs.lemmas.Option.{same_Some}
use Rattle.std.specs.FinMap.{get}
use Rattle.dsr_answers.specs.Refused.{IsMeaning, IsRefused, no_token, unexpected, past_limit, no_meaning}
use Rattle.dsr_command_theory.specs.Commands.{asked, goes_on, loads_spec, reads, spec_limit}
use Rattle.dsr_ir.specs.declared.declarations.Spec.{Spec}
use Rattle.dsr_compile_laws.specs.Meanings.{HaveOneMeaning}
use Rattle.dsr_compile.specs.Readings.{Interpretation, IsInterpretation, Means, Refused}
use Rattle.dsr_script.proofs.Laws.{never_at_load, said_at_tell}
use Rattle.dsr_script.specs.Outside.{IsWhole, Outside}
use Rattle.dsr_script.specs.Runs.{AllLoaded, Ends, Runs}
use Rattle.dsr_script.specs.Scripts.{Answer, Came, Next, Load, Script, Tell, loads, tells}
use Rattle.dsr_script.specs.declared.status.Status.TheVariants.{NoMemory, Said}
use Rattle.dsr_script.specs.declared.status.Verdict.{Verdict}
use Rattle.dsr_script.specs.declared.status.Verdict.TheVariants as verdicts
use Rattle.dsr_store.specs.Files.{Files}
use Rattle.dsr_store.specs.Written.{appended}
use Rattle.dsr_tree.specs.Trees.{TreeShape}
use Rattle.dsr_language_theory.specs.Specifications.{IsSpecificationOf, specification}

-- the answer was told with this verdict
pub record Speaks (before after : Outside) (verdict : Verdict) (answer : Answer) : Type 0 where
  pub says : verdict ≡ answer.verdict
  pub put : after.output.written ≡ appended before.output.written answer.text

-- the text was loaded, and refused
pub record RefusedRun (before after : Outside) (files : Files) (name : List ℕ) (verdict : Verdict) : Type 0 where
  pub text : List ℕ
  pub file : get files name ≡ Some text
  pub answer : Answer
  pub is_refused : IsRefused text answer
  pub speaks : Speaks before after verdict answer

-- the text was loaded, and means something
pub record ReadText (files : Files) (name : List ℕ) : Type 0 where
  pub text : List ℕ
  pub file : get files name ≡ Some text
  pub short : length text ≤ spec_limit
  pub tree : TreeShape
  pub meaning : IsMeaning text tree

-- the text was loaded and means something, and the command went on by its meaning
pub record BehindText (goes : TreeShape → Script) (before : Outside) (files : Files) (name : List ℕ) (next : Next) : Type 0 where
  pub read : ReadText files name
  pub more : List Came
  pub script : goes read.tree more next
  pub loaded : AllLoaded before more

-- or a second file was loaded then, and an answer was told that fits both
pub record SecondRun (limit : Spec → ℕ) (Fits : Spec → List ℕ → Answer → Type 0) (before after : Outside) (files : Files) (name second_name : List ℕ) (verdict : Verdict) : Type 0 where
  pub read : ReadText files name
  pub bytes : List ℕ
  pub file : get files second_name ≡ Some bytes
  pub short : length bytes ≤ limit (specification read.tree)
  pub answer : Answer
  pub fits : Fits (specification read.tree) bytes answer
  pub speaks : Speaks before after verdict answer

-- a file was loaded, and the command went on by its bytes
pub record LoadedRun (then_by : List ℕ → Script) (before : Outside) (files : Files) (name : List ℕ) (limit : ℕ) (next : Next) : Type 0 where
  pub bytes : List ℕ
  pub file : get files name ≡ Some bytes
  pub short : length bytes ≤ limit
  pub more : List Came
  pub script : then_by bytes more next
  pub loaded : AllLoaded before more

-- or an answer was told that fits its meaning
pub record ToldRun (Fits : TreeShape → Answer → Type 0) (before after : Outside) (files : Files) (name : List ℕ) (verdict : Verdict) : Type 0 where
  pub read : ReadText files name
  pub answer : Answer
  pub fits : Fits read.tree answer
  pub speaks : Speaks before after verdict answer

module _ (before after : Outside) (files : Files) (held : before.held ≡ Some files) (verdict : Verdict) where
  pub whole : (came : Came) (name : List ℕ) (limit : ℕ) → came.name ≡ name → came.limit ≡ limit
      → IsWhole before.held came.name came.limit came.bytes → (get files name ≡ Some came.bytes) × (length came.bytes ≤ limit)
  whole came name limit named limited loaded = (
    subst (λ n. get files n ≡ Some came.bytes) named
        (subst (λ o. IfSome o (λ fs. get fs came.name ≡ Some came.bytes)) held loaded.0),
    subst (λ n. length came.bytes ≤ n) limited loaded.1,
  )

  pub speaks_at : (answer : Answer) (next : Next) → next ≡ Tell answer → Ends before after (Said verdict) next
      → Speaks before after verdict answer
  speaks_at answer next is ends =
      let told = said_at_tell before after verdict answer (subst (Ends before after (Said verdict)) is ends) in
      record { says = told.1.0; put = told.1.1.1 }

  pub loads_never : (name : List ℕ) (limit : ℕ) (long : List ℕ) (next : Next) → next ≡ Load name limit long
      → Ends before after (Said verdict) next → ⊥
  loads_never name limit long next is ends =
      never_at_load before after verdict name limit long (subst (Ends before after (Said verdict)) is ends)

  -- a command that loads a file next
  pub load_told : (then_by : List ℕ → Script) (name : List ℕ) (limit : ℕ) (long : List ℕ) (came : List Came) (next : Next)
      → loads name limit long then_by came next → AllLoaded before came → Ends before after (Said verdict) next
      → LoadedRun then_by before files name limit next
  load_told then_by name limit long [] next script loaded ends = absurd (loads_never name limit long next script ends)
  load_told then_by name limit long (first ∷ more) next script loaded ends =
      let file = whole first name limit (ap (λ c. c.name) script.0) (ap (λ c. c.limit) script.0) loaded.0 in
      record {
        bytes = first.bytes;
        file = file.0;
        short = file.1;
        more = more;
        script = script.1;
        loaded = loaded.1;
      }

  pub tells_one : (Fits : Answer → Type 0) (came : List Came) (next : Next) → tells Fits came next
      → Ends before after (Said verdict) next
      → (answer : Answer) × Fits answer × Speaks before after verdict answer
  tells_one Fits [] next told ends = (told.0, told.1, speaks_at told.0 next told.2 ends)
  tells_one Fits (c ∷ more) next told ends = absurd told

  pub refused_at : (name : List ℕ) (first : Came) (more : List Came) (next : Next) (answer : Answer)
      → (get files name ≡ Some first.bytes) → IsRefused first.bytes answer → tells (λ told. told ≡ answer) more next
      → Ends before after (Said verdict) next → RefusedRun before after files name verdict
  refused_at name first more next answer file is told ends =
      let one = tells_one (λ told. told ≡ answer) more next told ends in
      record {
        text = first.bytes;
        file = file;
        answer = answer;
        is_refused = is;
        speaks = subst (Speaks before after verdict) one.1 one.2;
      }

  -- what a command does behind the text of a specification
  pub text_loaded : (goes : TreeShape → Script) (name : List ℕ) (came : List Came) (next : Next)
      → loads_spec name (λ text. reads text goes) came next → AllLoaded before came → Ends before after (Said verdict) next
      → RefusedRun before after files name verdict ⊎ BehindText goes before files name next
  text_loaded goes name [] next script loaded ends = absurd (loads_never name _ _ next script ends)
  text_loaded goes name (first ∷ more) next script loaded ends =
      let file = whole first name spec_limit (ap (λ c. c.name) script.0) (ap (λ c. c.limit) script.0) loaded.0 in
      by_found file script.1.0 script.1.1 script.1.2
    where
      by_found : (get files name ≡ Some first.bytes) × (length first.bytes ≤ spec_limit) → (found : Interpretation) → IsInterpretation first.bytes found
          → goes_on goes found more next
          → RefusedRun before after files name verdict ⊎ BehindText goes before files name next
      by_found file (Means tree) means rest =
          inr (record {
            read = record { text = first.bytes; file = file.0; short = file.1; tree = tree; meaning = means };
            more = more;
            script = rest;
            loaded = loaded.1;
          })
      by_found file (Refused answer) is rest = inl (refused_at name first more next answer file.0 is rest ends)

  -- a command that loads a second file behind the text of a specification
  module _ (limit : Spec → ℕ) (long : List ℕ) (Fits : Spec → List ℕ → Answer → Type 0) where
    abbrev pub loads_second : List ℕ → Spec → Script
    loads_second second_name spec = loads second_name (limit spec) long (λ bytes. tells (Fits spec bytes))

    pub second_of : (name second_name : List ℕ) (read : ReadText files name) (came : List Came) (next : Next)
        → loads_second second_name (specification read.tree) came next
        → AllLoaded before came → Ends before after (Said verdict) next
        → SecondRun limit Fits before after files name second_name verdict
    second_of name second_name read [] next script loaded ends = absurd (loads_never second_name _ _ next script ends)
    second_of name second_name read (second ∷ more) next script loaded ends =
        let file = whole second second_name (limit (specification read.tree)) (ap (λ c. c.name) script.0) (ap (λ c. c.limit) script.0) loaded.0 in
        let one = tells_one (Fits (specification read.tree) second.bytes) more next script.1 ends in
        record {
          read = read;
          bytes = second.bytes;
          file = file.0;
          short = file.1;
          answer = one.0;
          fits = one.1;
          speaks = one.2;
        }

    pub second_told : (name second_name : List ℕ) (came : List Came) (next : Next)
        → loads_spec name (λ text. reads text (λ tree. loads_second second_name (specification tree))) came next
        → AllLoaded before came → Ends before after (Said verdict) next
        → RefusedRun before after files name verdict ⊎ SecondRun limit Fits before after files name second_name verdict
    second_told name second_name came next script loaded ends =
        elim (text_loaded (λ tree. loads_second second_name (specification tree)) name came next script loaded ends) [
          | inl refused_run ↦ inl refused_run
          | inr behind ↦ inr (second_of name second_name behind.read behind.more next behind.script behind.loaded ends)
        ]

  -- a command that loads the text of a specification alone
  pub read_told : (Fits : TreeShape → Answer → Type 0) (name : List ℕ) (came : List Came) (next : Next)
      → loads_spec name (λ text. reads text (λ tree. tells (Fits tree))) came next
      → AllLoaded before came → Ends before after (Said verdict) next
      → RefusedRun before after files name verdict ⊎ ToldRun Fits before after files name verdict
  read_told Fits name came next script loaded ends =
      elim (text_loaded (λ tree. tells (Fits tree)) name came next script loaded ends) [
        | inl refused_run ↦ inl refused_run
        | inr behind ↦
            let one = tells_one (Fits behind.read.tree) behind.more next behind.script ends in
            inr (record { read = behind.read; answer = one.0; fits = one.1; speaks = one.2 })
      ]

-- ---- what a run is that speaks

-- files came as the script says, and the run ended by what is next
pub record Spoken (words : List (List ℕ)) (before after : Outside) (verdict : Verdict) : Type 0 where
  pub came : List Came
  pub next : Next
  pub script : asked words came next
  pub loaded : AllLoaded before came
  pub ends : Ends before after (Said verdict) next

pub spoken : (words : List (List ℕ)) (before after : Outside) (verdict : Verdict) → Runs (asked words) before after (Said verdict)
    → Spoken words before after verdict
spoken words before after verdict (inl stops) = let e : Said verdict ≡ NoMemory = stops.0 in absurd cc
spoken words before after verdict (inr run) =
    record { came = run.0; next = run.1; script = run.2; loaded = run.3; ends = run.4 }

pub refusal_verdict : (text : List ℕ) (answer : Answer) → IsRefused text answer → answer.verdict ≡ verdicts.SpecRefused
refusal_verdict text _ (no_token place is) = refl
refusal_verdict text _ (unexpected place is) = refl
refusal_verdict text _ (past_limit place is) = refl
refusal_verdict text _ (no_meaning tree condition place is told) = refl

-- a text that is refused is told so
pub refused_verdict : (before after : Outside) (files : Files) (name : List ℕ) (verdict : Verdict)
    → RefusedRun before after files name verdict → verdict ≡ verdicts.SpecRefused
refused_verdict before after files name verdict run =
    run.speaks.says ∙ refusal_verdict run.text run.answer run.is_refused

-- ---- texts of one name

-- what was read means the specification of its tree
pub meant : (files : Files) (name : List ℕ) (read : ReadText files name) → IsSpecificationOf read.text (specification read.tree)
meant files name read = record { tree = read.tree; is_tree = read.meaning.is_tree; no_fault = read.meaning.no_fault; is = refl }

module _ (once : HaveOneMeaning) (files : Files) (name text : List ℕ) (spec : Spec) (file : get files name ≡ Some text)
    (means : IsSpecificationOf text spec) where
  -- a text of this name that was read means the same
  pub means_same : (read : ReadText files name) → specification read.tree ≡ spec
  means_same read =
      let same : read.text ≡ text = same_Some read.text text (sym read.file ∙ file) in
      let tree : read.tree ≡ means.tree =
      once.unique text read.tree means.tree (subst (λ t. IsMeaning t read.tree) same read.meaning).is_tree means.is_tree in
      ap specification tree ∙ sym means.is

  -- and it isn't refused
  pub never_refused : (before after : Outside) (verdict : Verdict) → RefusedRun before after files name verdict → ⊥
  never_refused before after verdict run =
      let same : run.text ≡ text = same_Some run.text text (sym run.file ∙ file) in
      once.not_refused text means.tree run.answer (record { is_tree = means.is_tree; no_fault = means.no_fault })
      (subst (λ t. IsRefused t run.answer) same run.is_refused)
