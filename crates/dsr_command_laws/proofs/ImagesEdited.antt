-- A run that speaks has edited the image that it was asked to edit, or tells why not.
use Rattle.std.proofs.Common.{◌≡◌, ◌≢◌, ◌≤◌, ◌⊎◌, ◌∙◌, ℕ, List, [], ◌∷◌, length, codes, Some, refl, sym, ap, subst, inl, inr}
use Rattle.std.proofs.lemmas.Option.{same_Some}
use Rattle.std.specs.FinMap.{get}
use Rattle.dsr_answers.specs.Texts.{verdict_answer}
use Rattle.dsr_command_edit.specs.Edited.{IsEditOf, broken_answer, edited_answer, unread_answer, unwritable_answer}
use Rattle.dsr_command_edit.specs.Edited.IsEditOf.{broken as edit_broken, edited as edit_edited, unread as edit_unread, unwritable as edit_unwritable}
use Rattle.dsr_command_edit.specs.Opened.{IsOpen, IsOpening, Opening, Opens, Refuses}
use Rattle.dsr_command_edit.specs.Opened.IsOpening.{inconsistent, open_to, unlaid}
use Rattle.dsr_command_edit.proofs.Once.{edit_once}
use Rattle.dsr_command_image.specs.Repaired.{Ending, Saves, Tells}
use Rattle.dsr_command_laws.proofs.FactsExplained.{one_layout}
use Rattle.dsr_command_laws.proofs.ImagesRepaired.{IsEnded, differs, ended_at, none_first}
use Rattle.dsr_command_laws.proofs.Tellings.{ReadText, RefusedRun, Speaks, load_told, means_same, meant, never_refused, refused_verdict, spoken, text_loaded}
use Rattle.dsr_command_laws.specs.EditHeadlines.{EditsImages, EditsNothingElse, HasEnded, IsEditVerdict, IsInconsistent, IsToEdit, WasUnedited}
use Rattle.dsr_command_laws.specs.EditHeadlines.WasUnedited.{broken, unread, unwritable}
use Rattle.dsr_command_laws.specs.Repairs.{HasLayout}
use Rattle.dsr_command_theory.specs.Commands.{asked, edits, image_limit, loads_edited, loads_script, loads_spec, opens, reads, script_limit, script_of}
use Rattle.dsr_compile_laws.specs.Meanings.{HaveOneMeaning}
use Rattle.dsr_ir.specs.declared.declarations.Spec.{Spec}
use Rattle.dsr_ir.specs.declared.layouts.Layout.{Layout}
use Rattle.dsr_language_theory.specs.Specifications.{specification}
use Rattle.dsr_meaning.specs.Consistency.{BoundConstraint, IsConsistent}
use Rattle.dsr_meaning.specs.Counting.{IsIn}
use Rattle.dsr_meaning.specs.Refusals.{refusals}
use Rattle.dsr_script.proofs.Laws.{said_at_tell}
use Rattle.dsr_script.specs.Outside.{Outside, Stands}
use Rattle.dsr_script.specs.Runs.{AllLoaded, Ends, Runs}
use Rattle.dsr_script.specs.Scripts.{Answer, Came, Next}
use Rattle.dsr_script.specs.declared.status.Status.{Status}
use Rattle.dsr_script.specs.declared.status.Status.TheVariants.{Said}
use Rattle.dsr_script.specs.declared.status.Verdict.{Verdict}
use Rattle.dsr_script.specs.declared.status.Verdict.TheVariants as verdicts
use Rattle.dsr_store.specs.Files.{Files}

abbrev too_long_image : List ℕ
too_long_image = codes "too long image\n"

abbrev too_long_script : List ℕ
too_long_script = codes "too long script\n"

-- ---- what came of an edit

-- the image isn't opened, or the script was loaded, and the edit ended
record EditRun (files : Files) (spec_name image_name script_name name : List ℕ) (before after : Outside) (verdict : Verdict) : Type 0 where
  read : ReadText files spec_name
  image : List ℕ
  image_file : get files image_name ≡ Some image
  short_image : length image ≤ image_limit (specification read.tree)
  opening : Opening
  is_opening : IsOpening (specification read.tree) image opening
  done :
      ((answer : Answer) × (opening ≡ Refuses answer) × Stands before after × Speaks before after verdict answer)
      ⊎ ((opening ≡ Opens) × (script : List ℕ) × (get files script_name ≡ Some script) × (length script ≤ script_limit)
      × (ending : Ending) × IsEditOf (specification read.tree) image script ending × IsEnded name before after verdict ending)

module _ (before after : Outside) (files : Files) (held : before.held ≡ Some files) (verdict : Verdict) (image_name script_name name : List ℕ) where
  opened_at : (spec : Spec) (image : List ℕ) (opening : Opening) (came : List Came) (next : Next)
      → loads_script script_name name spec image opening came next → AllLoaded before came → Ends before after (Said verdict) next
      → ((answer : Answer) × (opening ≡ Refuses answer) × Stands before after × Speaks before after verdict answer)
      ⊎ ((opening ≡ Opens) × (script : List ℕ) × (get files script_name ≡ Some script) × (length script ≤ script_limit)
      × (ending : Ending) × IsEditOf spec image script ending × IsEnded name before after verdict ending)
  opened_at spec image Opens came next script loaded at =
      let one = load_told before after files held verdict (edits name spec image) script_name script_limit too_long_script came next script loaded at in
      inr (
        refl,
        one.bytes,
        one.file,
        one.short,
        one.script.0,
        one.script.1,
        ended_at before after files held verdict [] name one.script.0 one.more next one.script.2 at,
      )
  opened_at spec image (Refuses answer) [] next told loaded at =
      let said = said_at_tell before after verdict told.0 (subst (Ends before after (Said verdict)) told.2 at) in
      inl (answer, refl, said.0, subst (Speaks before after verdict) told.1 (record { says = said.1.0; put = said.1.1.1 }))
  opened_at spec image (Refuses answer) (c ∷ more) next told loaded at = absurd told

  edit_told : (spec_name : List ℕ) (came : List Came) (next : Next)
      → loads_spec spec_name (λ text. reads text (λ tree. loads_edited image_name script_name name (specification tree))) came next
      → AllLoaded before came → Ends before after (Said verdict) next
      → RefusedRun before after files spec_name verdict ⊎ EditRun files spec_name image_name script_name name before after verdict
  edit_told spec_name came next script loaded at =
      elim (text_loaded before after files held verdict (λ tree. loads_edited image_name script_name name (specification tree)) spec_name came next script loaded at) [
        | inl refused_run ↦ inl refused_run
        | inr behind ↦
            let spec = specification behind.read.tree in
            let one = load_told before after files held verdict (opens script_name name spec) image_name (image_limit spec) too_long_image behind.more next behind.script behind.loaded at in
            inr (record {
              read = behind.read;
              image = one.bytes;
              image_file = one.file;
              short_image = one.short;
              opening = one.script.0;
              is_opening = one.script.1;
              done = opened_at spec one.bytes one.script.0 one.more next one.script.2 one.loaded at;
            })
      ]

-- ---- the verdict

violated_some : (vs : List BoundConstraint) → vs ≢ [] → (v : BoundConstraint) × (rest : List BoundConstraint) × (vs ≡ v ∷ rest)
violated_some [] some = absurd (some refl)
violated_some (v ∷ rest) some = (v, rest, refl)

module _ (spec : Spec) (image script name : List ℕ) (before after : Outside) (verdict : Verdict) where
  -- there is no other ending
  has_ended : (ending : Ending) → IsEnded name before after verdict ending → HasEnded name before after verdict ending
  has_ended (Saves bytes answer) ended = (ended.0, ended.1.says, ended.1.put)
  has_ended (Tells answer) ended = (ended.0, ended.1.says, ended.1.put)

  ended_so : (ending : Ending) → IsEditOf spec image script ending → IsEnded name before after verdict ending
      → (other : Ending) → IsEditOf spec image script other → HasEnded name before after verdict other
  ended_so ending is ended other its = subst (HasEnded name before after verdict) (edit_once spec image script ending other is its) (has_ended ending ended)

  refused_verdict_of : (answer : Answer) → IsOpening spec image (Refuses answer) → Stands before after → Speaks before after verdict answer
      → IsEditVerdict spec image script name before after verdict
  refused_verdict_of _ (unlaid refusal first) stands speaks =
      let says : verdict ≡ verdicts.LayoutRefused = speaks.says in
      let none : HasLayout spec image → ⊥ = λ laid. none_first (refusals spec image) refusal laid.1.accepted first in
      record {
        no_layout = (λ _. none, λ _. says);
        inconsistent = (differs verdict says (λ e. cc), λ is. absurd (none (is.0, is.1)));
        otherwise = λ layout is. absurd (none (layout, is.image_of.layout_is));
        unlaid = λ _. record { refusal = refusal; first = first; stands = stands; told = speaks.put };
        unopened = differs verdict says (λ e. cc);
        edited = differs verdict says (λ e. cc);
        unedited = differs verdict says (λ e. cc);
        exactly = λ layout is. absurd (none (layout, is.image_of.layout_is));
      }
  refused_verdict_of _ (inconsistent layout vs laid exactly some) stands speaks =
      let first = violated_some vs some in
      let says : verdict ≡ verdicts.Inconsistent = speaks.says ∙ ap (λ vs. (verdict_answer spec vs).verdict) first.2 in
      let unsound : IsConsistent spec layout image → ⊥ = λ all. all first.0 (exactly.only first.0 (subst (IsIn first.0) (sym first.2) (inl refl))) in
      record {
        no_layout = (differs verdict says (λ e. cc), λ none. absurd (none (layout, laid)));
        inconsistent = (λ _. (layout, laid, unsound), λ _. says);
        otherwise = λ other is.
            absurd (unsound (subst (λ l. IsConsistent spec l image) (one_layout spec image other layout is.image_of.layout_is laid) is.consistent));
        unlaid = differs verdict says (λ e. cc);
        unopened = λ _. record { layout = layout; laid_out = laid; violations = vs; exactly = exactly; stands = stands; told = speaks.put };
        edited = differs verdict says (λ e. cc);
        unedited = differs verdict says (λ e. cc);
        exactly = λ other is.
            absurd (unsound (subst (λ l. IsConsistent spec l image) (one_layout spec image other layout is.image_of.layout_is laid) is.consistent));
      }

  module _ (layout : Layout) (opened : IsOpen spec layout image) where
    never_inconsistent : IsInconsistent spec image → ⊥
    never_inconsistent is =
        is.2 (subst (λ l. IsConsistent spec l image) (one_layout spec image layout is.0 opened.image_of.layout_is is.1) opened.consistent)

    unedited_verdict : verdict ≡ verdicts.EditRefused → WasUnedited spec image script before after
        → ((ending : Ending) → IsEditOf spec image script ending → HasEnded name before after verdict ending)
        → IsEditVerdict spec image script name before after verdict
    unedited_verdict says was exactly = record {
      no_layout = (differs verdict says (λ e. cc), λ none. absurd (none (layout, opened.image_of.layout_is)));
      inconsistent = (differs verdict says (λ e. cc), λ is. absurd (never_inconsistent is));
      otherwise = λ other is. inr says;
      unlaid = differs verdict says (λ e. cc);
      unopened = differs verdict says (λ e. cc);
      edited = differs verdict says (λ e. cc);
      unedited = λ _. was;
      exactly = λ _ _. exactly;
    }

    ended_verdict : (ending : Ending) → IsEditOf spec image script ending → IsEnded name before after verdict ending
        → IsEditVerdict spec image script name before after verdict
    ended_verdict _ (edit_unread line first) ended =
        unedited_verdict ended.1.says (unread line first ended.0 ended.1.put)
        (ended_so (Tells (unread_answer line)) (edit_unread line first) ended)
    ended_verdict _ (edit_unwritable its groups line is_open is_script is) ended =
        unedited_verdict ended.1.says (unwritable its groups line is_open is_script is ended.0 ended.1.put)
        (ended_so (Tells (unwritable_answer line)) (edit_unwritable its groups line is_open is_script is) ended)
    ended_verdict _ (edit_broken its groups number v is_open is_script is) ended =
        unedited_verdict ended.1.says (broken its groups number v is_open is_script is ended.0 ended.1.put)
        (ended_so (Tells (broken_answer spec number v)) (edit_broken its groups number v is_open is_script is) ended)
    ended_verdict _ (edit_edited its groups new is_open is_script accepted) ended =
        let says : verdict ≡ verdicts.Ok = ended.1.says in
        record {
          no_layout = (differs verdict says (λ e. cc), λ none. absurd (none (layout, opened.image_of.layout_is)));
          inconsistent = (differs verdict says (λ e. cc), λ is. absurd (never_inconsistent is));
          otherwise = λ other is. inl says;
          unlaid = differs verdict says (λ e. cc);
          unopened = differs verdict says (λ e. cc);
          edited = λ _. record {
            layout = its;
            opened = is_open;
            groups = groups;
            are_groups = is_script;
            new = new;
            accepted = accepted;
            saved = ended.0;
            told = ended.1.put;
          };
          unedited = differs verdict says (λ e. cc);
          exactly = λ _ _. ended_so (Saves new (edited_answer (length groups))) (edit_edited its groups new is_open is_script accepted) ended;
        }

  open_verdict : IsOpening spec image Opens → (ending : Ending) → IsEditOf spec image script ending → IsEnded name before after verdict ending
      → IsEditVerdict spec image script name before after verdict
  open_verdict (open_to layout opened) ending is ended = ended_verdict layout opened ending is ended

module _ (once : HaveOneMeaning) (words : List (List ℕ)) (before after : Outside) (status : Status)
    (runs : Runs (asked words) before after status) where
  -- what comes of the bytes that came
  by_done : (spec : Spec) (image script name script_name : List ℕ) (files : Files) (verdict : Verdict) → get files script_name ≡ Some script
      → (opening : Opening) → IsOpening spec image opening
      → ((answer : Answer) × (opening ≡ Refuses answer) × Stands before after × Speaks before after verdict answer)
      ⊎ ((opening ≡ Opens) × (its : List ℕ) × (get files script_name ≡ Some its) × (length its ≤ script_limit)
      × (ending : Ending) × IsEditOf spec image its ending × IsEnded name before after verdict ending)
      → IsEditVerdict spec image script name before after verdict
  by_done spec image script name script_name files verdict file opening is (inl done) =
      refused_verdict_of spec image script name before after verdict done.0 (subst (IsOpening spec image) done.1 is) done.2 done.3
  by_done spec image script name script_name files verdict file opening is (inr done) =
      let same : done.1 ≡ script = same_Some done.1 script (sym done.2 ∙ file) in
      subst (λ s. IsEditVerdict spec image s name before after verdict) same
      (open_verdict spec image done.1 name before after verdict (subst (IsOpening spec image) done.0 is) done.4 done.5 done.6)

  pub edits_images : EditsImages words before after status
  edits_images files spec image script name verdict held said is =
      let run = spoken words before after verdict (subst (Runs (asked words) before after) said runs) in
      let its_script = subst (λ o. script_of o run.came run.next) is.asked run.script in
      elim (edit_told before after files held verdict is.image_name is.script_name name is.spec_name run.came run.next its_script run.loaded run.ends) [
        | inl refused_run ↦ absurd (never_refused once files is.spec_name is.text spec is.spec_file is.means before after verdict refused_run)
        | inr its ↦
            let meaning : specification its.read.tree ≡ spec = means_same once files is.spec_name is.text spec is.spec_file is.means its.read in
            let same : its.image ≡ image = same_Some its.image image (sym its.image_file ∙ is.image_file) in
            subst (λ s. IsEditVerdict s image script name before after verdict) meaning
            (subst (λ i. IsEditVerdict (specification its.read.tree) i script name before after verdict) same
            (by_done (specification its.read.tree) its.image script name is.script_name files verdict is.script_file its.opening its.is_opening its.done))
      ]

  pub edits_nothing_else : EditsNothingElse words before after status
  edits_nothing_else files spec_name image_name script_name name verdict held call said one_of =
      let run = spoken words before after verdict (subst (Runs (asked words) before after) said runs) in
      let its_script = subst (λ o. script_of o run.came run.next) call run.script in
      elim (edit_told before after files held verdict image_name script_name name spec_name run.came run.next its_script run.loaded run.ends) [
        | inl refused_run ↦ absurd (never one_of verdicts.SpecRefused (λ e. cc) (λ e. cc) (refused_verdict before after files spec_name verdict refused_run))
        | inr its ↦ by_opening its its.opening its.is_opening its.done
      ]
    where
      never : {v : Verdict} → (v ≡ verdicts.Ok) ⊎ (v ≡ verdicts.EditRefused) → (other : Verdict) → verdicts.Ok ≢ other → verdicts.EditRefused ≢ other
          → v ≡ other → ⊥
      never (inl ok) other apart far is = apart (sym ok ∙ is)
      never (inr refused) other apart far is = far (sym refused ∙ is)

      never_refuses : (spec : Spec) (image : List ℕ) (answer : Answer) → IsOpening spec image (Refuses answer) → Speaks before after verdict answer → ⊥
      never_refuses spec image _ (unlaid refusal first) speaks =
          never one_of verdicts.LayoutRefused (λ e. cc) (λ e. cc) speaks.says
      never_refuses spec image _ (inconsistent layout vs laid exactly some) speaks =
          let first = violated_some vs some in
          never one_of verdicts.Inconsistent (λ e. cc) (λ e. cc) (speaks.says ∙ ap (λ vs. (verdict_answer spec vs).verdict) first.2)

      by_opening : (its : EditRun files spec_name image_name script_name name before after verdict) (opening : Opening)
          → IsOpening (specification its.read.tree) its.image opening
          → ((answer : Answer) × (opening ≡ Refuses answer) × Stands before after × Speaks before after verdict answer)
          ⊎ ((opening ≡ Opens) × (script : List ℕ) × (get files script_name ≡ Some script) × (length script ≤ script_limit)
          × (ending : Ending) × IsEditOf (specification its.read.tree) its.image script ending × IsEnded name before after verdict ending)
          → (spec : Spec) × (image : List ℕ) × (script : List ℕ)
          × IsToEdit files words spec image script name × IsEditVerdict spec image script name before after verdict
      by_opening its opening is (inl done) =
          absurd (never_refuses (specification its.read.tree) its.image done.0 (subst (IsOpening (specification its.read.tree) its.image) done.1 is) done.3)
      by_opening its opening is (inr done) = (
        specification its.read.tree,
        its.image,
        done.1,
        record {
          spec_name = spec_name;
          image_name = image_name;
          script_name = script_name;
          asked = call;
          text = its.read.text;
          spec_file = its.read.file;
          image_file = its.image_file;
          script_file = done.2;
          short_text = its.read.short;
          short_image = its.short_image;
          short_script = done.3;
          means = meant files spec_name its.read;
        },
        open_verdict (specification its.read.tree) its.image done.1 name before after verdict
            (subst (IsOpening (specification its.read.tree) its.image) done.0 is) done.4 done.5 done.6,
      )
