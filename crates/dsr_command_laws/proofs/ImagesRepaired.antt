-- A run that speaks has repaired the image that it was asked to repair, or tells why not.
use Rattle.std.proofs.Common.{◌≡◌, ◌≢◌, ◌≤◌, ◌⊎◌, ℕ, List, [], ◌∷◌, length, None, Some, refl, sym, ap, subst, ◌∙◌, inl, inr}
use Rattle.std.proofs.lemmas.Option.{same_Some}
use Rattle.std.specs.FinMap.{get}
use Rattle.dsr_command_laws.proofs.Tellings.{ReadText, RefusedRun, Speaks, loads_never, means_same, meant, never_refused, refused_verdict, spoken, text_loaded, whole}
use Rattle.dsr_command_theory.specs.Commands.{asked, ends, image_limit, loads_damaged, loads_spec, plans_repair, reads, script_of}
use Rattle.dsr_words.specs.Words.{Repair, command_of}
use Rattle.dsr_ir.specs.declared.declarations.Spec.{Spec}
use Rattle.dsr_meaning.specs.Refusals.{Refusal, first_of, refusals}
use Rattle.dsr_compile_laws.specs.Meanings.{HaveOneMeaning}
use Rattle.dsr_command_plan.specs.Planned as planned
use Rattle.dsr_command_plan.specs.StuckTexts.{refused_answer}
use Rattle.dsr_command_plan.specs.declared.plans.Found as plans
use Rattle.dsr_command_plan.specs.declared.plans.Found.TheVariants as plan_found
use Rattle.dsr_plan_theory.specs.StuckSets.{HasNoPlan, IsStuckSet}
use Rattle.dsr_plan_theory.specs.Taken.{IsTaken}
use Rattle.dsr_plan_theory.specs.declared.choices.Choice.{Choice}
use Rattle.dsr_plan_theory.specs.declared.refusals.StuckSet.{StuckSet}
use Rattle.dsr_command_laws.proofs.Unmoved.{unmoved}
use Rattle.dsr_command_laws.specs.RepairHeadlines.{IsToRepair, RepairsImages, RepairsNothingElse}
use Rattle.dsr_command_laws.specs.Repairs.{IsRepairVerdict, RunsDry}
use Rattle.dsr_command_image.specs.Repaired.{Ending, IsRepairOf, Saves, Tells, mended, stopped, unlaid}
use Rattle.dsr_script.proofs.Laws.{said_at_save, said_at_tell}
use Rattle.dsr_script.specs.Outside.{IsSaved, Outside, Stands}
use Rattle.dsr_script.specs.Runs.{AllLoaded, Ends, Runs}
use Rattle.dsr_script.specs.Scripts.{Came, Next}
use Rattle.dsr_script.specs.declared.status.Status.{Status}
use Rattle.dsr_script.specs.declared.status.Status.TheVariants.{Said}
use Rattle.dsr_script.specs.declared.status.Verdict.{Verdict}
use Rattle.dsr_script.specs.declared.status.Verdict.TheVariants as verdicts
use Rattle.dsr_store.specs.Files.{Files}
use Rattle.dsr_language_theory.specs.Specifications.{specification}
use Rattle.dsr_bound_laws.proofs.Runs.{run_bounded}
use Rattle.dsr_ir.specs.declared.layouts.Layout.{Layout}
use Rattle.dsr_plan_laws.proofs.OnePlan.{one_plan}
use Rattle.dsr_repair_theory.specs.Runs.{IsRun}
use Rattle.dsr_repair_theory.specs.declared.entries.Entry.{Entry}
use Rattle.dsr_repair_theory.specs.declared.turns.Outcome.TheVariants.{Consistent, Empty}
use Rattle.dsr_run_laws.proofs.RunOnce.{run_keeps, run_keeps_fixed, run_once}
use Rattle.dsr_step_theory.specs.Images.{IsImageOf}

-- what was saved and told, by how a repair ends
abbrev pub IsEnded : List ℕ → Outside → Outside → Verdict → Ending → Type 0
IsEnded name before after verdict (Saves bytes answer) = IsSaved before after name bytes × Speaks before after verdict answer
IsEnded name before after verdict (Tells answer) = Stands before after × Speaks before after verdict answer

-- no plan was found, and that was told
pub record Unplanned (spec : Spec) (before after : Outside) (verdict : Verdict) : Type 0 where
  pub set : StuckSet
  pub stuck : IsStuckSet spec set
  pub none : HasNoPlan spec
  pub stands : Stands before after
  pub speaks : Speaks before after verdict (refused_answer spec set)

-- or a plan was found, the image was loaded, and the repair ended
pub record Planned (spec : Spec) (files : Files) (image_name name : List ℕ) (before after : Outside) (verdict : Verdict) : Type 0 where
  pub choice : Choice
  pub taken : IsTaken spec choice
  pub image : List ℕ
  pub file : get files image_name ≡ Some image
  pub short : length image ≤ image_limit spec
  pub ending : Ending
  pub is : IsRepairOf spec choice image ending
  pub ended : IsEnded name before after verdict ending

-- that is what came of a repair whose specification was read
pub record RepairRun (files : Files) (spec_name image_name name : List ℕ) (before after : Outside) (verdict : Verdict) : Type 0 where
  pub read : ReadText files spec_name
  pub done :
      Unplanned (specification read.tree) before after verdict
      ⊎ Planned (specification read.tree) files image_name name before after verdict

module _ (before after : Outside) (files : Files) (held : before.held ≡ Some files) (verdict : Verdict) (image_name name : List ℕ) where
  pub ended_at : (ending : Ending) (came : List Came) (next : Next) → ends name ending came next → Ends before after (Said verdict) next
      → IsEnded name before after verdict ending
  ended_at (Saves bytes answer) [] next saved at =
      let told = said_at_save before after verdict name saved.0 saved.1 (subst (Ends before after (Said verdict)) saved.3 at) in (
        subst (IsSaved before after name) saved.2.0 told.0,
        subst (Speaks before after verdict) saved.2.1 (record { says = told.1.0; put = told.1.1.1 }),
      )
  ended_at (Saves bytes answer) (c ∷ more) next saved at = absurd saved
  ended_at (Tells answer) [] next told at =
      let said = said_at_tell before after verdict told.0 (subst (Ends before after (Said verdict)) told.2 at) in
      (said.0, subst (Speaks before after verdict) told.1 (record { says = said.1.0; put = said.1.1.1 }))
  ended_at (Tells answer) (c ∷ more) next told at = absurd told

  planned_at : (spec : Spec) (found : plans.Found) → planned.IsFound spec found → (came : List Came) (next : Next)
      → loads_damaged image_name name spec found came next → AllLoaded before came → Ends before after (Said verdict) next
      → Unplanned spec before after verdict ⊎ Planned spec files image_name name before after verdict
  planned_at spec (plan_found.Stuck set) is [] next told loaded at =
      let said = said_at_tell before after verdict told.0 (subst (Ends before after (Said verdict)) told.2 at) in
      inl (record {
        set = set;
        stuck = is.0;
        none = is.1;
        stands = said.0;
        speaks = subst (Speaks before after verdict) told.1 (record { says = said.1.0; put = said.1.1.1 });
      })
  planned_at spec (plan_found.Stuck set) is (c ∷ more) next told loaded at = absurd told
  planned_at spec (plan_found.Plan choice) is [] next script loaded at =
      absurd (loads_never before after files held verdict image_name _ _ next script at)
  planned_at spec (plan_found.Plan choice) is (second ∷ more) next script loaded at =
      let file = whole before after files held verdict second image_name (image_limit spec) (ap (λ c. c.name) script.0) (ap (λ c. c.limit) script.0) loaded.0 in
      inr (record {
        choice = choice;
        taken = is;
        image = second.bytes;
        file = file.0;
        short = file.1;
        ending = script.1.0;
        is = script.1.1;
        ended = ended_at script.1.0 more next script.1.2 at;
      })

  repair_told : (spec_name : List ℕ) (came : List Came) (next : Next)
      → loads_spec spec_name (λ text. reads text (λ tree. plans_repair image_name name (specification tree))) came next
      → AllLoaded before came → Ends before after (Said verdict) next
      → RefusedRun before after files spec_name verdict ⊎ RepairRun files spec_name image_name name before after verdict
  repair_told spec_name came next script loaded at =
      elim (text_loaded before after files held verdict (λ tree. plans_repair image_name name (specification tree)) spec_name came next script loaded at) [
        | inl refused_run ↦ inl refused_run
        | inr behind ↦
            let script = behind.script in
            inr (record {
              read = behind.read;
              done = planned_at (specification behind.read.tree) script.0 script.1 behind.more next script.2 behind.loaded at;
            })
      ]

-- ---- the verdict

pub none_first : (rs : List Refusal) (refusal : Refusal) → rs ≡ [] → first_of rs ≡ Some refusal → ⊥
none_first rs refusal none first = let e : None ≡ Some refusal = sym (ap first_of none) ∙ first in cc

-- a verdict is only one
pub differs : {X : Type 0} (verdict : Verdict) {a b : Verdict} → verdict ≡ a → a ≢ b → verdict ≡ b → X
differs verdict says apart other = absurd (apart (sym says ∙ other))

-- the run of the plan that is taken has one end
ends_otherwise :
    (spec : Spec) (image : List ℕ) (choice : Choice) → IsTaken spec choice → (layout : Layout) (entries : List Entry) (new : List ℕ)
    → IsImageOf spec layout image → IsRun spec choice layout image entries new Consistent → RunsDry spec image → ⊥
ends_otherwise spec image choice taken layout entries new is run dry =
    let plan_same : dry.choice ≡ choice = one_plan spec dry.choice choice dry.taken taken in
    let layout_same : dry.layout ≡ layout = same_Some dry.layout layout (sym dry.laid_out.numbers ∙ is.layout_is.numbers) in
    let other : IsRun spec choice layout image dry.entries dry.new (Empty dry.need) =
    subst (λ l. IsRun spec choice l image dry.entries dry.new (Empty dry.need)) layout_same
    (subst (λ c. IsRun spec c dry.layout image dry.entries dry.new (Empty dry.need)) plan_same dry.run) in
    let end : Consistent ≡ Empty dry.need = (run_once spec choice layout taken.plan is.typed image new dry.new entries dry.entries Consistent (Empty dry.need) is run other).1.1 in
    cc

module _ (spec : Spec) (image name : List ℕ) (before after : Outside) (verdict : Verdict) where
  unplanned_verdict : Unplanned spec before after verdict → IsRepairVerdict spec image name before after verdict
  unplanned_verdict its =
      let says : verdict ≡ verdicts.PlanRefused = its.speaks.says in
      record {
        no_plan = (λ _. its.none, λ _. says);
        no_layout = (differs verdict says (λ e. cc), λ both. absurd (its.none both.0.0 both.0.1));
        otherwise = λ plan laid_out. absurd (its.none plan.0 plan.1);
        empty = (differs verdict says (λ e. cc), λ dry. absurd (its.none dry.choice dry.taken.plan));
        unplanned = λ _. record { set = its.set; stuck = its.stuck; stands = its.stands; told = its.speaks.put };
        unlaid = differs verdict says (λ e. cc);
        repaired = differs verdict says (λ e. cc);
        stopped = differs verdict says (λ e. cc);
      }

  module _ (choice : Choice) (taken : IsTaken spec choice) where
    by_ending : (ending : Ending) → IsRepairOf spec choice image ending → IsEnded name before after verdict ending
        → IsRepairVerdict spec image name before after verdict
    by_ending _ (unlaid refusal first) ended =
        let says : verdict ≡ verdicts.LayoutRefused = ended.1.says in
        record {
          no_plan = (differs verdict says (λ e. cc), λ none. absurd (none choice taken.plan));
          no_layout = (λ _. ((choice, taken.plan), λ laid_out. none_first (refusals spec image) refusal laid_out.1.accepted first), λ _. says);
          otherwise = λ plan laid_out. absurd (none_first (refusals spec image) refusal laid_out.1.accepted first);
          empty = (differs verdict says (λ e. cc), λ dry. absurd (none_first (refusals spec image) refusal dry.laid_out.accepted first));
          unplanned = differs verdict says (λ e. cc);
          unlaid = λ _. record { refusal = refusal; first = first; stands = ended.0; told = ended.1.put };
          repaired = differs verdict says (λ e. cc);
          stopped = differs verdict says (λ e. cc);
        }
    by_ending _ (mended layout entries new is run) ended =
        let says : verdict ≡ verdicts.Ok = ended.1.says in
        record {
          no_plan = (differs verdict says (λ e. cc), λ none. absurd (none choice taken.plan));
          no_layout = (differs verdict says (λ e. cc), λ both. absurd (both.1 (layout, is.layout_is)));
          otherwise = λ plan laid_out. inl says;
          empty = (differs verdict says (λ e. cc), λ dry. absurd (ends_otherwise spec image choice taken layout entries new is run dry));
          unplanned = differs verdict says (λ e. cc);
          unlaid = differs verdict says (λ e. cc);
          repaired = λ _. record {
            choice = choice;
            taken = taken;
            layout = layout;
            laid_out = is.layout_is;
            entries = entries;
            new = new;
            run = run;
            short = run_bounded spec choice layout taken.plan image new entries is run.steps;
            still = (run_keeps spec choice layout taken.plan image new entries is run.steps).layout_is;
            fixed = run_keeps_fixed spec choice layout taken.plan image new entries is run.steps;
            consistent = run.ends;
            saved = ended.0;
            told = ended.1.put;
            left = λ consistent. unmoved spec choice layout image entries new consistent run.steps;
          };
          stopped = differs verdict says (λ e. cc);
        }
    by_ending _ (stopped layout entries new need is run) ended =
        let says : verdict ≡ verdicts.SupplyEmpty = ended.1.says in
        record {
          no_plan = (differs verdict says (λ e. cc), λ none. absurd (none choice taken.plan));
          no_layout = (differs verdict says (λ e. cc), λ both. absurd (both.1 (layout, is.layout_is)));
          otherwise = λ plan laid_out. inr says;
          empty = (
            λ _. record { choice = choice; taken = taken; layout = layout; laid_out = is.layout_is; entries = entries; new = new; need = need; run = run },
            λ _. says,
          );
          unplanned = differs verdict says (λ e. cc);
          unlaid = differs verdict says (λ e. cc);
          repaired = differs verdict says (λ e. cc);
          stopped = λ _. record {
            choice = choice;
            taken = taken;
            layout = layout;
            laid_out = is.layout_is;
            entries = entries;
            new = new;
            need = need;
            run = run;
            short = run_bounded spec choice layout taken.plan image new entries is run.steps;
            still = (run_keeps spec choice layout taken.plan image new entries is run.steps).layout_is;
            stands = ended.0;
            told = ended.1.put;
          };
        }

module _ (once : HaveOneMeaning) (words : List (List ℕ)) (before after : Outside) (status : Status)
    (runs : Runs (asked words) before after status) where
  pub repairs_images : RepairsImages words before after status
  repairs_images files spec image name verdict held said is =
      let run = spoken words before after verdict (subst (Runs (asked words) before after) said runs) in
      let script = subst (λ o. script_of o run.came run.next) is.asked run.script in
      elim (repair_told before after files held verdict is.image_name name is.spec_name run.came run.next script run.loaded run.ends) [
        | inl refused_run ↦ absurd (never_refused once files is.spec_name is.text spec is.spec_file is.means before after verdict refused_run)
        | inr repair_run ↦
            let read = repair_run.read in
            let meaning : specification read.tree ≡ spec = means_same once files is.spec_name is.text spec is.spec_file is.means read in
            subst (λ s. IsRepairVerdict s image name before after verdict) meaning
            (by_done (specification read.tree) image name is.image_name files is.image_file verdict repair_run.done)
      ]
    where
      by_done : (spec : Spec) (image name image_name : List ℕ) (files : Files) → get files image_name ≡ Some image → (verdict : Verdict)
          → Unplanned spec before after verdict ⊎ Planned spec files image_name name before after verdict
          → IsRepairVerdict spec image name before after verdict
      by_done spec image name image_name files file verdict (inl unplanned) = unplanned_verdict spec image name before after verdict unplanned
      by_done spec image name image_name files file verdict (inr its) =
          let same : its.image ≡ image = same_Some its.image image (sym its.file ∙ file) in
          subst (λ i. IsRepairVerdict spec i name before after verdict) same
          (by_ending spec its.image name before after verdict its.choice its.taken its.ending its.is its.ended)

  was_repaired : (files : Files) (spec_name image_name name : List ℕ) (verdict : Verdict) → before.held ≡ Some files
      → command_of words ≡ Some (Repair spec_name image_name name) → status ≡ Said verdict
      → verdict ≢ verdicts.SpecRefused → verdict ≢ verdicts.PlanRefused
      → (spec : Spec) × (image : List ℕ) × IsToRepair files words spec image name × IsRepairVerdict spec image name before after verdict
  was_repaired files spec_name image_name name verdict held call said accepted has_plan =
      let run = spoken words before after verdict (subst (Runs (asked words) before after) said runs) in
      let script = subst (λ o. script_of o run.came run.next) call run.script in
      elim (repair_told before after files held verdict image_name name spec_name run.came run.next script run.loaded run.ends) [
        | inl refused_run ↦ absurd (accepted (refused_verdict before after files spec_name verdict refused_run))
        | inr repair_run ↦ by_done repair_run.read repair_run.done
      ]
    where
      by_done : (read : ReadText files spec_name)
          → Unplanned (specification read.tree) before after verdict ⊎ Planned (specification read.tree) files image_name name before after verdict
          → (spec : Spec) × (image : List ℕ) × IsToRepair files words spec image name × IsRepairVerdict spec image name before after verdict
      by_done read (inl unplanned) = absurd (has_plan unplanned.speaks.says)
      by_done read (inr its) = (
        specification read.tree,
        its.image,
        record {
          spec_name = spec_name;
          image_name = image_name;
          asked = call;
          text = read.text;
          spec_file = read.file;
          image_file = its.file;
          short_text = read.short;
          short_image = its.short;
          means = meant files spec_name read;
        },
        by_ending (specification read.tree) its.image name before after verdict its.choice its.taken its.ending its.is its.ended,
      )

  pub repairs_nothing_else : RepairsNothingElse words before after status
  repairs_nothing_else files spec_name image_name name held call = (
    λ said.
        let was = was_repaired files spec_name image_name name verdicts.Ok held call said (λ e. cc) (λ e. cc) in
        (was.0, was.1, was.2, was.3.repaired refl),
    λ said.
        let was = was_repaired files spec_name image_name name verdicts.SupplyEmpty held call said (λ e. cc) (λ e. cc) in
        (was.0, was.1, was.2, was.3.stopped refl),
  )
