-- A run that speaks has looked for the fact that it was asked for, or for the records that no set has.
use Rattle.std.proofs.Common.{◌≡◌, ◌≢◌, ℕ, List, [], codes, None, Some, reverse, sym, ap, subst, ◌∙◌, inl, inr}
use Rattle.std.proofs.lemmas.Option.{same_Some}
use Rattle.dsr_chain_laws.proofs.Firsts.{is_shortest}
use Rattle.dsr_command_laws.proofs.Tellings.{Speaks, means_same, meant, never_refused, refused_verdict, second_told, spoken}
use Rattle.dsr_command_laws.specs.FactHeadlines.{ExplainsFacts, ExplainsNothingElse, IsWhy, ListsLost, ListsNothingElse, ListsRecords}
use Rattle.dsr_command_laws.specs.FactHeadlines.IsWhy.{chained, no_chain, outside}
use Rattle.dsr_command_theory.specs.Commands.{asked, image_limit, script_of}
use Rattle.dsr_command_why.specs.Losts.{IsLostAnswer}
use Rattle.dsr_command_why.specs.Losts.IsLostAnswer.{listed, unlaid as lost_unlaid}
use Rattle.dsr_command_why.specs.Whys.{IsWhyAnswer}
use Rattle.dsr_command_why.specs.Whys.IsWhyAnswer.{chained as why_chained, no_chain as why_no_chain, outside as why_outside, unlaid as why_unlaid}
use Rattle.dsr_compile_laws.specs.Meanings.{HaveOneMeaning}
use Rattle.dsr_ir.specs.declared.declarations.Spec.{Spec}
use Rattle.dsr_ir.specs.declared.layouts.Layout.{Layout}
use Rattle.dsr_language_theory.specs.Specifications.{specification}
use Rattle.dsr_meaning.specs.Refusals.{IsLayoutOf, Refusal, first_of, refusals}
use Rattle.dsr_script.specs.Outside.{Outside}
use Rattle.dsr_script.specs.Runs.{Runs}
use Rattle.dsr_script.specs.Scripts.{Answer}
use Rattle.dsr_script.specs.declared.status.Status.{Status}
use Rattle.dsr_script.specs.declared.status.Verdict.{Verdict}
use Rattle.dsr_script.specs.declared.status.Verdict.TheVariants as verdicts

-- what is told of an image that is too long
abbrev too_long_image : List ℕ
too_long_image = codes "too long image\n"

none_first : (rs : List Refusal) (refusal : Refusal) → rs ≡ [] → first_of rs ≡ Some refusal → ⊥
none_first rs refusal none first = let e : None ≡ Some refusal = sym (ap first_of none) ∙ first in cc

-- an image has one layout
pub one_layout : (spec : Spec) (image : List ℕ) (a b : Layout) → IsLayoutOf spec image a → IsLayoutOf spec image b → a ≡ b
one_layout spec image a b one two = same_Some a b (sym one.numbers ∙ two.numbers)

-- ---- why a fact is there

module _ (before after : Outside) (verdict : Verdict) (spec : Spec) (image word : List ℕ) where
  -- on an image that has a layout, what is told is why
  why_told : (layout : Layout) → IsLayoutOf spec image layout → (answer : Answer) → IsWhyAnswer spec image word answer
      → Speaks before after verdict answer → (verdict ≡ verdicts.Ok) × IsWhy spec layout image word before after
  why_told layout laid _ (why_unlaid refusal first) speaks = absurd (none_first (refusals spec image) refusal laid.accepted first)
  why_told layout laid _ (why_chained other fact is lines its text_is first are_lines) speaks =
      subst (λ l. (verdict ≡ verdicts.Ok) × IsWhy spec l image word before after) (one_layout spec image other layout its laid) (
        speaks.says,
        chained (record {
          fact = fact;
          text_is = text_is;
          instances = is;
          shortest = is_shortest spec other image (reverse is) fact first;
          first = first;
          lines = lines;
          are_lines = are_lines;
          told = speaks.put;
        }),
      )
  why_told layout laid _ (why_outside other set base elem its text_is base_is member) speaks =
      subst (λ l. (verdict ≡ verdicts.Ok) × IsWhy spec l image word before after) (one_layout spec image other layout its laid) (
        speaks.says,
        outside (record {
          set = set;
          base = base;
          elem = elem;
          text_is = text_is;
          base_is = base_is;
          member = member;
          told = speaks.put;
        }),
      )
  why_told layout laid _ (why_no_chain other its none) speaks =
      subst (λ l. (verdict ≡ verdicts.Ok) × IsWhy spec l image word before after) (one_layout spec image other layout its laid)
      (speaks.says, no_chain (record { none = none; told = speaks.put }))

  -- what is told with any other verdict than that of a refused layout is told of one
  why_laid : (answer : Answer) → IsWhyAnswer spec image word answer → Speaks before after verdict answer
      → verdict ≢ verdicts.LayoutRefused → (layout : Layout) × IsLayoutOf spec image layout
  why_laid _ (why_unlaid refusal first) speaks other = absurd (other speaks.says)
  why_laid _ (why_chained layout fact is lines its text_is first are_lines) speaks other = (layout, its)
  why_laid _ (why_outside layout set base elem its text_is base_is member) speaks other = (layout, its)
  why_laid _ (why_no_chain layout its none) speaks other = (layout, its)

-- ---- lost records

module _ (before after : Outside) (verdict : Verdict) (spec : Spec) (image : List ℕ) where
  lost_told : (layout : Layout) → IsLayoutOf spec image layout → (answer : Answer) → IsLostAnswer spec image answer
      → Speaks before after verdict answer → (verdict ≡ verdicts.Ok) × ListsLost spec layout image before after
  lost_told layout laid _ (lost_unlaid refusal first) speaks = absurd (none_first (refusals spec image) refusal laid.accepted first)
  lost_told layout laid _ (listed other es its lost) speaks =
      subst (λ l. (verdict ≡ verdicts.Ok) × ListsLost spec l image before after) (one_layout spec image other layout its laid)
      (speaks.says, record { lost = es; are_lost = lost; told = speaks.put })

  lost_laid : (answer : Answer) → IsLostAnswer spec image answer → Speaks before after verdict answer
      → verdict ≢ verdicts.LayoutRefused → (layout : Layout) × IsLayoutOf spec image layout
  lost_laid _ (lost_unlaid refusal first) speaks other = absurd (other speaks.says)
  lost_laid _ (listed layout es its lost) speaks other = (layout, its)

module _ (once : HaveOneMeaning) (words : List (List ℕ)) (before after : Outside) (status : Status) (runs : Runs (asked words) before after status) where
  pub explains_facts : ExplainsFacts words before after status
  explains_facts files spec layout image fact verdict held said is =
      let run = spoken words before after verdict (subst (Runs (asked words) before after) said runs) in
      let script = subst (λ o. script_of o run.came run.next) is.asked run.script in
      elim (second_told before after files held verdict image_limit too_long_image (λ s i. IsWhyAnswer s i fact) is.spec_name is.image_name run.came run.next script run.loaded run.ends) [
        | inl refused_run ↦ absurd (never_refused once files is.spec_name is.text spec is.spec_file is.means before after verdict refused_run)
        | inr its ↦
            let read = its.read in
            let meaning : specification read.tree ≡ spec = means_same once files is.spec_name is.text spec is.spec_file is.means read in
            let bytes : its.bytes ≡ image = same_Some its.bytes image (sym its.file ∙ is.image_file) in
            why_told before after verdict spec image fact layout is.laid_out its.answer
            (subst (λ s. IsWhyAnswer s image fact its.answer) meaning (subst (λ b. IsWhyAnswer (specification read.tree) b fact its.answer) bytes its.fits))
            its.speaks
      ]

  pub explains_nothing_else : ExplainsNothingElse words before after status
  explains_nothing_else files spec_name image_name fact held call said =
      let run = spoken words before after verdicts.Ok (subst (Runs (asked words) before after) said runs) in
      let script = subst (λ o. script_of o run.came run.next) call run.script in
      elim (second_told before after files held verdicts.Ok image_limit too_long_image (λ s i. IsWhyAnswer s i fact) spec_name image_name run.came run.next script run.loaded run.ends) [
        | inl refused_run ↦
            let e : verdicts.Ok ≡ verdicts.SpecRefused = refused_verdict before after files spec_name verdicts.Ok refused_run in absurd cc
        | inr its ↦
            let spec = specification its.read.tree in
            let laid = why_laid before after verdicts.Ok spec its.bytes fact its.answer its.fits its.speaks (λ e. cc) in (
              spec,
              laid.0,
              its.bytes,
              record {
                spec_name = spec_name;
                image_name = image_name;
                asked = call;
                text = its.read.text;
                spec_file = its.read.file;
                image_file = its.file;
                short_text = its.read.short;
                short_image = its.short;
                means = meant files spec_name its.read;
                laid_out = laid.1;
              },
              (why_told before after verdicts.Ok spec its.bytes fact laid.0 laid.1 its.answer its.fits its.speaks).1,
            )
      ]

  pub lists_records : ListsRecords words before after status
  lists_records files spec layout image verdict held said is =
      let run = spoken words before after verdict (subst (Runs (asked words) before after) said runs) in
      let script = subst (λ o. script_of o run.came run.next) is.asked run.script in
      elim (second_told before after files held verdict image_limit too_long_image IsLostAnswer is.spec_name is.image_name run.came run.next script run.loaded run.ends) [
        | inl refused_run ↦ absurd (never_refused once files is.spec_name is.text spec is.spec_file is.means before after verdict refused_run)
        | inr its ↦
            let read = its.read in
            let meaning : specification read.tree ≡ spec = means_same once files is.spec_name is.text spec is.spec_file is.means read in
            let bytes : its.bytes ≡ image = same_Some its.bytes image (sym its.file ∙ is.image_file) in
            lost_told before after verdict spec image layout is.laid_out its.answer
            (subst (λ s. IsLostAnswer s image its.answer) meaning (subst (λ b. IsLostAnswer (specification read.tree) b its.answer) bytes its.fits))
            its.speaks
      ]

  pub lists_nothing_else : ListsNothingElse words before after status
  lists_nothing_else files spec_name image_name held call said =
      let run = spoken words before after verdicts.Ok (subst (Runs (asked words) before after) said runs) in
      let script = subst (λ o. script_of o run.came run.next) call run.script in
      elim (second_told before after files held verdicts.Ok image_limit too_long_image IsLostAnswer spec_name image_name run.came run.next script run.loaded run.ends) [
        | inl refused_run ↦
            let e : verdicts.Ok ≡ verdicts.SpecRefused = refused_verdict before after files spec_name verdicts.Ok refused_run in absurd cc
        | inr its ↦
            let spec = specification its.read.tree in
            let laid = lost_laid before after verdicts.Ok spec its.bytes its.answer its.fits its.speaks (λ e. cc) in (
              spec,
              laid.0,
              its.bytes,
              record {
                spec_name = spec_name;
                image_name = image_name;
                asked = call;
                text = its.read.text;
                spec_file = its.read.file;
                image_file = its.file;
                short_text = its.read.short;
                short_image = its.short;
                means = meant files spec_name its.read;
                laid_out = laid.1;
              },
              (lost_told before after verdicts.Ok spec its.bytes laid.0 laid.1 its.answer its.fits its.speaks).1,
            )
      ]
