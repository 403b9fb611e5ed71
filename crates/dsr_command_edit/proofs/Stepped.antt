-- Groups that are made one after the other.
use Rattle.std.proofs.Common.{◌≡◌, ◌<◌, ◌≤◌, ◌+◌, ◌++◌, ◌∙◌, ℕ, zero, suc, List, [], ◌∷◌, Some, Result, Ok, Err, IfOk, length, map, take, drop, slice_get, refl, sym, ap, subst, arith, length-append, get_or}
use Rattle.std.specs.Prelude.{Vec, option_map}
use Rattle.std.specs.declared.alloc.Global.{Global}
use Rattle.std.proofs.lemmas.List.{flat_map_more, length-map, length-take-le, take_all}
use Rattle.std.proofs.lemmas.Option.{slice_get-map, slice_get_within}
use Rattle.dsr_command_edit.proofs.Judged.{take_one}
use Rattle.dsr_command_edit.proofs.Sought.{listed_at}
use Rattle.dsr_command_edit.specs.Edited.{AreAccepted, HasAccepted, IsBrokenGroup, IsUnwritableLine}
use Rattle.dsr_command_edit.specs.Edited.AreAccepted.{none, more}
use Rattle.dsr_command_edit.specs.Ends.{IsStep, TellsFault}
use Rattle.dsr_command_edit.specs.Named.{AreWritesOf}
use Rattle.dsr_command_edit.specs.declared.editing.Step.{Step}
use Rattle.dsr_command_edit.specs.declared.editing.Step.TheVariants as steps
use Rattle.dsr_edit.specs.Edits.{IsBroken, IsEditFault, IsEdited, MayWriteSome}
use Rattle.dsr_edit.specs.declared.faults.EditFault.{EditFault}
use Rattle.dsr_edit.specs.declared.faults.EditFault.TheVariants as faults
use Rattle.dsr_edit.specs.declared.groups.CellWrite.{CellWrite}
use Rattle.dsr_edit_text.specs.Scripts.{SetText, commit_text, group_texts, script_texts, set_text}
use Rattle.dsr_edit_text.specs.Shown.{shown, shown_groups}
use Rattle.dsr_edit_text.specs.declared.lines.SetLine.{SetLine}
use Rattle.dsr_ir.specs.declared.declarations.Spec.{Spec}
use Rattle.dsr_ir.specs.declared.layouts.Layout.{Layout}
use Rattle.dsr_ir.specs.declared.tuples.Binding.{Binding}
use Rattle.dsr_meaning.proofs.Items.{item_at}
use Rattle.dsr_meaning.specs.Counting.{IsIn}

-- ---- one group

module _ (spec : Spec) (layout : Layout) (lines : List SetText) (writes : List CellWrite) (named : AreWritesOf spec lines writes)
    (may : (write : CellWrite) → IsIn write writes → MayWriteSome spec layout write) (old new : List ℕ) where
  told : (fault : EditFault) (step : Step) → TellsFault fault step → IsEditFault spec layout writes old fault → IsStep spec layout lines old new step
  told (faults.Cell place) (steps.Unwritable its) tells is = absurd (is.unwritable (may is.write (item_at writes place is.write is.write_is)))
  told (faults.Broken constraint binding) (steps.Broken its bound) tells is =
      (writes, named, subst (IsBroken spec layout writes old) (λ i. record { constraint = sym tells.0 i; binding = sym tells.1 i }) is)
  told (faults.Cell place) steps.Made tells is = absurd tells
  told (faults.Cell place) (steps.Broken its bound) tells is = absurd tells
  told (faults.Broken constraint binding) steps.Made tells is = absurd tells
  told (faults.Broken constraint binding) (steps.Unwritable its) tells is = absurd tells
  told faults.NoMemory step tells is = absurd tells

  pub refused_so : {E : Type 0} (fault : EditFault) (result : Result Step E) → IfOk result (TellsFault fault) → IsEditFault spec layout writes old fault → IfOk result (IsStep spec layout lines old new)
  refused_so fault (Err e) tells is = tt
  refused_so fault (Ok step) tells is = told fault step tells is

-- a step of another name
pub stepped :
    (spec : Spec) (layout its : Layout) (lines : List SetText) (old new : List ℕ) (step end : Step) → its ≡ layout → step ≡ end
    → IsStep spec its lines old new step → IsStep spec layout lines old new end
stepped spec layout its lines old new step end same ends is =
    subst (λ l. IsStep spec l lines old new end) same (subst (IsStep spec its lines old new) ends is)

-- a group stands in the script
pub group_at :
    (groups : List (Vec SetLine Global)) (k : ℕ) (group : Vec SetLine Global) (lines : List SetLine) → k < length groups → group ≡ get_or groups k group
    → lines ≡ group.items → slice_get (shown_groups groups) k ≡ Some (map shown lines)
group_at groups k group lines below is lines_are =
    slice_get-map (λ (g : Vec SetLine Global). map shown g.items) groups k
    ∙ (ap (option_map (λ (g : Vec SetLine Global). map shown g.items)) (listed_at groups groups refl k group below is)
    ∙ ap (λ ls. Some (map shown ls)) (sym lines_are))

pub group_long : (lines : List SetLine) (n : ℕ) → n ≡ length lines → n ≡ length (map shown lines)
group_long lines n long = long ∙ sym (length-map lines shown)

-- ---- groups in a row

accepted_more :
    (spec : Spec) (layout : Layout) (groups : List (List SetText)) (group : List SetText) (writes : List CellWrite) (old middle new : List ℕ)
    → AreAccepted spec layout groups old middle → AreWritesOf spec group writes → IsEdited spec layout writes middle new → AreAccepted spec layout (groups ++ group ∷ []) old new
accepted_more spec layout _ group writes old middle new none named edited = more group writes named edited none
accepted_more spec layout _ group writes old middle new (more {groups = gs} {old = o} {middle = m} {new = n} g ws its step rest) named edited =
    more g ws its step (accepted_more spec layout gs group writes m n new rest named edited)

parted : {A : Type 0} (xs : List A) (k : ℕ) (x : A) → slice_get xs k ≡ Some x → xs ≡ take k xs ++ x ∷ drop (suc k) xs
parted [] k x is = absurd cc
parted (y ∷ xs) zero x is = let same : y ≡ x = cc in ap (λ z. z ∷ xs) same
parted (y ∷ xs) (suc k) x is = ap (λ zs. y ∷ zs) (parted xs k x is)

script_long : (groups : List (List SetText)) (group : List SetText) → length (script_texts (groups ++ group ∷ [])) ≡ length (script_texts groups) + length group + 1
script_long groups group =
    let whole = ap length (sym (flat_map_more group_texts [] groups group)) in
    let two = length-append (script_texts groups) (group_texts group) in
    let three = length-append (map set_text group) (commit_text ∷ []) in
    let four = length-map group set_text in
    omega (arith, whole, two, three, four)

script_part : (groups : List (List SetText)) (k : ℕ) → length (script_texts (take k groups)) ≤ length (script_texts groups)
script_part [] zero = omega arith
script_part [] (suc k) = omega arith
script_part (g ∷ groups) zero = omega arith
script_part (g ∷ groups) (suc k) =
    let whole = length-append (group_texts g) (script_texts groups) in
    let part = length-append (group_texts g) (script_texts (take k groups)) in
    let rest = script_part groups k in
    omega (arith, whole, part, rest)

-- the groups before the number were made, and the next line is this one
pub record AreMadeTo (spec : Spec) (layout : Layout) (groups : List (List SetText)) (number line : ℕ) (old now : List ℕ) : Type 0 where
  pub accepted : AreAccepted spec layout (take number groups) old now
  pub line_is : line ≡ length (script_texts (take number groups)) + 1

module _ (spec : Spec) (layout : Layout) (groups : List (List SetText)) (old : List ℕ) where
  pub none_made : AreMadeTo spec layout groups 0 1 old old
  none_made = record { accepted = none; line_is = refl }

  module _ (number line : ℕ) (now : List ℕ) (made : AreMadeTo spec layout groups number line old now) where
    module _ (group : List SetText) (at : slice_get groups number ≡ Some group) where
      has : HasAccepted spec layout groups old (take number groups) group now
      has = record { after = drop (suc number) groups; groups_are = parted groups number group at; accepted = made.accepted }

      -- the group's lines are lines of the script
      pub line_within : line + (length group + 1) ≤ length (script_texts groups) + 1
      line_within =
          let here = made.line_is in
          let long = script_long (take number groups) group in
          let next = ap (λ gs. length (script_texts gs)) (take_one groups number group at) in
          let part = script_part groups (number + 1) in
          omega (arith, here, long, next, part)

      pub one_made : (new : List ℕ) → IsStep spec layout group now new steps.Made → AreMadeTo spec layout groups (number + 1) (line + (length group + 1)) old new
      one_made new step = record {
        accepted = subst (λ gs. AreAccepted spec layout gs old new) (sym (take_one groups number group at)) (accepted_more spec layout (take number groups) group step.0 old now new made.accepted step.1 step.2);
        line_is =
            let here = made.line_is in
            let long = script_long (take number groups) group in
            let next = ap (λ gs. length (script_texts gs)) (take_one groups number group at) in
            omega (arith, here, long, next);
      }

      -- the line at a place of the group
      pub place_within : (new : List ℕ) (place : ℕ) → IsStep spec layout group now new (steps.Unwritable place) → line + place ≤ length (script_texts groups)
      place_within new place step =
          let low = slice_get_within group place step.line step.line_is in
          let within = line_within in
          omega (arith, low, within)

      pub unwritable_here : (new : List ℕ) (place : ℕ) → IsStep spec layout group now new (steps.Unwritable place) → IsUnwritableLine spec layout groups old (line + place)
      unwritable_here new place step = record {
        before = take number groups;
        group = group;
        now = now;
        accepted = has;
        place = place;
        first = step;
        number_is = let here = made.line_is in omega (arith, here);
      }

      pub broken_here : (new : List ℕ) (constraint : ℕ) (binding : Binding) → IsStep spec layout group now new (steps.Broken constraint binding)
          → IsBrokenGroup spec layout groups old (number + 1) (record { constraint = constraint; binding = binding })
      broken_here new constraint binding step = record {
        before = take number groups;
        group = group;
        now = now;
        accepted = has;
        writes = step.0;
        are_writes = step.1;
        broken = step.2;
        number_is = let low = slice_get_within groups number group at in ap (λ n. n + 1) (sym (length-take-le number groups (omega (arith, low))));
      }

    pub all_made : length groups ≤ number → AreAccepted spec layout groups old now
    all_made all = subst (λ gs. AreAccepted spec layout gs old now) (take_all number groups all) made.accepted
