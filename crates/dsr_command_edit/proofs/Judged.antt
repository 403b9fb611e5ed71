-- The lines of a group, judged one after the other.
use Rattle.std.proofs.Common.{◌≡◌, ◌<◌, ◌≤◌, ◌+◌, ◌++◌, ◌∙◌, ℕ, List, [], ◌∷◌, Some, length, map, take, slice_get, inl, inr, sym, ap, subst, arith}
use Rattle.std.proofs.lemmas.Bool.{cases_lt}
use Rattle.std.proofs.lemmas.List.{take_all, take_more}
use Rattle.std.proofs.lemmas.Option.{get_or_from_slice_get, slice_get-map, slice_get_within}
use Rattle.std.specs.Prelude.{option_map}
use Rattle.dsr_command_edit.specs.Named.{AreWritesOf, CanBeMade, IsFirstUnwritableLine, IsWriteOf}
use Rattle.dsr_command_edit.specs.Named.AreWritesOf.{none, more}
use Rattle.dsr_edit.specs.Edits.{MayWriteSome}
use Rattle.dsr_edit.specs.declared.groups.CellWrite.{CellWrite}
use Rattle.dsr_edit_text.specs.Scripts.{SetText}
use Rattle.dsr_edit_text.specs.Shown.{shown}
use Rattle.dsr_edit_text.specs.declared.lines.SetLine.{SetLine}
use Rattle.dsr_ir.specs.declared.declarations.Spec.{Spec}
use Rattle.dsr_ir.specs.declared.layouts.Layout.{Layout}
use Rattle.dsr_meaning.proofs.Firing.{some_same}
use Rattle.dsr_meaning.proofs.Items.{in_either}
use Rattle.dsr_meaning.specs.Counting.{IsIn}

pub take_one : {A : Type 0} (xs : List A) (k : ℕ) (x : A) → slice_get xs k ≡ Some x → take (k + 1) xs ≡ take k xs ++ x ∷ []
take_one xs k x is = take_more xs k x (slice_get_within xs k x is) ∙ ap (λ y. take k xs ++ y ∷ []) (get_or_from_slice_get xs k x x is)

pub shown_at : (group : List SetLine) (k : ℕ) (set : SetLine) → slice_get group k ≡ Some set → slice_get (map shown group) k ≡ Some (shown set)
shown_at group k set is = slice_get-map shown group k ∙ ap (option_map shown) is

writes_more : (spec : Spec) (lines : List SetText) (writes : List CellWrite) (line : SetText) (write : CellWrite) → AreWritesOf spec lines writes → IsWriteOf spec line write → AreWritesOf spec (lines ++ line ∷ []) (writes ++ write ∷ [])
writes_more spec _ _ line write none is = more line write is none
writes_more spec _ _ line write (more {lines = ls} {writes = ws} l w its rest) is = more l w its (writes_more spec ls ws line write rest is)

-- the lines before the place name these writes, each of which can be made
pub record IsJudged (spec : Spec) (layout : Layout) (lines : List SetText) (place : ℕ) (writes : List CellWrite) : Type 0 where
  pub named : AreWritesOf spec (take place lines) writes
  pub made : (write : CellWrite) → IsIn write writes → MayWriteSome spec layout write
  pub before : (k : ℕ) (other : SetText) → k < place → slice_get lines k ≡ Some other → CanBeMade spec layout other

module _ (spec : Spec) (layout : Layout) (lines : List SetText) where
  pub none_judged : IsJudged spec layout lines 0 []
  none_judged = record {
    named = none;
    made = λ write is. absurd is;
    before = λ k other low at. absurd (omega (arith, low));
  }

  module _ (place : ℕ) (writes : List CellWrite) (judged : IsJudged spec layout lines place writes) where
    pub one_judged : (line : SetText) (write : CellWrite) → slice_get lines place ≡ Some line → IsWriteOf spec line write → MayWriteSome spec layout write → IsJudged spec layout lines (place + 1) (writes ++ write ∷ [])
    one_judged line write at is may = record {
      named = subst (λ ls. AreWritesOf spec ls (writes ++ write ∷ [])) (sym (take_one lines place line at)) (writes_more spec (take place lines) writes line write judged.named is);
      made = λ w among. elim (in_either w writes (write ∷ []) among) [
        | inl old ↦ judged.made w old
        | inr new ↦ elim new [
          | inl same ↦ subst (MayWriteSome spec layout) (sym same) may
          | inr no_more ↦ absurd no_more
        ]
      ];
      before = λ k other low there. elim (cases_lt k place) [
        | inl less ↦ judged.before k other less there
        | inr great ↦
            let here : k ≡ place = omega (arith, low, great) in
            let same : line ≡ other = some_same _ line other at (ap (slice_get lines) (sym here) ∙ there) in
            subst (CanBeMade spec layout) same (record { write = write; is_write = is; may = may })
      ];
    }

    pub wrong_line : (line : SetText) → slice_get lines place ≡ Some line → (CanBeMade spec layout line → ⊥) → IsFirstUnwritableLine spec layout lines place
    wrong_line line at wrong = record { line = line; line_is = at; unwritable = wrong; before = judged.before }

    pub all_judged : length lines ≤ place → AreWritesOf spec lines writes
    all_judged all = subst (λ ls. AreWritesOf spec ls writes) (take_all place lines all) judged.named
