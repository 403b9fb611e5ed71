-- What comes of the edits of an image by a script is one thing.
use Rattle.std.proofs.Common.{◌≡◌, ◌+◌, ◌++◌, ◌∙◌, ◌⊎◌, ℕ, zero, suc, List, [], ◌∷◌, Some, length, length-append, append-nil, slice_get, inl, inr, refl, sym, ap, subst, arith}
use Rattle.std.proofs.lemmas.Bool.{cases_lt}
use Rattle.std.proofs.lemmas.Option.{same_Some}
use Rattle.dsr_command_edit.proofs.Sole.{one_write}
use Rattle.dsr_command_edit.specs.Edited.{AreAccepted, IsEditOf, broken_answer, edited_answer, is_second, unread_answer, unwritable_answer}
use Rattle.dsr_command_edit.specs.Edited.AreAccepted.{none, more}
use Rattle.dsr_command_edit.specs.Edited.IsEditOf.{broken, edited, unread, unwritable}
use Rattle.dsr_command_edit.specs.Named.{AreWritesOf, IsFirstUnwritableLine, IsWriteOf}
use Rattle.dsr_command_edit.specs.Named.AreWritesOf.{none as no_line, more as more_lines}
use Rattle.dsr_command_edit.specs.Opened.{IsOpen}
use Rattle.dsr_command_image.specs.Repaired.{Ending, Saves, Tells}
use Rattle.dsr_edit.proofs.Entries.{cell_in}
use Rattle.dsr_edit.proofs.Made.{each_may, image_stays}
use Rattle.dsr_edit.specs.Edits.{AreMade, IsBroken, IsEdited, IsFirstViolation}
use Rattle.dsr_edit.specs.Edits.AreMade.{done, made}
use Rattle.dsr_edit.specs.declared.groups.CellWrite.{CellWrite}
use Rattle.dsr_edit_text.proofs.Once.{no_script, one_wrong}
use Rattle.dsr_edit_text.proofs.Sole.{one_script}
use Rattle.dsr_edit_text.specs.Scripts.{IsFirstWrong, IsScript, SetText, group_texts, script_texts}
use Rattle.dsr_ir.specs.declared.declarations.Spec.{Spec}
use Rattle.dsr_ir.specs.declared.layouts.Layout.{Layout}
use Rattle.dsr_meaning.proofs.Ordered.{bindings_apart}
use Rattle.dsr_meaning.specs.Consistency.{BoundConstraint, IsViolated}
use Rattle.dsr_meaning.specs.Counting.{IsIn}
use Rattle.dsr_meaning.specs.Models.{IsFact}
use Rattle.dsr_meaning.specs.Typed.{IsTyped}
use Rattle.dsr_repair_laws.proofs.PutOnce.{put_once}
use Rattle.dsr_resolve.proofs.AcceptedLayouts.{legal_of}
use Rattle.dsr_step_theory.specs.Images.{IsImageOf}
use Rattle.dsr_step_theory.specs.Puts.{IsPut}

module _ (spec : Spec) (layout : Layout) where
  -- ---- one group

  writes_once : IsTyped spec → (lines : List SetText) (ws vs : List CellWrite) → AreWritesOf spec lines ws → AreWritesOf spec lines vs → ws ≡ vs
  writes_once typed [] _ _ no_line no_line = refl
  writes_once typed (l ∷ lines) _ _ (more_lines {writes = ws} _ w its rest) (more_lines {writes = vs} _ v other last) =
      ap (λ x. x ∷ ws) (one_write spec typed l w v its other) ∙ ap (λ xs. v ∷ xs) (writes_once typed lines ws vs rest last)

  -- the write that a line of the group names
  record HasWrite (line : SetText) (writes : List CellWrite) : Type 0 where
    write : CellWrite
    among : IsIn write writes
    is_write : IsWriteOf spec line write

  write_at : (lines : List SetText) (writes : List CellWrite) (k : ℕ) (line : SetText) → AreWritesOf spec lines writes → slice_get lines k ≡ Some line → HasWrite line writes
  write_at [] _ k line no_line at = absurd cc
  write_at (l ∷ lines) _ zero line (more_lines _ w its rest) at = record { write = w; among = inl refl; is_write = subst (λ t. IsWriteOf spec t w) (same_Some l line at) its }
  write_at (l ∷ lines) _ (suc k) line (more_lines {writes = ws} _ w its rest) at =
      let later = write_at lines ws k line rest at in
      record { write = later.write; among = inr later.among; is_write = later.is_write }

  image_after : (writes : List CellWrite) (old new : List ℕ) → IsImageOf spec layout old → AreMade spec layout writes old new → IsImageOf spec layout new
  image_after writes old new image all = image_stays spec layout old new image writes all

  made_once : (writes : List CellWrite) (old other a b : List ℕ) → old ≡ other → IsImageOf spec layout old → AreMade spec layout writes old a → AreMade spec layout writes other b → a ≡ b
  made_once [] _ _ _ _ same image done done = same
  made_once (w ∷ writes) old other a b same image (made {middle = m} _ cell may one rest) (made {middle = n} _ its might two last) =
      let cells : cell ≡ its = same_Some cell its (sym may.names.cell_is ∙ might.names.cell_is) in
      let legal = legal_of spec old layout image.layout_is image.typed image.small in
      let form = (cell_in spec old layout image.layout_is image.typed legal w cell may).form in
      let again : IsPut cell w.value old n = subst (λ c. IsPut c w.value old n) (sym cells) (subst (λ o. IsPut its w.value o n) (sym same) two) in
      made_once writes m n a b (put_once cell w.value old m n form one again) (image_after (w ∷ []) old m image (made w cell may one done)) rest last

-- ---- how groups end

-- the violated binding that comes first is one
violation_once : (spec : Spec) (layout : Layout) (bytes : List ℕ) (v w : BoundConstraint) → IsFirstViolation spec layout bytes v → IsFirstViolation spec layout bytes w → v ≡ w
violation_once spec layout bytes v w one two = elim (cases_lt v.constraint w.constraint) [
  | inl less ↦ absurd (two.none_before v one.violated (inl less))
  | inr from ↦ elim (cases_lt w.constraint v.constraint) [
    | inl great ↦ absurd (one.none_before w two.violated (inl great))
    | inr to ↦
        let same : v.constraint ≡ w.constraint = omega (arith, from, to) in
        elim (bindings_apart v.binding w.binding) [
          | inl before ↦ absurd (two.none_before v one.violated (inr (same, before)))
          | inr other ↦ elim other [
            | inl equal ↦ λ i. record { constraint = same i; binding = equal i }
            | inr after ↦ absurd (one.none_before w two.violated (inr (sym same, after)))
          ]
        ]
  ]
]

-- so many groups and so many lines come before these groups, which end so from an image on
data EndsSo (spec : Spec) (layout : Layout) : ℕ → ℕ → List (List SetText) → List ℕ → Ending → Type 0 where
  all : {count lines : ℕ} {image : List ℕ} → EndsSo spec layout count lines [] image (Saves image (edited_answer count))
  unwritten :
      {count lines : ℕ} {groups : List (List SetText)} {image : List ℕ} → (group : List SetText) (place : ℕ) → IsFirstUnwritableLine spec layout group place
      → EndsSo spec layout count lines (group ∷ groups) image (Tells (unwritable_answer (lines + place + 1)))
  breaks :
      {count lines : ℕ} {groups : List (List SetText)} {image : List ℕ} → (group : List SetText) (writes : List CellWrite) (v : BoundConstraint)
      → AreWritesOf spec group writes → IsBroken spec layout writes image v → EndsSo spec layout count lines (group ∷ groups) image (Tells (broken_answer spec (count + 1) v))
  goes_on :
      {count lines : ℕ} {groups : List (List SetText)} {image middle : List ℕ} {ending : Ending} → (group : List SetText) (writes : List CellWrite)
      → AreWritesOf spec group writes → IsEdited spec layout writes image middle → EndsSo spec layout (count + 1) (lines + length (group_texts group)) groups middle ending
      → EndsSo spec layout count lines (group ∷ groups) image ending

module _ (spec : Spec) (layout : Layout) where
  -- a group whose writes are made has no line that can't be made
  all_writable : (group : List SetText) (writes : List CellWrite) (old new : List ℕ) (place : ℕ) → AreWritesOf spec group writes → AreMade spec layout writes old new
      → IsFirstUnwritableLine spec layout group place → ⊥
  all_writable group writes old new place are_writes are_made first =
      let has = write_at spec layout group writes place first.line are_writes first.line_is in
      first.unwritable (record { write = has.write; is_write = has.is_write; may = each_may spec layout writes old new are_made has.write has.among })

  place_once : (group : List SetText) (m n : ℕ) → IsFirstUnwritableLine spec layout group m → IsFirstUnwritableLine spec layout group n → m ≡ n
  place_once group m n one two = elim (cases_lt m n) [
    | inl less ↦ absurd (one.unwritable (two.before m one.line less one.line_is))
    | inr from ↦ elim (cases_lt n m) [
      | inl great ↦ absurd (two.unwritable (one.before n two.line great two.line_is))
      | inr to ↦ omega (arith, from, to)
    ]
  ]

  -- two ways in which a group's writes are made on one image
  module _ (group : List SetText) (ws vs : List CellWrite) (named : AreWritesOf spec group ws) (called : AreWritesOf spec group vs)
      (old other : List ℕ) (same : old ≡ other) (image : IsImageOf spec layout old) where
    one_end : (a b : List ℕ) → AreMade spec layout ws old a → AreMade spec layout vs other b → a ≡ b
    one_end a b one two =
        let writes : vs ≡ ws = writes_once spec layout image.typed group vs ws called named in
        made_once spec layout ws old other a b same image one (subst (λ xs. AreMade spec layout xs other b) writes two)

  ends_once :
      (groups : List (List SetText)) (count lines : ℕ) (old other : List ℕ) (e f : Ending) → old ≡ other → IsImageOf spec layout old
      → EndsSo spec layout count lines groups old e → EndsSo spec layout count lines groups other f → e ≡ f
  ends_once [] count lines old other _ _ same image all all = ap (λ bytes. Saves bytes (edited_answer count)) same
  ends_once (g ∷ groups) count lines old other _ _ same image (unwritten _ m one) (unwritten _ n two) =
      ap (λ k. Tells (unwritable_answer (lines + k + 1))) (place_once g m n one two)
  ends_once (g ∷ groups) count lines old other _ _ same image (unwritten _ m one) (breaks _ vs w called two) =
      absurd (all_writable g vs other two.new m called two.made one)
  ends_once (g ∷ groups) count lines old other _ f same image (unwritten _ m one) (goes_on {middle = n} _ vs called step rest) =
      absurd (all_writable g vs other n m called step.made one)
  ends_once (g ∷ groups) count lines old other _ _ same image (breaks _ ws v named one) (unwritten _ n two) =
      absurd (all_writable g ws old one.new n named one.made two)
  ends_once (g ∷ groups) count lines old other _ _ same image (breaks _ ws v named one) (breaks _ vs w called two) =
      let end = one_end g ws vs named called old other same image one.new two.new one.made two.made in
      ap (λ x. Tells (broken_answer spec (count + 1) x)) (violation_once spec layout two.new v w (subst (λ bytes. IsFirstViolation spec layout bytes v) end one.first) two.first)
  ends_once (g ∷ groups) count lines old other _ f same image (breaks _ ws v named one) (goes_on {middle = n} _ vs called step rest) =
      let end = one_end g ws vs named called old other same image one.new n one.made step.made in
      absurd (step.consistent v (subst (λ bytes. IsViolated (IsFact spec layout bytes) spec v) end one.first.violated))
  ends_once (g ∷ groups) count lines old other e _ same image (goes_on {middle = m} _ ws named step rest) (unwritten _ n two) =
      absurd (all_writable g ws old m n named step.made two)
  ends_once (g ∷ groups) count lines old other e _ same image (goes_on {middle = m} _ ws named step rest) (breaks _ vs w called two) =
      let end = one_end g ws vs named called old other same image m two.new step.made two.made in
      absurd (step.consistent w (subst (λ bytes. IsViolated (IsFact spec layout bytes) spec w) (sym end) two.first.violated))
  ends_once (g ∷ groups) count lines old other e f same image (goes_on {middle = m} _ ws named step rest) (goes_on {middle = n} _ vs called turn last) =
      let end = one_end g ws vs named called old other same image m n step.made turn.made in
      ends_once groups (count + 1) (lines + length (group_texts g)) m n e f end (image_after spec layout ws old m image step.made) rest last

  -- groups that are made come before others
  behind :
      (before rest : List (List SetText)) (count lines : ℕ) (image now : List ℕ) (ending : Ending) → AreAccepted spec layout before image now
      → EndsSo spec layout (count + length before) (lines + length (script_texts before)) rest now ending → EndsSo spec layout count lines (before ++ rest) image ending
  behind [] rest count lines image _ ending none ends =
      let counted : count + 0 ≡ count = omega arith in
      let numbered : lines + 0 ≡ lines = omega arith in
      subst (λ n. EndsSo spec layout n lines rest image ending) counted (subst (λ n. EndsSo spec layout (count + 0) n rest image ending) numbered ends)
  behind (g ∷ before) rest count lines image now ending (more {middle = m} _ writes named step accepted) ends =
      let long = length-append (group_texts g) (script_texts before) in
      let counted : count + suc (length before) ≡ count + 1 + length before = omega arith in
      let numbered : lines + length (script_texts (g ∷ before)) ≡ lines + length (group_texts g) + length (script_texts before) = omega (arith, long) in
      goes_on g writes named step
      (behind before rest (count + 1) (lines + length (group_texts g)) m now ending accepted
      (subst (λ n. EndsSo spec layout n (lines + length (group_texts g) + length (script_texts before)) rest now ending) counted
      (subst (λ n. EndsSo spec layout (count + length (g ∷ before)) n rest now ending) numbered ends)))

-- ---- what comes of a script

-- its groups were read, and end so
record IsTried (spec : Spec) (image script : List ℕ) (ending : Ending) : Type 0 where
  layout : Layout
  opened : IsOpen spec layout image
  groups : List (List SetText)
  is_script : IsScript (is_second spec) script groups
  ends : EndsSo spec layout 0 0 groups image ending

module _ (spec : Spec) (image script : List ℕ) where
  tried : (ending : Ending) → IsEditOf spec image script ending
      → ((line : ℕ) × IsFirstWrong (is_second spec) script line × (ending ≡ Tells (unread_answer line))) ⊎ IsTried spec image script ending
  tried _ (unread line first) = inl (line, first, refl)
  tried _ (unwritable layout groups line opened is_script is) =
      let numbered : 0 + length (script_texts is.before) + is.place + 1 ≡ line = let told = is.number_is in omega (arith, told) in
      inr (record {
        layout = layout;
        opened = opened;
        groups = groups;
        is_script = is_script;
        ends = subst (λ n. EndsSo spec layout 0 0 groups image (Tells (unwritable_answer n))) numbered
            (subst (λ gs. EndsSo spec layout 0 0 gs image (Tells (unwritable_answer (0 + length (script_texts is.before) + is.place + 1)))) (sym is.accepted.groups_are)
            (behind spec layout is.before (is.group ∷ is.accepted.after) 0 0 image is.now _ is.accepted.accepted (unwritten is.group is.place is.first)));
      })
  tried _ (broken layout groups number v opened is_script is) =
      let numbered : 0 + length is.before + 1 ≡ number = let told = is.number_is in omega (arith, told) in
      inr (record {
        layout = layout;
        opened = opened;
        groups = groups;
        is_script = is_script;
        ends = subst (λ n. EndsSo spec layout 0 0 groups image (Tells (broken_answer spec n v))) numbered
            (subst (λ gs. EndsSo spec layout 0 0 gs image (Tells (broken_answer spec (0 + length is.before + 1) v))) (sym is.accepted.groups_are)
            (behind spec layout is.before (is.group ∷ is.accepted.after) 0 0 image is.now _ is.accepted.accepted (breaks is.group is.writes v is.are_writes is.broken)));
      })
  tried _ (edited layout groups new opened is_script accepted) =
      let counted : 0 + length groups ≡ length groups = omega arith in
      inr (record {
        layout = layout;
        opened = opened;
        groups = groups;
        is_script = is_script;
        ends = subst (λ n. EndsSo spec layout 0 0 groups image (Saves new (edited_answer n))) counted
            (subst (λ gs. EndsSo spec layout 0 0 gs image (Saves new (edited_answer (0 + length groups)))) (append-nil groups)
            (behind spec layout groups [] 0 0 image new _ accepted all));
      })

  same_ending : (e f : Ending) → IsTried spec image script e → IsTried spec image script f → e ≡ f
  same_ending e f one two =
      let layouts : two.layout ≡ one.layout = same_Some two.layout one.layout (sym two.opened.image_of.layout_is.numbers ∙ one.opened.image_of.layout_is.numbers) in
      let groups : two.groups ≡ one.groups = one_script (is_second spec) script two.groups one.groups two.is_script one.is_script in
      ends_once spec one.layout one.groups 0 0 image image e f refl one.opened.image_of one.ends
      (subst (λ l. EndsSo spec l 0 0 one.groups image f) layouts (subst (λ gs. EndsSo spec two.layout 0 0 gs image f) groups two.ends))

  pub edit_once : (e f : Ending) → IsEditOf spec image script e → IsEditOf spec image script f → e ≡ f
  edit_once e f one two = elim (tried e one) [
    | inl wrong ↦ elim (tried f two) [
      | inl other ↦ wrong.2 ∙ (ap (λ n. Tells (unread_answer n)) (one_wrong (is_second spec) script wrong.0 other.0 wrong.1 other.1) ∙ sym other.2)
      | inr its ↦ absurd (no_script (is_second spec) script wrong.0 its.groups wrong.1 its.is_script)
    ]
    | inr its ↦ elim (tried f two) [
      | inl other ↦ absurd (no_script (is_second spec) script other.0 its.groups other.1 its.is_script)
      | inr other ↦ same_ending e f its other
    ]
  ]
