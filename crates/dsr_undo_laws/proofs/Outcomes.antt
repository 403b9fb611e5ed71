-- What is taken back leads to one image, or to one refusal.
use Rattle.std.proofs.Common.{◌≡◌, ◌∙◌, ℕ, suc, List, [], ◌∷◌, set, refl, sym, ap, subst}
use Rattle.dsr_ir.specs.declared.declarations.Structures.{Structures}
use Rattle.dsr_repair_theory.specs.declared.entries.ByteChange.{ByteChange}
use Rattle.dsr_repair_theory.specs.declared.entries.Entry.{Entry}
use Rattle.dsr_undo_laws.specs.TakingBack.{AreLinesBack, AreTakenBack, IsLineRefused, IsRefused, IsRefusedIn, IsThere}
use Rattle.dsr_undo_laws.specs.TakingBack.AreLinesBack.{none as no_line, then_line}
use Rattle.dsr_undo_laws.specs.TakingBack.AreTakenBack.{none as no_entry, then_entry}
use Rattle.dsr_undo_laws.specs.TakingBack.IsLineRefused.{byte, fixed}
use Rattle.dsr_undo_laws.specs.TakingBack.IsRefusedIn.{here, behind}
use Rattle.dsr_undo_laws.specs.TakingBack.IsRefused.{here as this_entry, behind as later_entry}
use Rattle.dsr_undo_laws.specs.declared.faults.UndoFault.{UndoFault}

module _ {base : Structures} where
  -- ---- the lines of one entry

  pub lines_one : (changes : List ByteChange) (bytes new other : List ℕ) → AreLinesBack base changes bytes new → AreLinesBack base changes bytes other → new ≡ other
  lines_one [] bytes new other no_line no_line = refl
  lines_one (line ∷ rest) bytes new other (then_line _ first one) (then_line _ second two) =
      one.put ∙ (ap (λ xs. set xs line.place line.old) (lines_one rest bytes _ _ first second) ∙ sym two.put)

  pub lines_never : (entry : ℕ) (changes : List ByteChange) (bytes new other : List ℕ) (fault : UndoFault) → AreLinesBack base changes bytes new → IsRefusedIn base entry changes bytes other fault → ⊥
  lines_never entry [] bytes new other fault back refused = elim refused [ ]
  lines_never entry (line ∷ rest) bytes new other _ (then_line _ first one) (here _ second (byte missing)) =
      missing (subst (IsThere line) (lines_one rest bytes _ other first second) one.there)
  lines_never entry (line ∷ rest) bytes new other _ (then_line _ first one) (here _ second (fixed there changes)) = one.unfixed changes
  lines_never entry (line ∷ rest) bytes new other fault (then_line _ first one) (behind _ refused) = lines_never entry rest bytes _ other fault first refused

  one_cause : (entry : ℕ) (line : ByteChange) (bytes : List ℕ) (fault cause : UndoFault) → IsLineRefused base entry line bytes fault → IsLineRefused base entry line bytes cause → fault ≡ cause
  one_cause entry line bytes _ _ (byte missing) (byte too) = refl
  one_cause entry line bytes _ _ (byte missing) (fixed there changes) = absurd (missing there)
  one_cause entry line bytes _ _ (fixed there changes) (byte missing) = absurd (missing there)
  one_cause entry line bytes _ _ (fixed there changes) (fixed too changed) = refl

  line_refused : (entry : ℕ) (changes : List ByteChange) (bytes new other : List ℕ) (fault cause : UndoFault) → IsRefusedIn base entry changes bytes new fault → IsRefusedIn base entry changes bytes other cause → (new ≡ other) × (fault ≡ cause)
  line_refused entry [] bytes new other fault cause one two = elim one [ ]
  line_refused entry (line ∷ rest) bytes new other fault cause (here _ first one) (here _ second two) =
      let same = lines_one rest bytes new other first second in
      (same, one_cause entry line other fault cause (subst (λ xs. IsLineRefused base entry line xs fault) same one) two)
  line_refused entry (line ∷ rest) bytes new other fault cause (here _ first one) (behind _ two) = absurd (lines_never entry rest bytes new other cause first two)
  line_refused entry (line ∷ rest) bytes new other fault cause (behind _ one) (here _ second two) = absurd (lines_never entry rest bytes other new fault second one)
  line_refused entry (line ∷ rest) bytes new other fault cause (behind _ one) (behind _ two) = line_refused entry rest bytes new other fault cause one two

  -- ---- all entries

  pub entries_one : (es : List Entry) (bytes new other : List ℕ) → AreTakenBack base es bytes new → AreTakenBack base es bytes other → new ≡ other
  entries_one [] bytes new other no_entry no_entry = refl
  entries_one (entry ∷ rest) bytes new other (then_entry _ first one) (then_entry _ second two) =
      lines_one entry.bytes _ new other (subst (λ xs. AreLinesBack base entry.bytes xs new) (entries_one rest bytes _ _ first second) one) two

  pub entries_never : (number : ℕ) (es : List Entry) (bytes new other : List ℕ) (fault : UndoFault) → AreTakenBack base es bytes new → IsRefused base number es bytes other fault → ⊥
  entries_never number [] bytes new other fault back refused = elim refused [ ]
  entries_never number (entry ∷ rest) bytes new other fault (then_entry _ first one) (this_entry _ second refused) =
      lines_never number entry.bytes _ new other fault (subst (λ xs. AreLinesBack base entry.bytes xs new) (entries_one rest bytes _ _ first second) one) refused
  entries_never number (entry ∷ rest) bytes new other fault (then_entry _ first one) (later_entry _ refused) = entries_never (suc number) rest bytes _ other fault first refused

  pub entry_refused : (number : ℕ) (es : List Entry) (bytes new other : List ℕ) (fault cause : UndoFault) → IsRefused base number es bytes new fault → IsRefused base number es bytes other cause → (new ≡ other) × (fault ≡ cause)
  entry_refused number [] bytes new other fault cause one two = elim one [ ]
  entry_refused number (entry ∷ rest) bytes new other fault cause (this_entry _ first one) (this_entry _ second two) =
      line_refused number entry.bytes _ new other fault cause (subst (λ xs. IsRefusedIn base number entry.bytes xs new fault) (entries_one rest bytes _ _ first second) one) two
  entry_refused number (entry ∷ rest) bytes new other fault cause (this_entry _ first one) (later_entry _ two) = absurd (entries_never (suc number) rest bytes _ other cause first two)
  entry_refused number (entry ∷ rest) bytes new other fault cause (later_entry _ one) (this_entry _ second two) = absurd (entries_never (suc number) rest bytes _ new fault second one)
  entry_refused number (entry ∷ rest) bytes new other fault cause (later_entry _ one) (later_entry _ two) = entry_refused (suc number) rest bytes new other fault cause one two
