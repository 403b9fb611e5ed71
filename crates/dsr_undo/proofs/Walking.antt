-- What lies behind a place of a list, walked from the last to the first.
use Rattle.std.proofs.Common.{◌≡◌, ◌<◌, ◌≤◌, ◌+◌, ◌∙◌, ℕ, zero, suc, List, [], ◌∷◌, ◌++◌, drop, length, get_or, sym, ap, subst, append_assoc, append-nil, length-append, arith}
use Rattle.std.proofs.lemmas.List.{nil_from_length}
use Rattle.std.proofs.Math.ListN.{drop_of_length-le}
use Rattle.std.proofs.Math.Seq.{drop-cons}
use Rattle.dsr_ir.specs.declared.declarations.Structures.{Structures}
use Rattle.dsr_repair_theory.specs.declared.entries.ByteChange.{ByteChange}
use Rattle.dsr_repair_theory.specs.declared.entries.Entry.{Entry}
use Rattle.dsr_undo_laws.specs.TakingBack.{AreLinesBack, AreTakenBack, IsLineBack, IsLineRefused, IsRefused, IsRefusedIn}
use Rattle.dsr_undo_laws.specs.TakingBack.AreLinesBack.{none as no_line, then_line}
use Rattle.dsr_undo_laws.specs.TakingBack.AreTakenBack.{none as no_entry, then_entry}
use Rattle.dsr_undo_laws.specs.TakingBack.IsRefusedIn.{here, behind}
use Rattle.dsr_undo_laws.specs.TakingBack.IsRefused.{here as this_entry, behind as later_entry}
use Rattle.dsr_undo_laws.specs.declared.faults.UndoFault.{UndoFault}

module _ (base : Structures) where
  -- ---- lines

  pub lines_start : (lines : List ByteChange) (k : ℕ) (bytes : List ℕ) → length lines ≤ k → AreLinesBack base (drop k lines) bytes bytes
  lines_start lines k bytes past = subst (λ ls. AreLinesBack base ls bytes bytes) (sym (drop_of_length-le lines past)) no_line

  pub lines_more : (lines : List ByteChange) (at next : ℕ) (d : ByteChange) (bytes middle new : List ℕ) → at < length lines → next ≡ suc at → AreLinesBack base (drop next lines) bytes middle → IsLineBack base (get_or lines at d) middle new → AreLinesBack base (drop at lines) bytes new
  lines_more lines at next d bytes middle new within is rest one =
      subst (λ ls. AreLinesBack base ls bytes new) (sym (drop-cons lines at d within))
      (then_line (get_or lines at d) (subst (λ n. AreLinesBack base (drop n lines) bytes middle) is rest) one)

  front_lines : (entry : ℕ) (lines : List ByteChange) (k : ℕ) (bytes new : List ℕ) (fault : UndoFault) → IsRefusedIn base entry (drop k lines) bytes new fault → IsRefusedIn base entry lines bytes new fault
  front_lines entry lines zero bytes new fault refused = refused
  front_lines entry [] (suc k) bytes new fault refused = refused
  front_lines entry (line ∷ lines) (suc k) bytes new fault refused = behind line (front_lines entry lines k bytes new fault refused)

  pub lines_refused : (entry : ℕ) (lines : List ByteChange) (at next : ℕ) (d : ByteChange) (bytes new : List ℕ) (fault : UndoFault) → at < length lines → next ≡ suc at → AreLinesBack base (drop next lines) bytes new → IsLineRefused base entry (get_or lines at d) new fault → IsRefusedIn base entry lines bytes new fault
  lines_refused entry lines at next d bytes new fault within is rest refused =
      front_lines entry lines at bytes new fault (subst (λ ls. IsRefusedIn base entry ls bytes new fault) (sym (drop-cons lines at d within))
      (here (get_or lines at d) (subst (λ n. AreLinesBack base (drop n lines) bytes new) is rest) refused))

  -- ---- entries

  -- of all entries those behind the ones that are left are taken back
  pub record IsWalkedBack (all left : List Entry) (old new : List ℕ) : Type 0 where
    pub behind : List Entry
    pub all_are : all ≡ left ++ behind
    pub back : AreTakenBack base behind old new

  pub walk_starts : (all : List Entry) (bytes : List ℕ) → IsWalkedBack all all bytes bytes
  walk_starts all bytes = record { behind = []; all_are = sym (append-nil all); back = no_entry }

  module _ (all left rest : List Entry) (entry : Entry) (old middle new : List ℕ) (walked : IsWalkedBack all left old middle) (last : left ≡ rest ++ entry ∷ []) where
    -- the last one that is left stands before those
    moved : all ≡ rest ++ entry ∷ walked.behind
    moved = walked.all_are ∙ (ap (λ es. es ++ walked.behind) last ∙ append_assoc rest (entry ∷ []) walked.behind)

    pub walk_more : AreLinesBack base entry.bytes middle new → IsWalkedBack all rest old new
    walk_more lines = record { behind = entry ∷ walked.behind; all_are = moved; back = then_entry entry walked.back lines }

    front : (first : ℕ) (before : List Entry) (fault : UndoFault) → IsRefused base (first + length before) (entry ∷ walked.behind) old new fault → IsRefused base first (before ++ entry ∷ walked.behind) old new fault
    front first [] fault it = let same : first + 0 ≡ first = omega arith in subst (λ n. IsRefused base n (entry ∷ walked.behind) old new fault) same it
    front first (e ∷ before) fault it =
        let same : first + suc (length before) ≡ suc first + length before = omega arith in
        later_entry e (front (suc first) before fault (subst (λ n. IsRefused base n (entry ∷ walked.behind) old new fault) same it))

    pub walk_refused : (fault : UndoFault) → IsRefusedIn base (length left) entry.bytes middle new fault → IsRefused base 1 all old new fault
    walk_refused fault refused =
        let number : length left ≡ 1 + length rest = ap length last ∙ (length-append rest (entry ∷ []) ∙ omega arith) in
        subst (λ es. IsRefused base 1 es old new fault) (sym moved)
        (front 1 rest fault (subst (λ n. IsRefused base n (entry ∷ walked.behind) old new fault) number (this_entry entry walked.back refused)))

  pub walk_ends : (all left : List Entry) (old new : List ℕ) → length left ≡ 0 → IsWalkedBack all left old new → AreTakenBack base all old new
  walk_ends all left old new none walked =
      subst (λ es. AreTakenBack base es old new) (sym (walked.all_are ∙ ap (λ es. es ++ walked.behind) (nil_from_length left none))) walked.back
