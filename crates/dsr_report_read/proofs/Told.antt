-- The lines that tell entries.
use Rattle.std.proofs.Common.{◌≡◌, ◌<◌, ◌+◌, ◌∙◌, ℕ, IsTrue, List, [], ◌∷◌, Option, None, Some, All, IfSome, drop, length, refl, ap}
use Rattle.std.proofs.lemmas.List.Elements.{All-head, All-tail}
use Rattle.dsr_ir.specs.declared.declarations.Spec.{Spec}
use Rattle.dsr_ir.specs.declared.tuples.Element.{Element}
use Rattle.dsr_repair_theory.specs.declared.entries.ByteChange.{ByteChange}
use Rattle.dsr_repair_theory.specs.declared.entries.CellSet.{CellSet}
use Rattle.dsr_repair_theory.specs.declared.entries.Entry.{Entry}
use Rattle.dsr_report_read.specs.Forms.{AreLines, IsChange, IsFirstSet, IsRecord, IsReported, IsTold, head_told}
use Rattle.dsr_report_read.specs.Grouped.{behind_reset, bytes_ahead, entries_of, entry_of, reset_ahead, sets_ahead}
use Rattle.dsr_report_read.specs.Lines.{may_follow, moved, start, state_after}
use Rattle.dsr_report_read.specs.declared.lines.Kind.{Kind}
use Rattle.dsr_report_read.specs.declared.lines.Kind.TheVariants as kinds
use Rattle.dsr_report_read.specs.declared.lines.Line.{Line}
use Rattle.dsr_report_read.specs.declared.lines.Line.TheVariants as lines
use Rattle.dsr_report_read.specs.declared.lines.State.{State}

-- ---- the lines of entries

abbrev bytes_then : List ByteChange → List Line → List Line
bytes_then [] rest = rest
bytes_then (change ∷ changes) rest = lines.Byte change ∷ bytes_then changes rest

abbrev sets_then : List CellSet → List Line → List Line
sets_then [] rest = rest
sets_then (set ∷ sets) rest = lines.Set set ∷ sets_then sets rest

abbrev reset_then : Option Element → List Line → List Line
reset_then None rest = rest
reset_then (Some elem) rest = lines.Reset elem ∷ rest

abbrev pub lines_told : List Entry → List Line
lines_told [] = lines.End ∷ []
lines_told (entry ∷ entries) =
    lines.Update (head_told entry) ∷ reset_then entry.reset (sets_then entry.sets (bytes_then entry.bytes (lines_told entries)))

-- ---- grouped, they are the entries

-- no entry goes on there
data IsOuter : List Line → Type 0 where
  begins : (head : _) (rest : List Line) → IsOuter (lines.Update head ∷ rest)
  ends : IsOuter (lines.End ∷ [])

outer : (entries : List Entry) → IsOuter (lines_told entries)
outer [] = ends
outer (entry ∷ entries) = begins (head_told entry) _

no_bytes : (rest : List Line) → IsOuter rest → bytes_ahead rest ≡ []
no_bytes _ (begins head rest) = refl
no_bytes _ ends = refl

bytes_told : (changes : List ByteChange) (rest : List Line) → IsOuter rest → bytes_ahead (bytes_then changes rest) ≡ changes
bytes_told [] rest is = no_bytes rest is
bytes_told (change ∷ changes) rest is = ap (λ cs. change ∷ cs) (bytes_told changes rest is)

no_sets : (changes : List ByteChange) (rest : List Line) → IsOuter rest → sets_ahead (bytes_then changes rest) ≡ []
no_sets [] _ (begins head rest) = refl
no_sets [] _ ends = refl
no_sets (change ∷ changes) rest is = refl

sets_told : (sets : List CellSet) (changes : List ByteChange) (rest : List Line) → IsOuter rest → sets_ahead (sets_then sets (bytes_then changes rest)) ≡ sets
sets_told [] changes rest is = no_sets changes rest is
sets_told (set ∷ sets) changes rest is = ap (λ ss. set ∷ ss) (sets_told sets changes rest is)

behind_sets : (sets : List CellSet) (rest : List Line) → drop (length sets) (sets_then sets rest) ≡ rest
behind_sets [] rest = refl
behind_sets (set ∷ sets) rest = behind_sets sets rest

-- a list of lines with no reset at its front
record HasNoReset (ls : List Line) : Type 0 where
  none : reset_ahead ls ≡ None
  stays : behind_reset ls ≡ ls

no_reset : (sets : List CellSet) (changes : List ByteChange) (rest : List Line) → IsOuter rest → HasNoReset (sets_then sets (bytes_then changes rest))
no_reset [] [] _ (begins head rest) = record { none = refl; stays = refl }
no_reset [] [] _ ends = record { none = refl; stays = refl }
no_reset [] (change ∷ changes) rest is = record { none = refl; stays = refl }
no_reset (set ∷ sets) changes rest is = record { none = refl; stays = refl }

record IsResetTold (reset : Option Element) (rest : List Line) : Type 0 where
  its : reset_ahead (reset_then reset rest) ≡ reset
  behind : behind_reset (reset_then reset rest) ≡ rest

reset_told : (reset : Option Element) (rest : List Line) → HasNoReset rest → IsResetTold reset rest
reset_told None rest its = record { its = its.none; behind = its.stays }
reset_told (Some elem) rest its = record { its = refl; behind = refl }

entry_told : (entry : Entry) (rest : List Line) → IsOuter rest → entry_of (head_told entry) (reset_then entry.reset (sets_then entry.sets (bytes_then entry.bytes rest))) ≡ entry
entry_told entry rest is =
    let changes = bytes_then entry.bytes rest in
    let behind = sets_then entry.sets changes in
    let first = reset_told entry.reset behind (no_reset entry.sets entry.bytes rest is) in
    let sets : sets_ahead (behind_reset (reset_then entry.reset behind)) ≡ entry.sets = ap sets_ahead first.behind ∙ sets_told entry.sets entry.bytes rest is in
    let bytes : bytes_ahead (drop (length (sets_ahead (behind_reset (reset_then entry.reset behind)))) (behind_reset (reset_then entry.reset behind))) ≡ entry.bytes =
    ap (λ ss. bytes_ahead (drop (length ss) (behind_reset (reset_then entry.reset behind)))) sets
    ∙ (ap (λ ls. bytes_ahead (drop (length entry.sets) ls)) first.behind
    ∙ (ap bytes_ahead (behind_sets entry.sets changes) ∙ bytes_told entry.bytes rest is)) in
    λ i. record {
      constraint = entry.constraint;
      binding = entry.binding;
      conj = entry.conj;
      literal = entry.literal;
      rule = entry.rule;
      reset = first.its i;
      sets = sets i;
      bytes = bytes i;
    }

bytes_passed : (changes : List ByteChange) (rest : List Line) → entries_of (bytes_then changes rest) ≡ entries_of rest
bytes_passed [] rest = refl
bytes_passed (change ∷ changes) rest = bytes_passed changes rest

sets_passed : (sets : List CellSet) (rest : List Line) → entries_of (sets_then sets rest) ≡ entries_of rest
sets_passed [] rest = refl
sets_passed (set ∷ sets) rest = sets_passed sets rest

reset_passed : (reset : Option Element) (rest : List Line) → entries_of (reset_then reset rest) ≡ entries_of rest
reset_passed None rest = refl
reset_passed (Some elem) rest = refl

pub entries_back : (entries : List Entry) → entries_of (lines_told entries) ≡ entries
entries_back [] = refl
entries_back (entry ∷ entries) =
    let rest = lines_told entries in
    let changes = bytes_then entry.bytes rest in
    let sets = sets_then entry.sets changes in
    let behind = reset_then entry.reset sets in
    ap (λ e. e ∷ entries_of behind) (entry_told entry rest (outer entries))
    ∙ ap (λ es. entry ∷ es) (reset_passed entry.reset sets ∙ (sets_passed entry.sets changes ∙ (bytes_passed entry.bytes rest ∙ entries_back entries)))

-- ---- each may stand where it stands

-- bytes may follow, and then an entry or the end
record MayEnd (last : Option Kind) : Type 0 where
  update : IsTrue (may_follow last kinds.Update)
  end : IsTrue (may_follow last kinds.End)

may_end : (last : Option Kind) → IsTrue (may_follow last kinds.Byte) → MayEnd last
may_end None is = absurd cc
may_end (Some kinds.Update) is = record { update = refl; end = refl }
may_end (Some kinds.Reset) is = record { update = refl; end = refl }
may_end (Some kinds.Set) is = record { update = refl; end = refl }
may_end (Some kinds.Byte) is = record { update = refl; end = refl }
may_end (Some kinds.End) is = absurd cc

-- where sets may follow, bytes may
may_change : (last : Option Kind) → IsTrue (may_follow last kinds.Set) → IsTrue (may_follow last kinds.Byte)
may_change None is = absurd cc
may_change (Some kinds.Update) is = refl
may_change (Some kinds.Reset) is = refl
may_change (Some kinds.Set) is = refl
may_change (Some kinds.Byte) is = absurd cc
may_change (Some kinds.End) is = absurd cc

-- what stands behind an entry
abbrev GoesOn : Spec → List Line → Type 0
GoesOn spec rest = (s : State) → MayEnd s.last → AreLines spec s rest

module _ (spec : Spec) where
  bytes_are : (changes : List ByteChange) (rest : List Line) → All IsChange changes → GoesOn spec rest → (s : State) → IsTrue (may_follow s.last kinds.Byte) → AreLines spec s (bytes_then changes rest)
  bytes_are [] rest all on s may = on s (may_end s.last may)
  bytes_are (change ∷ changes) rest all on s may = (
    record { follows = may; is_line = All-head IsChange change changes all },
    bytes_are changes rest (All-tail IsChange change changes all) on (moved s (lines.Byte change)) refl,
  )

  sets_are : (sets : List CellSet) (changes : List ByteChange) (rest : List Line) → All (IsFirstSet spec) sets → All IsChange changes → GoesOn spec rest → (s : State) → IsTrue (may_follow s.last kinds.Set)
      → AreLines spec s (sets_then sets (bytes_then changes rest))
  sets_are [] changes rest all each on s may = bytes_are changes rest each on s (may_change s.last may)
  sets_are (set ∷ sets) changes rest all each on s may = (
    record { follows = may; is_line = All-head (IsFirstSet spec) set sets all },
    sets_are sets changes rest (All-tail (IsFirstSet spec) set sets all) each on (moved s (lines.Set set)) refl,
  )

  reset_is : (reset : Option Element) (rest : List Line) → IfSome reset (λ elem. IsRecord spec elem × (0 < elem.pool))
      → ((s : State) → IsTrue (may_follow s.last kinds.Set) → AreLines spec s rest) → (count : ℕ) → AreLines spec (record { count = count; last = Some kinds.Update }) (reset_then reset rest)
  reset_is None rest its on count = on (record { count = count; last = Some kinds.Update }) refl
  reset_is (Some elem) rest its on count = (record { follows = refl; is_line = its }, on (record { count = count; last = Some kinds.Reset }) refl)

  lines_are : (entries : List Entry) → IsReported spec entries → GoesOn spec (lines_told entries)
  lines_are [] all s may = (record { follows = may.end; is_line = tt }, tt)
  lines_are (entry ∷ entries) all s may =
      let its = All-head (IsTold spec) entry entries all in
      let on = lines_are entries (All-tail (IsTold spec) entry entries all) in
      let rest = lines_told entries in (
        record { follows = may.update; is_line = its.head },
        reset_is entry.reset (sets_then entry.sets (bytes_then entry.bytes rest)) its.reset (sets_are entry.sets entry.bytes rest its.sets its.bytes on) (s.count + 1),
      )

  pub told_lines : (entries : List Entry) → IsReported spec entries → AreLines spec start (lines_told entries)
  told_lines entries all = lines_are entries all start (record { update = refl; end = refl })

-- ---- and the end is the last one

abbrev Ends : List Line → Type 0
Ends ls = (s : State) → (state_after s ls).last ≡ Some kinds.End

bytes_end : (changes : List ByteChange) (rest : List Line) → Ends rest → Ends (bytes_then changes rest)
bytes_end [] rest end s = end s
bytes_end (change ∷ changes) rest end s = bytes_end changes rest end (moved s (lines.Byte change))

sets_end : (sets : List CellSet) (rest : List Line) → Ends rest → Ends (sets_then sets rest)
sets_end [] rest end s = end s
sets_end (set ∷ sets) rest end s = sets_end sets rest end (moved s (lines.Set set))

reset_end : (reset : Option Element) (rest : List Line) → Ends rest → Ends (reset_then reset rest)
reset_end None rest end s = end s
reset_end (Some elem) rest end s = end (moved s (lines.Reset elem))

lines_end : (entries : List Entry) → Ends (lines_told entries)
lines_end [] s = refl
lines_end (entry ∷ entries) s =
    let rest = lines_told entries in
    let changes = bytes_then entry.bytes rest in
    let sets = sets_then entry.sets changes in
    reset_end entry.reset sets (sets_end entry.sets changes (bytes_end entry.bytes rest (lines_end entries))) (moved s (lines.Update (head_told entry)))

pub told_end : (entries : List Entry) → (state_after start (lines_told entries)).last ≡ Some kinds.End
told_end entries = lines_end entries start
