-- Entries that share one list of sets and one of bytes.
use Rattle.std.proofs.Common.{◌≡◌, ◌∙◌, ◌+◌, ◌≤◌, ℕ, zero, suc, List, [], ◌∷◌, ◌++◌, length, take, drop, refl, sym, ap, subst, arith, length-append, length-drop}
use Rattle.std.proofs.lemmas.List.{drop-append-le, nil_from_length, take-append-le, take_all}
use Rattle.dsr_log.specs.Entries.{entry_of}
use Rattle.dsr_log.specs.Logs.{AreShared, byte_count, entries_of, set_count}
use Rattle.dsr_log.specs.declared.entries.EntryHead.{EntryHead}
use Rattle.dsr_log.specs.declared.logs.Row.{Row}
use Rattle.dsr_repair_theory.specs.declared.entries.ByteChange.{ByteChange}
use Rattle.dsr_repair_theory.specs.declared.entries.CellSet.{CellSet}
use Rattle.dsr_repair_theory.specs.declared.entries.Entry.{Entry}

-- there are as many entries as rows
pub entries_counted : (rows : List Row) (sets : List CellSet) (bytes : List ByteChange) → length (entries_of rows sets bytes) ≡ length rows
entries_counted [] sets bytes = refl
entries_counted (row ∷ rows) sets bytes = ap suc (entries_counted rows (drop row.sets sets) (drop row.bytes bytes))

-- one more row has more sets and bytes by its own
pub sets_more : (rows : List Row) (row : Row) → set_count (rows ++ row ∷ []) ≡ set_count rows + row.sets
sets_more [] row = omega arith
sets_more (first ∷ rows) row = omega (arith, sets_more rows row)

pub bytes_more : (rows : List Row) (row : Row) → byte_count (rows ++ row ∷ []) ≡ byte_count rows + row.bytes
bytes_more [] row = omega arith
bytes_more (first ∷ rows) row = omega (arith, bytes_more rows row)

-- all that stands behind nothing
all_taken : {T : Type 0} (n : ℕ) (xs more : List T) → length xs ≡ 0 → n ≡ length more → take n (xs ++ more) ≡ more
all_taken n xs more none is =
    ap (λ ys. take n (ys ++ more)) (nil_from_length xs none) ∙ take_all n more (omega (arith, is))

-- the entry of one more row, whose sets and bytes stand behind all others
pub entry_pushed : (rows : List Row) (row : Row) (sets more : List CellSet) (bytes other : List ByteChange)
    → set_count rows ≡ length sets → byte_count rows ≡ length bytes
    → row.sets ≡ length more → row.bytes ≡ length other
    → entries_of (rows ++ row ∷ []) (sets ++ more) (bytes ++ other) ≡ entries_of rows sets bytes ++ entry_of row.head more other ∷ []
entry_pushed [] row sets more bytes other sets_are bytes_are more_is other_is =
    λ i. entry_of row.head (all_taken row.sets sets more (sym sets_are) more_is i) (all_taken row.bytes bytes other (sym bytes_are) other_is i) ∷ []
entry_pushed (first ∷ rows) row sets more bytes other sets_are bytes_are more_is other_is =
    let few : first.sets ≤ length sets = omega (arith, sets_are) in
    let some : first.bytes ≤ length bytes = omega (arith, bytes_are) in
    let left : set_count rows ≡ length (drop first.sets sets) = omega (arith, sets_are, length-drop first.sets sets) in
    let rest : byte_count rows ≡ length (drop first.bytes bytes) = omega (arith, bytes_are, length-drop first.bytes bytes) in
    (λ i. entry_of first.head (take-append-le first.sets sets more few i) (take-append-le first.bytes bytes other some i)
    ∷ entries_of (rows ++ row ∷ []) (drop-append-le first.sets sets more few i) (drop-append-le first.bytes bytes other some i))
    ∙ ap (λ es. entry_of first.head (take first.sets sets) (take first.bytes bytes) ∷ es)
    (entry_pushed rows row (drop first.sets sets) more (drop first.bytes bytes) other left rest more_is other_is)

-- all are still shared
pub shared_pushed : (rows : List Row) (row : Row) (sets more : List CellSet) (bytes other : List ByteChange)
    → AreShared rows sets bytes → row.sets ≡ length more → row.bytes ≡ length other
    → AreShared (rows ++ row ∷ []) (sets ++ more) (bytes ++ other)
shared_pushed rows row sets more bytes other shared more_is other_is = record {
  sets_are = omega (arith, sets_more rows row, shared.sets_are, length-append sets more, more_is);
  bytes_are = omega (arith, bytes_more rows row, shared.bytes_are, length-append bytes other, other_is);
}

-- ---- the last entry

module _ (rows front : List Row) (row : Row) (sets ss more : List CellSet) (bytes bs other : List ByteChange)
    (rows_are : rows ≡ front ++ row ∷ []) (sets_are : sets ≡ ss ++ more) (bytes_are : bytes ≡ bs ++ other) (shared : AreShared rows sets bytes) where
  -- the last row's sets and bytes are some of all
  pub last_sets : row.sets ≤ length sets
  last_sets = omega (arith, shared.sets_are, ap set_count rows_are, sets_more front row)

  pub last_bytes : row.bytes ≤ length bytes
  last_bytes = omega (arith, shared.bytes_are, ap byte_count rows_are, bytes_more front row)

  module _ (more_is : length more ≡ row.sets) (other_is : length other ≡ row.bytes) where
    -- what stands before them is shared by the other rows
    pub shared_before : AreShared front ss bs
    shared_before = record {
      sets_are = omega (arith, shared.sets_are, ap set_count rows_are, sets_more front row, ap length sets_are, length-append ss more, more_is);
      bytes_are = omega (arith, shared.bytes_are, ap byte_count rows_are, bytes_more front row, ap length bytes_are, length-append bs other, other_is);
    }

    -- and the last entry has them
    pub last_entry : entries_of rows sets bytes ≡ entries_of front ss bs ++ entry_of row.head more other ∷ []
    last_entry =
        (λ i. entries_of (rows_are i) (sets_are i) (bytes_are i))
        ∙ entry_pushed front row ss more bs other shared_before.sets_are shared_before.bytes_are (sym more_is) (sym other_is)

-- one entry more at the end is one more
pub one_longer : (es fs : List Entry) (e : Entry) → es ≡ fs ++ e ∷ [] → length es ≡ length fs + 1
one_longer es fs e is = ap length is ∙ length-append fs (e ∷ [])
