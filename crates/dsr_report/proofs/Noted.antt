-- The text of an entry, whose lines are put one kind after the other.
use Rattle.std.proofs.Common.{◌≡◌, ◌+◌, ◌++◌, ◌∙◌, ℕ, suc, List, [], ◌∷◌, length, ap, sym, append_assoc, arith}
use Rattle.std.specs.List.{flat_map}
use Rattle.std.specs.Option.{option_map_or}
use Rattle.dsr_ir.specs.declared.declarations.Spec.{Spec}
use Rattle.dsr_meaning.specs.Lists.{each_at}
use Rattle.dsr_repair_theory.specs.declared.entries.ByteChange.{ByteChange}
use Rattle.dsr_repair_theory.specs.declared.entries.CellSet.{CellSet}
use Rattle.dsr_repair_theory.specs.declared.entries.Entry.{Entry}
use Rattle.dsr_report.specs.Reports.{byte_line, entries_behind, entries_text, entry_text, reset_line, set_line, update_line}

-- a text to which four pieces were put, each behind what was there
put_four : {T : Type 0} (start one two three four a b c d : List T)
    → one ≡ start ++ a → two ≡ one ++ b → three ≡ two ++ c → four ≡ three ++ d
    → four ≡ start ++ (((a ++ b) ++ c) ++ d)
put_four start one two three four a b c d first second third fourth =
    let two_is : two ≡ start ++ (a ++ b) = second ∙ (ap (λ t. t ++ b) first ∙ append_assoc start a b) in
    let three_is : three ≡ start ++ ((a ++ b) ++ c) = third ∙ (ap (λ t. t ++ c) two_is ∙ append_assoc start (a ++ b) c) in
    fourth ∙ (ap (λ t. t ++ d) three_is ∙ append_assoc start ((a ++ b) ++ c) d)

-- the lines of an entry, one kind after the other
pub entry_put : (spec : Spec) (number : ℕ) (entry : Entry) (start one two three four : List ℕ)
    → one ≡ start ++ update_line spec number entry
    → two ≡ one ++ option_map_or (reset_line spec) entry.reset []
    → (sets : List CellSet) → sets ≡ entry.sets → three ≡ two ++ flat_map (set_line spec) sets
    → (bytes : List ByteChange) → bytes ≡ entry.bytes → four ≡ three ++ flat_map byte_line bytes
    → four ≡ start ++ entry_text spec number entry
entry_put spec number entry start one two three four first second sets sets_are third bytes bytes_are fourth =
    put_four start one two three four (update_line spec number entry) (option_map_or (reset_line spec) entry.reset [])
    (flat_map (set_line spec) entry.sets) (flat_map byte_line entry.bytes) first second
    (third ∙ ap (λ xs. two ++ flat_map (set_line spec) xs) sets_are)
    (fourth ∙ ap (λ xs. three ++ flat_map byte_line xs) bytes_are)

-- ---- entries behind others

-- what each of two lists in a row gives
each_joined : {S T : Type 0} (f : ℕ → S → List T) (n : ℕ) (xs ys : List S)
    → each_at f n (xs ++ ys) ≡ each_at f n xs ++ each_at f (n + length xs) ys
each_joined f n [] ys = ap (λ k. each_at f k ys) (omega arith)
each_joined f n (x ∷ xs) ys =
    ap (λ t. f n x ++ t) (each_joined f (suc n) xs ys ∙ ap (λ k. each_at f (suc n) xs ++ each_at f k ys) (omega arith))
    ∙ sym (append_assoc (f n x) (each_at f (suc n) xs) (each_at f (n + length (x ∷ xs)) ys))

-- the lines of some entries, and those of others that stand behind them, are those of all
pub entries_joined : (spec : Spec) (entries others : List Entry)
    → entries_text spec (entries ++ others) ≡ entries_text spec entries ++ entries_behind spec (length entries) others
entries_joined spec entries others =
    each_joined (entry_text spec) 1 entries others
    ∙ ap (λ k. entries_text spec entries ++ each_at (entry_text spec) k others) (omega arith)
