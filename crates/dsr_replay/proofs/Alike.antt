-- Entries that are the same.
use Rattle.std.proofs.Common.{◌≡◌, ◌∙◌, Bool, true, false, not, ap}
use Rattle.dsr_log.specs.Entries.{entry_of, head_of}
use Rattle.dsr_repair_theory.specs.declared.entries.Entry.{Entry}

-- what says that two differ, turned
pub turned : {differ same : Bool} → differ ≡ not same → not differ ≡ same
turned {same = true} is = ap not is
turned {same = false} is = ap not is

-- entries with one head, one list of sets and one list of bytes
pub same_entry : (one other : Entry) → head_of one ≡ head_of other → one.sets ≡ other.sets → one.bytes ≡ other.bytes → one ≡ other
same_entry one other heads sets bytes =
    ap (λ h. entry_of h one.sets one.bytes) heads ∙ ap (λ ss. entry_of (head_of other) ss one.bytes) sets
    ∙ ap (entry_of (head_of other) other.sets) bytes
