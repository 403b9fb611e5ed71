use Rattle.dsr_fixed_bits.proofs.Bits.{IsSearched, IsUnchanged}
use Rattle.dsr_fixed_bits.proofs.changes.changes_one_of.Given as goal

-- none of the fields so far
abbrev pub invariant-loop-field : goal.invariant-loop-field
invariant-loop-field l = IsSearched (IsUnchanged l.line) l.order l.fn.start l.fields l.field-index l.bit
