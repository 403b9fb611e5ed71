use Rattle.dsr_fixed_bits.proofs.Bits.{IsSearched}
use Rattle.dsr_fixed_bits.specs.Bits.{IsBefore}
use Rattle.dsr_fixed_bits.proofs.changes.end_of_fixed.Given as goal

-- the fixed fields so far end there
abbrev pub invariant-loop-field : goal.invariant-loop-field
invariant-loop-field l = IsSearched (IsBefore l.end) l.order l.fn.start l.fields l.field-index l.bit
