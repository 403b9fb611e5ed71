-- Ranges of bytes, as the code has them.
use Rattle.dsr_layout.specs.declared.pool_checks.ByteRange.{ByteRange as RangeOfCode}
use Rattle.dsr_meaning.specs.Refusals.{ByteRange}

abbrev pub range_of : RangeOfCode → ByteRange
range_of r = record { first = r.first; behind = r.behind }
