-- What is read of a specification.
use Rattle.dsr_meaning.specs.Typed.{IsTyped}
use Rattle.dsr_explain.specs.declared.reading.SpecRead.{SpecRead}
use Rattle.dsr_explain.specs.declared.reading.SpecRead.TheVariants as reads

-- what a text means is typed
abbrev pub IsTypedRead : SpecRead → Type 0
IsTypedRead (reads.Means meaning) = IsTyped meaning.spec
IsTypedRead (reads.Refused text diagnosis) = Unit {0}
IsTypedRead reads.TooLong = Unit {0}
IsTypedRead reads.Missed = Unit {0}
IsTypedRead reads.NoMemory = Unit {0}
