use Rattle.std.proofs.Common.{◌≡◌, ◌<◌, ℕ}
use Rattle.std.specs.Prelude.{decimal}
use Rattle.dsr_cert.proofs.lines.number_below.Given as goal

-- it is none of those so far
abbrev pub invariant-loop-number : goal.invariant-loop-number
invariant-loop-number l = (n : ℕ) → n < l.number → l.digits ≡ decimal n → ⊥
