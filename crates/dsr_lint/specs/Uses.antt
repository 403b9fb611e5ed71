-- How rules use sets and relations.
use Rattle.std.specs.Prelude.{ℕ, Bool, false, nat_eq, List, Option, Some, None}
use Rattle.dsr_ir.specs.Rules.{gives}
use Rattle.dsr_ir.specs.declared.rules.Rule.{Rule}
use Rattle.dsr_ir.specs.declared.updates.Symbol.{Symbol}
use Rattle.dsr_meaning.specs.Lists.{any_of}

-- some rule gives facts of the symbol
abbrev pub is_given : List Rule → Symbol → Bool
is_given rules symbol = any_of (λ rule. gives symbol rule.inc) rules

-- the premise is this set; that of a rule that starts from `head` is none
abbrev pub is_set : ℕ → Option ℕ → Bool
is_set set (Some premise) = nat_eq premise set
is_set set None = false

-- some rule has the set as its premise
abbrev pub is_premise : List Rule → ℕ → Bool
is_premise rules set = any_of (λ rule. is_set set rule.premise) rules
