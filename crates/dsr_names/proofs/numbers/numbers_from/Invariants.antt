use Rattle.std.proofs.Common.{◌≡◌, ℕ, List, take}
use Rattle.std.specs.List.{position_from}
use Rattle.std.specs.Str.{bytes_eq}
use Rattle.indexmap.specs.IndexMap.{get}
use Rattle.dsr_names.specs.Tables.{is_named}
use Rattle.dsr_names.proofs.numbers.numbers_from.Given as goal

abbrev pub invariant-loop-number : goal.invariant-loop-number
invariant-loop-number g l = (q : List ℕ) → get bytes_eq l.table q ≡ position_from (λ x. is_named (g.T.Named.own_name x) q) l.first (take l.number l.items)
