use Rattle.std.proofs.Common.{◌≡◌, ℕ, List, take}
use Rattle.std.specs.List.{position_from}
use Rattle.std.specs.Str.{bytes_eq}
use Rattle.indexmap.specs.IndexMap.{get}
use Rattle.dsr_tree.specs.Trees.{field_shape}
use Rattle.dsr_language_theory.specs.Names.{has_fixed_name}
use Rattle.dsr_struct.proofs.names.fixed_numbers.Given as goal

abbrev pub invariant-loop-number : goal.invariant-loop-number
invariant-loop-number l = (q : List ℕ) → get bytes_eq l.table q ≡ position_from (λ f. has_fixed_name q (field_shape f)) 0 (take l.number l.fields)
