use Rattle.std.proofs.Common.{◌≡◌, ◌<◌, ℕ, Some, IsTrue, slice_get}
use Rattle.dsr_affected.specs.Marking.{has_mark, is_base_marked}
use Rattle.dsr_ir.specs.declared.declarations.SetDecl.{SetDecl}
use Rattle.dsr_ir.specs.declared.updates.Symbol.TheVariants.{Set}
use Rattle.dsr_affected.proofs.symbols.next_complement.Given as goal

-- the complements so far of marked sets are marked
abbrev pub invariant-loop-number : goal.invariant-loop-number
invariant-loop-number l =
    (n : ℕ) (set : SetDecl) → n < l.number → slice_get l.spec.base.sets n ≡ Some set
    → IsTrue (is_base_marked l.marks set) → IsTrue (has_mark l.marks (Set n))
