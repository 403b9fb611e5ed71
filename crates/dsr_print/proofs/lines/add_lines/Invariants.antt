use Rattle.std.proofs.Common.{◌≡◌, ◌++◌, take}
use Rattle.dsr_syntax_theory.specs.Canonical.{lines_of}
use Rattle.dsr_print.proofs.lines.add_lines.Given as goal

abbrev pub invariant-loop-item : goal.invariant-loop-item
invariant-loop-item g l = l.text.items ≡ l.fn.text.items ++ lines_of g.T.Declaration.phrase (take l.item-index l.items)
