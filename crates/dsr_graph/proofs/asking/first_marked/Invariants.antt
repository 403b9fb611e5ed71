use Rattle.std.proofs.Common.{◌≡◌, drop}
use Rattle.dsr_graph.specs.Graphs.{first_marked}
use Rattle.dsr_graph.proofs.asking.first_marked.Given as goal

-- what is left gives the same
abbrev pub invariant-loop-place : goal.invariant-loop-place
invariant-loop-place l = first_marked l.outcome l.own l.place (drop l.place l.kinds) ≡ first_marked l.outcome l.own 0 l.kinds
