use Rattle.std.proofs.Common.{All, take}
use Rattle.dsr_graph.specs.Kinds.{AreNumberedBy, IsFirstIn, KeepsKinds}
use Rattle.dsr_graph.proofs.kinds.conj_kinds.Given as goal

abbrev pub invariant-loop-place : goal.invariant-loop-place
invariant-loop-place l =
    All (IsFirstIn l.constraint) l.firsts.items
    × KeepsKinds l.initial.firsts.items l.firsts.items
    × AreNumberedBy l.firsts.items (take l.place l.conj.literals) l.kinds.items
