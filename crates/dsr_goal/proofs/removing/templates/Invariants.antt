use Rattle.std.proofs.Common.{[], map}
use Rattle.std.specs.List.{range_with_len}
use Rattle.dsr_goal.specs.Removing.{template_at}
use Rattle.dsr_update_theory.specs.Templates.{AreOnce}
use Rattle.dsr_goal.proofs.removing.templates.Given as goal

abbrev pub invariant-loop-number : goal.invariant-loop-number
invariant-loop-number l = AreOnce [] (map (template_at l.goal l.removals) (range_with_len 0 l.number)) l.templates.items
