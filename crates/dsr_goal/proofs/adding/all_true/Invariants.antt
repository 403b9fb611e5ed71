use Rattle.std.proofs.Common.{◌≡◌, ◌++◌, drop, option_map}
use Rattle.dsr_update_theory.specs.Templates.{all_true}
use Rattle.dsr_goal.proofs.adding.all_true.Given as goal

abbrev pub invariant-loop-place : goal.invariant-loop-place
invariant-loop-place l = option_map (λ ws. l.writes.items ++ ws) (all_true l.base (drop l.place l.guards)) ≡ option_map (λ ws. l.fn.first.items ++ ws) (all_true l.base l.guards)
