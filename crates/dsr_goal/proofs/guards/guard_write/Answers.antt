use Rattle.std.proofs.Common.{option_map, sym, ap, ◌∙◌}
use Rattle.dsr_goal.proofs.Widths.{legal_width}
use Rattle.dsr_goal.proofs.guards.guard_write.Goals as goal

pub pick_wanted-requires : goal.pick_wanted-requires
pick_wanted-requires c = legal_width c.args.base.now c.args.guard.now.path.field _ c.requires.typed (sym c.declared_field.ensures ∙ ap (option_map (λ f. f.now)) c.in_ok-field.was)
