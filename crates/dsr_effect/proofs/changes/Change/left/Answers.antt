use Rattle.std.proofs.Common.{◌∙◌, ap, sym}
use Rattle.std.specs.Option.{option_map}
use Rattle.dsr_goal.proofs.Widths.{legal_width}
use Rattle.dsr_effect.proofs.changes.Change.left.Goals as goal

pub left-requires : goal.left-requires
left-requires c =
    legal_width c.args.self.now.spec.now.base c.args.write.now.path.field c.in_ok-field.field.now c.requires.told.typed.base
    (sym c.declared_field.ensures ∙ ap (option_map (λ f. f.now)) c.in_ok-field.was)
