use Rattle.std.proofs.Common.{◌^◌, leb, sym, ap, ◌∙◌}
use Rattle.dsr_names.specs.Tables.{known_of}
use Rattle.dsr_language_theory.specs.Constraints.{is_too_great}
use Rattle.dsr_constraint.proofs.Narrowest.{least_fits}
use Rattle.dsr_constraint.proofs.widths.Constants.is_too_great.Goals as goal

pub returns-in-Some : goal.returns-in-Some
returns-in-Some c =
    c.is_too_wide.ensures
    ∙ ap (λ width. leb (2 ^ width) c.args.number) (c.width.ensures ∙ c.requires.is c.in-Some.relation)
    ∙ sym (least_fits (known_of c.args.known.now) c.args.number c.ranges.number.fits c.in-Some.relation c.args.self.now.rules.now)
    ∙ ap (is_too_great (known_of c.args.known.now) c.args.self.now.rules.now c.args.number) (sym c.in-Some.is)
