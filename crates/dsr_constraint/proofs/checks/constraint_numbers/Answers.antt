use Rattle.std.proofs.Common.{sym, ◌∙◌}
use Rattle.std.proofs.lemmas.Result.{IfOk-weaker}
use Rattle.std.specs.Str.{bytes_eq}
use Rattle.dsr_tree.specs.Trees.{constraint_shape}
use Rattle.dsr_names.proofs.Numbering.{position_map}
use Rattle.dsr_constraint.proofs.checks.constraint_numbers.Goals as goal

pub returns : goal.returns
returns c = IfOk-weaker c.first_numbers.result _ _ (λ m numbers. λ i q. (numbers q ∙ sym (position_map (λ x. bytes_eq x.name.name q) constraint_shape 0 c.args.constraints.now)) i) c.first_numbers.ensures
