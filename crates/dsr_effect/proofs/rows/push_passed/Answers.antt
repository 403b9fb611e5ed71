-- What `push_passed` leaves to show.
use Rattle.std.proofs.Common.{[], ◌∷◌, ◌++◌, refl, false, ap, ◌∙◌, append_assoc}
use Rattle.dsr_effect.specs.Table.{row_number}
use Rattle.dsr_effect.specs.Told.{change_of}
use Rattle.dsr_effect.specs.declared.flows.Flow.{Flow}
use Rattle.dsr_update_theory.specs.declared.effects.Direction.TheVariants.{Gain, Loss}
use Rattle.dsr_effect.proofs.FlowLists.{gain_passing, loss_passing}
use Rattle.dsr_effect.proofs.rows.push_passed.Goals as goal

pub returns : goal.returns
returns c =
    let gain : Flow = record { from = c.row_of.result; to = c.row_of-2.result; keeps = c.is_own-keeps.result; without_written = c.args.reading.blocked_joining; without_fresh = c.is_blocked_at_f.result } in
    let loss : Flow = record { from = c.row_of-3.result; to = c.row_of-4.result; keeps = c.is_own-keeps.result; without_written = false; without_fresh = false } in (
      gain,
      loss,
      gain_passing (change_of c.args.change.now) c.args.rule.now c.args.premise gain
          (record { premise_is = c.requires.premise; from = c.row_of.ensures; to = c.row_of-2.ensures ∙ ap (row_number c.args.change.now.spec.now.base Gain) c.symbol-symbol.ensures; keeps = c.is_own-keeps.ensures })
          c.requires.reading.blocked_joining c.is_blocked_at_f.ensures,
      loss_passing (change_of c.args.change.now) c.args.rule.now c.args.premise loss
          (record { premise_is = c.requires.premise; from = c.row_of-3.ensures; to = c.row_of-4.ensures ∙ ap (row_number c.args.change.now.spec.now.base Loss) c.symbol-symbol.ensures; keeps = c.is_own-keeps.ensures })
          refl refl,
      c.in_ok-push-2.ensures.items ∙ ap (λ ys. ys ++ loss ∷ []) c.in_ok-push.ensures.items ∙ append_assoc c.args.flows.now.items (gain ∷ []) (loss ∷ []),
    )
