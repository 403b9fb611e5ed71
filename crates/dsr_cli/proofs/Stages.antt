-- What a command does next is what its script says.
use Rattle.std.proofs.Common.{ℕ, List, IfOk, Result, Ok, Err}
use Rattle.dsr_command_audit.specs.Laid.{IsFound, Lies, lies}
use Rattle.dsr_ir.specs.declared.declarations.Spec.{Spec}
use Rattle.dsr_ir.specs.declared.layouts.Layout.{Layout}
use Rattle.dsr_script.specs.Moves.{Follows}
use Rattle.dsr_script.specs.Scripts.{Script, picks}
use Rattle.dsr_script.specs.declared.moves.Move.{Move}
use Rattle.dsr_script.specs.declared.moves.Move.TheVariants.{Load, Save, Tell}
use Rattle.dsr_step_theory.specs.Images.{IsImageOf}

module _ {S : Type 0} (due : S → List ℕ → Script) {A : Type 0} (Fits : A → Type 0) (then_by : A → Script) (x : A) (fits : Fits x) where
  -- a move that follows by what was picked follows where that is to be picked
  pub picked : (move : Move S) → Follows due (then_by x) move → Follows due (picks Fits then_by) move
  picked (Load name limit long stage) follows =
      ((x, fits, follows.0), λ bytes more next told. (x, fits, follows.1 bytes more next told))
  picked (Save name bytes told) follows = (x, fits, follows)
  picked (Tell told) follows = (x, fits, follows)

  pub picked_if_ok : {E : Type 0} (result : Result (Move S) E) → IfOk result (λ move. Follows due (then_by x) move)
      → IfOk result (λ move. Follows due (picks Fits then_by) move)
  picked_if_ok (Ok move) follows = picked move follows
  picked_if_ok (Err fault) follows = tt

-- a layout that is found is that of the image
pub laid_is : (spec : Spec) (image : List ℕ) (layout : Layout) → IsFound spec image (Lies layout) → IsImageOf spec layout image
laid_is spec image _ (lies layout is) = is
