-- Which writes one update may have.
use Rattle.std.specs.Prelude.{◌≡◌, ◌≢◌, ℕ, IsTrue, List, Some, slice_get}
use Rattle.dsr_ir.specs.declared.declarations.Structures.{Structures}
use Rattle.dsr_ir.specs.declared.updates.Write.{Write}
use Rattle.dsr_update_theory.specs.Changes.{are_related}

-- the writes are of different fields, whose structures are related
pub record MayStandBeside (base : Structures) (a b : Write) : Type 0 where
  pub different : a.path.field ≢ b.path.field
  pub related : IsTrue (are_related base a.path.field.structure b.path.field.structure)

-- No field is written twice, and no two that may share bytes. What adds by one rule alone meets
-- this, as a law; a compensation has to.
abbrev pub MayStandTogether : Structures → List Write → Type 0
MayStandTogether base writes =
    (i j : ℕ) (a b : Write) → i ≢ j → slice_get writes i ≡ Some a → slice_get writes j ≡ Some b
    → MayStandBeside base a b
