-- What is told of a step.
use Rattle.std.specs.Prelude.{◌≡◌, ℕ, suc, nat_eq, List, [], ◌∷◌, Some, MatchOption, if◌then◌else◌}
use Rattle.dsr_ir.specs.declared.declarations.Spec.{Spec}
use Rattle.dsr_ir.specs.declared.layouts.Cell.{Cell}
use Rattle.dsr_ir.specs.declared.layouts.Layout.{Layout}
use Rattle.dsr_ir.specs.declared.updates.Update.{Update}
use Rattle.dsr_ir.specs.declared.updates.Write.{Write}
use Rattle.dsr_meaning.specs.Cells.{cell_value}
use Rattle.dsr_step_theory.specs.Puts.{ArePut, IsPut}
use Rattle.dsr_step_theory.specs.Resets.{reset_puts}
use Rattle.dsr_step_theory.specs.Steps.{IsWanted, written_cell, written_index, written_number}
use Rattle.dsr_step_theory.specs.declared.steps.Step.{Step}
use Rattle.dsr_repair_theory.specs.declared.entries.ByteChange.{ByteChange}
use Rattle.dsr_repair_theory.specs.declared.entries.CellSet.{CellSet}
use Rattle.dsr_repair_theory.specs.declared.entries.Entry.{Entry}

-- the value that a write sets, with the one before
abbrev pub set_by : Step → Write → Cell → ℕ → List ℕ → CellSet
set_by step write cell number old = record {
  elem = step.elem;
  path = write.path;
  index = written_index step write;
  old = cell_value old cell;
  new = number;
}

-- the writes are made in order, and these values are set; a write is skipped where what it wants
-- holds already
pub data AreSet (spec : Spec) (layout : Layout) (step : Step) :
    List Write → List ℕ → List ℕ → List CellSet → Type 0 where
  done : {bytes : List ℕ} → AreSet spec layout step [] bytes bytes []
  skipped :
      {rest : List Write} {old new : List ℕ} {sets : List CellSet}
      → (write : Write) (cell : Cell) (number : ℕ)
      → written_cell layout step write ≡ Some cell
      → written_number spec layout step write ≡ Some number
      → IsWanted spec layout write number (cell_value old cell)
      → AreSet spec layout step rest old new sets
      → AreSet spec layout step (write ∷ rest) old new sets
  made :
      {rest : List Write} {old middle new : List ℕ} {sets : List CellSet}
      → (write : Write) (cell : Cell) (number : ℕ)
      → written_cell layout step write ≡ Some cell
      → written_number spec layout step write ≡ Some number
      → (IsWanted spec layout write number (cell_value old cell) → ⊥) → IsPut cell number old middle
      → AreSet spec layout step rest middle new sets
      → AreSet spec layout step (write ∷ rest) old new (set_by step write cell number old ∷ sets)

-- the bytes that differ, the first of each list being at the place
abbrev pub changes_from : ℕ → List ℕ → List ℕ → List ByteChange
changes_from place (a ∷ old) (b ∷ new) =
    if nat_eq a b then changes_from (suc place) old new
    else record { place = place; old = a; new = b } ∷ changes_from (suc place) old new
changes_from place _ _ = []

-- the bytes that differ, by rising place
abbrev pub changes : List ℕ → List ℕ → List ByteChange
changes old new = changes_from 0 old new

-- the step makes the old bytes the new ones, and this tells it: the fresh record is reset, and then
-- the writes are made
pub record IsEntryOf (spec : Spec) (layout : Layout) (step : Step) (update : Update)
    (old new : List ℕ) (entry : Entry) : Type 0 where
  pub constraint : entry.constraint ≡ step.constraint
  pub binding : entry.binding ≡ step.binding
  pub conj : entry.conj ≡ step.conj
  pub literal : entry.literal ≡ step.literal
  pub rule : entry.rule ≡ step.rule
  pub fresh : entry.reset ≡ step.fresh
  pub between : List ℕ
  pub reset :
      MatchOption step.fresh (between ≡ old)
      (λ e. ArePut (reset_puts spec.base layout e) old between)
  pub sets : AreSet spec layout step update.writes between new entry.sets
  pub bytes : entry.bytes ≡ changes old new
