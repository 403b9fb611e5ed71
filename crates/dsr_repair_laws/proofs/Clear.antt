-- What is put and written elsewhere leaves a cell as it is.
use Rattle.std.proofs.Common.{◌≡◌, ◌∙◌, ℕ, List, [], ◌∷◌, length, Some, inl, inr, refl}
use Rattle.dsr_ir.specs.declared.declarations.Spec.{Spec}
use Rattle.dsr_ir.specs.declared.layouts.Cell.{Cell}
use Rattle.dsr_ir.specs.declared.layouts.Layout.{Layout}
use Rattle.dsr_ir.specs.declared.updates.Write.{Write}
use Rattle.dsr_meaning.specs.Cells.{IsFieldCell, cell_value}
use Rattle.dsr_meaning.specs.Counting.{IsIn}
use Rattle.dsr_meaning.specs.Writes.{AreBytes, AreCellsApart}
use Rattle.dsr_step_theory.specs.Puts.{ArePut}
use Rattle.dsr_step_theory.specs.Puts.ArePut.{done as put_none, put}
use Rattle.dsr_step_theory.specs.Steps.{AreWritten, written_cell}
use Rattle.dsr_step_theory.specs.Steps.AreWritten.{done, made, skipped}
use Rattle.dsr_step_theory.specs.declared.steps.Step.{Step}
use Rattle.dsr_repair_laws.proofs.EachPut.{AreEach, Put}

-- ---- lists of cells that share no bit with a cell

-- no value is put into a bit of the cell
abbrev pub AreClearOf : Cell → List Put → Type 0
AreClearOf c = AreEach (λ (p : Put). AreCellsApart c p.0)

-- ---- what is left of the cell

module _ (c : Cell) where
  pub puts_leave : IsFieldCell c → (puts : List (Cell × ℕ)) (old new : List ℕ) → AreClearOf c puts → ArePut puts old new → cell_value new c ≡ cell_value old c
  puts_leave form [] old new clear put_none = refl
  puts_leave form (p ∷ puts) old new clear (put cell value one rest) = puts_leave form puts _ new clear.1 rest ∙ one.beside c form clear.0

  pub writes_leave : {spec : Spec} {layout : Layout} {step : Step} → IsFieldCell c → (writes : List Write) (old new : List ℕ) → ((v : Write) → IsIn v writes → (d : Cell) → written_cell layout step v ≡ Some d → AreCellsApart c d) → AreWritten spec layout step writes old new → cell_value new c ≡ cell_value old c
  writes_leave form [] old new apart done = refl
  writes_leave form (v ∷ rest) old new apart (skipped w d n at is wanted written) = writes_leave form rest old new (λ x later. apart x (inr later)) written
  writes_leave form (v ∷ rest) old new apart (made w d n at is unwanted one written) = writes_leave form rest _ new (λ x later. apart x (inr later)) written ∙ one.beside c form (apart v (inl refl) d at)

-- ---- bytes

pub puts_bytes : (puts : List (Cell × ℕ)) (old new : List ℕ) → AreBytes old → ArePut puts old new → AreBytes new
puts_bytes [] old new bytes put_none = bytes
puts_bytes (p ∷ puts) old new bytes (put cell value one rest) = puts_bytes puts _ new one.bytes rest

pub writes_bytes : {spec : Spec} {layout : Layout} {step : Step} (writes : List Write) (old new : List ℕ) → AreBytes old → AreWritten spec layout step writes old new → AreBytes new
writes_bytes [] old new bytes done = bytes
writes_bytes (v ∷ rest) old new bytes (skipped w d n at is wanted written) = writes_bytes rest old new bytes written
writes_bytes (v ∷ rest) old new bytes (made w d n at is unwanted one written) = writes_bytes rest _ new one.bytes written

-- ---- the length

pub puts_as_long : (puts : List (Cell × ℕ)) (old new : List ℕ) → ArePut puts old new → length new ≡ length old
puts_as_long [] old new put_none = refl
puts_as_long (p ∷ puts) old new (put cell value one rest) = puts_as_long puts _ new rest ∙ one.puts.length

pub writes_as_long : {spec : Spec} {layout : Layout} {step : Step} (writes : List Write) (old new : List ℕ) → AreWritten spec layout step writes old new → length new ≡ length old
writes_as_long [] old new done = refl
writes_as_long (v ∷ rest) old new (skipped w d n at is wanted written) = writes_as_long rest old new written
writes_as_long (v ∷ rest) old new (made w d n at is unwanted one written) = writes_as_long rest _ new written ∙ one.puts.length
