-- A byte as a cell.
use Rattle.std.proofs.Common.{◌≡◌, ◌∙◌, ◌*◌, ◌/◌, ℕ, List, ap, arith}
use Rattle.std.specs.Prelude.{slice_index}
use Rattle.dsr_meaning.specs.Cells.{cell_value}
use Rattle.dsr_step_theory.specs.Resets.{byte_cell}

-- its value is the byte
pub byte_value : (bytes : List ℕ) (at : ℕ) → cell_value bytes (byte_cell at) ≡ slice_index bytes at
byte_value bytes at =
    let place : 8 * at / 8 ≡ at = omega arith in
    let value : cell_value bytes (byte_cell at) ≡ slice_index bytes (8 * at / 8) = omega arith in
    value ∙ ap (slice_index bytes) place
