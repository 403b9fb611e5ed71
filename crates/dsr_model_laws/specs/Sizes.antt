-- Which sizes there are, and how large they may be.
use Rattle.std.specs.Prelude.{◌≡◌, ◌≤◌, ℕ, List}
use Rattle.dsr_ir.specs.declared.constraints.Measure.{Measure}
use Rattle.dsr_ir.specs.declared.declarations.Spec.{Spec}
use Rattle.dsr_ir.specs.declared.layouts.Layout.{Layout}
use Rattle.dsr_ir.specs.declared.tuples.Binding.{Binding}
use Rattle.dsr_ir.specs.declared.tuples.Fact.{Fact}
use Rattle.dsr_meaning.specs.Models.{IsFact}
use Rattle.dsr_meaning.specs.Refusals.{greatest_size}
use Rattle.dsr_meaning.specs.Truth.{HasSize}
use Rattle.dsr_meaning.specs.Typed.{CountsRecords}

-- the number is the size, and no other one is
pub record IsOnlySize (is_fact : Fact → Type 0) (b : Binding) (measure : Measure) (n : ℕ) : Type 0 where
  pub is_size : HasSize is_fact b measure n
  pub only : (m : ℕ) → HasSize is_fact b measure m → m ≡ n

-- counts of records are at most as large as the layout lets them be
abbrev pub SizesAreBounded : Spec → List ℕ → Layout → Type 0
SizesAreBounded spec bytes layout =
    (b : Binding) (measure : Measure) (n : ℕ) → CountsRecords spec.base measure
    → HasSize (IsFact spec layout bytes) b measure n → n ≤ greatest_size spec layout measure
