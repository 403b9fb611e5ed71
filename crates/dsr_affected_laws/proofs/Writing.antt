-- What is written into cells of fields differs only in those.
use Rattle.std.proofs.Common.{◌+◌, ◌∙◌, ℕ, List, inl, inr, refl}
use Rattle.std.proofs.lemmas.Bool.{cases_lt}
use Rattle.dsr_affected_laws.specs.Differing.{DifferOnlyIn, IsBitAt, IsCellAt}
use Rattle.dsr_ir.specs.declared.declarations.FieldRef.{FieldRef}
use Rattle.dsr_ir.specs.declared.declarations.Spec.{Spec}
use Rattle.dsr_ir.specs.declared.layouts.Cell.{Cell}
use Rattle.dsr_ir.specs.declared.layouts.Layout.{Layout}
use Rattle.dsr_ir.specs.declared.tuples.Element.{Element}
use Rattle.dsr_meaning.specs.Cells.{bit_of}
use Rattle.dsr_meaning.specs.Counting.{IsIn}
use Rattle.dsr_meaning.specs.Writes.{OthersStay}
use Rattle.dsr_model_laws.proofs.Listed.{numbers}

pub none_differ : (spec : Spec) (layout : Layout) (fields : List FieldRef) (bytes : List ℕ) → DifferOnlyIn spec layout fields bytes bytes
none_differ spec layout fields bytes j differ = absurd (differ refl)

pub one_differs : (spec : Spec) (layout : Layout) (fields : List FieldRef) (e : Element) (field : FieldRef) (index : ℕ) (cell : Cell) (old new : List ℕ) → IsIn field fields → IsCellAt spec layout e field index cell → OthersStay cell.bit cell.width old new → DifferOnlyIn spec layout fields old new
one_differs spec layout fields e field index cell old new among at stay j differ = elim (cases_lt j cell.bit) as (λ _. IsBitAt spec layout fields j) [
  | inl before ↦ absurd (differ (stay j (inl before)))
  | inr from ↦ elim (cases_lt j (cell.bit + cell.width)) as (λ _. IsBitAt spec layout fields j) [
    | inl below ↦ record { elem = e; field = field; index = index; cell = cell; among = among; at = at; bit = record { from = from; before = below } }
    | inr behind ↦ absurd (differ (stay j (inr behind)))
  ]
]

pub more_differ : (spec : Spec) (layout : Layout) (fields : List FieldRef) (old middle new : List ℕ) → DifferOnlyIn spec layout fields old middle → DifferOnlyIn spec layout fields middle new → DifferOnlyIn spec layout fields old new
more_differ spec layout fields old middle new first second j differ = elim (numbers (bit_of new j) (bit_of middle j)) as (λ _. IsBitAt spec layout fields j) [
  | inr later ↦ second j later
  | inl same ↦ first j (λ early. differ (same ∙ early))
]
