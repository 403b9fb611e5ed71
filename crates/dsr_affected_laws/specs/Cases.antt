-- Two images to which the laws on what isn't affected apply.
use Rattle.std.specs.Prelude.{◌<◌, ◌⊎◌, ℕ, List, length}
use Rattle.dsr_affected_laws.specs.Affected.{IsAffected}
use Rattle.dsr_affected_laws.specs.Differing.{AreAlikeBut, CoversAffected}
use Rattle.dsr_repair_theory.specs.Changed.{IsGained, IsLost}
use Rattle.dsr_ir.specs.declared.declarations.FieldRef.{FieldRef}
use Rattle.dsr_ir.specs.declared.declarations.Spec.{Spec}
use Rattle.dsr_ir.specs.declared.layouts.Layout.{Layout}
use Rattle.dsr_ir.specs.declared.tuples.Fact.{Fact}
use Rattle.dsr_ir.specs.declared.updates.Symbol.{Symbol}

-- they differ in cells of the fields, a fact is gained or lost, a symbol is affected and one isn't, and fewer constraints
-- than there are need be tested
pub record EditCase : Type 0 where
  pub spec : Spec
  pub layout : Layout
  pub fields : List FieldRef
  pub old : List ℕ
  pub new : List ℕ
  pub alike : AreAlikeBut spec layout fields old new
  pub changed : (fact : Fact) × (IsGained spec layout old new fact ⊎ IsLost spec layout old new fact)
  pub affected : (symbol : Symbol) × IsAffected spec fields symbol
  pub free : (symbol : Symbol) × (IsAffected spec fields symbol → ⊥)
  pub order : List ℕ
  pub covers : CoversAffected spec fields order
  pub fewer : length order < length spec.constraints
