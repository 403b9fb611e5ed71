-- What is asked of all that a step leaves open.
use Rattle.std.specs.Prelude.{ℕ, Option, IfSome, IsSome, IsSomeAnd}
use Rattle.dsr_repair_theory.specs.Choices.{IsEntryAt, IsPlace, written_size}
use Rattle.dsr_ir.specs.declared.declarations.Spec.{Spec}
use Rattle.dsr_ir.specs.declared.tuples.Binding.{Binding}
use Rattle.dsr_ir.specs.declared.tuples.Element.{Element}
use Rattle.dsr_ir.specs.declared.tuples.Instance.{Instance}
use Rattle.dsr_ir.specs.declared.updates.Update.{Update}
use Rattle.dsr_meaning.specs.Truth.{HasVariable}
use Rattle.dsr_meaning.specs.Typed.{pool_at}

-- the record and the entry that the update writes are there, the variable whose size it writes is
-- bound, and the pool of its fresh record has a supply
pub record IsComplete (spec : Spec) (b : Binding) (stopped : Option Instance)
    (update : Update) : Type 0 where
  pub elem : Element
  pub place : IsPlace b stopped update.place elem
  pub index : ℕ
  pub entry : IsEntryAt b stopped update.at index
  pub counted : IfSome (written_size update.writes) (HasVariable b)
  pub supply :
      IfSome update.fresh (λ pool. IsSomeAnd (pool_at spec.base pool) (λ d. IsSome d.avoid))
