-- The head is the only record of pool 0, and a rule whose records are of that pool has no premise.
use Rattle.std.proofs.Common.{◌≡◌, ◌≤◌, ◌∙◌, ℕ, Option, None, Some, IfSome, IsSomeAnd, refl, sym, ap, subst, slice_get, arith}
use Rattle.std.specs.Option.{option_map_or}
use Rattle.dsr_ir.specs.declared.declarations.SetDecl.{SetDecl}
use Rattle.dsr_ir.specs.declared.declarations.Spec.{Spec}
use Rattle.dsr_ir.specs.declared.layouts.Layout.{Layout}
use Rattle.dsr_ir.specs.declared.tuples.Element.{Element}
use Rattle.dsr_layout.proofs.Meanings.{found_holds}
use Rattle.dsr_layout.specs.InRange.{IsRecordOf}
use Rattle.dsr_meaning.specs.Instances.{pool_of_premise}
use Rattle.dsr_meaning.specs.Truth.{head}
use Rattle.dsr_meaning.specs.Typed.{IsTyped, IsTypedSet}
use Rattle.dsr_meaning.proofs.Options.{some_and}

pub only_head : (layout : Layout) (e : Element) → IsRecordOf layout 0 e → e ≡ head
only_head layout e of =
    let below = of.slot_below in
    let slot : e.slot ≡ 0 = omega (arith, below) in
    λ k. record { pool = of.pool_is k; slot = slot k }

-- pools of sets are counted from 1, so a premise of pool 0 names no set
pub no_set : (spec : Spec) → IsTyped spec → (premise : Option ℕ) → IfSome premise (λ n. IsSomeAnd (slice_get spec.base.sets n) (λ s. s.except ≡ None)) → pool_of_premise spec.base premise ≡ 0 → premise ≡ None
no_set spec typed None known pool = refl
no_set spec typed (Some n) known pool =
    let set = some_and (slice_get spec.base.sets n) (λ s. s.except ≡ None) known in
    let number = (found_holds (IsTypedSet spec.base) spec.base.sets n set.0 typed.base.sets set.1.0).pool in
    let same : pool_of_premise spec.base (Some n) ≡ set.0.pool = ap (λ o. option_map_or (λ (d : SetDecl). d.pool) o 0) set.1.0 in
    let from : 1 ≤ 0 = subst (λ k. 1 ≤ k) (sym same ∙ pool) number.from in
    absurd (omega (arith, from))
