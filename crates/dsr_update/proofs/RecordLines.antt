-- The line of a record's structures, one step after the other.
use Rattle.std.proofs.Common.{◌≡◌, ℕ, Option, None, Some, IsSomeAnd, inl, inr, refl, sym, subst}
use Rattle.std.specs.Prelude.{option_map}
use Rattle.dsr_schema.proofs.Descending.{line}
use Rattle.dsr_schema.proofs.Lines.{GoesOn}
use Rattle.dsr_ir.specs.declared.declarations.Spec.{Spec}
use Rattle.dsr_ir.specs.declared.tuples.Element.{Element}
use Rattle.dsr_meaning.specs.Counting.{IsIn}
use Rattle.dsr_meaning.specs.Typed.{Descends, pool_at}
use Rattle.dsr_update.specs.Claims.{IsRecordStructure}

-- each structure of what is left of the line is one of the record's
abbrev pub AreOfRecord : Spec → Element → Option ℕ → Type 0
AreOfRecord spec e next = (a : ℕ) → IsIn a (line spec.base.structures next) → IsRecordStructure spec e a

pub first_line : (spec : Spec) (e : Element) (next : Option ℕ) → next ≡ option_map (λ d. d.structure) (pool_at spec.base e.pool) → AreOfRecord spec e next
first_line spec e next is = subst (AreOfRecord spec e) (sym is)
    (elim (pool_at spec.base e.pool) as (λ o. (a : ℕ) → IsIn a (line spec.base.structures (option_map (λ d. d.structure) o)) → IsSomeAnd o (λ d. Descends spec.base.structures d.structure a)) [
      | None ↦ λ a within. absurd within
      | Some d ↦ λ a within. within
    ])

pub of_record : (spec : Spec) (e : Element) (next : Option ℕ) (i : ℕ) → next ≡ Some i → AreOfRecord spec e next → IsRecordStructure spec e i
of_record spec e next i is are = subst (AreOfRecord spec e) is are i (inl refl)

pub next_line : (spec : Spec) (e : Element) (now next : Option ℕ) (i : ℕ) → now ≡ Some i → GoesOn spec.base.structures i next → AreOfRecord spec e now → AreOfRecord spec e next
next_line spec e now next i is on are a within =
    subst (AreOfRecord spec e) is are a (inr (subst (IsIn a) (sym on.0) within))
