-- Which fields records have.
use Rattle.std.proofs.Common.{◌≡◌, ℕ, Some, inl, inr, subst, ◌+◌, arith}
use Rattle.std.specs.Prelude.{IsTrue}
use Rattle.dsr_affected_laws.specs.Differing.{HasFieldsOf}
use Rattle.dsr_ir.specs.declared.declarations.Pool.{Pool}
use Rattle.dsr_ir.specs.declared.declarations.SetDecl.{SetDecl}
use Rattle.dsr_ir.specs.declared.declarations.Structures.{Structures}
use Rattle.dsr_ir.specs.declared.tuples.Element.{Element}
use Rattle.dsr_meaning.specs.Counting.{IsIn}
use Rattle.dsr_meaning.specs.Typed.{AreTyped, Descends, IsTypedSet, pool_at}
use Rattle.dsr_meaning.proofs.Items.{of_all}
use Rattle.dsr_meaning.proofs.Options.{and_some, some_and}
use Rattle.dsr_step_laws.proofs.Related.{in_line, lines_related}
use Rattle.dsr_update_theory.specs.Changes.{are_related}

pub of_pool : (base : Structures) (e : Element) (d : Pool) (structure : ℕ) → pool_at base e.pool ≡ Some d → Descends base.structures d.structure structure → HasFieldsOf base e structure
of_pool base e d structure is down = inr (and_some (pool_at base e.pool) (λ x. IsTrue (are_related base x.structure structure)) d is (lines_related base d.structure structure (inl down)))

pub of_set : (base : Structures) (e : Element) (set : SetDecl) (structure : ℕ) → AreTyped base → IsIn set base.sets → set.pool ≡ e.pool → Descends base.structures set.structure structure → HasFieldsOf base e structure
of_set base e set structure typed among pool down =
    let its = of_all (IsTypedSet base) base.sets set typed.sets among in
    let d = some_and (pool_at base set.pool) (λ x. Descends base.structures set.structure x.structure) its.view in
    inr (and_some (pool_at base e.pool) (λ x. IsTrue (are_related base x.structure structure)) d.0 (subst (λ p. pool_at base p ≡ Some d.0) pool d.1.0)
    (lines_related base d.0.structure structure (in_line base typed (set.structure + 1) set.structure (omega arith) d.0.structure structure d.1.1 down)))
