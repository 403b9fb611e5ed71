-- Where a constraint has no literal.
use Rattle.std.proofs.Common.{◌≡◌, ◌≤◌, ℕ, None, Some, length, slice_get, ap, ◌∙◌}
use Rattle.std.specs.Prelude.{option_and_then}
use Rattle.dsr_graph.proofs.Paired.{item_beyond}
use Rattle.dsr_ir.specs.declared.constraints.Conj.{Conj}
use Rattle.dsr_ir.specs.declared.constraints.Constraint.{Constraint}
use Rattle.dsr_update_theory.specs.Templates.{literal_at}

pub past_literals : (c : Constraint) (conj n : ℕ) (its : Conj) → slice_get c.conjs conj ≡ Some its → length its.literals ≤ n → literal_at c conj n ≡ None
past_literals c conj n its there past = ap (option_and_then (λ k. slice_get k.literals n)) there ∙ item_beyond its.literals n past

pub past_conjs : (c : Constraint) (conj n : ℕ) → length c.conjs ≤ conj → literal_at c conj n ≡ None
past_conjs c conj n past = ap (option_and_then (λ k. slice_get k.literals n)) (item_beyond c.conjs conj past)
