use Rattle.std.proofs.Common.{◌≡◌, [], IfOk, MatchOption, sym, subst}
use Rattle.dsr_meaning.specs.Typed.{IsTypedConstraint}
use Rattle.dsr_meaning.proofs.Firing.{found_fits}
use Rattle.dsr_update_theory.specs.Templates.{AreRawOf}
use Rattle.dsr_goal.proofs.Givers.{item_at}
use Rattle.dsr_goal.proofs.raw_templates.raw.Goals as goal

pub new-known-requires-clause-quantifier : goal.new-known-requires-clause-quantifier
new-known-requires-clause-quantifier c =
    let spec = c.args.spec.now in
    let found = c.in-Some.ensures.lookup in
    let at = item_at spec.constraints _ c.items.ensures c.args.constraint c.in-Some.constraint.now found.3.0 found.1 in
    (found_fits (IsTypedConstraint spec) spec.constraints c.args.constraint c.in-Some.constraint.now c.requires.typed.constraints at).quant

pub returns : goal.returns
returns c =
    let spec = c.args.spec.now in
    let found = c.in-Some.ensures.lookup in
    let at = item_at spec.constraints _ c.items.ensures c.args.constraint c.in-Some.constraint.now found.3.0 found.1 in
    subst (λ o. IfOk c.raw_of.result (λ ts. MatchOption o (ts.items ≡ []) (λ x. AreRawOf spec x c.args.conj c.args.literal ts.items))) (sym at) c.raw_of.ensures
