use Rattle.std.proofs.Common.{◌≡◌, ◌<◌, ℕ, Bool, true, length, Option, None, Some, IsSomeAnd, option_map, slice_get, sym, ap, subst}
use Rattle.dsr_ir.specs.declared.declarations.SetDecl.{SetDecl}
use Rattle.dsr_ir.specs.declared.layouts.Layout.{Layout}
use Rattle.dsr_model.proofs.Fitting.{bases_typed}
use Rattle.dsr_model.proofs.Starting.{numbered_at}
use Rattle.dsr_model.specs.Sets.{StartsRules, empty_set, is_premise}
use Rattle.dsr_image_tests.proofs.calls.waits_alone.Goals as goal

pub new-requires-clause-bases : goal.new-requires-clause-bases
new-requires-clause-bases c = bases_typed c.args.spec.now c.args.layout.now c.requires.typed

-- a set that is there starts rules where it is a premise
starts : (layout : Layout) (premise : Bool) (d : Option SetDecl) (slot : ℕ) → premise ≡ true
    → IsSomeAnd (option_map (empty_set layout premise) d) (λ s. slot < length s.marks)
    → IsSomeAnd (option_map (empty_set layout premise) d) (λ s. s.starts_rules ≡ true)
starts layout premise None slot is there = absurd there
starts layout premise (Some d) slot is there = is

pub add-requires-clause-premise : goal.add-requires-clause-premise
add-requires-clause-premise c = λ waits.
    let spec = c.args.spec.now in
    let layout = c.args.layout.now in
    let set = c.args.set in
    let at = numbered_at (λ k d. empty_set layout (is_premise spec.rules k) d) spec.base.sets set in
    subst (λ sets. StartsRules sets set) (sym (ap (λ m. m.sets) c.in_ok-members.ensures))
    (subst (λ o. IsSomeAnd o (λ s. s.starts_rules ≡ true)) (sym at)
    (starts layout (is_premise spec.rules set) (slice_get spec.base.sets set) c.args.slot (c.requires.premise waits)
    (subst (λ o. IsSomeAnd o (λ s. c.args.slot < length s.marks)) at c.requires.slot)))
