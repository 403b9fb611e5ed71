use Rattle.std.proofs.Common.{◌≤◌, Some, All, refl, sym, ap, subst, ◌∙◌}
use Rattle.dsr_meaning.specs.Layouts.{pools_of, places_of}
use Rattle.dsr_meaning.specs.Refusals.{size_refusals, value_refusals}
use Rattle.dsr_layout.specs.Pools.{IsComputable}
use Rattle.dsr_layout.specs.Tables.{known, size_in}
use Rattle.dsr_layout.proofs.LegalLayout.{layout_is, as_many, all_legal}
use Rattle.dsr_layout.proofs.Sizes.{sizes_are}
use Rattle.dsr_layout.proofs.layouts.made.Goals as goal

pub returns-clause-made : goal.returns-clause-made
returns-clause-made c =
    let base = c.args.base.now in
    let fixed = known c.args.fixed.now in
    let size = size_in c.args.ends.now in
    let numbers = ap (λ ps. pools_of fixed size ps) (sym c.items-2.ensures) ∙ c.in_ok-pools.ensures.numbers ∙ ap Some (sym c.new.ensures) in
    let places = ap (λ ss. places_of fixed ss) (sym c.items.ensures) ∙ c.in_ok-fields.ensures.placed ∙ ap Some (sym c.new-2.ensures) in
    record {
      made = layout_is fixed size base c.args.length c.new.result c.new-2.result (λ j i. sizes_are fixed c.args.base.now.structures c.args.ends.now c.requires.ends i j) numbers places;
      bytes_is = refl;
      sized = ap (λ ss. size_refusals size ss) (sym c.items.ensures) ∙ c.in_ok-fields.ensures.sized;
      valued = ap (λ ps. value_refusals fixed size ps) (sym c.items-2.ensures) ∙ c.in_ok-pools.ensures.valued;
      computable = subst (All IsComputable) (sym c.new.ensures) c.in_ok-pools.ensures.computable;
      few = subst (λ n. n ≤ 32) (sym (as_many fixed size c.args.base.now.pools c.new.result numbers)) c.requires.placeable.few_pools;
      legal = all_legal fixed c.args.base.now.structures c.new-2.result c.requires.placeable.structures places;
    }
