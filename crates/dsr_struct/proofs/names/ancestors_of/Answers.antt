use Rattle.std.proofs.Common.{map, get_or, sym, ap, ◌∙◌, ◌∷◌, [], arith}
use Rattle.std.proofs.lemmas.Grind.{common_steps}
use Rattle.std.proofs.lemmas.List.{map-append, length-map}
use Rattle.std.specs.Option.{option_map_or}
use Rattle.std.specs.Str.{bytes_eq}
use Rattle.indexmap.specs.IndexMap.{get}
use Rattle.dsr_language_theory.specs.Names.{parent_number, with_ancestors}
use Rattle.dsr_struct.proofs.Ancestors.{ancestors_next, line_is}
use Rattle.dsr_struct.proofs.names.ancestors_of.Goals as goal

pub loop-structure-preserved : goal.loop-structure-preserved
loop-structure-preserved c =
    let lines = c.loop-structure.lines.items in
    let known = map (λ v. v.items) lines in
    let number = get bytes_eq c.args.numbers.now in
    let pushed = ap (map (λ v. v.items)) c.in_ok-push.ensures.items ∙ map-append (λ v. v.items) lines (c.in_ok-line.line ∷ []) in
    ancestors_next number known c.args.structures.now c.loop-structure.structure-index c.structure-item.result c.loop-structure-test.true c.structure-item.is c.loop-structure.invariant pushed
    (c.in_ok-line.ensures
    ∙ ap (λ ls. option_map_or (λ p. p ∷ get_or (map (λ v. v.items) ls) p []) c.parent_of-parent.result []) c.deref.ensures.value
    ∙ line_is (λ p. get_or known p []) c.parent_of-parent.result
    ∙ ap (with_ancestors (λ p. get_or known p [])) (c.parent_of-parent.ensures ∙ ap (λ n. parent_number number n c.structure-item.result.parent) (c.len.ensures ∙ c.loop-structure.lines.ok.0 ∙ sym (length-map lines (λ v. v.items)))))

pub returns : goal.returns
returns c = grind (arith, common_steps)
