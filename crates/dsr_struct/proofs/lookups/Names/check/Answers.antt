use Rattle.std.proofs.Common.{ap, sym, ◌∙◌, map, take}
use Rattle.std.proofs.Math.Nat.{min_comm}
use Rattle.std.proofs.lemmas.List.{take-map, take_min}
use Rattle.dsr_tree.specs.Trees.{pool_shape, structure_shape}
use Rattle.dsr_language_theory.specs.Declarations.{structure_faults, pool_faults, set_faults, relation_faults, supply_faults}
use Rattle.dsr_meaning.specs.Lists.{each_at}
use Rattle.dsr_struct.specs.Known.{known_of}
use Rattle.dsr_names.proofs.Finding.{finds_same, finds_then}
use Rattle.dsr_struct.proofs.lookups.Names.check.Goals as goal

pub returns : goal.returns
returns c =
    let names = known_of c.args.self.now in
    let all = c.items-structures.result.now in
    let asked = ap (λ n. map structure_shape (take n all)) (c.min-asked.ensures ∙ min_comm _ _) ∙ ap (map structure_shape) (take_min 65 all) ∙ sym (take-map structure_shape 65 all) ∙ ap (λ ss. take 65 (map structure_shape ss)) c.items-structures.ensures in
    finds_then c.check_head.ensures
    (finds_then (finds_same (ap (each_at (structure_faults names) 0) asked) c.check_structures.ensures)
    (finds_then (finds_same (ap (λ ps. each_at (pool_faults names) 0 (map pool_shape ps)) c.items.ensures) c.check_pools.ensures)
    (finds_then (finds_same (ap (each_at (set_faults names) 0) c.items-2.ensures) c.check_sets.ensures)
    (finds_then (finds_same (ap (each_at (relation_faults names) 0) c.items-3.ensures) c.check_relations.ensures)
    (finds_same (ap (each_at (supply_faults names) 0) c.items-4.ensures) c.check_supplies.ensures)))))
