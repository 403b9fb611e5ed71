use Rattle.std.proofs.Common.{All, map, subst, sym, ◌∙◌}
use Rattle.dsr_tree.specs.Trees.{structure_shape}
use Rattle.dsr_language_theory.specs.Tables.{typed_structure}
use Rattle.dsr_struct.specs.Known.{known_of, HasLegalWidths}
use Rattle.dsr_struct.proofs.Mapped.{all_shaped, item_has, made_next}
use Rattle.dsr_struct.proofs.lookups.Names.typed_structures.Goals as goal

pub typed_structure-requires-clause-legal : goal.typed_structure-requires-clause-legal
typed_structure-requires-clause-legal c = item_has structure_shape HasLegalWidths c.items-structure-items.result.now c.loop-structure.structure-index c.structure-item.result c.loop-structure-test.true c.structure-item.is (subst (λ ss. All HasLegalWidths (map structure_shape ss)) (sym c.items-structure-items.ensures) c.requires.legal)

pub loop-structure-preserved : goal.loop-structure-preserved
loop-structure-preserved c = made_next structure_shape (typed_structure (known_of c.args.self.now)) c.items-structure-items.result.now c.loop-structure.structure-index c.structure-item.result c.loop-structure.typed.items c.push.new.self.items c.in_ok-entry.entry c.loop-structure-test.true c.structure-item.is c.loop-structure.invariant c.in_ok-push.ensures.items c.in_ok-entry.ensures

pub returns : goal.returns
returns c = c.new.ensures ∙ all_shaped structure_shape (typed_structure (known_of c.args.self.now)) c.args.self.now.tree.now.structures _ c.items-structure-items.ensures c.loop-structure.structure-index c.loop-structure-test.false c.loop-structure.invariant
