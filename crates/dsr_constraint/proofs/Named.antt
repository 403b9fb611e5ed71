-- Numbers of relations that have a name.
use Rattle.std.proofs.Common.{◌<◌, length, IfSome, subst, zero-add}
use Rattle.std.specs.List.{position_from}
use Rattle.std.specs.Str.{bytes_eq}
use Rattle.dsr_ir.specs.declared.declarations.Structures.{Structures}
use Rattle.dsr_language_theory.specs.Known.{known_in}
use Rattle.dsr_names.proofs.Numbering.{position_below}
use Rattle.dsr_constraint.specs.Widest.{CountRelations}

-- the number for which a relation's name stands is one of the table
pub relations_count : (base : Structures) → CountRelations (known_in base)
relations_count base = record {
  within = λ q.
      let named = position_from (λ r. bytes_eq r.name q) 0 base.rels in
      subst (λ n. IfSome named (λ k. k < n)) (zero-add (length base.rels)) (position_below (λ r. bytes_eq r.name q) 0 base.rels);
}
