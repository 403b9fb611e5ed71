use Rattle.std.proofs.Common.{sym, ap, ◌∙◌, subst}
use Rattle.std.proofs.lemmas.Result.{err_from_is_err_and}
use Rattle.dsr_tree.specs.Trees.{tree_shape}
use Rattle.dsr_language_theory.specs.Tables.{tables_with}
use Rattle.dsr_struct.specs.Known.{known_of}
use Rattle.dsr_meaning.specs.Placeable.{ArePlaceable}
use Rattle.dsr_struct.proofs.Outcome.{fault_told, no_fault, numbers_fit, widths_legal}
use Rattle.dsr_struct.proofs.PlaceableTables.{placeable_tables}
use Rattle.dsr_struct.proofs.TypedTables.{typed_tables}
use Rattle.dsr_meaning.specs.Typed.{AreTyped}
use Rattle.dsr_struct.proofs.lookups.Names.outcome.Goals as goal

pub returns-in-Some-clause-fault : goal.returns-in-Some-clause-fault
returns-in-Some-clause-fault c =
    (c.in-Some.fault.condition, c.kind.ensures, fault_told (tree_shape c.args.self.now.tree.now) (known_of c.args.self.now) c.requires.known c.check.result c.check.ensures c.in-Some.fault c.in-Some.is)

pub returns-in_err-typed-clause-fault : goal.returns-in_err-typed-clause-fault
returns-in_err-typed-clause-fault c = let p = err_from_is_err_and c.from_residual.result c.from_residual.ensures.1 in rw (p.1, p.2) tt

pub typed-requires-clause-fit : goal.typed-requires-clause-fit
typed-requires-clause-fit c = numbers_fit (tree_shape c.args.self.now.tree.now) (known_of c.args.self.now) c.requires.known c.check.result c.check.ensures c.in_default.is

pub typed-requires-clause-legal : goal.typed-requires-clause-legal
typed-requires-clause-legal c = widths_legal (tree_shape c.args.self.now.tree.now) (known_of c.args.self.now) c.requires.known c.check.result c.check.ensures c.in_default.is

pub returns : goal.returns
returns c =
    let tree = tree_shape c.args.self.now.tree.now in
    let empty = no_fault tree (known_of c.args.self.now) c.requires.known c.check.result c.check.ensures c.in_default.is in
    let made = c.in_ok-typed.ensures ∙ ap tables_with c.requires.known in
    record {
      no_fault = empty;
      tables = made;
      typed = subst AreTyped (sym made) (typed_tables tree empty);
      placeable = subst ArePlaceable (sym made) (placeable_tables tree empty);
      fault = tt;
    }
