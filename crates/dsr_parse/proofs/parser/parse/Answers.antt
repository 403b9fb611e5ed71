use Rattle.std.proofs.Common.{inr, sym, ◌∙◌, arith}
use Rattle.dsr_tree.specs.Trees.{tree_shape}
use Rattle.dsr_parse.specs.declared.parser.SyntaxFault.TheVariants.{Token}
use Rattle.dsr_parse.proofs.Told.{told, not_read, no_fault, tree_stops, tree_no_token, tree_read, tree_spec}
use Rattle.dsr_parse.proofs.parser.parse.Goals as goal

pub returns-in-Err-clause-read : goal.returns-in-Err-clause-read
returns-in-Err-clause-read c is = not_read c.args.text.now c.fault_of.result c.fault_of.ensures is

pub returns-in-Err-clause-told : goal.returns-in-Err-clause-told
returns-in-Err-clause-told c fault has = told c.args.text.now c.fault_of.result fault c.fault_of.ensures has

pub fault_of-requires-then-left-gt0-clause-stops : goal.fault_of-requires-then-left-gt0-clause-stops
fault_of-requires-then-left-gt0-clause-stops c = tree_stops c.deref-then-left-gt0.result.now c.left-then-left-gt0.result c.in-Ok.ensures.ok (c.new-reader.ensures.rest ∙ c.deref.ensures.value ∙ sym c.deref-then-left-gt0.ensures.value) c.new-reader.ensures.counted c.left-then-left-gt0.ensures (omega (arith, c.left.ensures, c.left-then-left-gt0.ensures, c.if-left-gt0.true))

pub returns-then-left-gt0-clause-read : goal.returns-then-left-gt0-clause-read
returns-then-left-gt0-clause-read c is = not_read c.args.text.now c.fault_of-then-left-gt0.result c.fault_of-then-left-gt0.ensures is

pub returns-then-left-gt0-clause-told : goal.returns-then-left-gt0-clause-told
returns-then-left-gt0-clause-told c fault has = told c.args.text.now c.fault_of-then-left-gt0.result fault c.fault_of-then-left-gt0.ensures has

pub returns-in-Some-clause-fault : goal.returns-in-Some-clause-fault
returns-in-Some-clause-fault c = inr (tree_no_token c.args.text.now c.in_ok-front.front.lexemes.items c.left.result c.in-Some.place (rw c.in-Some.is at c.in_ok-front.ensures) c.in-Ok.ensures.ok (c.new-reader.ensures.rest ∙ c.deref.ensures.value) c.new-reader.ensures.counted c.left.ensures c.if-left-gt0.false)

pub returns-in-Some-clause-read : goal.returns-in-Some-clause-read
returns-in-Some-clause-read c is = absurd (no_fault c.args.text.now (Token c.in-Some.place) is (tree_no_token c.args.text.now c.in_ok-front.front.lexemes.items c.left.result c.in-Some.place (rw c.in-Some.is at c.in_ok-front.ensures) c.in-Ok.ensures.ok (c.new-reader.ensures.rest ∙ c.deref.ensures.value) c.new-reader.ensures.counted c.left.ensures c.if-left-gt0.false))

pub returns-in-Some-clause-told : goal.returns-in-Some-clause-told
returns-in-Some-clause-told c fault has = told c.args.text.now (Token c.in-Some.place) fault (inr (tree_no_token c.args.text.now c.in_ok-front.front.lexemes.items c.left.result c.in-Some.place (rw c.in-Some.is at c.in_ok-front.ensures) c.in-Ok.ensures.ok (c.new-reader.ensures.rest ∙ c.deref.ensures.value) c.new-reader.ensures.counted c.left.ensures c.if-left-gt0.false)) has

pub returns-clause-tree : goal.returns-clause-tree
returns-clause-tree c = tree_read c.args.text.now c.in_ok-front.front.lexemes.items (tree_shape c.in-Ok.tree) c.left.result (rw c.in-None.is at c.in_ok-front.ensures) c.in-Ok.ensures.ok (c.new-reader.ensures.rest ∙ c.deref.ensures.value) c.new-reader.ensures.counted c.left.ensures c.if-left-gt0.false

pub returns-clause-told : goal.returns-clause-told
returns-clause-told c fault has = no_fault c.args.text.now fault (tree_spec (tree_read c.args.text.now c.in_ok-front.front.lexemes.items (tree_shape c.in-Ok.tree) c.left.result (rw c.in-None.is at c.in_ok-front.ensures) c.in-Ok.ensures.ok (c.new-reader.ensures.rest ∙ c.deref.ensures.value) c.new-reader.ensures.counted c.left.ensures c.if-left-gt0.false)) has
