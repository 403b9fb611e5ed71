-- The facts of which a word may be the text: read leniently, and then printed and compared.
use Rattle.std.specs.Prelude.{◌+◌, ℕ, List, Option, None, Some, length, drop}
use Rattle.dsr_answers.specs.Texts.{symbol_name}
use Rattle.dsr_ir.specs.declared.declarations.Rel.{Rel}
use Rattle.dsr_ir.specs.declared.declarations.SetDecl.{SetDecl}
use Rattle.dsr_ir.specs.declared.declarations.Spec.{Spec}
use Rattle.dsr_ir.specs.declared.tuples.Element.{Element}
use Rattle.dsr_ir.specs.declared.tuples.Fact.{Fact}
use Rattle.dsr_ir.specs.declared.tuples.Fact.TheVariants.{Pair}
use Rattle.dsr_ir.specs.declared.tuples.Target.{Target}
use Rattle.dsr_ir.specs.declared.tuples.Target.TheVariants.{Elem, Num}
use Rattle.dsr_ir.specs.declared.updates.Symbol.TheVariants as symbols
use Rattle.dsr_report_read.specs.Lenient.{behind_element, element_ahead, number_ahead}

abbrev pub member_ahead : Spec → ℕ → SetDecl → List ℕ → Element
member_ahead spec number set word =
    element_ahead spec set.pool (drop (length (symbol_name spec (symbols.Set number)) + 1) word)

abbrev pub target_ahead : Spec → Option ℕ → List ℕ → Target
target_ahead spec (Some pool) text = Elem (element_ahead spec pool text)
target_ahead spec None text = Num (number_ahead text)

-- what stands behind the relation's name
abbrev pub behind_name : Spec → ℕ → List ℕ → List ℕ
behind_name spec number word = drop (length (symbol_name spec (symbols.Rel number)) + 2) word

abbrev pub pair_ahead : Spec → ℕ → Rel → List ℕ → Fact
pair_ahead spec number rel word =
    Pair number (element_ahead spec rel.source (behind_name spec number word))
    (target_ahead spec rel.target
    (drop 1 (behind_element spec rel.source (behind_name spec number word))))
