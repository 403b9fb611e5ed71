-- What facts are called.
use Rattle.std.specs.Prelude.{ℕ, List, ◌++◌, codes, decimal}
use Rattle.dsr_answers.specs.Texts.{element_text, symbol_name}
use Rattle.dsr_ir.specs.declared.declarations.Spec.{Spec}
use Rattle.dsr_ir.specs.declared.tuples.Fact.{Fact}
use Rattle.dsr_ir.specs.declared.tuples.Fact.TheVariants.{Member, Pair}
use Rattle.dsr_ir.specs.declared.tuples.Target.{Target}
use Rattle.dsr_ir.specs.declared.tuples.Target.TheVariants.{Elem, Num}
use Rattle.dsr_ir.specs.declared.updates.Symbol.TheVariants.{Set, Rel}

-- a record, or a number in decimal
abbrev pub target_text : Spec → Target → List ℕ
target_text spec (Elem e) = element_text spec e
target_text spec (Num n) = decimal n

-- `SET:ELEMENT` or `REL:<ELEMENT,TARGET>`
abbrev pub fact_text : Spec → Fact → List ℕ
fact_text spec (Member set e) = symbol_name spec (Set set) ++ codes ":" ++ element_text spec e
fact_text spec (Pair rel e target) =
    symbol_name spec (Rel rel) ++ codes ":<" ++ element_text spec e ++ codes ","
    ++ target_text spec target ++ codes ">"
