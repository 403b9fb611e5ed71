-- The literals of conjunctions.
use Rattle.std.specs.Prelude.{List, map}
use Rattle.dsr_ir.specs.declared.constraints.Conj.{Conj}
use Rattle.dsr_ir.specs.declared.constraints.Literal.{Literal}

abbrev pub literals_of : List Conj → List (List Literal)
literals_of conjs = map (λ conj. conj.literals) conjs
