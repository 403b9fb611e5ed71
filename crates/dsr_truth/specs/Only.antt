-- Constraints that have one literal alone.
use Rattle.std.specs.Prelude.{List, [], ◌∷◌, Option, None, Some}
use Rattle.dsr_ir.specs.declared.constraints.Conj.{Conj}
use Rattle.dsr_ir.specs.declared.constraints.Constraint.{Constraint}
use Rattle.dsr_ir.specs.declared.constraints.Literal.{Literal}

-- the literal of a conjunction that has no other one
abbrev pub only_in : List Literal → Option Literal
only_in (literal ∷ []) = Some literal
only_in _ = None

-- the literal of a formula that has one conjunction, of one literal
abbrev pub only_of : List Conj → Option Literal
only_of (conj ∷ []) = only_in conj.literals
only_of _ = None

-- the literal of a constraint that has no other one
abbrev pub only_literal : Constraint → Option Literal
only_literal constraint = only_of constraint.conjs
