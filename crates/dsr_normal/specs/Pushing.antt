-- The normal form in two steps: `not` and `given` are pushed down to the atoms, and what is left is
-- distributed.
use Rattle.std.specs.Prelude.{if◌then◌else◌, Bool, true, not, List, [], ◌∷◌, ◌++◌}
use Rattle.dsr_ir.specs.declared.constraints.Literal.{Literal}
use Rattle.dsr_ir.specs.Formulas.{FormulaShape, AnyOf, EveryOf, NotOf, GivenOf, LeafOf, FormulaShapes, NoneOf, MoreOf}
use Rattle.dsr_language_theory.specs.NormalForms.{joined}

-- a formula without `not` and `given`, and several
mutual
  pub data Plain : Type 0 where
    AnyPlain : (parts : Plains) → Plain
    EveryPlain : (parts : Plains) → Plain
    LiteralPlain : (literal : Literal) → Plain

  pub data Plains : Type 0 where
    NonePlain : Plains
    MorePlain : (first : Plain) (rest : Plains) → Plains

-- under `not`, `Any` and `Every` change places, and `not` of `not` is nothing; `given` goes on
-- through `not`
abbrev mutual
  pub pushed : (negated given : Bool) → FormulaShape → Plain
  pushed negated given (AnyOf parts) = if negated then EveryPlain (pushed_row negated given parts)
      else AnyPlain (pushed_row negated given parts)
  pushed negated given (EveryOf parts) = if negated then AnyPlain (pushed_row negated given parts)
      else EveryPlain (pushed_row negated given parts)
  pushed negated given (NotOf part) = pushed (not negated) given part
  pushed negated given (GivenOf part) = pushed negated true part
  pushed negated given (LeafOf atom) = LiteralPlain (record { atom = atom; negated = negated; given = given })

  pub pushed_row : (negated given : Bool) → FormulaShapes → Plains
  pushed_row negated given NoneOf = NonePlain
  pushed_row negated given (MoreOf first rest) =
      MorePlain (pushed negated given first) (pushed_row negated given rest)

-- plain distribution: `Any` lists what its parts give, `Every` joins them
abbrev mutual
  pub spread : Plain → List (List Literal)
  spread (AnyPlain parts) = spread_any parts
  spread (EveryPlain parts) = spread_every parts
  spread (LiteralPlain literal) = (literal ∷ []) ∷ []

  pub spread_any : Plains → List (List Literal)
  spread_any NonePlain = []
  spread_any (MorePlain first rest) = spread first ++ spread_any rest

  pub spread_every : Plains → List (List Literal)
  spread_every NonePlain = [] ∷ []
  spread_every (MorePlain first rest) = joined (spread first) (spread_every rest)
