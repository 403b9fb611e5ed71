-- What a formula says, apart from where its parts lie in memory.
use Rattle.std.specs.Prelude.{◌≡◌, refl, ℕ, zero, suc, ◌++◌, List, [], ◌∷◌, ◌⊎◌}
use Rattle.std.proofs.Common.{◌∙◌, ap, inl, inr}
use Rattle.std.specs.Coded.{Coded, code_by, coded⊎, coded_ℕ, coded_list}
use Rattle.dsr_ir.specs.declared.constraints.Atom.{Atom}
use Rattle.dsr_ir.specs.declared.formulas.FormulaNode.{FormulaNode, Any', Every', Not', Given', Leaf, Row_of-FormulaNode, end_of-FormulaNode, more_of-FormulaNode}

-- a formula, and several
mutual
  pub data FormulaShape : Type 0 where
    AnyOf : (parts : FormulaShapes) → FormulaShape
    EveryOf : (parts : FormulaShapes) → FormulaShape
    NotOf : (part : FormulaShape) → FormulaShape
    GivenOf : (part : FormulaShape) → FormulaShape
    LeafOf : (atom : Atom) → FormulaShape

  pub data FormulaShapes : Type 0 where
    NoneOf : FormulaShapes
    MoreOf : (first : FormulaShape) (rest : FormulaShapes) → FormulaShapes

-- the shape of a formula, and of a row of them
abbrev mutual
  pub formula_shape : FormulaNode → FormulaShape
  formula_shape (Any' room row) = AnyOf (row_shapes row)
  formula_shape (Every' room row) = EveryOf (row_shapes row)
  formula_shape (Not' p part) = NotOf (formula_shape part)
  formula_shape (Given' p part) = GivenOf (formula_shape part)
  formula_shape (Leaf atom) = LeafOf atom

  pub row_shapes : {n : _} → Row_of-FormulaNode n → FormulaShapes
  row_shapes end_of-FormulaNode = NoneOf
  row_shapes (more_of-FormulaNode first rest) = MoreOf (formula_shape first) (row_shapes rest)

-- the shapes of a list as the parts of a formula
abbrev pub in_row : List FormulaShape → FormulaShapes
in_row [] = NoneOf
in_row (first ∷ rest) = MoreOf first (in_row rest)

-- A formula in postfix form: an atom is a leaf; 0 makes `any` of a row, 1 `every`; 2 makes `not`
-- of a formula, 3 `given`; 4 is a row of no formulas, 5 puts a formula before a row.
abbrev Word : Type 0
Word = ℕ ⊎ Atom

abbrev mutual
  postfix : FormulaShape → List Word
  postfix (AnyOf parts) = row_postfix parts ++ inl 0 ∷ []
  postfix (EveryOf parts) = row_postfix parts ++ inl 1 ∷ []
  postfix (NotOf part) = postfix part ++ inl 2 ∷ []
  postfix (GivenOf part) = postfix part ++ inl 3 ∷ []
  postfix (LeafOf atom) = inr atom ∷ []

  row_postfix : FormulaShapes → List Word
  row_postfix NoneOf = inl 4 ∷ []
  row_postfix (MoreOf first rest) = postfix first ++ (row_postfix rest ++ inl 5 ∷ [])

-- formulas and rows that were read, the last one first
abbrev Stacks : Type 0
Stacks = List FormulaShape × List FormulaShapes

abbrev built : ℕ → List FormulaShape → List FormulaShapes → Stacks
built zero formulas (row ∷ rows) = (AnyOf row ∷ formulas, rows)
built (suc zero) formulas (row ∷ rows) = (EveryOf row ∷ formulas, rows)
built (suc (suc zero)) (part ∷ formulas) rows = (NotOf part ∷ formulas, rows)
built (suc (suc (suc zero))) (part ∷ formulas) rows = (GivenOf part ∷ formulas, rows)
built (suc (suc (suc (suc zero)))) formulas rows = (formulas, NoneOf ∷ rows)
built (suc (suc (suc (suc (suc k))))) (first ∷ formulas) (row ∷ rows) =
    (formulas, MoreOf first row ∷ rows)
built n formulas rows = (formulas, rows)

abbrev step : Word → Stacks → Stacks
step (inl n) stacks = built n stacks.0 stacks.1
step (inr atom) stacks = (LeafOf atom ∷ stacks.0, stacks.1)

abbrev run : List Word → Stacks → Stacks
run [] stacks = stacks
run (word ∷ rest) stacks = run rest (step word stacks)

abbrev last : List FormulaShape → FormulaShape
last [] = AnyOf NoneOf
last (shape ∷ rest) = shape

abbrev read_back : List Word → FormulaShape
read_back words = last (run words ([], [])).0

run_append : (xs ys : List Word) (stacks : Stacks) → run (xs ++ ys) stacks ≡ run ys (run xs stacks)
run_append [] ys stacks = refl
run_append (x ∷ xs) ys stacks = run_append xs ys (step x stacks)

mutual
  read : (s : FormulaShape) (stacks : Stacks) → run (postfix s) stacks ≡ (s ∷ stacks.0, stacks.1)
  read (AnyOf parts) stacks = run_append (row_postfix parts) (inl 0 ∷ []) stacks
      ∙ ap (run (inl 0 ∷ [])) (read_row parts stacks)
  read (EveryOf parts) stacks = run_append (row_postfix parts) (inl 1 ∷ []) stacks
      ∙ ap (run (inl 1 ∷ [])) (read_row parts stacks)
  read (NotOf part) stacks = run_append (postfix part) (inl 2 ∷ []) stacks ∙ ap (run (inl 2 ∷ [])) (read part stacks)
  read (GivenOf part) stacks = run_append (postfix part) (inl 3 ∷ []) stacks
      ∙ ap (run (inl 3 ∷ [])) (read part stacks)
  read (LeafOf atom) stacks = refl

  read_row :
      (row : FormulaShapes) (stacks : Stacks)
      → run (row_postfix row) stacks ≡ (stacks.0, row ∷ stacks.1)
  read_row NoneOf stacks = refl
  read_row (MoreOf first rest) stacks =
      run_append (postfix first) (row_postfix rest ++ inl 5 ∷ []) stacks
      ∙ (ap (run (row_postfix rest ++ inl 5 ∷ [])) (read first stacks)
      ∙ (run_append (row_postfix rest) (inl 5 ∷ []) (first ∷ stacks.0, stacks.1)
      ∙ ap (run (inl 5 ∷ [])) (read_row rest (first ∷ stacks.0, stacks.1))))

pub back : (s : FormulaShape) → read_back (postfix s) ≡ s
back s = ap (λ stacks. last stacks.0) (read s ([], []))

-- the code of a formula, by that of an atom
abbrev pub formula_code : Coded Atom → Coded FormulaShape
formula_code atom = code_by (List Word) (coded_list (coded⊎ coded_ℕ atom)) postfix read_back back
