-- A normal form says what its formula says.
use Rattle.std.proofs.Common.{◌≡◌, Bool, true, false, not, List, [], ◌∷◌, ◌++◌, map, refl, ap, ◌∙◌}
use Rattle.std.specs.Prelude.{if◌then◌else◌}
use Rattle.dsr_ir.specs.declared.constraints.Atom.{Atom}
use Rattle.dsr_ir.specs.declared.constraints.Literal.{Literal}
use Rattle.dsr_ir.specs.Formulas.{FormulaShape, AnyOf, EveryOf, NotOf, GivenOf, LeafOf, FormulaShapes, NoneOf, MoreOf}
use Rattle.dsr_language_theory.specs.NormalForms.{joined, distributed, any_row, every_row, conj_of, holds, some_part, each_part, literal_holds, all_hold, one_holds}

abbrev both : Bool → Bool → Bool
both a b = if a then b else false

abbrev either : Bool → Bool → Bool
either a b = if a then true else b

abbrev flipped : Bool → Bool → Bool
flipped n b = if n then not b else b

both_assoc : (a b c : Bool) → both a (both b c) ≡ both (both a b) c
both_assoc true b c = refl
both_assoc false b c = refl

either_assoc : (a b c : Bool) → either a (either b c) ≡ either (either a b) c
either_assoc true b c = refl
either_assoc false b c = refl

both_false : (a : Bool) → false ≡ both a false
both_false true = refl
both_false false = refl

in_front : (a b c : Bool) → either (both a b) (both a c) ≡ both a (either b c)
in_front true b c = refl
in_front false b c = refl

behind : (a b c : Bool) → either (both a b) (both c b) ≡ both (either a c) b
behind true true c = refl
behind true false true = refl
behind true false false = refl
behind false b c = refl

not_both : (a b : Bool) → either (not a) (not b) ≡ not (both a b)
not_both true b = refl
not_both false b = refl

not_either : (a b : Bool) → both (not a) (not b) ≡ not (either a b)
not_either true b = refl
not_either false b = refl

flip_not : (n b : Bool) → flipped (not n) b ≡ flipped n (not b)
flip_not true true = refl
flip_not true false = refl
flip_not false b = refl

alone : (b : Bool) → either (both b true) false ≡ b
alone true = refl
alone false = refl

-- some conjunction has all its literals true
abbrev one_of : (Atom → Bool) → List (List Literal) → Bool
one_of truth conjs = one_holds truth (map conj_of conjs)

module _ (truth : Atom → Bool) where
  all_append : (x y : List Literal) → all_hold truth (x ++ y) ≡ both (all_hold truth x) (all_hold truth y)
  all_append [] y = refl
  all_append (l ∷ x) y = ap (both (literal_holds truth l)) (all_append x y) ∙ both_assoc (literal_holds truth l) (all_hold truth x) (all_hold truth y)

  one_append : (a b : List (List Literal)) → one_of truth (a ++ b) ≡ either (one_of truth a) (one_of truth b)
  one_append [] b = refl
  one_append (x ∷ a) b = ap (either (all_hold truth x)) (one_append a b) ∙ either_assoc (all_hold truth x) (one_of truth a) (one_of truth b)

  one_prefixed : (x : List Literal) (r : List (List Literal)) → one_of truth (map (λ d. x ++ d) r) ≡ both (all_hold truth x) (one_of truth r)
  one_prefixed x [] = both_false (all_hold truth x)
  one_prefixed x (d ∷ r) = (λ i. either (all_append x d i) (one_prefixed x r i)) ∙ in_front (all_hold truth x) (all_hold truth d) (one_of truth r)

  one_joined : (l r : List (List Literal)) → one_of truth (joined l r) ≡ both (one_of truth l) (one_of truth r)
  one_joined [] r = refl
  one_joined (x ∷ l) r =
      one_append (map (λ d. x ++ d) r) (joined l r)
      ∙ (λ i. either (one_prefixed x r i) (one_joined l r i))
      ∙ behind (all_hold truth x) (one_of truth r) (one_of truth l)

  mutual
    pub says : (n g : Bool) (s : FormulaShape) → one_holds truth (map conj_of (distributed n g s)) ≡ flipped n (holds truth s)
    says true g (AnyOf parts) = every_negated g parts
    says false g (AnyOf parts) = any_plain g parts
    says true g (EveryOf parts) = any_negated g parts
    says false g (EveryOf parts) = every_plain g parts
    says n g (NotOf part) = says (not n) g part ∙ flip_not n (holds truth part)
    says n g (GivenOf part) = says n true part
    says n g (LeafOf atom) = alone (flipped n (truth atom))

    any_plain : (g : Bool) (parts : FormulaShapes) → one_of truth (any_row false g parts) ≡ some_part truth parts
    any_plain g NoneOf = refl
    any_plain g (MoreOf first rest) = one_append (distributed false g first) (any_row false g rest) ∙ (λ i. either (says false g first i) (any_plain g rest i))

    any_negated : (g : Bool) (parts : FormulaShapes) → one_of truth (any_row true g parts) ≡ not (each_part truth parts)
    any_negated g NoneOf = refl
    any_negated g (MoreOf first rest) = one_append (distributed true g first) (any_row true g rest) ∙ (λ i. either (says true g first i) (any_negated g rest i)) ∙ not_both (holds truth first) (each_part truth rest)

    every_plain : (g : Bool) (parts : FormulaShapes) → one_of truth (every_row false g parts) ≡ each_part truth parts
    every_plain g NoneOf = refl
    every_plain g (MoreOf first rest) = one_joined (distributed false g first) (every_row false g rest) ∙ (λ i. both (says false g first i) (every_plain g rest i))

    every_negated : (g : Bool) (parts : FormulaShapes) → one_of truth (every_row true g parts) ≡ not (some_part truth parts)
    every_negated g NoneOf = refl
    every_negated g (MoreOf first rest) = one_joined (distributed true g first) (every_row true g rest) ∙ (λ i. both (says true g first i) (every_negated g rest i)) ∙ not_either (holds truth first) (some_part truth rest)
