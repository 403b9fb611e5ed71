-- What of the grammar can be computed: with which kinds a text goes on, and that one token tells how.
use Rattle.std.proofs.Common.{◌≡◌, List, [], ◌∷◌, ◌++◌, Bool, true, false, ◌&&◌, ◌||◌, not, refl, if◌then◌else◌}
use Rattle.dsr_tree.specs.declared.tokens.Keyword.TheVariants as keyword
use Rattle.dsr_tree.specs.declared.tokens.Sign.TheVariants as sign
use Rattle.dsr_syntax_theory.specs.Syntax.{Class, a_word, a_mark, Part, an_expression, a_formula, a_unit, Syntax, One, Empty, Then, Either, Many, The}
use Rattle.dsr_syntax_theory.specs.Grammar.{rule_of, spec}
use Rattle.dsr_parse.specs.Machine.{nullable, first, first_of}
use Rattle.dsr_parse.proofs.Apart.{disjoint}

-- the signs of a sum
abbrev sums : List Class
sums = a_mark sign.Plus ∷ a_mark sign.Minus ∷ []

-- the signs of a product
abbrev products : List Class
products = a_mark sign.Times ∷ a_mark sign.Over ∷ []

-- the kinds with which a whole text of a part can go on, as often as they are met
abbrev pub tail_of : Part → List Class
tail_of (an_expression depth) = sums ++ (products ++ (products ++ (sums ++ (products ++ products))))
tail_of (a_formula depth) = a_word keyword.Or ∷ a_word keyword.And ∷ a_word keyword.And ∷ a_word keyword.Or ∷ a_word keyword.And ∷ a_word keyword.And ∷ []
tail_of (a_unit depth) = []

-- the kinds with which a whole text of a right side can go on
abbrev pub tail : Syntax → List Class
tail (One charge class) = []
tail Empty = []
tail (Then a b) = tail b ++ (if nullable b then first b ++ tail a else [])
tail (Either a b) = tail a ++ tail b
tail (Many a) = first a ++ tail a
tail (The p) = tail_of p

-- whether one token tells how a text of the right side goes on
abbrev pub is_good : Syntax → Bool
is_good (One charge class) = true
is_good Empty = true
is_good (Then a b) = (is_good a && is_good b) && (disjoint (tail a) (first b) && (not (nullable a) || disjoint (first a) (first b)))
is_good (Either a b) = (is_good a && is_good b) && disjoint (first a) (first b)
is_good (Many a) = is_good a && (not (nullable a) && disjoint (tail a) (first a))
is_good (The p) = true

-- whether a text of the right side begins with a part only where parts are allowed
abbrev pub fronts : Bool → Syntax → Bool
fronts parts (One charge class) = true
fronts parts Empty = true
fronts parts (Then a b) = fronts parts a && (not (nullable a) || fronts parts b)
fronts parts (Either a b) = fronts parts a && fronts parts b
fronts parts (Many a) = fronts parts a
fronts parts (The p) = parts

-- the table has the first kinds of each part's production
pub first_rule : (p : Part) → first (rule_of p) ≡ first_of p
first_rule (an_expression depth) = refl
first_rule (a_formula depth) = refl
first_rule (a_unit depth) = refl

-- nothing is no text of a part
pub nullable_rule : (p : Part) → nullable (rule_of p) ≡ false
nullable_rule (an_expression depth) = refl
nullable_rule (a_formula depth) = refl
nullable_rule (a_unit depth) = refl

-- the table has what follows a text of each part's production
pub tail_rule : (p : Part) → tail (rule_of p) ≡ tail_of p
tail_rule (an_expression depth) = refl
tail_rule (a_formula depth) = refl
tail_rule (a_unit depth) = refl

-- one token tells how a text of a part goes on
pub rule_good : (p : Part) → is_good (rule_of p) ≡ true
rule_good (an_expression depth) = refl
rule_good (a_formula depth) = refl
rule_good (a_unit depth) = refl

-- no part begins with another
pub rule_fronts : (p : Part) → fronts false (rule_of p) ≡ true
rule_fronts (an_expression depth) = refl
rule_fronts (a_formula depth) = refl
rule_fronts (a_unit depth) = refl

-- one token tells how a specification goes on
pub spec_good : is_good spec ≡ true
spec_good = refl
