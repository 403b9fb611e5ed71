-- The tokens of a formula determine it but for places.
use Rattle.std.proofs.Common.{◌≡◌, List, ◌∷◌, Bool, true, false, refl, sym, ap}
use Rattle.dsr_tree.specs.Trees.{formula_tree, JoinTrees, no_joins, more_joins, join_tree, no_units, more_units, not_tree, given_tree, parenthesized_tree, atom_tree}
use Rattle.dsr_tree.specs.declared.tokens.Keyword.TheVariants as keyword
use Rattle.dsr_tree.specs.declared.tokens.Sign.TheVariants as sign
use Rattle.dsr_tree.specs.declared.tokens.Token.{Token}
use Rattle.dsr_tree.specs.declared.tokens.Token.TheVariants as token
use Rattle.dsr_tree.specs.declared.tree.Atom.{Atom}
use Rattle.dsr_tree.specs.declared.tree.Atom.TheVariants as atoms
use Rattle.dsr_tree.specs.declared.tree.Var.{Var}
use Rattle.dsr_tree.specs.declared.tree.Var.TheVariants as vars
use Rattle.dsr_syntax_theory.specs.Bare.{bare_formula, bare_joins, bare_join, bare_units, bare_unit}
use Rattle.dsr_syntax_theory.specs.TreeTexts.{var_text, atom_text, formula_text, joins_text, join_text, units_text, unit_text}
use Rattle.dsr_print.proofs.After.{after, begins, clash, Once, OnceBefore, either, not_first, rest}
use Rattle.dsr_print.proofs.OnceAtoms.{atom_once}

-- what goes on with a join, and with a join or a formula
abbrev pub is_and : Token → Bool
is_and (token.Keyword keyword.And) = true
is_and _ = false

abbrev pub is_or : Token → Bool
is_or (token.Keyword keyword.Or) = true
is_or _ = false

abbrev pub is_connective : Token → Bool
is_connective = either is_and is_or

joins_follow : (xs : JoinTrees) (r : List Token) → begins is_connective r ≡ false → begins is_and (after (joins_text xs) r) ≡ false
joins_follow no_joins r f = not_first is_and is_or r f
joins_follow (more_joins join rest) r f = refl

-- the first token of a unit that isn't an atom
abbrev is_mark : Token → Bool
is_mark (token.Keyword keyword.Not) = true
is_mark (token.Keyword keyword.Given) = true
is_mark (token.Sign sign.OpenParenthesis) = true
is_mark _ = false

var_plain : (x : Var) (r : List Token) → begins is_mark (after (var_text x) r) ≡ false
var_plain (vars.Head p) r = refl
var_plain (vars.Name n) r = refl

atom_plain : (x : Atom) (r : List Token) → begins is_mark (after (atom_text x) r) ≡ false
atom_plain (atoms.Count a x m) r = refl
atom_plain (atoms.Pair p a x m) r = refl
atom_plain (atoms.Member a m) r = var_plain a _
atom_plain (atoms.Value a m x i) r = var_plain a _

mutual
  pub formula_once : OnceBefore formula_text bare_formula is_connective
  formula_once (formula_tree a xs) (formula_tree b ys) r s f g e =
      let p = join_once a b _ _ (joins_follow xs r f) (joins_follow ys s g) e in
      let q = joins_once xs ys r s f g p.1 in (cc, q.1)

  joins_once : OnceBefore joins_text bare_joins is_connective
  joins_once no_joins no_joins r s f g e = (refl, e)
  joins_once no_joins (more_joins b ys) r s f g e = clash is_connective r _ f refl e
  joins_once (more_joins a xs) no_joins r s f g e = clash is_connective s _ g refl (sym e)
  joins_once (more_joins a xs) (more_joins b ys) r s f g e =
      let p = join_once a b _ _ (joins_follow xs r f) (joins_follow ys s g) (rest e) in
      let q = joins_once xs ys r s f g p.1 in (cc, q.1)

  join_once : OnceBefore join_text bare_join is_and
  join_once (join_tree a xs) (join_tree b ys) r s f g e =
      let p = unit_once a b _ _ e in
      let q = units_once xs ys r s f g p.1 in (cc, q.1)

  units_once : OnceBefore units_text bare_units is_and
  units_once no_units no_units r s f g e = (refl, e)
  units_once no_units (more_units b ys) r s f g e = clash is_and r _ f refl e
  units_once (more_units a xs) no_units r s f g e = clash is_and s _ g refl (sym e)
  units_once (more_units a xs) (more_units b ys) r s f g e =
      let p = unit_once a b _ _ (rest e) in
      let q = units_once xs ys r s f g p.1 in (cc, q.1)

  unit_once : Once unit_text bare_unit
  unit_once (not_tree p a) (not_tree q b) r s e = let d = unit_once a b r s (rest e) in (ap (not_tree 0) d.0, d.1)
  unit_once (given_tree p a) (given_tree q b) r s e = let d = unit_once a b r s (rest e) in (ap (given_tree 0) d.0, d.1)
  unit_once (parenthesized_tree p a) (parenthesized_tree q b) r s e =
      let d = formula_once a b (token.Sign sign.CloseParenthesis ∷ r) (token.Sign sign.CloseParenthesis ∷ s) refl refl (rest e) in (ap (parenthesized_tree 0) d.0, rest d.1)
  unit_once (atom_tree a) (atom_tree b) r s e = let d = atom_once a b r s e in (ap atom_tree d.0, d.1)
  unit_once (not_tree p a) (given_tree q b) r s e = absurd cc
  unit_once (not_tree p a) (parenthesized_tree q b) r s e = absurd cc
  unit_once (not_tree p a) (atom_tree b) r s e = clash is_mark _ _ (atom_plain b _) refl (sym e)
  unit_once (given_tree p a) (not_tree q b) r s e = absurd cc
  unit_once (given_tree p a) (parenthesized_tree q b) r s e = absurd cc
  unit_once (given_tree p a) (atom_tree b) r s e = clash is_mark _ _ (atom_plain b _) refl (sym e)
  unit_once (parenthesized_tree p a) (not_tree q b) r s e = absurd cc
  unit_once (parenthesized_tree p a) (given_tree q b) r s e = absurd cc
  unit_once (parenthesized_tree p a) (atom_tree b) r s e = clash is_mark _ _ (atom_plain b _) refl (sym e)
  unit_once (atom_tree a) (not_tree q b) r s e = clash is_mark _ _ (atom_plain a _) refl e
  unit_once (atom_tree a) (given_tree q b) r s e = clash is_mark _ _ (atom_plain a _) refl e
  unit_once (atom_tree a) (parenthesized_tree q b) r s e = clash is_mark _ _ (atom_plain a _) refl e
