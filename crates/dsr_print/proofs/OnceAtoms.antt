-- The tokens of an atom determine it but for places.
use Rattle.std.proofs.Common.{◌≡◌, List, ◌∷◌, Bool, true, false, refl, sym, ap, ◌∙◌}
use Rattle.dsr_tree.specs.declared.tokens.Keyword.TheVariants as keyword
use Rattle.dsr_tree.specs.declared.tokens.Sign.TheVariants as sign
use Rattle.dsr_tree.specs.declared.tokens.Token.{Token}
use Rattle.dsr_tree.specs.declared.tokens.Token.TheVariants as token
use Rattle.dsr_tree.specs.declared.tree.Atom.TheVariants as atoms
use Rattle.dsr_tree.specs.declared.tree.Bound.{Bound}
use Rattle.dsr_tree.specs.declared.tree.Bound.TheVariants as bounds
use Rattle.dsr_tree.specs.declared.tree.Compare.{Compare}
use Rattle.dsr_tree.specs.declared.tree.Compare.TheVariants as compares
use Rattle.dsr_tree.specs.declared.tree.Measure.TheVariants as measures
use Rattle.dsr_tree.specs.declared.tree.Var.{Var}
use Rattle.dsr_tree.specs.declared.tree.Var.TheVariants as vars
use Rattle.dsr_syntax_theory.specs.Bare.{bare_name, bare_var, bare_size, bare_measure, bare_atom}
use Rattle.dsr_syntax_theory.specs.TreeTexts.{var_text, bound_text, compare_text, size_part_text, size_text, measure_text, atom_text}
use Rattle.dsr_print.proofs.After.{after, begins, clash, Once, maybe_once, behind, rest}
use Rattle.dsr_print.proofs.OnceExprs.{name_once, number_once}

pub var_once : Once var_text bare_var
var_once (vars.Head p) (vars.Head q) r s e = (refl, cc)
var_once (vars.Name a) (vars.Name b) r s e = (cc, cc)
var_once (vars.Head p) (vars.Name b) r s e = absurd cc
var_once (vars.Name a) (vars.Head q) r s e = absurd cc

-- the first token of a variable
abbrev pub is_var : Token → Bool
is_var (token.Keyword keyword.Head) = true
is_var (token.Name n) = true
is_var _ = false

pub var_opens : (x : Var) (r : List Token) → begins is_var (after (var_text x) r) ≡ true
var_opens (vars.Head p) r = refl
var_opens (vars.Name n) r = refl

-- the comparison that stands first
abbrev read_compare : List Token → Compare
read_compare (token.Sign sign.Differs ∷ r) = compares.Differs
read_compare (token.Sign sign.Less ∷ r) = compares.Less
read_compare (token.Sign sign.AtMost ∷ r) = compares.AtMost
read_compare (token.Sign sign.Greater ∷ r) = compares.Greater
read_compare (token.Sign sign.AtLeast ∷ r) = compares.AtLeast
read_compare _ = compares.Equal

compare_read : (c : Compare) (r : List Token) → (read_compare (after (compare_text c) r) ≡ c) × (behind (after (compare_text c) r) ≡ r)
compare_read compares.Equal r = (refl, refl)
compare_read compares.Differs r = (refl, refl)
compare_read compares.Less r = (refl, refl)
compare_read compares.AtMost r = (refl, refl)
compare_read compares.Greater r = (refl, refl)
compare_read compares.AtLeast r = (refl, refl)

pub compare_once : Once compare_text (λ x. x)
compare_once a b r s e = let p = compare_read a r in let q = compare_read b s in
    (sym p.0 ∙ ap read_compare e ∙ q.0, sym p.1 ∙ ap behind e ∙ q.1)

-- the bound that stands first
abbrev read_bound : List Token → Bound
read_bound (token.Sign sign.AtMost ∷ r) = bounds.AtMost
read_bound (token.Sign sign.AtLeast ∷ r) = bounds.AtLeast
read_bound _ = bounds.Equal

bound_read : (c : Bound) (r : List Token) → (read_bound (after (bound_text c) r) ≡ c) × (behind (after (bound_text c) r) ≡ r)
bound_read bounds.Equal r = (refl, refl)
bound_read bounds.AtMost r = (refl, refl)
bound_read bounds.AtLeast r = (refl, refl)

pub bound_once : Once bound_text (λ x. x)
bound_once a b r s e = let p = bound_read a r in let q = bound_read b s in
    (sym p.0 ∙ ap read_bound e ∙ q.0, sym p.1 ∙ ap behind e ∙ q.1)

abbrev pub is_dot : Token → Bool
is_dot (token.Sign sign.Dot) = true
is_dot _ = false

size_part_once : Once size_part_text bare_name
size_part_once a b r s e = name_once a b r s (rest e)

pub size_once : Once size_text bare_size
size_once a b r s e =
    let p = var_once a.var b.var _ _ (rest (rest e)) in
    let q = maybe_once size_part_text bare_name is_dot size_part_once (λ x r. refl) a.part b.part (token.Sign sign.CloseParenthesis ∷ r) (token.Sign sign.CloseParenthesis ∷ s) refl refl p.1 in
    (cc, rest q.1)

measure_once : Once measure_text bare_measure
measure_once (measures.Number a) (measures.Number b) r s e = (cc, cc)
measure_once (measures.Size a) (measures.Size b) r s e = let p = size_once a b r s e in (ap measures.Size p.0, p.1)
measure_once (measures.Number a) (measures.Size b) r s e = absurd cc
measure_once (measures.Size a) (measures.Number b) r s e = absurd cc

pub atom_once : Once atom_text bare_atom
atom_once (atoms.Count a x m) (atoms.Count b y n) r s e =
    let p = size_once a b _ _ e in
    let q = bound_once x y _ _ p.1 in
    let d = number_once m n r s q.1 in (cc, d.1)
atom_once (atoms.Pair p a x m) (atoms.Pair q b y n) r s e =
    let p = var_once a b _ _ (rest e) in
    let q = var_once x y _ _ (rest p.1) in
    let d = name_once m n r s (rest (rest q.1)) in (cc, d.1)
atom_once (atoms.Member a m) (atoms.Member b n) r s e =
    let p = var_once a b _ _ e in
    let d = name_once m n r s (rest p.1) in (cc, d.1)
atom_once (atoms.Value a m x i) (atoms.Value b n y j) r s e =
    let p = var_once a b _ _ e in
    let d = name_once m n _ _ (rest p.1) in
    let q = compare_once x y _ _ d.1 in
    let h = measure_once i j r s q.1 in (cc, h.1)
atom_once (atoms.Member a m) (atoms.Value b n y j) r s e = let p = var_once a b _ _ e in absurd (cc p.1)
atom_once (atoms.Value a m x i) (atoms.Member b n) r s e = let p = var_once a b _ _ e in absurd (cc p.1)
atom_once (atoms.Count a x m) (atoms.Pair q b y n) r s e = absurd cc
atom_once (atoms.Count a x m) (atoms.Member b n) r s e = clash is_var _ _ refl (var_opens b _) e
atom_once (atoms.Count a x m) (atoms.Value b n y j) r s e = clash is_var _ _ refl (var_opens b _) e
atom_once (atoms.Pair p a x m) (atoms.Count b y n) r s e = absurd cc
atom_once (atoms.Pair p a x m) (atoms.Member b n) r s e = clash is_var _ _ refl (var_opens b _) e
atom_once (atoms.Pair p a x m) (atoms.Value b n y j) r s e = clash is_var _ _ refl (var_opens b _) e
atom_once (atoms.Member a m) (atoms.Count b y n) r s e = clash is_var _ _ refl (var_opens a _) (sym e)
atom_once (atoms.Member a m) (atoms.Pair q b y n) r s e = clash is_var _ _ refl (var_opens a _) (sym e)
atom_once (atoms.Value a m x i) (atoms.Count b y n) r s e = clash is_var _ _ refl (var_opens a _) (sym e)
atom_once (atoms.Value a m x i) (atoms.Pair q b y n) r s e = clash is_var _ _ refl (var_opens a _) (sym e)
