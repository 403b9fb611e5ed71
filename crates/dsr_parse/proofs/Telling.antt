-- The phrase of a part of a tree tells the part, with its places.
use Rattle.std.proofs.Common.{◌≡◌, ℕ, List, [], ◌∷◌, Option, Some, None, Bool, true, false, refl, sym, ap, ◌∙◌}
use Rattle.dsr_tree.specs.Trees.{expr_tree, no_terms, more_terms, term_tree, no_factors, more_factors, number_tree, name_tree, group_tree}
use Rattle.dsr_tree.specs.Trees.{formula_tree, no_joins, more_joins, join_tree, no_units, more_units, not_tree, given_tree, parenthesized_tree, atom_tree}
use Rattle.dsr_tree.specs.Trees.{NamedFieldTree, named, skipped, StructureTree, PoolTree, ConstraintTree, TreeShape}
use Rattle.dsr_ir.specs.declared.declarations.Order.TheVariants.{Little, Big}
use Rattle.dsr_tree.specs.declared.tokens.Keyword.{Keyword}
use Rattle.dsr_tree.specs.declared.tokens.Keyword.TheVariants as keyword
use Rattle.dsr_tree.specs.declared.tokens.Sign.TheVariants as sign
use Rattle.dsr_tree.specs.declared.tokens.Token.{Token}
use Rattle.dsr_tree.specs.declared.tokens.Token.TheVariants as token
use Rattle.dsr_tree.specs.declared.tree.Atom.{Atom}
use Rattle.dsr_tree.specs.declared.tree.Atom.TheVariants as atoms
use Rattle.dsr_tree.specs.declared.tree.Binder.TheVariants as binders
use Rattle.dsr_tree.specs.declared.tree.Bound.{Bound}
use Rattle.dsr_tree.specs.declared.tree.Bound.TheVariants as bounds
use Rattle.dsr_tree.specs.declared.tree.Compare.{Compare}
use Rattle.dsr_tree.specs.declared.tree.Compare.TheVariants as compares
use Rattle.dsr_tree.specs.declared.tree.Content.{Content}
use Rattle.dsr_tree.specs.declared.tree.Content.TheVariants as contents
use Rattle.dsr_tree.specs.declared.tree.Fresh.{Fresh}
use Rattle.dsr_tree.specs.declared.tree.Guard.TheVariants as guards
use Rattle.dsr_tree.specs.declared.tree.Guards.{Guards}
use Rattle.dsr_tree.specs.declared.tree.Inclusion.TheVariants as inclusions
use Rattle.dsr_tree.specs.declared.tree.Index.TheVariants as indexes
use Rattle.dsr_tree.specs.declared.tree.Measure.TheVariants as measures
use Rattle.dsr_tree.specs.declared.tree.Member.{Member}
use Rattle.dsr_tree.specs.declared.tree.MemberPart.{MemberPart}
use Rattle.dsr_tree.specs.declared.tree.MemberPart.TheVariants as member_parts
use Rattle.dsr_tree.specs.declared.tree.Path.{Path}
use Rattle.dsr_tree.specs.declared.tree.PlacedName.{PlacedName}
use Rattle.dsr_tree.specs.declared.tree.PlacedNumber.{PlacedNumber}
use Rattle.dsr_tree.specs.declared.tree.Premise.TheVariants as premises
use Rattle.dsr_tree.specs.declared.tree.ProductSign.TheVariants as products
use Rattle.dsr_tree.specs.declared.tree.Quantifier.{Quantifier}
use Rattle.dsr_tree.specs.declared.tree.RefTest.{RefTest}
use Rattle.dsr_tree.specs.declared.tree.RefTest.TheVariants as tests
use Rattle.dsr_tree.specs.declared.tree.Relation.{Relation}
use Rattle.dsr_tree.specs.declared.tree.Rule.{Rule}
use Rattle.dsr_tree.specs.declared.tree.Set.{Set}
use Rattle.dsr_tree.specs.declared.tree.Size.{Size}
use Rattle.dsr_tree.specs.declared.tree.Span.{Span}
use Rattle.dsr_tree.specs.declared.tree.SumSign.TheVariants as sums
use Rattle.dsr_tree.specs.declared.tree.Target.TheVariants as targets
use Rattle.dsr_tree.specs.declared.tree.Term.TheVariants as terms
use Rattle.dsr_tree.specs.declared.tree.Var.{Var}
use Rattle.dsr_tree.specs.declared.tree.Var.TheVariants as vars
use Rattle.dsr_tree.specs.declared.tree.View.{View}
use Rattle.dsr_tree.specs.declared.tree.View.TheVariants as views
use Rattle.dsr_tree.specs.declared.tree.Width.TheVariants as widths
use Rattle.dsr_syntax_theory.specs.Phrases.{Phrase, silent, said, said_at, ◌▸◌, in_turn}
use Rattle.dsr_syntax_theory.specs.TreeTexts.{name_text, number_text, maybe_text, sum_text, product_text, expr_text, more_terms_text, term2_text, more_factors_text, factor_text, var_text, bound_text, compare_text, size_part_text, size_text, measure_text, atom_text, formula_text, joins_text, join_text, units_text, unit_text, width_text, brackets_text, content_text, fixed_text, named_field_text, field_text, parent_text, structure_text, behind_text, pool_text, view_text, set_text, target_text, relation_text, more_name_text, fresh_text, index_text, path_text, premise_text, index_source_text, span_text, test_text, test_word, guard_text, more_guard_text, guards_text, term_text, member_part_text, member_text, inclusion_text, rule_text, binder_text, quantifier_text, constraint_text, endian_text, tree_text}

-- parts with the same phrase are the same
abbrev pub Tells : {X : Type 0} → (X → Phrase) → Type 0
Tells {X = X} phrase = (a b : X) → phrase a ≡ phrase b → a ≡ b

front : {a b c d : Phrase} → (a ▸ b) ≡ (c ▸ d) → a ≡ c
front e = cc

back : {a b c d : Phrase} → (a ▸ b) ≡ (c ▸ d) → b ≡ d
back e = cc

-- whether something is said
abbrev speaks : Phrase → Bool
speaks silent = false
speaks _ = true

maybe_tells : {X : Type 0} (phrase : X → Phrase) → ((x : X) → speaks (phrase x) ≡ true) → Tells phrase → Tells (maybe_text phrase)
maybe_tells phrase some item None None e = refl
maybe_tells phrase some item (Some x) (Some y) e = ap Some (item x y e)
maybe_tells phrase some item None (Some y) e = let f : false ≡ true = ap speaks e ∙ some y in absurd cc
maybe_tells phrase some item (Some x) None e = let f : true ≡ false = sym (some x) ∙ ap speaks e in absurd cc

in_turn_tells : {X : Type 0} (phrase : X → Phrase) → Tells phrase → Tells (in_turn phrase)
in_turn_tells phrase item [] [] e = refl
in_turn_tells phrase item (x ∷ xs) (y ∷ ys) e = let p = item x y (front e) in let q = in_turn_tells phrase item xs ys (back e) in cc
in_turn_tells phrase item [] (y ∷ ys) e = absurd cc
in_turn_tells phrase item (x ∷ xs) [] e = absurd cc

-- ---- names and numbers

abbrev whole_name : PlacedName → PlacedName
whole_name n = record { name = n.name; place = n.place }

pub name_tells : Tells name_text
name_tells a b e =
    let n : a.name ≡ b.name = cc in
    let p : a.place ≡ b.place = cc in
    let w : whole_name a ≡ whole_name b = cc in w

abbrev whole_number : PlacedNumber → PlacedNumber
whole_number n = record { number = n.number; place = n.place }

number_tells : Tells number_text
number_tells a b e =
    let n : a.number ≡ b.number = cc in
    let p : a.place ≡ b.place = cc in
    let w : whole_number a ≡ whole_number b = cc in w

-- ---- expressions

sum_tells : Tells sum_text
sum_tells sums.Plus sums.Plus e = refl
sum_tells sums.Minus sums.Minus e = refl
sum_tells sums.Plus sums.Minus e = absurd cc
sum_tells sums.Minus sums.Plus e = absurd cc

product_tells : Tells product_text
product_tells products.Times products.Times e = refl
product_tells products.Over products.Over e = refl
product_tells products.Times products.Over e = absurd cc
product_tells products.Over products.Times e = absurd cc

mutual
  expr_tells : Tells expr_text
  expr_tells (expr_tree a xs) (expr_tree b ys) e = let p = term2_tells a b (front e) in let q = more_terms_tells xs ys (back e) in cc

  more_terms_tells : Tells more_terms_text
  more_terms_tells no_terms no_terms e = refl
  more_terms_tells (more_terms x a xs) (more_terms y b ys) e =
      let o = sum_tells x y (front (front e)) in
      let p = term2_tells a b (back (front e)) in
      let q = more_terms_tells xs ys (back e) in cc
  more_terms_tells no_terms (more_terms y b ys) e = absurd cc
  more_terms_tells (more_terms x a xs) no_terms e = absurd cc

  term2_tells : Tells term2_text
  term2_tells (term_tree a xs) (term_tree b ys) e = let p = factor_tells a b (front e) in let q = more_factors_tells xs ys (back e) in cc

  more_factors_tells : Tells more_factors_text
  more_factors_tells no_factors no_factors e = refl
  more_factors_tells (more_factors x a xs) (more_factors y b ys) e =
      let o = product_tells x y (front (front e)) in
      let p = factor_tells a b (back (front e)) in
      let q = more_factors_tells xs ys (back e) in cc
  more_factors_tells no_factors (more_factors y b ys) e = absurd cc
  more_factors_tells (more_factors x a xs) no_factors e = absurd cc

  factor_tells : Tells factor_text
  factor_tells (number_tree a) (number_tree b) e = ap number_tree (number_tells a b e)
  factor_tells (name_tree a) (name_tree b) e = ap name_tree (name_tells a b e)
  factor_tells (group_tree p a) (group_tree q b) e = let d = expr_tells a b (front (back e)) in cc
  factor_tells (number_tree a) (name_tree b) e = absurd cc
  factor_tells (number_tree a) (group_tree q b) e = absurd cc
  factor_tells (name_tree a) (number_tree b) e = absurd cc
  factor_tells (name_tree a) (group_tree q b) e = absurd cc
  factor_tells (group_tree p a) (number_tree b) e = absurd cc
  factor_tells (group_tree p a) (name_tree b) e = absurd cc

-- ---- formulas

var_tells : Tells var_text
var_tells (vars.Head p) (vars.Head q) e = cc
var_tells (vars.Name a) (vars.Name b) e = ap vars.Name (name_tells a b e)
var_tells (vars.Head p) (vars.Name b) e = absurd cc
var_tells (vars.Name a) (vars.Head q) e = absurd cc

abbrev read_compare : Phrase → Compare
read_compare (said (token.Sign sign.Differs)) = compares.Differs
read_compare (said (token.Sign sign.Less)) = compares.Less
read_compare (said (token.Sign sign.AtMost)) = compares.AtMost
read_compare (said (token.Sign sign.Greater)) = compares.Greater
read_compare (said (token.Sign sign.AtLeast)) = compares.AtLeast
read_compare _ = compares.Equal

compare_read : (c : Compare) → read_compare (compare_text c) ≡ c
compare_read compares.Equal = refl
compare_read compares.Differs = refl
compare_read compares.Less = refl
compare_read compares.AtMost = refl
compare_read compares.Greater = refl
compare_read compares.AtLeast = refl

compare_tells : Tells compare_text
compare_tells a b e = sym (compare_read a) ∙ ap read_compare e ∙ compare_read b

abbrev read_bound : Phrase → Bound
read_bound (said (token.Sign sign.AtMost)) = bounds.AtMost
read_bound (said (token.Sign sign.AtLeast)) = bounds.AtLeast
read_bound _ = bounds.Equal

bound_read : (c : Bound) → read_bound (bound_text c) ≡ c
bound_read bounds.AtMost = refl
bound_read bounds.AtLeast = refl
bound_read bounds.Equal = refl

bound_tells : Tells bound_text
bound_tells a b e = sym (bound_read a) ∙ ap read_bound e ∙ bound_read b

size_part_tells : Tells size_part_text
size_part_tells a b e = name_tells a b (back e)

abbrev whole_size : Size → Size
whole_size s = record { place = s.place; var = s.var; part = s.part }

size_tells : Tells size_text
size_tells a b e =
    let p : a.place ≡ b.place = cc in
    let v = var_tells a.var b.var (front (back (back e))) in
    let o = maybe_tells size_part_text (λ n. refl) size_part_tells a.part b.part (front (back (back (back e)))) in
    let w : whole_size a ≡ whole_size b = cc in w

measure_tells : Tells measure_text
measure_tells (measures.Number a) (measures.Number b) e = ap measures.Number (number_tells a b e)
measure_tells (measures.Size a) (measures.Size b) e = ap measures.Size (size_tells a b e)
measure_tells (measures.Number a) (measures.Size b) e = absurd cc
measure_tells (measures.Size a) (measures.Number b) e = absurd cc

-- a variable is none of the tokens with which other atoms and units begin
abbrev opens : Token → Bool
opens (token.Keyword keyword.Not) = true
opens (token.Keyword keyword.Given) = true
opens (token.Sign s) = true
opens _ = false

var_plain : {A : Type 0} (t : Token) (place : ℕ) (v : Var) → opens t ≡ true → said_at t place ≡ var_text v → A
var_plain t place (vars.Head p) o e = let s : t ≡ token.Keyword keyword.Head = cc in let f : true ≡ false = sym o ∙ ap opens s in absurd cc
var_plain t place (vars.Name n) o e = let s : t ≡ token.Name n.name = cc in let f : true ≡ false = sym o ∙ ap opens s in absurd cc

var_single : {A : Type 0} {a b : Phrase} (v : Var) → (a ▸ b) ≡ var_text v → A
var_single (vars.Head p) e = absurd cc
var_single (vars.Name n) e = absurd cc

atom_tells : Tells atom_text
atom_tells (atoms.Count a x m) (atoms.Count b y n) e =
    let p = size_tells a b (front e) in
    let q = bound_tells x y (front (back e)) in
    let d = number_tells m n (back (back e)) in cc
atom_tells (atoms.Pair p a x m) (atoms.Pair q b y n) e =
    let o = var_tells a b (front (back e)) in
    let i = var_tells x y (front (back (back (back e)))) in
    let d = name_tells m n (back (back (back (back (back (back e)))))) in cc
atom_tells (atoms.Member a m) (atoms.Member b n) e =
    let p = var_tells a b (front e) in
    let d = name_tells m n (back (back e)) in cc
atom_tells (atoms.Value a m x i) (atoms.Value b n y j) e =
    let p = var_tells a b (front e) in
    let d = name_tells m n (front (back (back e))) in
    let q = compare_tells x y (front (back (back (back e)))) in
    let h = measure_tells i j (back (back (back (back e)))) in cc
atom_tells (atoms.Member a m) (atoms.Value b n y j) e = absurd cc
atom_tells (atoms.Value a m x i) (atoms.Member b n) e = absurd cc
atom_tells (atoms.Count a x m) (atoms.Pair q b y n) e = absurd cc
atom_tells (atoms.Pair p a x m) (atoms.Count b y n) e = absurd cc
atom_tells (atoms.Count a x m) (atoms.Member b n) e = var_single b (front e)
atom_tells (atoms.Count a x m) (atoms.Value b n y j) e = var_single b (front e)
atom_tells (atoms.Pair p a x m) (atoms.Member b n) e = var_plain _ _ b refl (front e)
atom_tells (atoms.Pair p a x m) (atoms.Value b n y j) e = var_plain _ _ b refl (front e)
atom_tells (atoms.Member a m) (atoms.Count b y n) e = var_single a (sym (front e))
atom_tells (atoms.Member a m) (atoms.Pair q b y n) e = var_plain _ _ a refl (sym (front e))
atom_tells (atoms.Value a m x i) (atoms.Count b y n) e = var_single a (sym (front e))
atom_tells (atoms.Value a m x i) (atoms.Pair q b y n) e = var_plain _ _ a refl (sym (front e))

-- the tokens of units that aren't atoms
abbrev encloses : Token → Bool
encloses (token.Keyword k) = true
encloses (token.Sign sign.OpenParenthesis) = true
encloses _ = false

atom_plain : {A : Type 0} {b : Phrase} (t : Token) (place : ℕ) (a : Atom) → opens t ≡ true → encloses t ≡ true → (said_at t place ▸ b) ≡ atom_text a → A
atom_plain t place (atoms.Count a x m) o u e = absurd cc
atom_plain t place (atoms.Pair p a x m) o u e = let s : t ≡ token.Sign sign.Less = cc in let f : true ≡ false = sym u ∙ ap encloses s in absurd cc
atom_plain t place (atoms.Member a m) o u e = var_plain t place a o (front e)
atom_plain t place (atoms.Value a m x i) o u e = var_plain t place a o (front e)

mutual
  formula_tells : Tells formula_text
  formula_tells (formula_tree a xs) (formula_tree b ys) e = let p = join_tells a b (front e) in let q = joins_tells xs ys (back e) in cc

  joins_tells : Tells joins_text
  joins_tells no_joins no_joins e = refl
  joins_tells (more_joins a xs) (more_joins b ys) e = let p = join_tells a b (back (front e)) in let q = joins_tells xs ys (back e) in cc
  joins_tells no_joins (more_joins b ys) e = absurd cc
  joins_tells (more_joins a xs) no_joins e = absurd cc

  join_tells : Tells join_text
  join_tells (join_tree a xs) (join_tree b ys) e = let p = unit_tells a b (front e) in let q = units_tells xs ys (back e) in cc

  units_tells : Tells units_text
  units_tells no_units no_units e = refl
  units_tells (more_units a xs) (more_units b ys) e = let p = unit_tells a b (back (front e)) in let q = units_tells xs ys (back e) in cc
  units_tells no_units (more_units b ys) e = absurd cc
  units_tells (more_units a xs) no_units e = absurd cc

  unit_tells : Tells unit_text
  unit_tells (not_tree p a) (not_tree q b) e = let d = unit_tells a b (back e) in cc
  unit_tells (given_tree p a) (given_tree q b) e = let d = unit_tells a b (back e) in cc
  unit_tells (parenthesized_tree p a) (parenthesized_tree q b) e = let d = formula_tells a b (front (back e)) in cc
  unit_tells (atom_tree a) (atom_tree b) e = ap atom_tree (atom_tells a b e)
  unit_tells (not_tree p a) (given_tree q b) e = absurd cc
  unit_tells (not_tree p a) (parenthesized_tree q b) e = absurd cc
  unit_tells (given_tree p a) (not_tree q b) e = absurd cc
  unit_tells (given_tree p a) (parenthesized_tree q b) e = absurd cc
  unit_tells (parenthesized_tree p a) (not_tree q b) e = absurd cc
  unit_tells (parenthesized_tree p a) (given_tree q b) e = absurd cc
  unit_tells (not_tree p a) (atom_tree b) e = atom_plain _ _ b refl refl e
  unit_tells (given_tree p a) (atom_tree b) e = atom_plain _ _ b refl refl e
  unit_tells (parenthesized_tree p a) (atom_tree b) e = atom_plain _ _ b refl refl e
  unit_tells (atom_tree a) (not_tree q b) e = atom_plain _ _ a refl refl (sym e)
  unit_tells (atom_tree a) (given_tree q b) e = atom_plain _ _ a refl refl (sym e)
  unit_tells (atom_tree a) (parenthesized_tree q b) e = atom_plain _ _ a refl refl (sym e)

-- ---- structures

width_tells : Tells width_text
width_tells (widths.U8 p) (widths.U8 q) e = cc
width_tells (widths.U16 p) (widths.U16 q) e = cc
width_tells (widths.U32 p) (widths.U32 q) e = cc
width_tells (widths.U64 p) (widths.U64 q) e = cc
width_tells (widths.Bits p m) (widths.Bits q n) e = let d = number_tells m n (back e) in cc
width_tells _ _ e = absurd cc

brackets_tells : Tells brackets_text
brackets_tells a b e = expr_tells a b (back (front e))

content_tells : Tells content_text
content_tells (contents.Refers p a) (contents.Refers q b) e = let d = name_tells a b (back e) in cc
content_tells (contents.Init p a) (contents.Init q b) e = let d = number_tells a b (back e) in cc
content_tells (contents.Refers p a) (contents.Init q b) e = absurd cc
content_tells (contents.Init p a) (contents.Refers q b) e = absurd cc

content_speaks : (c : Content) → speaks (content_text c) ≡ true
content_speaks (contents.Refers p n) = refl
content_speaks (contents.Init p n) = refl

abbrev whole_named : NamedFieldTree → NamedFieldTree
whole_named f = record { fixed = f.fixed; width = f.width; name = f.name; length = f.length; content = f.content }

named_tells : Tells named_field_text
named_tells a b e =
    let f = maybe_tells fixed_text (λ p. refl) (λ p q e. cc) a.fixed b.fixed (front e) in
    let v = width_tells a.width b.width (front (back e)) in
    let n = name_tells a.name b.name (front (back (back e))) in
    let l = maybe_tells brackets_text (λ x. refl) brackets_tells a.length b.length (front (back (back (back e)))) in
    let c = maybe_tells content_text content_speaks content_tells a.content b.content (front (back (back (back (back e))))) in
    let w : whole_named a ≡ whole_named b = cc in w

-- a field with a name doesn't begin as one that is skipped does
named_or_skipped : {A : Type 0} {b : Phrase} {place : ℕ} (fixed : Option ℕ) → ((said_at (token.Keyword keyword.Skip) place ▸ b) ≡ maybe_text fixed_text fixed) → A
named_or_skipped None e = absurd cc
named_or_skipped (Some p) e = absurd cc

field_tells : Tells field_text
field_tells (named a) (named b) e = ap named (named_tells a b e)
field_tells (skipped p a) (skipped q b) e = let d = expr_tells a b (back (front e)) in cc
field_tells (named a) (skipped q b) e = named_or_skipped a.fixed (sym (front e))
field_tells (skipped p a) (named b) e = named_or_skipped b.fixed (front e)

parent_tells : Tells parent_text
parent_tells a b e = name_tells a b (back e)

abbrev whole_structure : StructureTree → StructureTree
whole_structure s = record { place = s.place; name = s.name; parent = s.parent; fields = s.fields }

structure_tells : Tells structure_text
structure_tells a b e =
    let p : a.place ≡ b.place = cc in
    let n = name_tells a.name b.name (front (back e)) in
    let o = maybe_tells parent_text (λ x. refl) parent_tells a.parent b.parent (front (back (back e))) in
    let f = in_turn_tells field_text field_tells a.fields b.fields (front (back (back (back (back e))))) in
    let w : whole_structure a ≡ whole_structure b = cc in w

-- ---- pools, sets, relations, supplies

behind_tells : (k : Keyword) → Tells (behind_text k)
behind_tells k a b e = expr_tells a b (back e)

abbrev whole_pool : PoolTree → PoolTree
whole_pool p = record { place = p.place; name = p.name; structure = p.structure; count = p.count; slot = p.slot; start = p.start; code = p.code; step = p.step; none = p.none }

pool_tells : Tells pool_text
pool_tells a b e =
    let p : a.place ≡ b.place = cc in
    let n = name_tells a.name b.name (front (back e)) in
    let s = name_tells a.structure b.structure (front (back (back (back e)))) in
    let r = back (back (back (back e))) in
    let c = brackets_tells a.count b.count (front r) in
    let o = maybe_tells (behind_text keyword.Slot) (λ x. refl) (behind_tells keyword.Slot) a.slot b.slot (front (back r)) in
    let t = back (back r) in
    let i = behind_tells keyword.At a.start b.start (front t) in
    let d = behind_tells keyword.Codes a.code b.code (front (back t)) in
    let h = behind_tells keyword.Step a.step b.step (front (back (back t))) in
    let z = behind_tells keyword.None a.none b.none (front (back (back (back t)))) in
    let w : whole_pool a ≡ whole_pool b = cc in w

view_tells : Tells view_text
view_tells (views.As p a) (views.As q b) e = let d = name_tells a b (back e) in cc
view_tells (views.Except p a) (views.Except q b) e = let d = name_tells a b (back e) in cc
view_tells (views.As p a) (views.Except q b) e = absurd cc
view_tells (views.Except p a) (views.As q b) e = absurd cc

view_speaks : (v : View) → speaks (view_text v) ≡ true
view_speaks (views.As p n) = refl
view_speaks (views.Except p n) = refl

abbrev whole_set : Set → Set
whole_set s = record { place = s.place; name = s.name; pool = s.pool; view = s.view }

set_tells : Tells set_text
set_tells a b e =
    let p : a.place ≡ b.place = cc in
    let n = name_tells a.name b.name (front (back e)) in
    let o = name_tells a.pool b.pool (front (back (back (back e)))) in
    let v = maybe_tells view_text view_speaks view_tells a.view b.view (front (back (back (back (back e))))) in
    let w : whole_set a ≡ whole_set b = cc in w

target_tells : Tells target_text
target_tells (targets.Number p) (targets.Number q) e = cc
target_tells (targets.Pool a) (targets.Pool b) e = ap targets.Pool (name_tells a b e)
target_tells (targets.Number p) (targets.Pool b) e = absurd cc
target_tells (targets.Pool a) (targets.Number q) e = absurd cc

abbrev whole_relation : Relation → Relation
whole_relation r = record { place = r.place; name = r.name; source = r.source; target = r.target }

relation_tells : Tells relation_text
relation_tells a b e =
    let p : a.place ≡ b.place = cc in
    let n = name_tells a.name b.name (front (back e)) in
    let v = var_tells a.source b.source (front (back (back (back e)))) in
    let t = target_tells a.target b.target (front (back (back (back (back (back e)))))) in
    let w : whole_relation a ≡ whole_relation b = cc in w

more_name_tells : Tells more_name_text
more_name_tells a b e = name_tells a b (back e)

abbrev whole_fresh : Fresh → Fresh
whole_fresh f = record { place = f.place; pool = f.pool; first = f.first; rest = f.rest }

fresh_tells : Tells fresh_text
fresh_tells a b e =
    let p : a.place ≡ b.place = cc in
    let o = name_tells a.pool b.pool (front (back e)) in
    let n = name_tells a.first b.first (front (back (back (back e)))) in
    let r = in_turn_tells more_name_text more_name_tells a.rest b.rest (front (back (back (back (back e))))) in
    let w : whole_fresh a ≡ whole_fresh b = cc in w

-- ---- rules

index_tells : Tells (maybe_text index_text)
index_tells = maybe_tells index_text (λ n. refl) (λ a b e. name_tells a b (front (back e)))

abbrev whole_path : Path → Path
whole_path p = record { var = p.var; field = p.field; index = p.index }

path_tells : Tells path_text
path_tells a b e =
    let v = var_tells a.var b.var (front e) in
    let n = name_tells a.field b.field (front (back (back e))) in
    let i = index_tells a.index b.index (back (back (back e))) in
    let w : whole_path a ≡ whole_path b = cc in w

premise_tells : Tells premise_text
premise_tells (premises.Head p) (premises.Head q) e = cc
premise_tells (premises.Member a m) (premises.Member b n) e = let d = name_tells a b (front e) in let s = name_tells m n (back (back e)) in cc
premise_tells (premises.Head p) (premises.Member b n) e = absurd cc
premise_tells (premises.Member a m) (premises.Head q) e = absurd cc

index_source_tells : Tells index_source_text
index_source_tells (indexes.Pool p a) (indexes.Pool q b) e = let d = name_tells a b (back e) in cc
index_source_tells (indexes.Array a) (indexes.Array b) e = ap indexes.Array (name_tells a b e)
index_source_tells (indexes.Pool p a) (indexes.Array b) e = absurd cc
index_source_tells (indexes.Array a) (indexes.Pool q b) e = absurd cc

abbrev whole_span : Span → Span
whole_span s = record { name = s.name; index = s.index }

span_tells : Tells span_text
span_tells a b e =
    let n = name_tells a.name b.name (front (back e)) in
    let i = index_source_tells a.index b.index (back (back (back e))) in
    let w : whole_span a ≡ whole_span b = cc in w

abbrev read_test : Phrase → RefTest
read_test (said_at (token.Keyword keyword.Illegal) place) = tests.Illegal
read_test (said_at (token.Keyword keyword.None) place) = tests.None
read_test (said_at (token.Keyword keyword.Some) place) = tests.Some
read_test _ = tests.Legal

test_read : (t : RefTest) (place : ℕ) → read_test (test_text (t, place)) ≡ t
test_read tests.Legal place = refl
test_read tests.Illegal place = refl
test_read tests.None place = refl
test_read tests.Some place = refl

guard_tells : Tells guard_text
guard_tells (guards.Tested p t a) (guards.Tested q u b) e =
    let i = sym (test_read t p) ∙ ap read_test (front e) ∙ test_read u q in
    let d = path_tells a b (front (back (back e))) in cc
guard_tells (guards.Compared a x m) (guards.Compared b y n) e =
    let d = path_tells a b (front e) in
    let o = compare_tells x y (front (back e)) in
    let i = number_tells m n (back (back e)) in cc
guard_tells (guards.Tested p t a) (guards.Compared b y n) e = absurd cc
guard_tells (guards.Compared a x m) (guards.Tested q u b) e = absurd cc

more_guard_tells : Tells more_guard_text
more_guard_tells a b e = guard_tells a b (back e)

abbrev whole_guards : Guards → Guards
whole_guards g = record { first = g.first; rest = g.rest }

guards_tells : Tells guards_text
guards_tells a b e =
    let f = guard_tells a.first b.first (front (back e)) in
    let r = in_turn_tells more_guard_text more_guard_tells a.rest b.rest (back (back e)) in
    let w : whole_guards a ≡ whole_guards b = cc in w

term_tells : Tells term_text
term_tells (terms.Head p) (terms.Head q) e = cc
term_tells (terms.Named a i) (terms.Named b j) e = let d = name_tells a b (front e) in let o = index_tells i j (back e) in cc
term_tells (terms.Head p) (terms.Named b j) e = absurd cc
term_tells (terms.Named a i) (terms.Head q) e = absurd cc

member_part_tells : Tells member_part_text
member_part_tells (member_parts.Field a i) (member_parts.Field b j) e = let d = name_tells a b (front (back e)) in let o = index_tells i j (back (back e)) in cc
member_part_tells (member_parts.Slot a) (member_parts.Slot b) e = ap member_parts.Slot (name_tells a b (front (back e)))
member_part_tells (member_parts.Field a i) (member_parts.Slot b) e = absurd cc
member_part_tells (member_parts.Slot a) (member_parts.Field b j) e = absurd cc

member_part_speaks : (m : MemberPart) → speaks (member_part_text m) ≡ true
member_part_speaks (member_parts.Field n i) = refl
member_part_speaks (member_parts.Slot n) = refl

abbrev whole_member : Member → Member
whole_member m = record { var = m.var; part = m.part }

member_tells : Tells member_text
member_tells a b e =
    let v = var_tells a.var b.var (front e) in
    let o = maybe_tells member_part_text member_part_speaks member_part_tells a.part b.part (back e) in
    let w : whole_member a ≡ whole_member b = cc in w

inclusion_tells : Tells inclusion_text
inclusion_tells (inclusions.Pair p t a m) (inclusions.Pair q u b n) e =
    let i = term_tells t u (front (back e)) in
    let d = path_tells a b (front (back (back (back e)))) in
    let r = name_tells m n (back (back (back (back (back (back e)))))) in cc
inclusion_tells (inclusions.Member a m) (inclusions.Member b n) e = let d = member_tells a b (front e) in let s = name_tells m n (back (back e)) in cc
inclusion_tells (inclusions.Pair p t a m) (inclusions.Member b n) e = absurd cc
inclusion_tells (inclusions.Member a m) (inclusions.Pair q u b n) e = absurd cc

abbrev whole_rule : Rule → Rule
whole_rule r = record { place = r.place; premise = r.premise; span = r.span; guards = r.guards; inclusion = r.inclusion }

rule_tells : Tells rule_text
rule_tells a b e =
    let p : a.place ≡ b.place = cc in
    let q = premise_tells a.premise b.premise (front (back e)) in
    let s = maybe_tells span_text (λ x. refl) span_tells a.span b.span (front (back (back e))) in
    let g = maybe_tells guards_text (λ x. refl) guards_tells a.guards b.guards (front (back (back (back e)))) in
    let i = inclusion_tells a.inclusion b.inclusion (front (back (back (back (back (back e)))))) in
    let w : whole_rule a ≡ whole_rule b = cc in w

-- ---- constraints, and the whole

binder_tells : Tells binder_text
binder_tells (binders.One a) (binders.One b) e = ap binders.One (name_tells a b e)
binder_tells (binders.Pair p a m) (binders.Pair q b n) e = let d = name_tells a b (front (back e)) in let s = name_tells m n (front (back (back (back e)))) in cc
binder_tells (binders.One a) (binders.Pair q b n) e = absurd cc
binder_tells (binders.Pair p a m) (binders.One b) e = absurd cc

abbrev whole_quantifier : Quantifier → Quantifier
whole_quantifier q = record { place = q.place; binder = q.binder; symbol = q.symbol }

quantifier_tells : Tells quantifier_text
quantifier_tells a b e =
    let p : a.place ≡ b.place = cc in
    let i = binder_tells a.binder b.binder (front (back e)) in
    let n = name_tells a.symbol b.symbol (front (back (back (back e)))) in
    let w : whole_quantifier a ≡ whole_quantifier b = cc in w

abbrev whole_constraint : ConstraintTree → ConstraintTree
whole_constraint c = record { place = c.place; name = c.name; quantifier = c.quantifier; formula = c.formula }

constraint_tells : Tells constraint_text
constraint_tells a b e =
    let p : a.place ≡ b.place = cc in
    let n = name_tells a.name b.name (front (back e)) in
    let q = maybe_tells quantifier_text (λ x. refl) quantifier_tells a.quantifier b.quantifier (front (back (back (back e)))) in
    let f = formula_tells a.formula b.formula (front (back (back (back (back e))))) in
    let w : whole_constraint a ≡ whole_constraint b = cc in w

endian_tells : Tells endian_text
endian_tells Little Little e = refl
endian_tells Big Big e = refl
endian_tells Little Big e = absurd cc
endian_tells Big Little e = absurd cc

abbrev whole_tree : TreeShape → TreeShape
whole_tree t = record { place = t.place; version = t.version; order = t.order; structures = t.structures; pools = t.pools; sets = t.sets; relations = t.relations; supplies = t.supplies; rules = t.rules; constraints = t.constraints }

pub tree_tells : Tells tree_text
tree_tells a b e =
    let p : a.place ≡ b.place = cc in
    let v = number_tells a.version b.version (front (back (front e))) in
    let o = endian_tells a.order b.order (front (back (front (back e)))) in
    let r = back (back e) in
    let s = in_turn_tells structure_text structure_tells a.structures b.structures (front r) in
    let q = in_turn_tells pool_text pool_tells a.pools b.pools (front (back r)) in
    let t = in_turn_tells set_text set_tells a.sets b.sets (front (back (back r))) in
    let l = in_turn_tells relation_text relation_tells a.relations b.relations (front (back (back (back r)))) in
    let f = in_turn_tells fresh_text fresh_tells a.supplies b.supplies (front (back (back (back (back r))))) in
    let u = in_turn_tells rule_text rule_tells a.rules b.rules (front (back (back (back (back (back r)))))) in
    let c = in_turn_tells constraint_text constraint_tells a.constraints b.constraints (back (back (back (back (back (back r)))))) in
    let w : whole_tree a ≡ whole_tree b = cc in w
