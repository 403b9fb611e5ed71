-- The tokens of a rule determine it but for places.
use Rattle.std.proofs.Common.{◌≡◌, List, ◌∷◌, Bool, true, false, Option, Some, None, refl, sym, ap, ◌∙◌}
use Rattle.std.specs.Prelude.{option_map}
use Rattle.dsr_tree.specs.declared.tokens.Keyword.{Keyword}
use Rattle.dsr_tree.specs.declared.tokens.Keyword.TheVariants as keyword
use Rattle.dsr_tree.specs.declared.tokens.Sign.TheVariants as sign
use Rattle.dsr_tree.specs.declared.tokens.Token.{Token}
use Rattle.dsr_tree.specs.declared.tokens.Token.TheVariants as token
use Rattle.dsr_tree.specs.declared.tree.Compare.{Compare}
use Rattle.dsr_tree.specs.declared.tree.Compare.TheVariants as compares
use Rattle.dsr_tree.specs.declared.tree.Guard.TheVariants as guards
use Rattle.dsr_tree.specs.declared.tree.Guards.{Guards}
use Rattle.dsr_tree.specs.declared.tree.Inclusion.TheVariants as inclusions
use Rattle.dsr_tree.specs.declared.tree.Index.TheVariants as indexes
use Rattle.dsr_tree.specs.declared.tree.MemberPart.{MemberPart}
use Rattle.dsr_tree.specs.declared.tree.MemberPart.TheVariants as member_parts
use Rattle.dsr_tree.specs.declared.tree.Premise.TheVariants as premises
use Rattle.dsr_tree.specs.declared.tree.RefTest.{RefTest}
use Rattle.dsr_tree.specs.declared.tree.RefTest.TheVariants as tests
use Rattle.dsr_tree.specs.declared.tree.Term.TheVariants as terms
use Rattle.dsr_syntax_theory.specs.Bare.{bare_name, bare_path, bare_premise, bare_index, bare_span, bare_guard, bare_guards, bare_term, bare_member_part, bare_member, bare_inclusion, bare_rule}
use Rattle.dsr_syntax_theory.specs.TreeTexts.{maybe_text, compare_text, index_text, path_text, premise_text, index_source_text, span_text, test_word, guard_text, more_guard_text, guards_text, term_text, member_part_text, member_text, inclusion_text, rule_text}
use Rattle.dsr_print.proofs.After.{after, begins, clash, Once, OnceBefore, maybe_once, maybe_once_open, in_turn_once, either, not_first, rest}
use Rattle.dsr_print.proofs.OnceAtoms.{var_once, is_var, var_opens, compare_once, is_dot}
use Rattle.dsr_print.proofs.OnceExprs.{name_once, number_once}
use Rattle.dsr_print.proofs.OnceFormulas.{is_and}
use Rattle.dsr_print.proofs.OncePools.{is_comma}
use Rattle.dsr_print.proofs.OnceStructures.{is_open_bracket}

index_once : Once index_text bare_name
index_once a b r s e = let p = name_once a b _ _ (rest e) in (p.0, rest p.1)

maybe_index_once : OnceBefore (maybe_text index_text) (option_map bare_name) is_open_bracket
maybe_index_once = maybe_once index_text bare_name is_open_bracket index_once (λ z t. refl)

path_once : OnceBefore path_text bare_path is_open_bracket
path_once a b r s f g e =
    let p = var_once a.var b.var _ _ e in
    let n = name_once a.field b.field _ _ (rest p.1) in
    let q = maybe_index_once a.index b.index r s f g n.1 in (cc, q.1)

premise_once : Once premise_text bare_premise
premise_once (premises.Head p) (premises.Head q) r s e = (refl, rest e)
premise_once (premises.Member a m) (premises.Member b n) r s e =
    let p = name_once a b _ _ e in
    let q = name_once m n r s (rest p.1) in (cc, q.1)
premise_once (premises.Head p) (premises.Member b n) r s e = absurd cc
premise_once (premises.Member a m) (premises.Head q) r s e = absurd cc

index_source_once : Once index_source_text bare_index
index_source_once (indexes.Pool p a) (indexes.Pool q b) r s e = let d = name_once a b r s (rest e) in (ap (indexes.Pool 0) d.0, d.1)
index_source_once (indexes.Array a) (indexes.Array b) r s e = let d = name_once a b r s e in (ap indexes.Array d.0, d.1)
index_source_once (indexes.Pool p a) (indexes.Array b) r s e = absurd cc
index_source_once (indexes.Array a) (indexes.Pool q b) r s e = absurd cc

span_once : Once span_text bare_span
span_once a b r s e =
    let n = name_once a.name b.name _ _ (rest e) in
    let p = index_source_once a.index b.index r s (rest n.1) in (cc, p.1)

-- the test of a keyword
abbrev read_test : Keyword → RefTest
read_test keyword.Illegal = tests.Illegal
read_test keyword.None = tests.None
read_test keyword.Some = tests.Some
read_test _ = tests.Legal

test_read : (t : RefTest) → (read_test (test_word t) ≡ t) × (is_var (token.Keyword (test_word t)) ≡ false)
test_read tests.Legal = (refl, refl)
test_read tests.Illegal = (refl, refl)
test_read tests.None = (refl, refl)
test_read tests.Some = (refl, refl)

test_once : (x y : RefTest) → test_word x ≡ test_word y → x ≡ y
test_once x y e = sym (test_read x).0 ∙ ap read_test e ∙ (test_read y).0

compare_plain : (x : Compare) (r : List Token) → begins is_open_bracket (after (compare_text x) r) ≡ false
compare_plain compares.Equal r = refl
compare_plain compares.Differs r = refl
compare_plain compares.Less r = refl
compare_plain compares.AtMost r = refl
compare_plain compares.Greater r = refl
compare_plain compares.AtLeast r = refl

guard_once : Once guard_text bare_guard
guard_once (guards.Tested p x a) (guards.Tested q y b) r s e =
    let w : test_word x ≡ test_word y = cc in
    let t = test_once x y w in
    let d = path_once a b (token.Sign sign.CloseParenthesis ∷ r) (token.Sign sign.CloseParenthesis ∷ s) refl refl (rest (rest e)) in (cc, rest d.1)
guard_once (guards.Compared a x m) (guards.Compared b y n) r s e =
    let p = path_once a b _ _ (compare_plain x _) (compare_plain y _) e in
    let q = compare_once x y _ _ p.1 in
    let d = number_once m n r s q.1 in (cc, d.1)
guard_once (guards.Tested p x a) (guards.Compared b y n) r s e = clash is_var _ _ (test_read x).1 (var_opens b.var _) e
guard_once (guards.Compared a x m) (guards.Tested q y b) r s e = clash is_var _ _ (test_read y).1 (var_opens a.var _) (sym e)

more_guard_once : Once more_guard_text bare_guard
more_guard_once a b r s e = guard_once a b r s (rest e)

guards_once : OnceBefore guards_text bare_guards is_and
guards_once a b r s f g e =
    let p = guard_once a.first b.first _ _ (rest e) in
    let q = in_turn_once more_guard_text bare_guard is_and more_guard_once (λ z t. refl) a.rest b.rest r s f g p.1 in (cc, q.1)

term_once : OnceBefore term_text bare_term is_open_bracket
term_once (terms.Head p) (terms.Head q) r s f g e = (refl, rest e)
term_once (terms.Named a x) (terms.Named b y) r s f g e =
    let n = name_once a b _ _ e in
    let p = maybe_index_once x y r s f g n.1 in (cc, p.1)
term_once (terms.Head p) (terms.Named b y) r s f g e = absurd cc
term_once (terms.Named a x) (terms.Head q) r s f g e = absurd cc

member_part_once : OnceBefore member_part_text bare_member_part is_open_bracket
member_part_once (member_parts.Field a x) (member_parts.Field b y) r s f g e =
    let n = name_once a b _ _ (rest e) in
    let p = maybe_index_once x y r s f g n.1 in (cc, p.1)
member_part_once (member_parts.Slot a) (member_parts.Slot b) r s f g e = let d = index_once a b r s e in (ap member_parts.Slot d.0, d.1)
member_part_once (member_parts.Field a x) (member_parts.Slot b) r s f g e = absurd cc
member_part_once (member_parts.Slot a) (member_parts.Field b y) r s f g e = absurd cc

abbrev is_part : Token → Bool
is_part = either is_open_bracket is_dot

member_part_opens : (x : MemberPart) (r : List Token) → begins is_part (after (member_part_text x) r) ≡ true
member_part_opens (member_parts.Field a x) r = refl
member_part_opens (member_parts.Slot a) r = refl

member_once : OnceBefore member_text bare_member is_part
member_once a b r s f g e =
    let p = var_once a.var b.var _ _ e in
    let q = maybe_once_open member_part_text bare_member_part is_open_bracket is_part member_part_once (not_first is_open_bracket is_dot) member_part_opens a.part b.part r s f g p.1 in (cc, q.1)

inclusion_once : Once inclusion_text bare_inclusion
inclusion_once (inclusions.Pair p a x m) (inclusions.Pair q b y n) r s e =
    let d = term_once a b (token.Sign sign.Comma ∷ after (path_text x) (token.Sign sign.Greater ∷ token.Keyword keyword.In ∷ token.Name m.name ∷ r)) (token.Sign sign.Comma ∷ after (path_text y) (token.Sign sign.Greater ∷ token.Keyword keyword.In ∷ token.Name n.name ∷ s)) refl refl (rest e) in
    let h = path_once x y (token.Sign sign.Greater ∷ token.Keyword keyword.In ∷ token.Name m.name ∷ r) (token.Sign sign.Greater ∷ token.Keyword keyword.In ∷ token.Name n.name ∷ s) refl refl (rest d.1) in
    let k = name_once m n r s (rest (rest h.1)) in (cc, k.1)
inclusion_once (inclusions.Member a m) (inclusions.Member b n) r s e =
    let d = member_once a b (token.Keyword keyword.In ∷ token.Name m.name ∷ r) (token.Keyword keyword.In ∷ token.Name n.name ∷ s) refl refl e in
    let k = name_once m n r s (rest d.1) in (cc, k.1)
inclusion_once (inclusions.Pair p a x m) (inclusions.Member b n) r s e = clash is_var _ _ refl (var_opens b.var _) e
inclusion_once (inclusions.Member a m) (inclusions.Pair q b y n) r s e = clash is_var _ _ refl (var_opens a.var _) (sym e)

abbrev is_when : Token → Bool
is_when (token.Keyword keyword.When) = true
is_when _ = false

guards_plain : (x : Option Guards) (r : List Token) → begins is_comma (after (maybe_text guards_text x) (token.Sign sign.Gives ∷ r)) ≡ false
guards_plain None r = refl
guards_plain (Some g) r = refl

pub rule_once : Once rule_text bare_rule
rule_once a b r s e =
    let p = premise_once a.premise b.premise _ _ (rest e) in
    let q = maybe_once span_text bare_span is_comma span_once (λ z t. refl) a.span b.span _ _ (guards_plain a.guards _) (guards_plain b.guards _) p.1 in
    let d = maybe_once_open guards_text bare_guards is_and (either is_and is_when) guards_once (not_first is_and is_when) (λ z t. refl) a.guards b.guards (token.Sign sign.Gives ∷ after (inclusion_text a.inclusion) (token.Sign sign.Semicolon ∷ r)) (token.Sign sign.Gives ∷ after (inclusion_text b.inclusion) (token.Sign sign.Semicolon ∷ s)) refl refl q.1 in
    let h = inclusion_once a.inclusion b.inclusion _ _ (rest d.1) in
    (cc, rest h.1)
