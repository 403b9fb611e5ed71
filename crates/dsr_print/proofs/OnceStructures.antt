-- The tokens of a structure determine it but for places.
use Rattle.std.proofs.Common.{◌≡◌, ℕ, List, ◌∷◌, Bool, true, false, Option, Some, None, refl, sym, ap}
use Rattle.dsr_tree.specs.Trees.{NamedFieldTree, FieldTree, named, skipped}
use Rattle.dsr_tree.specs.declared.tokens.Keyword.TheVariants as keyword
use Rattle.dsr_tree.specs.declared.tokens.Sign.TheVariants as sign
use Rattle.dsr_tree.specs.declared.tokens.Token.{Token}
use Rattle.dsr_tree.specs.declared.tokens.Token.TheVariants as token
use Rattle.dsr_tree.specs.declared.tree.Content.{Content}
use Rattle.dsr_tree.specs.declared.tree.Content.TheVariants as contents
use Rattle.dsr_tree.specs.declared.tree.Width.{Width}
use Rattle.dsr_tree.specs.declared.tree.Width.TheVariants as widths
use Rattle.dsr_syntax_theory.specs.Bare.{bare_name, bare_expr, bare_width, bare_content, bare_place, bare_named_field, bare_field, bare_structure}
use Rattle.dsr_syntax_theory.specs.Phrases.{in_turn}
use Rattle.dsr_syntax_theory.specs.TreeTexts.{maybe_text, width_text, brackets_text, content_text, fixed_text, named_field_text, field_text, parent_text, structure_text}
use Rattle.dsr_print.proofs.After.{after, begins, clash, Once, maybe_once, in_turn_once, rest}
use Rattle.dsr_print.proofs.OnceExprs.{name_once, number_once, expr_then}

width_once : Once width_text bare_width
width_once (widths.U8 p) (widths.U8 q) r s e = (refl, rest e)
width_once (widths.U16 p) (widths.U16 q) r s e = (refl, rest e)
width_once (widths.U32 p) (widths.U32 q) r s e = (refl, rest e)
width_once (widths.U64 p) (widths.U64 q) r s e = (refl, rest e)
width_once (widths.Bits p m) (widths.Bits q n) r s e = let d = number_once m n r s (rest e) in (ap (widths.Bits 0) d.0, d.1)
width_once _ _ r s e = absurd cc

fixed_once : Once fixed_text bare_place
fixed_once a b r s e = (refl, rest e)

pub brackets_once : Once brackets_text bare_expr
brackets_once a b r s e = expr_then (token.Sign sign.CloseBracket) refl a b r s (rest e)

content_once : Once content_text bare_content
content_once (contents.Refers p a) (contents.Refers q b) r s e = let d = name_once a b r s (rest e) in (ap (contents.Refers 0) d.0, d.1)
content_once (contents.Init p a) (contents.Init q b) r s e = let d = number_once a b r s (rest e) in (ap (contents.Init 0) d.0, d.1)
content_once (contents.Refers p a) (contents.Init q b) r s e = absurd cc
content_once (contents.Init p a) (contents.Refers q b) r s e = absurd cc

-- how the parts of a field begin, and how they don't
abbrev is_fixed : Token → Bool
is_fixed (token.Keyword keyword.Fixed) = true
is_fixed _ = false

abbrev pub is_open_bracket : Token → Bool
is_open_bracket (token.Sign sign.OpenBracket) = true
is_open_bracket _ = false

abbrev is_content : Token → Bool
is_content (token.Sign sign.Arrow) = true
is_content (token.Keyword keyword.Init) = true
is_content _ = false

abbrev is_skip : Token → Bool
is_skip (token.Keyword keyword.Skip) = true
is_skip _ = false

abbrev is_inside : Token → Bool
is_inside (token.Sign sign.CloseBrace) = false
is_inside _ = true

content_opens : (x : Content) (r : List Token) → begins is_content (after (content_text x) r) ≡ true
content_opens (contents.Refers p a) r = refl
content_opens (contents.Init p a) r = refl

content_plain : (x : Option Content) (r : List Token) → begins is_open_bracket (after (maybe_text content_text x) (token.Sign sign.Semicolon ∷ r)) ≡ false
content_plain None r = refl
content_plain (Some (contents.Refers p a)) r = refl
content_plain (Some (contents.Init p a)) r = refl

width_starts : (x : Width) (r : List Token) → (begins is_fixed (after (width_text x) r) ≡ false) × (begins is_skip (after (width_text x) r) ≡ false) × (begins is_inside (after (width_text x) r) ≡ true)
width_starts (widths.U8 p) r = (refl, refl, refl)
width_starts (widths.U16 p) r = (refl, refl, refl)
width_starts (widths.U32 p) r = (refl, refl, refl)
width_starts (widths.U64 p) r = (refl, refl, refl)
width_starts (widths.Bits p m) r = (refl, refl, refl)

fixed_starts : (x : Option ℕ) (w : Width) (r : List Token) → (begins is_skip (after (maybe_text fixed_text x) (after (width_text w) r)) ≡ false) × (begins is_inside (after (maybe_text fixed_text x) (after (width_text w) r)) ≡ true)
fixed_starts None w r = let d = width_starts w r in (d.1, d.2)
fixed_starts (Some p) w r = (refl, refl)

field_opens : (x : FieldTree) (r : List Token) → begins is_inside (after (field_text x) r) ≡ true
field_opens (named f) r = let d = fixed_starts f.fixed f.width _ in d.1
field_opens (skipped p l) r = refl

field_plain : (f : NamedFieldTree) (r : List Token) → begins is_skip (after (named_field_text f) r) ≡ false
field_plain f r = let d = fixed_starts f.fixed f.width _ in d.0

named_field_once : Once named_field_text bare_named_field
named_field_once a b r s e =
    let x : begins is_fixed (after (width_text a.width) (token.Name a.name.name ∷ after (maybe_text brackets_text a.length) (after (maybe_text content_text a.content) (token.Sign sign.Semicolon ∷ r)))) ≡ false = (width_starts a.width _).0 in
    let y : begins is_fixed (after (width_text b.width) (token.Name b.name.name ∷ after (maybe_text brackets_text b.length) (after (maybe_text content_text b.content) (token.Sign sign.Semicolon ∷ s)))) ≡ false = (width_starts b.width _).0 in
    let p = maybe_once fixed_text bare_place is_fixed fixed_once (λ z t. refl) a.fixed b.fixed _ _ x y e in
    let q = width_once a.width b.width _ _ p.1 in
    let n = name_once a.name b.name _ _ q.1 in
    let l = maybe_once brackets_text bare_expr is_open_bracket brackets_once (λ z t. refl) a.length b.length _ _ (content_plain a.content r) (content_plain b.content s) n.1 in
    let c = maybe_once content_text bare_content is_content content_once content_opens a.content b.content (token.Sign sign.Semicolon ∷ r) (token.Sign sign.Semicolon ∷ s) refl refl l.1 in
    (cc, rest c.1)

field_once : Once field_text bare_field
field_once (named a) (named b) r s e = let d = named_field_once a b r s e in (ap named d.0, d.1)
field_once (skipped p a) (skipped q b) r s e = let d = expr_then (token.Sign sign.Semicolon) refl a b r s (rest e) in (ap (skipped 0) d.0, d.1)
field_once (named a) (skipped q b) r s e = clash is_skip _ _ (field_plain a r) refl e
field_once (skipped p a) (named b) r s e = clash is_skip _ _ (field_plain b s) refl (sym e)

abbrev is_extends : Token → Bool
is_extends (token.Keyword keyword.Extends) = true
is_extends _ = false

parent_once : Once parent_text bare_name
parent_once a b r s e = name_once a b r s (rest e)

pub structure_once : Once structure_text bare_structure
structure_once a b r s e =
    let p = maybe_once parent_text bare_name is_extends parent_once (λ z t. refl) a.parent b.parent (token.Sign sign.OpenBrace ∷ after (in_turn field_text a.fields) (token.Sign sign.CloseBrace ∷ r)) (token.Sign sign.OpenBrace ∷ after (in_turn field_text b.fields) (token.Sign sign.CloseBrace ∷ s)) refl refl (rest (rest e)) in
    let q = in_turn_once field_text bare_field is_inside field_once field_opens a.fields b.fields (token.Sign sign.CloseBrace ∷ r) (token.Sign sign.CloseBrace ∷ s) refl refl (rest p.1) in
    let n : a.name.name ≡ b.name.name = cc in (cc, rest q.1)
