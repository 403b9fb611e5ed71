-- A text is cut in one way.
use Rattle.std.proofs.Common.{◌≡◌, ◌≢◌, ℕ, List, [], ◌++◌, length, Bool, refl, ap, ◌∙◌, sym, subst, arith, append_assoc}
use Rattle.dsr_tree.specs.declared.tokens.Lexeme.{Lexeme}
use Rattle.dsr_syntax_theory.specs.Tokens.{Begins, IsCut, here, further}
use Rattle.dsr_lexer.proofs.Steps.{begins_once, begins_some}

-- one cut behind another
pub cut_more : (second : Bool) {place at to : ℕ} {text rest left : List ℕ} {found more : List Lexeme} → IsCut second place text found at rest → IsCut second at rest more to left → IsCut second place text (found ++ more) to left
cut_more second here next = next
cut_more second {to = to} {left = left} {more = more} (further {place = place} {bytes = bytes} {rest = rest} {found = found} {more = middle} begins cut) next =
    subst (λ lexemes. IsCut second place (bytes ++ rest) lexemes to left) (sym (append_assoc found middle more)) (further begins (cut_more second cut next))

-- nothing stands at the front
abbrev pub Stops : Bool → ℕ → List ℕ → Type 0
Stops second place left = (bytes rest : List ℕ) (found : List Lexeme) → Begins second place bytes rest found → left ≢ bytes ++ rest

pub end_stops : (second : Bool) (place : ℕ) → Stops second place []
end_stops second place bytes rest found begins q = begins_some second place begins (sym q)

-- two cuts of a text that are one
pub record SameCut (a b : List Lexeme) (to at : ℕ) (left rest : List ℕ) : Type 0 where
  pub lexemes_same : a ≡ b
  pub place_same : to ≡ at
  pub left_same : left ≡ rest

pub cut_once : (second : Bool) {place at to by : ℕ} {text other left rest : List ℕ} {a b : List Lexeme} → IsCut second place text a to left → IsCut second at other b by rest → place ≡ at → text ≡ other → Stops second to left → Stops second by rest → SameCut a b to by left rest
cut_once second here here p q _ _ = record { lexemes_same = refl; place_same = p; left_same = q }
cut_once second (here {place = place} {text = text}) (further {place = at} {bytes = bytes} {rest = rest} {found = found} begins _) p q stops _ =
    absurd (stops bytes rest found (subst (λ place. Begins second place bytes rest found) (sym p) begins) q)
cut_once second (further {place = place} {bytes = bytes} {rest = rest} {found = found} begins _) here p q _ stops =
    absurd (stops bytes rest found (subst (λ place. Begins second place bytes rest found) p begins) (sym q))
cut_once second (further {bytes = bytes} {found = found} {more = middle} begins cut) (further {bytes = others} {found = more} begun other) p q stops ends =
    let step = begins_once second begins begun p q in
    let next = cut_once second cut other (omega (arith, p, ap length step.bytes_same)) step.rest_same stops ends in
    record { lexemes_same = ap (λ found. found ++ middle) step.found_same ∙ ap (λ rest. more ++ rest) next.lexemes_same; place_same = next.place_same; left_same = next.left_same }
