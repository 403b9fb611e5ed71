-- Lines that are joined are the lines of the text.
use Rattle.std.proofs.Common.{◌≡◌, ◌<◌, ◌++◌, ◌∙◌, ℕ, suc, true, false, cond, ◌==◌, List, [], ◌∷◌, length, take, drop, refl, sym, ap, subst, arith, length-append}
use Rattle.std.specs.Prelude.{codes}
use Rattle.std.specs.List.{flat_map}
use Rattle.std.proofs.Math.Seq.{drop-append_seam, take-append_seam}
use Rattle.std.proofs.lemmas.Bool.Decides.{nat_tests}
use Rattle.bstr.proofs.lemmas.LineLemmas.{lines-nil, lines-step}
use Rattle.bstr.specs.Text.{line_len, lines_of}
use Rattle.dsr_syntax_theory.specs.Tokens.{every, is_in_line}
use Rattle.dsr_report_read.proofs.Words.{IsClean, both_of}

-- one line, with its line feed
pub record IsOneLine (text : List ℕ) : Type 0 where
  pub body : List ℕ
  pub is : text ≡ body ++ codes "\n"
  pub clean : IsClean body

-- each is one
abbrev pub AreOneLine : List (List ℕ) → Type 0
AreOneLine [] = Unit {0}
AreOneLine (text ∷ texts) = IsOneLine text × AreOneLine texts

no_feed : (b : ℕ) → is_in_line b ≡ true → (b == 10) ≡ false
no_feed b is = grind (arith, nat_tests)

body_len : (body rest : List ℕ) → IsClean body → line_len ((body ++ codes "\n") ++ rest) ≡ length (body ++ codes "\n")
unfolding line_len
body_len [] rest clean = refl
body_len (b ∷ body) rest clean =
    let its = both_of (is_in_line b) (every is_in_line body) clean in
    ap (λ t. cond t 1 (suc (line_len ((body ++ codes "\n") ++ rest)))) (no_feed b its.0) ∙ ap suc (body_len body rest its.1)

abbrev joined : List (List ℕ) → List ℕ
joined texts = flat_map (λ t. t) texts

first_line : (text rest : List ℕ) → IsOneLine text → lines_of (text ++ rest) ≡ text ∷ lines_of rest
first_line text rest its =
    let long : line_len (text ++ rest) ≡ length text = subst (λ t. line_len (t ++ rest) ≡ length t) (sym its.is) (body_len its.body rest its.clean) in
    let some : 0 < length (text ++ rest) =
    (let both = length-append text rest in let whole = ap length its.is in let one = length-append its.body (codes "\n") in omega (arith, both, whole, one)) in
    lines-step (text ++ rest) some
    ∙ (ap (λ n. take n (text ++ rest) ∷ lines_of (drop n (text ++ rest))) long
    ∙ (ap (λ t. t ∷ lines_of (drop (length text) (text ++ rest))) (take-append_seam text rest)
    ∙ ap (λ t. text ∷ lines_of t) (drop-append_seam text rest)))

pub lines_split : (texts : List (List ℕ)) → AreOneLine texts → lines_of (joined texts) ≡ texts
lines_split [] are = lines-nil
lines_split (text ∷ texts) are = first_line text (joined texts) are.0 ∙ ap (λ ts. text ∷ ts) (lines_split texts are.1)
