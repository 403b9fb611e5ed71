-- Lines without line feeds are the lines of their text.
use Rattle.std.proofs.Common.{◌≡◌, ◌<◌, ◌+◌, ◌/◌, ◌%◌, ◌++◌, ◌&&◌, ◌∙◌, ℕ, zero, suc, Bool, true, false, cond, nat_eq, nat_lt, not, IsTrue, List, [], ◌∷◌, length, map, take, drop, refl, sym, ap, arith}
use Rattle.std.proofs.Math.Seq.{drop-append_seam, take-append_seam}
use Rattle.std.proofs.lemmas.Bool.{and_parts, eqb-true, false≢true, not-true}
use Rattle.std.proofs.lemmas.Bool.Decides.{nat_tests}
use Rattle.std.specs.Prelude.{decimal}
use Rattle.std.specs.Fmt.{digit_glyph, digits, digits_onto}
use Rattle.bstr.proofs.lemmas.LineLemmas.{lines-nil, lines-step}
use Rattle.bstr.specs.Text.{line_len, lines_of}
use Rattle.dsr_language_laws.specs.Spellings.{IsSpelled, spelled}
use Rattle.dsr_syntax_theory.specs.Tokens.{every, is_in_line, is_in_word, is_letter}
use Rattle.dsr_cert.specs.Certificates.{ended, ended_lines}

abbrev pub IsFeedless : List ℕ → Type 0
IsFeedless line = IsTrue (every is_in_line line)

abbrev pub AreFeedless : List (List ℕ) → Type 0
AreFeedless [] = Unit {0}
AreFeedless (line ∷ lines) = IsFeedless line × AreFeedless lines

both_pass : (a b : Bool) → a ≡ true → b ≡ true → (a && b) ≡ true
both_pass true b p q = q
both_pass false b p q = p

pub feedless_joined : (a b : List ℕ) → IsFeedless a → IsFeedless b → IsFeedless (a ++ b)
feedless_joined [] b p q = q
feedless_joined (x ∷ a) b p q =
    let parts = and_parts (is_in_line x) (every is_in_line a) p in
    both_pass (is_in_line x) (every is_in_line (a ++ b)) parts.0 (feedless_joined a b parts.1 q)

-- ---- names

passes_not_feed : (passes : ℕ → Bool) → passes 10 ≡ false → (b : ℕ) → passes b ≡ true → is_in_line b ≡ true
passes_not_feed passes never b is = elim (nat_eq b 10) as (λ t. nat_eq b 10 ≡ t → not t ≡ true) [
  | true ↦ λ e. absurd (false≢true (sym never ∙ (ap passes (sym (eqb-true b 10 e)) ∙ is)))
  | false ↦ λ e. refl
] refl

word_feedless : (bytes : List ℕ) → IsTrue (every is_in_word bytes) → IsFeedless bytes
word_feedless [] are = refl
word_feedless (b ∷ bytes) are =
    let parts = and_parts (is_in_word b) (every is_in_word bytes) are in
    both_pass (is_in_line b) (every is_in_line bytes) (passes_not_feed is_in_word refl b parts.0) (word_feedless bytes parts.1)

pub name_feedless : (name : List ℕ) → IsSpelled name → IsFeedless name
name_feedless _ (spelled letter bytes is are) =
    both_pass (is_in_line letter) (every is_in_line bytes) (passes_not_feed is_letter refl letter is) (word_feedless bytes are)

-- ---- numbers

glyph_in_line : (d : ℕ) → is_in_line (digit_glyph false d) ≡ true
glyph_in_line d = elim (nat_lt d 10) as (λ t. not (nat_eq (cond t (48 + d) (cond false (55 + d) (87 + d))) 10) ≡ true) [
  | true ↦ not_feed (48 + d) (omega arith)
  | false ↦ not_feed (87 + d) (omega arith)
]
  where
    not_feed : (b : ℕ) → 10 < b → is_in_line b ≡ true
    not_feed b above = grind (arith, nat_tests)

digits_feedless : (k n : ℕ) (behind : List ℕ) → IsFeedless behind → IsFeedless (digits_onto k 10 false n behind)
digits_feedless zero n behind are = are
digits_feedless (suc k) n behind are =
    let more : IsFeedless (digit_glyph false (n % 10) ∷ behind) = both_pass (is_in_line (digit_glyph false (n % 10))) (every is_in_line behind) (glyph_in_line (n % 10)) are in
    elim (nat_eq (n / 10) 0) as (λ t. IsFeedless (cond t (digit_glyph false (n % 10) ∷ behind) (digits_onto k 10 false (n / 10) (digit_glyph false (n % 10) ∷ behind)))) [
      | true ↦ more
      | false ↦ digits_feedless k (n / 10) (digit_glyph false (n % 10) ∷ behind) more
    ]

pub decimal_feedless : (n : ℕ) → IsFeedless (decimal n)
unfolding digits
decimal_feedless n = digits_feedless 64 n [] refl

-- ---- the lines of a text

line_long : (line rest : List ℕ) → IsFeedless line → line_len (ended line ++ rest) ≡ length (ended line)
unfolding line_len
line_long [] rest none = refl
line_long (b ∷ line) rest none =
    let parts = and_parts (is_in_line b) (every is_in_line line) none in
    let other : nat_eq b 10 ≡ false = not-true (nat_eq b 10) parts.0 in
    ap (λ t. cond t 1 (suc (line_len (ended line ++ rest)))) other ∙ ap suc (line_long line rest parts.1)

line_some : (line rest : List ℕ) → 0 < length (ended line ++ rest)
line_some [] rest = omega arith
line_some (b ∷ line) rest = omega arith

pub lines_are : (lines : List (List ℕ)) → AreFeedless lines → lines_of (ended_lines lines) ≡ map ended lines
lines_are [] none = lines-nil
lines_are (line ∷ lines) none =
    let text = ended line ++ ended_lines lines in
    let long = line_long line (ended_lines lines) none.0 in
    lines-step text (line_some line (ended_lines lines))
    ∙ (ap (λ n. take n text ∷ lines_of (drop n text)) long
    ∙ ((λ i. take-append_seam (ended line) (ended_lines lines) i ∷ lines_of (drop-append_seam (ended line) (ended_lines lines) i))
    ∙ ap (λ ls. ended line ∷ ls) (lines_are lines none.1)))
