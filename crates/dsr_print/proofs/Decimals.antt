-- A number's decimal digits spell it.
use Rattle.std.proofs.Common.{◌≡◌, ℕ, ◌+◌, ◌*◌, ◌-◌, ◌^◌, ◌<◌, ◌≤◌, List, [], ◌∷◌, length, Bool, true, refl, ap, ◌∙◌, sym, subst, arith}
use Rattle.std.specs.Char.{digit_value as value_of}
use Rattle.std.specs.Fmt.{decimal}
use Rattle.std.specs.Str.Parse.{AllDigits, digits_value_after}
use Rattle.std.proofs.lemmas.Bool.Decides.{nat_tests}
use Rattle.std.proofs.lemmas.Fmt.{decimal_is_IsNumeral}
use Rattle.std.proofs.lemmas.Str.{digit_value_digit}
use Rattle.std.proofs.lemmas.Str.Parse.{digit_from_value}
use Rattle.dsr_tree.specs.declared.tokens.Token.TheVariants as token
use Rattle.dsr_syntax_theory.specs.Tokens.{is_digit, every, digit_value, value_after, Spells, a_decimal}

in_range : (c : ℕ) → 48 ≤ c → c ≤ 57 → is_digit c ≡ true
in_range c low high = grind (arith, nat_tests)

counts : (c : ℕ) → 48 ≤ c → c ≤ 57 → digit_value c ≡ c - 48
counts c low high = grind (arith, nat_tests)

-- a decimal digit counts the same in both definitions
digit_same : (c : ℕ) → value_of c < 10 → (is_digit c ≡ true) × (value_of c ≡ digit_value c)
digit_same c h =
    let range = digit_from_value c h in
    (in_range c range.0 range.1, omega (arith, digit_value_digit c range, counts c range.0 range.1))

digits_same : (before : ℕ) (ds : List ℕ) → AllDigits 10 ds → (every is_digit ds ≡ true) × (digits_value_after 10 before ds ≡ value_after 10 before ds)
digits_same before [] h = (refl, refl)
digits_same before (d ∷ ds) h =
    let first = digit_same d h.0 in
    let more = digits_same (before * 10 + digit_value d) ds h.1 in
    (rw first.0 more.0, ap (λ n. digits_value_after 10 (before * 10 + n) ds) first.1 ∙ more.1)

spells_digits : (second : Bool) (ds : List ℕ) (n : ℕ) → 0 < length ds → every is_digit ds ≡ true → value_after 10 0 ds ≡ n → Spells second ds (token.Number n)
spells_digits second [] n some h e = absurd (omega arith)
spells_digits second (d ∷ ds) n some h e = subst (λ n. Spells second (d ∷ ds) (token.Number n)) e (a_decimal d ds h)

-- a number of 64 bits is spelled in decimal
pub decimal_spells : (second : Bool) (n : ℕ) → n < 2 ^ 64 → Spells second (decimal n) (token.Number n)
decimal_spells second n h =
    let numeral = decimal_is_IsNumeral n h in
    let same = digits_same 0 (decimal n) numeral.0.1 in
    spells_digits second (decimal n) n numeral.0.0 same.0 (sym same.1 ∙ numeral.1)
