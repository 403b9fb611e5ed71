-- What is printed in digits is read back.
use Rattle.std.proofs.Common.{◌≡◌, ◌≤◌, ◌<◌, ◌+◌, ◌-◌, ◌*◌, ◌%◌, ◌^◌, ◌++◌, ◌∙◌, ℕ, true, false, cond, List, [], ◌∷◌, length, take, drop, refl, sym, ap, arith, append_assoc, append-nil}
use Rattle.std.specs.Prelude.{decimal, nat_lt}
use Rattle.std.specs.Char.{digit_value, is_ascii_digit}
use Rattle.std.specs.Str.Parse.{AllDigits, digits_value_after}
use Rattle.std.proofs.Math.Seq.{drop-append_seam, take-append_seam}
use Rattle.std.proofs.lemmas.Bool.Decides.{nat_tests}
use Rattle.std.proofs.lemmas.Fmt.{decimal_is_IsNumeral}
use Rattle.std.proofs.lemmas.Str.{digit_value_digit}
use Rattle.std.proofs.lemmas.Str.Parse.{digit_from_value}
use Rattle.dsr_report_read.specs.Lenient.{behind_number, digits_len, narrow, number_ahead, place_of, value_after}

is_digit : (d : ℕ) → 48 ≤ d → d ≤ 57 → is_ascii_digit d ≡ true
is_digit d low high = grind (arith, nat_tests)

digits_front : (ds rest : List ℕ) → AllDigits 10 ds → digits_len rest ≡ 0 → digits_len (ds ++ rest) ≡ length ds
digits_front [] rest all stops = stops
digits_front (d ∷ ds) rest all stops =
    let range = digit_from_value d all.0 in
    ap (λ b. cond b (1 + digits_len (ds ++ rest)) 0) (is_digit d range.0 range.1)
    ∙ (let more = digits_front ds rest all.1 stops in omega (arith, more))

mods : (v d w : ℕ) → w + 48 ≡ d → ((v % 2 ^ 64) * 10 % 2 ^ 64 + (d - 48)) % 2 ^ 64 ≡ (v * 10 + w) % 2 ^ 64
mods v d w h = omega arith

value_is : (ds : List ℕ) (v : ℕ) → AllDigits 10 ds → value_after (v % 2 ^ 64) ds ≡ digits_value_after 10 v ds % 2 ^ 64
value_is [] v all = refl
value_is (d ∷ ds) v all =
    let range = digit_from_value d all.0 in
    ap (λ x. value_after x ds) (mods v d (digit_value d) (digit_value_digit d range)) ∙ value_is ds (v * 10 + digit_value d) all.1

keeps_small : (n : ℕ) → n < 2 ^ 64 → n % 2 ^ 64 ≡ n
keeps_small n h = omega arith

-- what is read of a text
pub record ReadsNumber (text : List ℕ) (n : ℕ) (rest : List ℕ) : Type 0 where
  pub value : number_ahead text ≡ n
  pub behind : behind_number text ≡ rest

pub number_back : (n : ℕ) (rest : List ℕ) → n < 2 ^ 64 → digits_len rest ≡ 0 → ReadsNumber (decimal n ++ rest) n rest
number_back n rest small stops =
    let numeral = decimal_is_IsNumeral n small in
    let len = digits_front (decimal n) rest numeral.0.1 stops in
    record {
      value = ap (λ k. value_after 0 (take k (decimal n ++ rest))) len ∙ (ap (value_after 0) (take-append_seam (decimal n) rest)
          ∙ (value_is (decimal n) 0 numeral.0.1 ∙ (ap (λ v. v % 2 ^ 64) numeral.1 ∙ keeps_small n small)));
      behind = ap (λ k. drop k (decimal n ++ rest)) len ∙ drop-append_seam (decimal n) rest;
    }

pub narrow_small : (n : ℕ) → n < 2 ^ 32 → narrow n ≡ n
narrow_small n small = let other : nat_lt 4294967295 n ≡ false = grind (arith, nat_tests, small) in ap (λ b. cond b 0 n) other

pub place_back : (n : ℕ) → n < 2 ^ 32 → place_of (n + 1) ≡ n
place_back n small = let less : n + 1 - 1 ≡ n = omega arith in ap narrow less ∙ narrow_small n small

-- pieces that are put one behind the other
abbrev pub put_left : List ℕ → List (List ℕ) → List ℕ
put_left text [] = text
put_left text (piece ∷ pieces) = put_left (text ++ piece) pieces

abbrev pub put_right : List (List ℕ) → List ℕ
put_right [] = []
put_right (piece ∷ pieces) = piece ++ put_right pieces

pub regroup : (text : List ℕ) (pieces : List (List ℕ)) → put_left text pieces ≡ text ++ put_right pieces
regroup text [] = sym (append-nil text)
regroup text (piece ∷ pieces) = regroup (text ++ piece) pieces ∙ append_assoc text piece (put_right pieces)
