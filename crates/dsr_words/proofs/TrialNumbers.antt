-- The number that a trial's word writes.
use Rattle.std.proofs.Common.{arith, ◌≡◌, ◌≤◌, ◌<◌, ◌^◌, ℕ, List, length, true, Result, Ok, Err}
use Rattle.std.proofs.lemmas.Str.Parse.{IsNumeralModel, numerals_by_value, parse_digits, tells_all_ascii_digits}
use Rattle.std.specs.Result.{OkIff, result_ok}
use Rattle.std.specs.Str.{all_ascii_digits}
use Rattle.std.specs.Str.Parse.{ParsesUnsigned, digits_value}
use Rattle.dsr_words.specs.Words.{trial_number}

own : IsNumeralModel (λ ds. all_ascii_digits ds ≡ true) (digits_value 10)
own = numerals_by_value (λ ds. all_ascii_digits ds ≡ true) tells_all_ascii_digits

by_result : {E : Type 0} (word : List ℕ) (r : Result ℕ E) → all_ascii_digits word ≡ true → length word ≤ 5
    → OkIff r ((0 < length word) × (digits_value 10 word < 2 ^ 16)) (digits_value 10 word) → result_ok r ≡ trial_number word
by_result word (Ok n) digits short is = grind arith
by_result word (Err e) digits short is = grind arith

pub parsed : {E : Type 0} (word : List ℕ) (r : Result ℕ E) → ParsesUnsigned 16 10 word r → all_ascii_digits word ≡ true
    → length word ≤ 5 → result_ok r ≡ trial_number word
parsed word r is digits short = by_result word r digits short (parse_digits own 16 word r is digits)
