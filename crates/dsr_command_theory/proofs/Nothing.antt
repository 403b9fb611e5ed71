-- Words ask for nothing exactly for one of six reasons, and all others ask for what they say.
use Rattle.std.proofs.Common.{arith, ◌≡◌, ◌≢◌, ◌≤◌, ◌<◌, ◌⊎◌, ℕ, List, [], ◌∷◌, ◌++◌, length, Bool, true, false, codes, Option, None, Some, refl, sym, ap, subst, ◌∙◌, inl, inr}
use Rattle.std.proofs.lemmas.Bool.{and_from, and_parts, cases_Bool, eqb-true, le-leb, leb-true, lt-ltb, ltb-true, eqb-false, or_cases, or_left, or_right}
use Rattle.std.proofs.lemmas.Option.{same_Some}
use Rattle.std.proofs.lemmas.Slice.Eq.{bytes_eq-Decides}
use Rattle.std.specs.Prelude.{◌||◌, ◌&&◌, if◌then◌else◌, nat_eq, nat_le, nat_lt, option_map}
use Rattle.std.specs.Char.{is_ascii_digit}
use Rattle.std.specs.Str.{all_ascii_digits, bytes_eq}
use Rattle.std.specs.Str.Parse.{digits_value}
use Rattle.dsr_meaning.specs.Counting.{IsIn}
use Rattle.dsr_command_theory.specs.Usage.{AskForNothing, word_lacks, dash, otherwise, count, over_spec, trial_lacks, no_command, HasNoTrial, no_trial, other_count, IsTrialNumber, SavesOverSpec, certificate, repaired, undone, edited, Says, says_audit, says_certify, says_check, says_edit, says_lost, says_plan, says_repair, says_text, says_trial, says_undo, says_verify, says_why, Takes, audit, certify, check, edit, lost, plan, repair, text, trial, undo, verify, why}
use Rattle.dsr_words.specs.Words.{Asked, Audit, Certify, Check, Edit, Lost, Plan, Repair, Text, Trial, Undo, Verify, Why, command_of, is_odd, to_certify, to_edit, to_repair, to_try, to_undo, with_four, with_one, with_three, with_two}

-- ---- tests

-- nothing comes of a test that holds
if_true : (b : Bool) (o : Option Asked) → b ≡ true → (if b then None else o) ≡ None
if_true true o is = refl
if_true false o is = let e : false ≡ true = is in absurd cc

-- nothing comes of a test behind which nothing comes
if_none : (b : Bool) (o : Option Asked) → o ≡ None → (if b then None else o) ≡ None
if_none true o is = refl
if_none false o is = is

-- where nothing comes, the test holds or nothing comes behind it
none_by : (b : Bool) (o : Option Asked) → (if b then None else o) ≡ None → (b ≡ true) ⊎ (o ≡ None)
none_by true o is = inl refl
none_by false o is = inr is

-- where something comes, it comes behind the test
some_by : (b : Bool) (o : Option Asked) (a : Asked) → (if b then None else o) ≡ Some a → o ≡ Some a
some_by true o a is = let e : None ≡ Some a = is in absurd cc
some_by false o a is = is

some_not_none : (o : Option Asked) (a : Asked) → o ≡ Some a → o ≡ None → ⊥
some_not_none o a some none = let e : Some a ≡ None = sym some ∙ none in cc

-- ---- names of commands

abbrev IsUnknown : List ℕ → Type 0
IsUnknown name = (n : ℕ) → Takes name n → ⊥

abbrev IsKnown : List ℕ → Type 0
IsKnown name = (n : ℕ) × Takes name n

abbrev IsNot : (name this : List ℕ) → Type 0
IsNot name this = bytes_eq name this ≡ false

none_of_all : (name : List ℕ)
    → IsNot name (codes "audit") → IsNot name (codes "certify") → IsNot name (codes "check") → IsNot name (codes "edit")
    → IsNot name (codes "lost") → IsNot name (codes "plan") → IsNot name (codes "repair") → IsNot name (codes "text")
    → IsNot name (codes "trial") → IsNot name (codes "undo") → IsNot name (codes "verify") → IsNot name (codes "why")
    → IsUnknown name
none_of_all _ a b c d e f g h i j k l _ audit = let h : true ≡ false = a in cc
none_of_all _ a b c d e f g h i j k l _ certify = let h : true ≡ false = b in cc
none_of_all _ a b c d e f g h i j k l _ check = let h : true ≡ false = c in cc
none_of_all _ a b c d e f g h i j k l _ edit = let h : true ≡ false = d in cc
none_of_all _ a b c d e f g h i j k l _ lost = let h : true ≡ false = e in cc
none_of_all _ a b c d e f g h i j k l _ plan = let h : true ≡ false = f in cc
none_of_all _ a b c d e f g h i j k l _ repair = let h : true ≡ false = g in cc
none_of_all _ a b c d e f g h i j k l _ text = let h : true ≡ false = h in cc
none_of_all _ a b c d e f g h i j k l _ trial = let h : true ≡ false = i in cc
none_of_all _ a b c d e f g h i j k l _ undo = let h : true ≡ false = j in cc
none_of_all _ a b c d e f g h i j k l _ verify = let h : true ≡ false = k in cc
none_of_all _ a b c d e f g h i j k l _ why = let h : true ≡ false = l in cc

-- a name is that of a command, or one goes on
named : (name this : List ℕ) (n : ℕ) → Takes this n → (bytes_eq name this ≡ false → IsKnown name ⊎ IsUnknown name) → IsKnown name ⊎ IsUnknown name
named name this n takes other_name = elim (cases_Bool (bytes_eq name this)) [
  | inl same ↦ inl (n, subst (λ w. Takes w n) (sym ((bytes_eq-Decides name this).0 same)) takes)
  | inr other ↦ other_name other
]

known : (name : List ℕ) → IsKnown name ⊎ IsUnknown name
known name =
    named name (codes "audit") 4 audit (λ a.
    named name (codes "certify") 2 certify (λ b.
    named name (codes "check") 2 check (λ c.
    named name (codes "edit") 4 edit (λ d.
    named name (codes "lost") 2 lost (λ e.
    named name (codes "plan") 1 plan (λ f.
    named name (codes "repair") 3 repair (λ g.
    named name (codes "text") 1 text (λ h.
    named name (codes "trial") 1 trial (λ i.
    named name (codes "undo") 4 undo (λ j.
    named name (codes "verify") 2 verify (λ k.
    named name (codes "why") 3 why (λ l. inr (none_of_all name a b c d e f g h i j k l)))))))))))))

-- another name is unlike each command's
unlike : (name this : List ℕ) (n : ℕ) → Takes this n → IsUnknown name → bytes_eq name this ≡ false
unlike name this n takes unknown = elim (cases_Bool (bytes_eq name this)) [
  | inl same ↦ absurd (unknown n (subst (λ w. Takes w n) (sym ((bytes_eq-Decides name this).0 same)) takes))
  | inr other ↦ other
]

-- ---- nothing comes

one_unknown : (name word : List ℕ) → IsUnknown name → with_one name word ≡ None
one_unknown name word unknown =
    rw (unlike name (codes "text") 1 text unknown, unlike name (codes "plan") 1 plan unknown, unlike name (codes "trial") 1 trial unknown) refl

two_unknown : (name spec file : List ℕ) → IsUnknown name → with_two name spec file ≡ None
two_unknown name spec file unknown =
    rw (unlike name (codes "check") 2 check unknown, unlike name (codes "certify") 2 certify unknown, unlike name (codes "verify") 2 verify unknown, unlike name (codes "lost") 2 lost unknown) refl

three_unknown : (name spec image word : List ℕ) → IsUnknown name → with_three name spec image word ≡ None
three_unknown name spec image word unknown = rw (unlike name (codes "repair") 3 repair unknown, unlike name (codes "why") 3 why unknown) refl

four_unknown : (name spec image file word : List ℕ) → IsUnknown name → with_four name spec image file word ≡ None
four_unknown name spec image file word unknown =
    rw (unlike name (codes "audit") 4 audit unknown, unlike name (codes "undo") 4 undo unknown, unlike name (codes "edit") 4 edit unknown) refl

unknown_none : (name : List ℕ) (more : List (List ℕ)) → IsUnknown name → command_of (name ∷ more) ≡ None
unknown_none name [] unknown = refl
unknown_none name (a ∷ []) unknown = if_none (is_odd a) (with_one name a) (one_unknown name a unknown)
unknown_none name (a ∷ b ∷ []) unknown =
    if_none (is_odd a || is_odd b) (with_two name a b) (two_unknown name a b unknown)
unknown_none name (a ∷ b ∷ c ∷ []) unknown =
    if_none (is_odd a || is_odd b || is_odd c) (with_three name a b c) (three_unknown name a b c unknown)
unknown_none name (a ∷ b ∷ c ∷ d ∷ []) unknown =
    if_none (is_odd a || is_odd b || is_odd c || is_odd d) (with_four name a b c d) (four_unknown name a b c d unknown)
unknown_none name (a ∷ b ∷ c ∷ d ∷ e ∷ more) unknown = refl

-- no command has an odd name
odd_unknown : (name : List ℕ) → is_odd name ≡ true → IsUnknown name
odd_unknown _ odd _ audit = let h : false ≡ true = odd in cc
odd_unknown _ odd _ certify = let h : false ≡ true = odd in cc
odd_unknown _ odd _ check = let h : false ≡ true = odd in cc
odd_unknown _ odd _ edit = let h : false ≡ true = odd in cc
odd_unknown _ odd _ lost = let h : false ≡ true = odd in cc
odd_unknown _ odd _ plan = let h : false ≡ true = odd in cc
odd_unknown _ odd _ repair = let h : false ≡ true = odd in cc
odd_unknown _ odd _ text = let h : false ≡ true = odd in cc
odd_unknown _ odd _ trial = let h : false ≡ true = odd in cc
odd_unknown _ odd _ undo = let h : false ≡ true = odd in cc
odd_unknown _ odd _ verify = let h : false ≡ true = odd in cc
odd_unknown _ odd _ why = let h : false ≡ true = odd in cc

odd_behind_none : (name : List ℕ) (more : List (List ℕ)) (word : List ℕ) → is_odd word ≡ true → IsIn word more
    → command_of (name ∷ more) ≡ None
odd_behind_none name [] word odd is_in = absurd is_in
odd_behind_none name (a ∷ []) word odd (inl same) = if_true (is_odd a) (with_one name a) (ap is_odd (sym same) ∙ odd)
odd_behind_none name (a ∷ []) word odd (inr later) = absurd later
odd_behind_none name (a ∷ b ∷ []) word odd (inl same) =
    if_true (is_odd a || is_odd b) (with_two name a b) (or_left (is_odd a) (is_odd b) (ap is_odd (sym same) ∙ odd))
odd_behind_none name (a ∷ b ∷ []) word odd (inr (inl same)) =
    if_true (is_odd a || is_odd b) (with_two name a b) (or_right (is_odd a) (is_odd b) (ap is_odd (sym same) ∙ odd))
odd_behind_none name (a ∷ b ∷ []) word odd (inr (inr later)) = absurd later
odd_behind_none name (a ∷ b ∷ c ∷ []) word odd is_in =
    if_true (is_odd a || is_odd b || is_odd c) (with_three name a b c) (by is_in)
  where
    by : IsIn word (a ∷ b ∷ c ∷ []) → (is_odd a || is_odd b || is_odd c) ≡ true
    by (inl same) = let e : is_odd a ≡ true = ap is_odd (sym same) ∙ odd in grind (arith, e)
    by (inr (inl same)) = let e : is_odd b ≡ true = ap is_odd (sym same) ∙ odd in grind (arith, e)
    by (inr (inr (inl same))) = let e : is_odd c ≡ true = ap is_odd (sym same) ∙ odd in grind (arith, e)
    by (inr (inr (inr later))) = absurd later
odd_behind_none name (a ∷ b ∷ c ∷ d ∷ []) word odd is_in =
    if_true (is_odd a || is_odd b || is_odd c || is_odd d) (with_four name a b c d) (by is_in)
  where
    by : IsIn word (a ∷ b ∷ c ∷ d ∷ []) → (is_odd a || is_odd b || is_odd c || is_odd d) ≡ true
    by (inl same) = let e : is_odd a ≡ true = ap is_odd (sym same) ∙ odd in grind (arith, e)
    by (inr (inl same)) = let e : is_odd b ≡ true = ap is_odd (sym same) ∙ odd in grind (arith, e)
    by (inr (inr (inl same))) = let e : is_odd c ≡ true = ap is_odd (sym same) ∙ odd in grind (arith, e)
    by (inr (inr (inr (inl same)))) = let e : is_odd d ≡ true = ap is_odd (sym same) ∙ odd in grind (arith, e)
    by (inr (inr (inr (inr later)))) = absurd later
odd_behind_none name (a ∷ b ∷ c ∷ d ∷ e ∷ more) word odd is_in = refl

odd_none : (words : List (List ℕ)) (word : List ℕ) → is_odd word ≡ true → IsIn word words → command_of words ≡ None
odd_none [] word odd is_in = absurd is_in
odd_none (name ∷ more) word odd (inl same) = unknown_none name more (odd_unknown name (ap is_odd (sym same) ∙ odd))
odd_none (name ∷ more) word odd (inr later) = odd_behind_none name more word odd later

one_other : (name : List ℕ) (n : ℕ) (a : List ℕ) → Takes name n → 1 ≢ n → with_one name a ≡ None
one_other _ _ a audit other = refl
one_other _ _ a certify other = refl
one_other _ _ a check other = refl
one_other _ _ a edit other = refl
one_other _ _ a lost other = refl
one_other _ _ a plan other = absurd (other refl)
one_other _ _ a repair other = refl
one_other _ _ a text other = absurd (other refl)
one_other _ _ a trial other = absurd (other refl)
one_other _ _ a undo other = refl
one_other _ _ a verify other = refl
one_other _ _ a why other = refl

two_other : (name : List ℕ) (n : ℕ) (a b : List ℕ) → Takes name n → 2 ≢ n → with_two name a b ≡ None
two_other _ _ a b audit other = refl
two_other _ _ a b certify other = absurd (other refl)
two_other _ _ a b check other = absurd (other refl)
two_other _ _ a b edit other = refl
two_other _ _ a b lost other = absurd (other refl)
two_other _ _ a b plan other = refl
two_other _ _ a b repair other = refl
two_other _ _ a b text other = refl
two_other _ _ a b trial other = refl
two_other _ _ a b undo other = refl
two_other _ _ a b verify other = absurd (other refl)
two_other _ _ a b why other = refl

three_other : (name : List ℕ) (n : ℕ) (a b c : List ℕ) → Takes name n → 3 ≢ n → with_three name a b c ≡ None
three_other _ _ a b c audit other = refl
three_other _ _ a b c certify other = refl
three_other _ _ a b c check other = refl
three_other _ _ a b c edit other = refl
three_other _ _ a b c lost other = refl
three_other _ _ a b c plan other = refl
three_other _ _ a b c repair other = absurd (other refl)
three_other _ _ a b c text other = refl
three_other _ _ a b c trial other = refl
three_other _ _ a b c undo other = refl
three_other _ _ a b c verify other = refl
three_other _ _ a b c why other = absurd (other refl)

four_other : (name : List ℕ) (n : ℕ) (a b c d : List ℕ) → Takes name n → 4 ≢ n → with_four name a b c d ≡ None
four_other _ _ a b c d audit other = absurd (other refl)
four_other _ _ a b c d certify other = refl
four_other _ _ a b c d check other = refl
four_other _ _ a b c d edit other = absurd (other refl)
four_other _ _ a b c d lost other = refl
four_other _ _ a b c d plan other = refl
four_other _ _ a b c d repair other = refl
four_other _ _ a b c d text other = refl
four_other _ _ a b c d trial other = refl
four_other _ _ a b c d undo other = absurd (other refl)
four_other _ _ a b c d verify other = refl
four_other _ _ a b c d why other = refl

count_none : (name : List ℕ) (more : List (List ℕ)) (n : ℕ) → Takes name n → length more ≢ n → command_of (name ∷ more) ≡ None
count_none name [] n takes other = refl
count_none name (a ∷ []) n takes other = if_none (is_odd a) (with_one name a) (one_other name n a takes other)
count_none name (a ∷ b ∷ []) n takes other = if_none (is_odd a || is_odd b) (with_two name a b) (two_other name n a b takes other)
count_none name (a ∷ b ∷ c ∷ []) n takes other =
    if_none (is_odd a || is_odd b || is_odd c) (with_three name a b c) (three_other name n a b c takes other)
count_none name (a ∷ b ∷ c ∷ d ∷ []) n takes other =
    if_none (is_odd a || is_odd b || is_odd c || is_odd d) (with_four name a b c d) (four_other name n a b c d takes other)
count_none name (a ∷ b ∷ c ∷ d ∷ e ∷ more) n takes other = refl

same_name : (a : List ℕ) → bytes_eq a a ≡ true
same_name a = (bytes_eq-Decides a a).1 refl

over_spec_none : (words : List (List ℕ)) → SavesOverSpec words → command_of words ≡ None
over_spec_none _ (certificate spec) =
    if_none (is_odd spec || is_odd spec) (to_certify spec spec) (if_true (bytes_eq spec spec) (Some (Certify spec spec)) (same_name spec))
over_spec_none _ (repaired spec image) =
    if_none (is_odd spec || is_odd image || is_odd spec) (to_repair spec image spec)
    (if_true (bytes_eq spec spec) (Some (Repair spec image spec)) (same_name spec))
over_spec_none _ (undone spec fixed report) =
    if_none (is_odd spec || is_odd fixed || is_odd report || is_odd spec) (to_undo spec fixed report spec)
    (if_true (bytes_eq spec spec) (Some (Undo spec fixed report spec)) (same_name spec))
over_spec_none _ (edited spec image script) =
    if_none (is_odd spec || is_odd image || is_odd script || is_odd spec) (to_edit spec image script spec)
    (if_true (bytes_eq spec spec) (Some (Edit spec image script spec)) (same_name spec))

-- ---- numbers of trials

abbrev is_number : List ℕ → Bool
is_number word =
    all_ascii_digits word && nat_le 1 (length word) && nat_le (length word) 5 && nat_lt (digits_value 10 word) 65536

is_digit : (byte : ℕ) → is_ascii_digit byte ≡ true → (48 ≤ byte) × (byte ≤ 57)
is_digit byte is = let both = and_parts (nat_le 48 byte) (nat_le byte 57) is in (leb-true 48 byte both.0, leb-true byte 57 both.1)

digits_of : (word : List ℕ) → all_ascii_digits word ≡ true → (byte : ℕ) → IsIn byte word → (48 ≤ byte) × (byte ≤ 57)
digits_of [] is byte is_in = absurd is_in
digits_of (b ∷ bs) is byte (inl same) =
    is_digit byte (ap is_ascii_digit same ∙ (and_parts (is_ascii_digit b) (all_ascii_digits bs) is).0)
digits_of (b ∷ bs) is byte (inr later) = digits_of bs (and_parts (is_ascii_digit b) (all_ascii_digits bs) is).1 byte later

of_digits : (word : List ℕ) → ((byte : ℕ) → IsIn byte word → (48 ≤ byte) × (byte ≤ 57)) → all_ascii_digits word ≡ true
of_digits [] digits = refl
of_digits (b ∷ bs) digits =
    let first = digits b (inl refl) in
    and_from (is_ascii_digit b) (all_ascii_digits bs)
    (and_from (nat_le 48 b) (nat_le b 57) (le-leb 48 b first.0) (le-leb b 57 first.1))
    (of_digits bs (λ byte later. digits byte (inr later)))

number_of : (word : List ℕ) → is_number word ≡ true → IsTrialNumber word
number_of word is =
    let most = and_parts (all_ascii_digits word && nat_le 1 (length word) && nat_le (length word) 5) (nat_lt (digits_value 10 word) 65536) is in
    let more = and_parts (all_ascii_digits word && nat_le 1 (length word)) (nat_le (length word) 5) most.0 in
    let some = and_parts (all_ascii_digits word) (nat_le 1 (length word)) more.0 in
    let low = ltb-true (digits_value 10 word) 65536 most.1 in
    record {
      digits = digits_of word some.0;
      some = leb-true 1 (length word) some.1;
      few = leb-true (length word) 5 more.1;
      within = omega (arith, low);
    }

of_number : (word : List ℕ) → IsTrialNumber word → is_number word ≡ true
of_number word is =
    let low : digits_value 10 word < 65536 = let w = is.within in omega (arith, w) in
    and_from (all_ascii_digits word && nat_le 1 (length word) && nat_le (length word) 5) (nat_lt (digits_value 10 word) 65536)
    (and_from (all_ascii_digits word && nat_le 1 (length word)) (nat_le (length word) 5)
    (and_from (all_ascii_digits word) (nat_le 1 (length word)) (of_digits word is.digits) (le-leb 1 (length word) is.some))
    (le-leb (length word) 5 is.few))
    (lt-ltb (digits_value 10 word) 65536 low)

-- what comes of a word behind `trial`, by the test
tries : (word : List ℕ) (b : Bool) → is_number word ≡ b → to_try word ≡ option_map Trial (if b then Some (digits_value 10 word) else None)
tries word b is = ap (λ b. option_map Trial (if b then Some (digits_value 10 word) else None)) is

no_trial_none : (words : List (List ℕ)) → HasNoTrial words → command_of words ≡ None
no_trial_none _ (no_trial word none) = if_none (is_odd word) (to_try word) (by (cases_Bool (is_number word)))
  where
    by : (is_number word ≡ true) ⊎ (is_number word ≡ false) → to_try word ≡ None
    by (inl is) = absurd (none (number_of word is))
    by (inr not) = tries word false not

-- ---- each reason leaves nothing

pub none_comes : (words : List (List ℕ)) → AskForNothing words → command_of words ≡ None
none_comes words (word_lacks (inl none)) = ap command_of none
none_comes words (word_lacks (inr empty)) = odd_none words [] refl empty
none_comes words (dash (rest, is_in)) = odd_none words (codes "-" ++ rest) refl is_in
none_comes _ (otherwise (no_command name more unknown)) = unknown_none name more unknown
none_comes _ (count (other_count name more n takes other)) = count_none name more n takes other
none_comes words (over_spec saves) = over_spec_none words saves
none_comes words (trial_lacks none) = no_trial_none words none

-- ---- where nothing comes, there is a reason

odd_reason : (words : List (List ℕ)) (word : List ℕ) → is_odd word ≡ true → IsIn word words → AskForNothing words
odd_reason words [] odd is_in = word_lacks (inr is_in)
odd_reason words (b ∷ bs) odd is_in =
    let same : b ≡ 45 = eqb-true b 45 odd in
    dash (bs, subst (λ c. IsIn (c ∷ bs) words) same is_in)

-- of two words behind the command, and of three
odd_of_two : (name a b : List ℕ) → (is_odd a || is_odd b) ≡ true → AskForNothing (name ∷ a ∷ b ∷ [])
odd_of_two name a b odd = elim (or_cases (is_odd a) (is_odd b) odd) [
  | inl is ↦ odd_reason (name ∷ a ∷ b ∷ []) a is (inr (inl refl))
  | inr is ↦ odd_reason (name ∷ a ∷ b ∷ []) b is (inr (inr (inl refl)))
]

odd_of_three : (name a b c : List ℕ) → (is_odd a || is_odd b || is_odd c) ≡ true → AskForNothing (name ∷ a ∷ b ∷ c ∷ [])
odd_of_three name a b c odd = elim (or_cases (is_odd a || is_odd b) (is_odd c) odd) [
  | inl two ↦ elim (or_cases (is_odd a) (is_odd b) two) [
    | inl is ↦ odd_reason (name ∷ a ∷ b ∷ c ∷ []) a is (inr (inl refl))
    | inr is ↦ odd_reason (name ∷ a ∷ b ∷ c ∷ []) b is (inr (inr (inl refl)))
  ]
  | inr is ↦ odd_reason (name ∷ a ∷ b ∷ c ∷ []) c is (inr (inr (inr (inl refl))))
]

odd_of_four : (name a b c d : List ℕ) → (is_odd a || is_odd b || is_odd c || is_odd d) ≡ true → AskForNothing (name ∷ a ∷ b ∷ c ∷ d ∷ [])
odd_of_four name a b c d odd = elim (or_cases (is_odd a || is_odd b || is_odd c) (is_odd d) odd) [
  | inl three ↦ elim (or_cases (is_odd a || is_odd b) (is_odd c) three) [
    | inl two ↦ elim (or_cases (is_odd a) (is_odd b) two) [
      | inl is ↦ odd_reason (name ∷ a ∷ b ∷ c ∷ d ∷ []) a is (inr (inl refl))
      | inr is ↦ odd_reason (name ∷ a ∷ b ∷ c ∷ d ∷ []) b is (inr (inr (inl refl)))
    ]
    | inr is ↦ odd_reason (name ∷ a ∷ b ∷ c ∷ d ∷ []) c is (inr (inr (inr (inl refl))))
  ]
  | inr is ↦ odd_reason (name ∷ a ∷ b ∷ c ∷ d ∷ []) d is (inr (inr (inr (inr (inl refl)))))
]

one_reason : (name a : List ℕ) (asked : Asked) → (if is_odd a then None else Some asked) ≡ None → AskForNothing (name ∷ a ∷ [])
one_reason name a asked none = elim (none_by (is_odd a) (Some asked) none) [
  | inl odd ↦ odd_reason (name ∷ a ∷ []) a odd (inr (inl refl))
  | inr never ↦ absurd (some_not_none (Some asked) asked refl never)
]

two_reason : (name a b : List ℕ) (asked : Asked) → (if is_odd a || is_odd b then None else Some asked) ≡ None → AskForNothing (name ∷ a ∷ b ∷ [])
two_reason name a b asked none = elim (none_by (is_odd a || is_odd b) (Some asked) none) [
  | inl odd ↦ odd_of_two name a b odd
  | inr never ↦ absurd (some_not_none (Some asked) asked refl never)
]

three_reason : (name a b c : List ℕ) (asked : Asked) → (if is_odd a || is_odd b || is_odd c then None else Some asked) ≡ None
    → AskForNothing (name ∷ a ∷ b ∷ c ∷ [])
three_reason name a b c asked none = elim (none_by (is_odd a || is_odd b || is_odd c) (Some asked) none) [
  | inl odd ↦ odd_of_three name a b c odd
  | inr never ↦ absurd (some_not_none (Some asked) asked refl never)
]

four_reason : (name a b c d : List ℕ) (asked : Asked) → (if is_odd a || is_odd b || is_odd c || is_odd d then None else Some asked) ≡ None
    → AskForNothing (name ∷ a ∷ b ∷ c ∷ d ∷ [])
four_reason name a b c d asked none = elim (none_by (is_odd a || is_odd b || is_odd c || is_odd d) (Some asked) none) [
  | inl odd ↦ odd_of_four name a b c d odd
  | inr never ↦ absurd (some_not_none (Some asked) asked refl never)
]

certify_reason : (a b : List ℕ) → command_of (codes "certify" ∷ a ∷ b ∷ []) ≡ None → AskForNothing (codes "certify" ∷ a ∷ b ∷ [])
certify_reason a b none = elim (none_by (is_odd a || is_odd b) (to_certify a b) none) [
  | inl odd ↦ odd_of_two (codes "certify") a b odd
  | inr none ↦ elim (none_by (bytes_eq b a) (Some (Certify a b)) none) [
    | inl same ↦ over_spec (subst (λ w. SavesOverSpec (codes "certify" ∷ a ∷ w ∷ [])) (sym ((bytes_eq-Decides b a).0 same)) (certificate a))
    | inr never ↦ absurd (some_not_none (Some (Certify a b)) (Certify a b) refl never)
  ]
]

repair_reason : (a b c : List ℕ) → command_of (codes "repair" ∷ a ∷ b ∷ c ∷ []) ≡ None → AskForNothing (codes "repair" ∷ a ∷ b ∷ c ∷ [])
repair_reason a b c none = elim (none_by (is_odd a || is_odd b || is_odd c) (to_repair a b c) none) [
  | inl odd ↦ odd_of_three (codes "repair") a b c odd
  | inr none ↦ elim (none_by (bytes_eq c a) (Some (Repair a b c)) none) [
    | inl same ↦ over_spec (subst (λ w. SavesOverSpec (codes "repair" ∷ a ∷ b ∷ w ∷ [])) (sym ((bytes_eq-Decides c a).0 same)) (repaired a b))
    | inr never ↦ absurd (some_not_none (Some (Repair a b c)) (Repair a b c) refl never)
  ]
]

undo_reason : (a b c d : List ℕ) → command_of (codes "undo" ∷ a ∷ b ∷ c ∷ d ∷ []) ≡ None → AskForNothing (codes "undo" ∷ a ∷ b ∷ c ∷ d ∷ [])
undo_reason a b c d none = elim (none_by (is_odd a || is_odd b || is_odd c || is_odd d) (to_undo a b c d) none) [
  | inl odd ↦ odd_of_four (codes "undo") a b c d odd
  | inr none ↦ elim (none_by (bytes_eq d a) (Some (Undo a b c d)) none) [
    | inl same ↦ over_spec (subst (λ w. SavesOverSpec (codes "undo" ∷ a ∷ b ∷ c ∷ w ∷ [])) (sym ((bytes_eq-Decides d a).0 same)) (undone a b c))
    | inr never ↦ absurd (some_not_none (Some (Undo a b c d)) (Undo a b c d) refl never)
  ]
]

edit_reason : (a b c d : List ℕ) → command_of (codes "edit" ∷ a ∷ b ∷ c ∷ d ∷ []) ≡ None → AskForNothing (codes "edit" ∷ a ∷ b ∷ c ∷ d ∷ [])
edit_reason a b c d none = elim (none_by (is_odd a || is_odd b || is_odd c || is_odd d) (to_edit a b c d) none) [
  | inl odd ↦ odd_of_four (codes "edit") a b c d odd
  | inr none ↦ elim (none_by (bytes_eq d a) (Some (Edit a b c d)) none) [
    | inl same ↦ over_spec (subst (λ w. SavesOverSpec (codes "edit" ∷ a ∷ b ∷ c ∷ w ∷ [])) (sym ((bytes_eq-Decides d a).0 same)) (edited a b c))
    | inr never ↦ absurd (some_not_none (Some (Edit a b c d)) (Edit a b c d) refl never)
  ]
]

trial_reason : (a : List ℕ) → command_of (codes "trial" ∷ a ∷ []) ≡ None → AskForNothing (codes "trial" ∷ a ∷ [])
trial_reason a none = elim (none_by (is_odd a) (to_try a) none) [
  | inl odd ↦ odd_reason (codes "trial" ∷ a ∷ []) a odd (inr (inl refl))
  | inr none ↦ trial_lacks (no_trial a (λ is. some_not_none (to_try a) (Trial (digits_value 10 a)) (tries a true (of_number a is)) none))
]

-- so many words behind a command
single : (more : List (List ℕ)) → length more ≡ 1 → (a : List ℕ) × (more ≡ a ∷ [])
single [] same = absurd (omega (arith, same))
single (a ∷ []) same = (a, refl)
single (a ∷ b ∷ more) same = absurd (omega (arith, same))

pair : (more : List (List ℕ)) → length more ≡ 2 → (a : List ℕ) × (b : List ℕ) × (more ≡ a ∷ b ∷ [])
pair [] same = absurd (omega (arith, same))
pair (a ∷ []) same = absurd (omega (arith, same))
pair (a ∷ b ∷ []) same = (a, b, refl)
pair (a ∷ b ∷ c ∷ more) same = absurd (omega (arith, same))

triple : (more : List (List ℕ)) → length more ≡ 3 → (a : List ℕ) × (b : List ℕ) × (c : List ℕ) × (more ≡ a ∷ b ∷ c ∷ [])
triple [] same = absurd (omega (arith, same))
triple (a ∷ []) same = absurd (omega (arith, same))
triple (a ∷ b ∷ []) same = absurd (omega (arith, same))
triple (a ∷ b ∷ c ∷ []) same = (a, b, c, refl)
triple (a ∷ b ∷ c ∷ d ∷ more) same = absurd (omega (arith, same))

quadruple : (more : List (List ℕ)) → length more ≡ 4
    → (a : List ℕ) × (b : List ℕ) × (c : List ℕ) × (d : List ℕ) × (more ≡ a ∷ b ∷ c ∷ d ∷ [])
quadruple [] same = absurd (omega (arith, same))
quadruple (a ∷ []) same = absurd (omega (arith, same))
quadruple (a ∷ b ∷ []) same = absurd (omega (arith, same))
quadruple (a ∷ b ∷ c ∷ []) same = absurd (omega (arith, same))
quadruple (a ∷ b ∷ c ∷ d ∷ []) same = (a, b, c, d, refl)
quadruple (a ∷ b ∷ c ∷ d ∷ e ∷ more) same = absurd (omega (arith, same))

-- what holds of all words of a command's number holds of the command
module _ (P : List (List ℕ) → Type 0) where
  by_single : (name : List ℕ) (more : List (List ℕ)) → length more ≡ 1 → ((a : List ℕ) → P (name ∷ a ∷ [])) → P (name ∷ more)
  by_single name more same all = let one = single more same in subst (λ m. P (name ∷ m)) (sym one.1) (all one.0)

  by_pair : (name : List ℕ) (more : List (List ℕ)) → length more ≡ 2 → ((a b : List ℕ) → P (name ∷ a ∷ b ∷ [])) → P (name ∷ more)
  by_pair name more same all = let two = pair more same in subst (λ m. P (name ∷ m)) (sym two.2) (all two.0 two.1)

  by_triple : (name : List ℕ) (more : List (List ℕ)) → length more ≡ 3 → ((a b c : List ℕ) → P (name ∷ a ∷ b ∷ c ∷ [])) → P (name ∷ more)
  by_triple name more same all = let three = triple more same in subst (λ m. P (name ∷ m)) (sym three.3) (all three.0 three.1 three.2)

  by_quadruple : (name : List ℕ) (more : List (List ℕ)) → length more ≡ 4 → ((a b c d : List ℕ) → P (name ∷ a ∷ b ∷ c ∷ d ∷ [])) → P (name ∷ more)
  by_quadruple name more same all =
      let four = quadruple more same in subst (λ m. P (name ∷ m)) (sym four.4) (all four.0 four.1 four.2 four.3)

  record EachCommand : Type 0 where
    audit : (a b c d : List ℕ) → P (codes "audit" ∷ a ∷ b ∷ c ∷ d ∷ [])
    certify : (a b : List ℕ) → P (codes "certify" ∷ a ∷ b ∷ [])
    check : (a b : List ℕ) → P (codes "check" ∷ a ∷ b ∷ [])
    edit : (a b c d : List ℕ) → P (codes "edit" ∷ a ∷ b ∷ c ∷ d ∷ [])
    lost : (a b : List ℕ) → P (codes "lost" ∷ a ∷ b ∷ [])
    plan : (a : List ℕ) → P (codes "plan" ∷ a ∷ [])
    repair : (a b c : List ℕ) → P (codes "repair" ∷ a ∷ b ∷ c ∷ [])
    text : (a : List ℕ) → P (codes "text" ∷ a ∷ [])
    trial : (a : List ℕ) → P (codes "trial" ∷ a ∷ [])
    undo : (a b c d : List ℕ) → P (codes "undo" ∷ a ∷ b ∷ c ∷ d ∷ [])
    verify : (a b : List ℕ) → P (codes "verify" ∷ a ∷ b ∷ [])
    why : (a b c : List ℕ) → P (codes "why" ∷ a ∷ b ∷ c ∷ [])

  same_count : (name : List ℕ) (more : List (List ℕ)) (n : ℕ) → Takes name n → length more ≡ n → EachCommand → P (name ∷ more)
  same_count _ more _ audit same each = by_quadruple (codes "audit") more same each.audit
  same_count _ more _ certify same each = by_pair (codes "certify") more same each.certify
  same_count _ more _ check same each = by_pair (codes "check") more same each.check
  same_count _ more _ edit same each = by_quadruple (codes "edit") more same each.edit
  same_count _ more _ lost same each = by_pair (codes "lost") more same each.lost
  same_count _ more _ plan same each = by_single (codes "plan") more same each.plan
  same_count _ more _ repair same each = by_triple (codes "repair") more same each.repair
  same_count _ more _ text same each = by_single (codes "text") more same each.text
  same_count _ more _ trial same each = by_single (codes "trial") more same each.trial
  same_count _ more _ undo same each = by_quadruple (codes "undo") more same each.undo
  same_count _ more _ verify same each = by_pair (codes "verify") more same each.verify
  same_count _ more _ why same each = by_triple (codes "why") more same each.why

  -- words are none, or begin otherwise than with a command, or are not so many as it takes, or are those of a command
  by_words : P [] → ((name : List ℕ) (more : List (List ℕ)) → IsUnknown name → P (name ∷ more))
      → ((name : List ℕ) (more : List (List ℕ)) (n : ℕ) → Takes name n → length more ≢ n → P (name ∷ more))
      → EachCommand → (words : List (List ℕ)) → P words
  by_words none unknown other each [] = none
  by_words none unknown other each (name ∷ more) = elim (known name) [
    | inr is ↦ unknown name more is
    | inl takes ↦ elim (cases_Bool (nat_eq (length more) takes.0)) [
      | inl same ↦ same_count name more takes.0 takes.1 (eqb-true (length more) takes.0 same) each
      | inr unlike ↦ other name more takes.0 takes.1 (eqb-false (length more) takes.0 unlike)
    ]
  ]

pub reason : (words : List (List ℕ)) → command_of words ≡ None → AskForNothing words
reason = by_words (λ words. command_of words ≡ None → AskForNothing words)
    (λ none. word_lacks (inl refl))
    (λ name more unknown none. otherwise (no_command name more unknown))
    (λ name more n takes other none. count (other_count name more n takes other))
    (record {
      audit = λ a b c d none. four_reason (codes "audit") a b c d (Audit a b c d) none;
      certify = certify_reason;
      check = λ a b none. two_reason (codes "check") a b (Check a b) none;
      edit = edit_reason;
      lost = λ a b none. two_reason (codes "lost") a b (Lost a b) none;
      plan = λ a none. one_reason (codes "plan") a (Plan a) none;
      repair = repair_reason;
      text = λ a none. one_reason (codes "text") a (Text a) none;
      trial = trial_reason;
      undo = undo_reason;
      verify = λ a b none. two_reason (codes "verify") a b (Verify a b) none;
      why = λ a b c none. three_reason (codes "why") a b c (Why a b c) none;
    })

-- ---- what comes is what the words say

never_asked : (words : List (List ℕ)) → command_of words ≡ None → (asked : Asked) → command_of words ≡ Some asked → Says words asked
never_asked words none asked some = absurd (some_not_none (command_of words) asked some none)

one_asked : (name a : List ℕ) (this asked : Asked) → Says (name ∷ a ∷ []) this → (if is_odd a then None else Some this) ≡ Some asked
    → Says (name ∷ a ∷ []) asked
one_asked name a this asked says some =
    subst (Says (name ∷ a ∷ [])) (same_Some this asked (some_by (is_odd a) (Some this) asked some)) says

two_asked : (name a b : List ℕ) (this asked : Asked) → Says (name ∷ a ∷ b ∷ []) this → (if is_odd a || is_odd b then None else Some this) ≡ Some asked
    → Says (name ∷ a ∷ b ∷ []) asked
two_asked name a b this asked says some =
    subst (Says (name ∷ a ∷ b ∷ [])) (same_Some this asked (some_by (is_odd a || is_odd b) (Some this) asked some)) says

three_asked : (name a b c : List ℕ) (this asked : Asked) → Says (name ∷ a ∷ b ∷ c ∷ []) this
    → (if is_odd a || is_odd b || is_odd c then None else Some this) ≡ Some asked → Says (name ∷ a ∷ b ∷ c ∷ []) asked
three_asked name a b c this asked says some =
    subst (Says (name ∷ a ∷ b ∷ c ∷ [])) (same_Some this asked (some_by (is_odd a || is_odd b || is_odd c) (Some this) asked some)) says

four_asked : (name a b c d : List ℕ) (this asked : Asked) → Says (name ∷ a ∷ b ∷ c ∷ d ∷ []) this
    → (if is_odd a || is_odd b || is_odd c || is_odd d then None else Some this) ≡ Some asked → Says (name ∷ a ∷ b ∷ c ∷ d ∷ []) asked
four_asked name a b c d this asked says some =
    subst (Says (name ∷ a ∷ b ∷ c ∷ d ∷ [])) (same_Some this asked (some_by (is_odd a || is_odd b || is_odd c || is_odd d) (Some this) asked some)) says

certify_asked : (a b : List ℕ) (asked : Asked) → command_of (codes "certify" ∷ a ∷ b ∷ []) ≡ Some asked → Says (codes "certify" ∷ a ∷ b ∷ []) asked
certify_asked a b asked some =
    let tested : to_certify a b ≡ Some asked = some_by (is_odd a || is_odd b) (to_certify a b) asked some in
    subst (Says (codes "certify" ∷ a ∷ b ∷ [])) (same_Some (Certify a b) asked (some_by (bytes_eq b a) (Some (Certify a b)) asked tested)) (says_certify a b)

repair_asked : (a b c : List ℕ) (asked : Asked) → command_of (codes "repair" ∷ a ∷ b ∷ c ∷ []) ≡ Some asked
    → Says (codes "repair" ∷ a ∷ b ∷ c ∷ []) asked
repair_asked a b c asked some =
    let tested : to_repair a b c ≡ Some asked = some_by (is_odd a || is_odd b || is_odd c) (to_repair a b c) asked some in
    subst (Says (codes "repair" ∷ a ∷ b ∷ c ∷ [])) (same_Some (Repair a b c) asked (some_by (bytes_eq c a) (Some (Repair a b c)) asked tested))
    (says_repair a b c)

undo_asked : (a b c d : List ℕ) (asked : Asked) → command_of (codes "undo" ∷ a ∷ b ∷ c ∷ d ∷ []) ≡ Some asked
    → Says (codes "undo" ∷ a ∷ b ∷ c ∷ d ∷ []) asked
undo_asked a b c d asked some =
    let tested : to_undo a b c d ≡ Some asked = some_by (is_odd a || is_odd b || is_odd c || is_odd d) (to_undo a b c d) asked some in
    subst (Says (codes "undo" ∷ a ∷ b ∷ c ∷ d ∷ [])) (same_Some (Undo a b c d) asked (some_by (bytes_eq d a) (Some (Undo a b c d)) asked tested))
    (says_undo a b c d)

edit_asked : (a b c d : List ℕ) (asked : Asked) → command_of (codes "edit" ∷ a ∷ b ∷ c ∷ d ∷ []) ≡ Some asked
    → Says (codes "edit" ∷ a ∷ b ∷ c ∷ d ∷ []) asked
edit_asked a b c d asked some =
    let tested : to_edit a b c d ≡ Some asked = some_by (is_odd a || is_odd b || is_odd c || is_odd d) (to_edit a b c d) asked some in
    subst (Says (codes "edit" ∷ a ∷ b ∷ c ∷ d ∷ [])) (same_Some (Edit a b c d) asked (some_by (bytes_eq d a) (Some (Edit a b c d)) asked tested))
    (says_edit a b c d)

trial_asked : (a : List ℕ) (asked : Asked) → command_of (codes "trial" ∷ a ∷ []) ≡ Some asked → Says (codes "trial" ∷ a ∷ []) asked
trial_asked a asked some = by (cases_Bool (is_number a))
  where
    tried : to_try a ≡ Some asked
    tried = some_by (is_odd a) (to_try a) asked some

    by : (is_number a ≡ true) ⊎ (is_number a ≡ false) → Says (codes "trial" ∷ a ∷ []) asked
    by (inl is) =
        subst (Says (codes "trial" ∷ a ∷ [])) (same_Some (Trial (digits_value 10 a)) asked (sym (tries a true is) ∙ tried)) (says_trial a)
    by (inr not) = absurd (some_not_none (to_try a) asked tried (tries a false not))

pub asks : (words : List (List ℕ)) (asked : Asked) → command_of words ≡ Some asked → Says words asked
asks = by_words (λ words. (asked : Asked) → command_of words ≡ Some asked → Says words asked)
    (never_asked [] refl)
    (λ name more unknown. never_asked (name ∷ more) (unknown_none name more unknown))
    (λ name more n takes other. never_asked (name ∷ more) (count_none name more n takes other))
    (record {
      audit = λ a b c d asked. four_asked (codes "audit") a b c d (Audit a b c d) asked (says_audit a b c d);
      certify = certify_asked;
      check = λ a b asked. two_asked (codes "check") a b (Check a b) asked (says_check a b);
      edit = edit_asked;
      lost = λ a b asked. two_asked (codes "lost") a b (Lost a b) asked (says_lost a b);
      plan = λ a asked. one_asked (codes "plan") a (Plan a) asked (says_plan a);
      repair = repair_asked;
      text = λ a asked. one_asked (codes "text") a (Text a) asked (says_text a);
      trial = trial_asked;
      undo = undo_asked;
      verify = λ a b asked. two_asked (codes "verify") a b (Verify a b) asked (says_verify a b);
      why = λ a b c asked. three_asked (codes "why") a b c (Why a b c) asked (says_why a b c);
    })

-- ---- and what the words say comes, where there is no reason against it

-- what stands behind a test that doesn't hold
behind : (b : Bool) (o : Option Asked) (a : Asked) → (b ≡ true → ⊥) → ((b ≡ true → ⊥) → o ≡ Some a) → (if b then None else o) ≡ Some a
behind true o a fails comes = absurd (fails refl)
behind false o a fails comes = comes fails

one_said : (name a : List ℕ) (o : Option Asked) (asked : Asked) → (AskForNothing (name ∷ a ∷ []) → ⊥) → o ≡ Some asked
    → (if is_odd a then None else o) ≡ Some asked
one_said name a o asked reasonless comes =
    behind (is_odd a) o asked (λ odd. reasonless (odd_reason (name ∷ a ∷ []) a odd (inr (inl refl)))) (λ fails. comes)

two_said : (name a b : List ℕ) (o : Option Asked) (asked : Asked) → (AskForNothing (name ∷ a ∷ b ∷ []) → ⊥) → o ≡ Some asked
    → (if is_odd a || is_odd b then None else o) ≡ Some asked
two_said name a b o asked reasonless comes =
    behind (is_odd a || is_odd b) o asked (λ odd. reasonless (odd_of_two name a b odd)) (λ fails. comes)

three_said : (name a b c : List ℕ) (o : Option Asked) (asked : Asked) → (AskForNothing (name ∷ a ∷ b ∷ c ∷ []) → ⊥) → o ≡ Some asked
    → (if is_odd a || is_odd b || is_odd c then None else o) ≡ Some asked
three_said name a b c o asked reasonless comes =
    behind (is_odd a || is_odd b || is_odd c) o asked (λ odd. reasonless (odd_of_three name a b c odd)) (λ fails. comes)

four_said : (name a b c d : List ℕ) (o : Option Asked) (asked : Asked) → (AskForNothing (name ∷ a ∷ b ∷ c ∷ d ∷ []) → ⊥) → o ≡ Some asked
    → (if is_odd a || is_odd b || is_odd c || is_odd d then None else o) ≡ Some asked
four_said name a b c d o asked reasonless comes =
    behind (is_odd a || is_odd b || is_odd c || is_odd d) o asked (λ odd. reasonless (odd_of_four name a b c d odd)) (λ fails. comes)

-- another name than that of the specification
apart : (b a : List ℕ) (asked : Asked) → (b ≡ a → ⊥) → (if bytes_eq b a then None else Some asked) ≡ Some asked
apart b a asked other = behind (bytes_eq b a) (Some asked) asked (λ same. other ((bytes_eq-Decides b a).0 same)) (λ fails. refl)

pub said : (words : List (List ℕ)) (asked : Asked) → Says words asked → (AskForNothing words → ⊥) → command_of words ≡ Some asked
said _ _ (says_certify a b) reasonless =
    two_said (codes "certify") a b (to_certify a b) (Certify a b) reasonless
    (apart b a (Certify a b) (λ same. reasonless (over_spec (subst (λ w. SavesOverSpec (codes "certify" ∷ a ∷ w ∷ [])) (sym same) (certificate a)))))
said _ _ (says_audit a b c d) reasonless =
    four_said (codes "audit") a b c d (Some (Audit a b c d)) (Audit a b c d) reasonless refl
said _ _ (says_edit a b c d) reasonless =
    four_said (codes "edit") a b c d (to_edit a b c d) (Edit a b c d) reasonless
    (apart d a (Edit a b c d) (λ same. reasonless (over_spec (subst (λ w. SavesOverSpec (codes "edit" ∷ a ∷ b ∷ c ∷ w ∷ [])) (sym same) (edited a b c)))))
said _ _ (says_lost a b) reasonless = two_said (codes "lost") a b (Some (Lost a b)) (Lost a b) reasonless refl
said _ _ (says_undo a b c d) reasonless =
    four_said (codes "undo") a b c d (to_undo a b c d) (Undo a b c d) reasonless
    (apart d a (Undo a b c d) (λ same. reasonless (over_spec (subst (λ w. SavesOverSpec (codes "undo" ∷ a ∷ b ∷ c ∷ w ∷ [])) (sym same) (undone a b c)))))
said _ _ (says_why a b c) reasonless = three_said (codes "why") a b c (Some (Why a b c)) (Why a b c) reasonless refl
said _ _ (says_check a b) reasonless = two_said (codes "check") a b (Some (Check a b)) (Check a b) reasonless refl
said _ _ (says_plan a) reasonless = one_said (codes "plan") a (Some (Plan a)) (Plan a) reasonless refl
said _ _ (says_repair a b c) reasonless =
    three_said (codes "repair") a b c (to_repair a b c) (Repair a b c) reasonless
    (apart c a (Repair a b c) (λ same. reasonless (over_spec (subst (λ w. SavesOverSpec (codes "repair" ∷ a ∷ b ∷ w ∷ [])) (sym same) (repaired a b)))))
said _ _ (says_text a) reasonless = one_said (codes "text") a (Some (Text a)) (Text a) reasonless refl
said _ _ (says_trial a) reasonless = one_said (codes "trial") a (to_try a) (Trial (digits_value 10 a)) reasonless (by (cases_Bool (is_number a)))
  where
    by : (is_number a ≡ true) ⊎ (is_number a ≡ false) → to_try a ≡ Some (Trial (digits_value 10 a))
    by (inl is) = tries a true is
    by (inr not) = absurd (reasonless (trial_lacks (no_trial a (λ is. let e : true ≡ false = sym (of_number a is) ∙ not in absurd cc))))
said _ _ (says_verify a b) reasonless = two_said (codes "verify") a b (Some (Verify a b)) (Verify a b) reasonless refl

-- words that ask for something have no reason to ask for nothing
pub reasonless : (words : List (List ℕ)) (asked : Asked) → command_of words ≡ Some asked → AskForNothing words → ⊥
reasonless words asked some nothing = some_not_none (command_of words) asked some (none_comes words nothing)
