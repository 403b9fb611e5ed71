-- A text has at most one first wrong line, and none where it is a script.
use Rattle.std.proofs.Common.{◌≡◌, ◌≢◌, ◌<◌, ◌+◌, ◌++◌, ◌∙◌, ◌⊎◌, ℕ, zero, suc, Bool, true, false, All, List, [], ◌∷◌, Some, map, take, slice_get, get_or, inl, inr, refl, sym, ap, subst, arith}
use Rattle.std.specs.Prelude.{nat_eq, nat_lt}
use Rattle.std.proofs.lemmas.Bool.Decides.{nat_tests}
use Rattle.std.proofs.lemmas.List.{take_all}
use Rattle.std.proofs.lemmas.List.Elements.{All-head, All-tail}
use Rattle.bstr.specs.Text.{lines_of}
use Rattle.dsr_edit_text.proofs.Rows.{lines_of_groups}
use Rattle.dsr_edit_text.specs.Scripts.{BeginsWith, IsFirstWrong, IsNoLine, IsScript, IsSetText, SetText, commit_text, group_texts, script_texts, set_text}

-- ---- lines of the form

-- the line sets a value, or ends a group
abbrev IsLine : Bool → List ℕ → Type 0
IsLine second text = ((set : SetText) × IsSetText second set × (text ≡ set_text set)) ⊎ (text ≡ commit_text)

abbrev AreLines : Bool → List (List ℕ) → Type 0
AreLines second [] = Unit {0}
AreLines second (text ∷ texts) = IsLine second text × AreLines second texts

joined : (second : Bool) (xs ys : List (List ℕ)) → AreLines second xs → AreLines second ys → AreLines second (xs ++ ys)
joined second [] ys one two = two
joined second (x ∷ xs) ys one two = (one.0, joined second xs ys one.1 two)

sets_are : (second : Bool) (group : List SetText) → All (IsSetText second) group → AreLines second (map set_text group)
sets_are second [] formed = tt
sets_are second (set ∷ group) formed =
    (inl (set, All-head (IsSetText second) set group formed, refl), sets_are second group (All-tail (IsSetText second) set group formed))

groups_are : (second : Bool) (groups : List (List SetText)) → All (All (IsSetText second)) groups → AreLines second (script_texts groups)
groups_are second [] formed = tt
groups_are second (group ∷ groups) formed =
    joined second (group_texts group) (script_texts groups)
    (joined second (map set_text group) (commit_text ∷ []) (sets_are second group (All-head (All (IsSetText second)) group groups formed)) (inr refl, tt))
    (groups_are second groups (All-tail (All (IsSetText second)) group groups formed))

line_at : (second : Bool) (texts : List (List ℕ)) (k : ℕ) (text : List ℕ) → AreLines second texts → slice_get texts k ≡ Some text → IsLine second text
line_at second [] k text all is = absurd cc
line_at second (x ∷ texts) zero text all is = let same : x ≡ text = cc in subst (IsLine second) same all.0
line_at second (x ∷ texts) (suc k) text all is = line_at second texts k text all.1 is

no_line : (second : Bool) (texts : List (List ℕ)) (k : ℕ) (line : IsNoLine second texts k) → IsLine second line.text → ⊥
no_line second texts k line is = elim is [
  | inl sets ↦ line.no_set sets.0 sets.1 sets.2
  | inr ends ↦ line.no_commit ends
]

taken_at : {A : Type 0} (xs : List A) (n k : ℕ) → k < n → slice_get (take n xs) k ≡ slice_get xs k
taken_at xs zero k less = absurd (omega (arith, less))
taken_at [] (suc n) k less = refl
taken_at (x ∷ xs) (suc n) zero less = refl
taken_at (x ∷ xs) (suc n) (suc k) less = taken_at xs n k (omega (arith, less))

-- ---- one first wrong line

module _ (second : Bool) (texts : List (List ℕ)) (groups : List (List SetText)) (group : List SetText) (begins : BeginsWith second texts groups group) where
  none_before : (k : ℕ) → k < lines_of_groups groups group → IsNoLine second texts k → ⊥
  none_before k less line =
      let there : slice_get (script_texts groups ++ map set_text group) k ≡ Some line.text =
      ap (λ ts. slice_get ts k) (sym begins.texts_are) ∙ (taken_at texts (lines_of_groups groups group) k less ∙ line.text_is) in
      no_line second texts k line
      (line_at second (script_texts groups ++ map set_text group) k line.text
      (joined second (script_texts groups) (map set_text group) (groups_are second groups begins.formed) (sets_are second group begins.group_formed)) there)

neither_less : (m n : ℕ) → (m < n → ⊥) → (n < m → ⊥) → m ≡ n
neither_less m n less more =
    elim (nat_eq m n) as (λ b. nat_eq m n ≡ b → m ≡ n) [
      | true ↦ λ e. grind (arith, nat_tests)
      | false ↦ λ e. elim (nat_lt m n) as (λ b. nat_lt m n ≡ b → m ≡ n) [
        | true ↦ λ t. absurd (less (grind (arith, nat_tests)))
        | false ↦ λ t. absurd (more (grind (arith, nat_tests)))
      ] refl
    ] refl

module _ (second : Bool) (text : List ℕ) where
  not_before : (m n : ℕ) (one : IsFirstWrong second text m) (two : IsFirstWrong second text n) → lines_of_groups one.groups one.group < lines_of_groups two.groups two.group → ⊥
  not_before m n one two less = elim one.wrong [
    | inl line ↦ none_before second (lines_of text) two.groups two.group two.begins (lines_of_groups one.groups one.group) less line
    | inr ended ↦ absurd (let whole = ended.0 in let within = two.begins.within in omega (arith, less, whole, within))
  ]

  pub one_wrong : (m n : ℕ) → IsFirstWrong second text m → IsFirstWrong second text n → m ≡ n
  one_wrong m n one two =
      one.number_is ∙ (ap (λ k. k + 1) (neither_less (lines_of_groups one.groups one.group) (lines_of_groups two.groups two.group) (not_before m n one two) (not_before n m two one)) ∙ sym two.number_is)

-- ---- a group without its end

pub set_is_no_commit : (set : SetText) → set_text set ≡ commit_text → ⊥
set_is_no_commit set is = absurd (let first : 115 ≡ 99 = ap (λ t. get_or t 0 0) is in omega (arith, first))

-- the last line, if any, ends a group
abbrev Ends : List (List ℕ) → Type 0
Ends [] = Unit {0}
Ends (x ∷ []) = x ≡ commit_text
Ends (x ∷ y ∷ ys) = Ends (y ∷ ys)

ends_joined : (xs ys : List (List ℕ)) → Ends xs → Ends ys → Ends (xs ++ ys)
ends_joined [] ys one two = two
ends_joined (x ∷ []) [] one two = one
ends_joined (x ∷ []) (y ∷ ys) one two = two
ends_joined (x ∷ z ∷ xs) ys one two = ends_joined (z ∷ xs) ys one two

ends_commit : (xs : List (List ℕ)) → Ends (xs ++ commit_text ∷ [])
ends_commit [] = refl
ends_commit (x ∷ []) = refl
ends_commit (x ∷ y ∷ xs) = ends_commit (y ∷ xs)

ends_back : (xs : List (List ℕ)) (y : List ℕ) (ys : List (List ℕ)) → Ends (xs ++ y ∷ ys) → Ends (y ∷ ys)
ends_back [] y ys ends = ends
ends_back (x ∷ []) y ys ends = ends
ends_back (x ∷ z ∷ xs) y ys ends = ends_back (z ∷ xs) y ys ends

ends_script : (groups : List (List SetText)) → Ends (script_texts groups)
ends_script [] = tt
ends_script (group ∷ groups) = ends_joined (group_texts group) (script_texts groups) (ends_commit (map set_text group)) (ends_script groups)

sets_end_nothing : (set : SetText) (group : List SetText) → Ends (map set_text (set ∷ group)) → ⊥
sets_end_nothing set [] ends = set_is_no_commit set ends
sets_end_nothing set (next ∷ group) ends = sets_end_nothing next group ends

ends_empty : (xs : List (List ℕ)) (group : List SetText) → Ends (xs ++ map set_text group) → group ≢ [] → ⊥
ends_empty xs [] ends some = some refl
ends_empty xs (set ∷ group) ends some = sets_end_nothing set group (ends_back xs (set_text set) (map set_text group) ends)

-- ---- a script has no wrong line

pub no_script : (second : Bool) (text : List ℕ) (n : ℕ) (groups : List (List SetText)) → IsFirstWrong second text n → IsScript second text groups → ⊥
no_script second text n groups wrong script = elim wrong.wrong [
  | inl line ↦
      no_line second (lines_of text) (lines_of_groups wrong.groups wrong.group) line
      (line_at second (script_texts groups) (lines_of_groups wrong.groups wrong.group) line.text (groups_are second groups script.formed)
      (ap (λ ts. slice_get ts (lines_of_groups wrong.groups wrong.group)) (sym script.texts_are) ∙ line.text_is))
  | inr ended ↦
      let whole : script_texts groups ≡ script_texts wrong.groups ++ map set_text wrong.group =
      sym script.texts_are
      ∙ (sym (take_all (lines_of_groups wrong.groups wrong.group) (lines_of text) (let long = ended.0 in omega (arith, long))) ∙ wrong.begins.texts_are) in
      ends_empty (script_texts wrong.groups) wrong.group (subst Ends whole (ends_script groups)) ended.1
]
