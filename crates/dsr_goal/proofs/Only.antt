-- The only rule that gives facts of a symbol, where one more is looked at.
use Rattle.std.proofs.Common.{◌≡◌, ◌<◌, ◌≤◌, ◌+◌, ℕ, true, false, List, [], ◌∷◌, ◌++◌, drop, length, get_or, Option, None, Some, is_some, option_map, if◌then◌else◌, refl, sym, ap, subst, ◌∙◌, add-one}
use Rattle.std.proofs.lemmas.List.{drop_more, drop_all}
use Rattle.dsr_ir.specs.Rules.{gives}
use Rattle.dsr_ir.specs.declared.rules.Rule.{Rule}
use Rattle.dsr_ir.specs.declared.updates.Symbol.{Symbol}
use Rattle.dsr_meaning.specs.Lists.{each_at}
use Rattle.dsr_goal.specs.Raws.{only}

-- the only item of a list, where perhaps one was found before it
abbrev pub only_of : {T : Type 0} → Option T → List T → Option T
only_of None xs = only xs
only_of (Some x) [] = Some x
only_of (Some x) _ = None

-- what is made of something that is there is there
pub some_mapped : {T U : Type 0} (f : T → U) (o : Option T) → is_some o ≡ true → is_some (option_map f o) ≡ true
some_mapped f None e = absurd cc
some_mapped f (Some x) e = refl

pub none_mapped : {T U : Type 0} (f : T → U) (o : Option T) → is_some o ≡ false → option_map f o ≡ None
none_mapped f None e = refl
none_mapped f (Some x) e = absurd cc

only_is : {T : Type 0} (x : T) (rest : List T) → only_of (Some x) rest ≡ only (x ∷ rest)
only_is x [] = refl
only_is x (y ∷ rest) = refl

more_than_one : {T : Type 0} (s : Option T) (x : T) (rest : List T) → is_some s ≡ true → None ≡ only_of s (x ∷ rest)
more_than_one None x rest e = absurd cc
more_than_one (Some y) x rest e = refl

none_left : {T : Type 0} (s : Option T) → s ≡ only_of s []
none_left None = refl
none_left (Some x) = refl

-- the givers among the rules from one on
abbrev pub givers_from : Symbol → ℕ → List Rule → List (ℕ × Rule)
givers_from symbol = each_at (λ k rule. if gives symbol rule.inc then (k, rule) ∷ [] else [])

module _ (symbol : Symbol) (xs items : List Rule) (same : items ≡ xs) (i : ℕ) where
  left_is : (x : Rule) → i < length items → x ≡ get_or items i x → givers_from symbol i (drop i xs) ≡ (if gives symbol x.inc then (i, x) ∷ [] else []) ++ givers_from symbol (i + 1) (drop (i + 1) xs)
  left_is x lt is =
      ap (givers_from symbol i) (drop_more xs i x (subst (λ ys. i < length ys) same lt) ∙ ap (λ y. y ∷ drop (i + 1) xs) (sym (is ∙ ap (λ ys. get_or ys i x) same)))
      ∙ ap (λ n. (if gives symbol x.inc then (i, x) ∷ [] else []) ++ givers_from symbol n (drop (i + 1) xs)) (sym (add-one i))

  module _ (x : Rule) (lt : i < length items) (is : x ≡ get_or items i x) (s : Option (ℕ × Rule)) (whole : Option (ℕ × Rule)) (left : only_of s (givers_from symbol i (drop i xs)) ≡ whole) where
    -- a rule of another symbol
    pub only_stays : gives symbol x.inc ≡ false → {t : Option (ℕ × Rule)} → t ≡ s → only_of t (givers_from symbol (i + 1) (drop (i + 1) xs)) ≡ whole
    only_stays off e =
        ap (λ u. only_of u (givers_from symbol (i + 1) (drop (i + 1) xs))) e
        ∙ sym (ap (only_of s) (left_is x lt is ∙ ap (λ b. (if b then (i, x) ∷ [] else []) ++ givers_from symbol (i + 1) (drop (i + 1) xs)) off))
        ∙ left

    -- the first one of the symbol
    pub only_found : gives symbol x.inc ≡ true → s ≡ None → {t : Option (ℕ × Rule)} → t ≡ Some (i, x) → only_of t (givers_from symbol (i + 1) (drop (i + 1) xs)) ≡ whole
    only_found on none e =
        ap (λ u. only_of u (givers_from symbol (i + 1) (drop (i + 1) xs))) e
        ∙ only_is (i, x) (givers_from symbol (i + 1) (drop (i + 1) xs))
        ∙ sym (ap (only_of s) (left_is x lt is ∙ ap (λ b. (if b then (i, x) ∷ [] else []) ++ givers_from symbol (i + 1) (drop (i + 1) xs)) on) ∙ ap (λ u. only_of u ((i, x) ∷ givers_from symbol (i + 1) (drop (i + 1) xs))) none)
        ∙ left

    -- the second one
    pub only_second : gives symbol x.inc ≡ true → is_some s ≡ true → None ≡ whole
    only_second on some =
        more_than_one s (i, x) (givers_from symbol (i + 1) (drop (i + 1) xs)) some
        ∙ sym (ap (only_of s) (left_is x lt is ∙ ap (λ b. (if b then (i, x) ∷ [] else []) ++ givers_from symbol (i + 1) (drop (i + 1) xs)) on))
        ∙ left

  -- no rule is left
  pub only_ends : length items ≤ i → (s whole : Option (ℕ × Rule)) → only_of s (givers_from symbol i (drop i xs)) ≡ whole → s ≡ whole
  only_ends past s whole left =
      none_left s
      ∙ ap (λ ys. only_of s (givers_from symbol i ys)) (sym (drop_all i xs (subst (λ ys. length ys ≤ i) same past)))
      ∙ left
