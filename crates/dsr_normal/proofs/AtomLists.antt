-- The different atoms of a list are all its atoms, each once.
use Rattle.std.proofs.Common.{◌≡◌, ◌<◌, ◌≤◌, ◌+◌, ℕ, Bool, true, false, List, [], ◌∷◌, ◌++◌, drop, length, length-append, get_or, ◌⊎◌, inl, inr, refl, ap, sym, subst, ◌∙◌, arith}
use Rattle.std.specs.Prelude.{if◌then◌else◌}
use Rattle.std.proofs.lemmas.Bool.{lt-ltb}
use Rattle.std.proofs.lemmas.Bool.Decides.{nat_tests}
use Rattle.std.proofs.lemmas.List.{at_drop_all, drop_more, length_push}
use Rattle.dsr_ir.specs.declared.constraints.Atom.{Atom}
use Rattle.dsr_meaning.proofs.Lists.{in_front_or_last, last_in}
use Rattle.dsr_meaning.specs.Counting.{IsIn, IsDistinct, Enumerates}
use Rattle.dsr_language_theory.specs.NormalForms.{has_atom, different, has_many_atoms}
use Rattle.dsr_meaning.proofs.Items.{in_left}
use Rattle.dsr_language_theory.proofs.SameAtoms.{has_is, in_has}

more_distinct : (seen : List Atom) (a : Atom) → IsDistinct seen → (IsIn a seen → ⊥) → IsDistinct (seen ++ (a ∷ []))
more_distinct [] a d h = (λ i. i, tt)
more_distinct (x ∷ seen) a d h = (
  λ i. elim (in_front_or_last a x seen i) as (λ _. ⊥) [ inl j ↦ d.0 j | inr e ↦ h (inl (sym e)) ],
  more_distinct seen a d.1 (λ i. h (inr i)),
)

not_in : (seen : List Atom) (a : Atom) → has_atom seen a ≡ false → IsIn a seen → ⊥
not_in seen a e h = let k = in_has seen a h in cc

different_distinct : (seen atoms : List Atom) → IsDistinct seen → IsDistinct (different seen atoms)
different_distinct seen [] d = d
different_distinct seen (a ∷ rest) d = elim (has_atom seen a) as (λ t. has_atom seen a ≡ t → IsDistinct (different (if t then seen else seen ++ (a ∷ [])) rest)) [
  | true ↦ λ e. different_distinct seen rest d
  | false ↦ λ e. different_distinct (seen ++ (a ∷ [])) rest (more_distinct seen a d (not_in seen a e))
] refl

seen_kept : (seen atoms : List Atom) (x : Atom) → IsIn x seen → IsIn x (different seen atoms)
seen_kept seen [] x h = h
seen_kept seen (a ∷ rest) x h = elim (has_atom seen a) as (λ t. IsIn x (different (if t then seen else seen ++ (a ∷ [])) rest)) [
  | true ↦ seen_kept seen rest x h
  | false ↦ seen_kept (seen ++ (a ∷ [])) rest x (in_left x seen (a ∷ []) h)
]

all_kept : (seen atoms : List Atom) (x : Atom) → IsIn x atoms → IsIn x (different seen atoms)
all_kept seen [] x h = absurd h
all_kept seen (a ∷ rest) x (inl e) = elim (has_atom seen a) as (λ t. has_atom seen a ≡ t → IsIn x (different (if t then seen else seen ++ (a ∷ [])) rest)) [
  | true ↦ λ p. seen_kept seen rest x (subst (λ (y : Atom). IsIn y seen) (sym e) (has_is seen a p))
  | false ↦ λ p. seen_kept (seen ++ (a ∷ [])) rest x (subst (λ y. IsIn y (seen ++ (a ∷ []))) (sym e) (last_in a seen))
] refl
all_kept seen (a ∷ rest) x (inr h) = elim (has_atom seen a) as (λ t. IsIn x (different (if t then seen else seen ++ (a ∷ [])) rest)) [
  | true ↦ all_kept seen rest x h
  | false ↦ all_kept (seen ++ (a ∷ [])) rest x h
]

only_those : (seen atoms : List Atom) (x : Atom) → IsIn x (different seen atoms) → IsIn x seen ⊎ IsIn x atoms
only_those seen [] x h = inl h
only_those seen (a ∷ rest) x h = elim (has_atom seen a) as (λ t. IsIn x (different (if t then seen else seen ++ (a ∷ [])) rest) → IsIn x seen ⊎ IsIn x (a ∷ rest)) [
  | true ↦ λ k. elim (only_those seen rest x k) as (λ _. IsIn x seen ⊎ IsIn x (a ∷ rest)) [ inl i ↦ inl i | inr j ↦ inr (inr j) ]
  | false ↦ λ k. elim (only_those (seen ++ (a ∷ [])) rest x k) as (λ _. IsIn x seen ⊎ IsIn x (a ∷ rest)) [
    | inl i ↦ elim (in_front_or_last a x seen i) as (λ _. IsIn x seen ⊎ IsIn x (a ∷ rest)) [ inl j ↦ inl j | inr e ↦ inr (inl e) ]
    | inr j ↦ inr (inr j)
  ]
] h

pub each_once : (atoms : List Atom) → Enumerates (λ a. IsIn a atoms) (different [] atoms)
each_once atoms = record {
  distinct = different_distinct [] atoms tt;
  all = λ x h. all_kept [] atoms x h;
  only = λ x h. elim (only_those [] atoms x h) as (λ _. IsIn x atoms) [ inl i ↦ absurd i | inr j ↦ j ];
}

-- those that were seen are among the different ones
pub seen_count : (seen atoms : List Atom) → length seen ≤ length (different seen atoms)
seen_count seen [] = omega arith
seen_count seen (a ∷ rest) = elim (has_atom seen a) as (λ t. length seen ≤ length (different (if t then seen else seen ++ (a ∷ [])) rest)) [
  | true ↦ seen_count seen rest
  | false ↦ (let h = seen_count (seen ++ (a ∷ [])) rest in let k = length-append seen (a ∷ []) in omega (arith, h, k))
]

-- a loop over the atoms takes one more, which is known or not
different_next : (seen atoms : List Atom) (i : ℕ) (d : Atom) (b : Bool) → i < length atoms → has_atom seen (get_or atoms i d) ≡ b → different seen (drop i atoms) ≡ different (if b then seen else seen ++ (get_or atoms i d ∷ [])) (drop (i + 1) atoms)
different_next seen atoms i d b lt e =
    ap (different seen) (drop_more atoms i d lt)
    ∙ ap (λ t. different (if t then seen else seen ++ (get_or atoms i d ∷ [])) (drop (i + 1) atoms)) e

-- what stays so of a loop over the atoms: at most 8 were seen, and what is left adds the others
pub record AreSeen (seen left atoms : List Atom) : Type 0 where
  pub few : length seen ≤ 8
  pub same : different seen left ≡ different [] atoms

-- a new one is seen
pub seen_more : (seen known new atoms : List Atom) (i : ℕ) (d : Atom) (told : Bool) → i < length atoms → known ≡ seen → told ≡ has_atom known (get_or atoms i d) → told ≡ false → new ≡ seen ++ get_or atoms i d ∷ [] → length seen + 1 ≤ 8 → different seen (drop i atoms) ≡ different [] atoms → AreSeen new (drop (i + 1) atoms) atoms
seen_more seen known new atoms i d told lt is asked absent pushed few same =
    let news : has_atom seen (get_or atoms i d) ≡ false = ap (λ s. has_atom s (get_or atoms i d)) (sym is) ∙ sym asked ∙ absent in
    let long = ap length pushed ∙ length_push seen (get_or atoms i d) in
    record {
      few = omega (arith, long, few);
      same = ap (λ s. different s (drop (i + 1) atoms)) pushed ∙ sym (different_next seen atoms i d false lt news) ∙ same;
    }

-- one that was seen changes nothing
pub seen_again : (seen known new atoms : List Atom) (i : ℕ) (d : Atom) (told : Bool) → i < length atoms → known ≡ seen → told ≡ has_atom known (get_or atoms i d) → told ≡ true → new ≡ seen → length seen ≤ 8 → different seen (drop i atoms) ≡ different [] atoms → AreSeen new (drop (i + 1) atoms) atoms
seen_again seen known new atoms i d told lt is asked there kept few same =
    let old : has_atom seen (get_or atoms i d) ≡ true = ap (λ s. has_atom s (get_or atoms i d)) (sym is) ∙ sym asked ∙ there in
    record {
      few = subst (λ s. length s ≤ 8) (sym kept) few;
      same = ap (λ s. different s (drop (i + 1) atoms)) kept ∙ sym (different_next seen atoms i d true lt old) ∙ same;
    }

-- behind the last atom, not too many were seen
pub seen_all : (seen atoms : List Atom) (i : ℕ) → length atoms ≤ i → length seen ≤ 8 → different seen (drop i atoms) ≡ different [] atoms → false ≡ has_many_atoms atoms
seen_all seen atoms i end few same =
    let all : length seen ≡ length (different [] atoms) = ap length (sym (at_drop_all (different seen) atoms i end) ∙ same) in
    let most : length (different [] atoms) ≤ 8 = omega (arith, all, few) in
    grind (arith, nat_tests)

-- beyond 8 that were seen, one more is too many
pub one_too_many : (seen known atoms : List Atom) (i : ℕ) (d : Atom) (told : Bool) → i < length atoms → length seen ≡ 8 → known ≡ seen → told ≡ has_atom known (get_or atoms i d) → told ≡ false → different seen (drop i atoms) ≡ different [] atoms → true ≡ has_many_atoms atoms
one_too_many seen known atoms i d told lt full is asked absent same =
    let news : has_atom seen (get_or atoms i d) ≡ false = ap (λ s. has_atom s (get_or atoms i d)) (sym is) ∙ sym asked ∙ absent in
    let next = different_next seen atoms i d false lt news in
    let kept = seen_count (seen ++ (get_or atoms i d ∷ [])) (drop (i + 1) atoms) in
    let more = length-append seen (get_or atoms i d ∷ []) in
    let all : length (different (seen ++ (get_or atoms i d ∷ [])) (drop (i + 1) atoms)) ≡ length (different [] atoms) = ap length (sym next ∙ same) in
    let many : 8 < length (different [] atoms) = omega (arith, kept, more, all, full) in
    sym (lt-ltb 8 (length (different [] atoms)) many)
