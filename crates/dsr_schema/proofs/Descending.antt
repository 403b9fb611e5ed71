-- The ancestors of a typed structure, one after the other.
use Rattle.std.proofs.Common.{◌≡◌, ◌<◌, ◌≤◌, ◌∙◌, ℕ, zero, suc, List, [], ◌∷◌, ◌++◌, length, reverse, None, Some, IfSome, refl, sym, ap, arith, length-append}
use Rattle.std.specs.Prelude.{Option, slice_get}
use Rattle.std.specs.Option.{option_map_or}
use Rattle.std.proofs.lemmas.List.{length-reverse, reverse-append, append_assoc}
use Rattle.std.proofs.lemmas.Option.{same_Some}
use Rattle.dsr_ir.specs.declared.declarations.Structure.{Structure}
use Rattle.dsr_meaning.specs.Typed.{ancestors, ancestors_among}
use Rattle.dsr_meaning.proofs.Ancestors.{in_earlier, of_last, past_end}

-- structures that are declared later change nothing
in_later : (later earlier : List Structure) (i : ℕ) → i < length earlier → ancestors_among (later ++ earlier) i ≡ ancestors_among earlier i
in_later [] earlier i lt = refl
in_later (s ∷ later) earlier i lt =
    in_earlier s (later ++ earlier) i (omega (arith, lt, length-append later earlier))
    ∙ in_later later earlier i lt

-- a list, split at an item
record SplitAt {A : Type 0} (xs : List A) (i : ℕ) (x : A) : Type 0 where
  before : List A
  after : List A
  are : xs ≡ before ++ x ∷ after
  counted : length before ≡ i

split_at : {A : Type 0} (xs : List A) (i : ℕ) (x : A) → slice_get xs i ≡ Some x → SplitAt xs i x
split_at [] i x e = absurd cc
split_at (y ∷ ys) zero x e = record { before = []; after = ys; are = ap (λ z. z ∷ ys) (same_Some _ _ e); counted = refl }
split_at (y ∷ ys) (suc i) x e =
    let s = split_at ys i x e in
    record { before = y ∷ s.before; after = s.after; are = ap (λ zs. y ∷ zs) s.are; counted = ap suc s.counted }

-- the line of a number that there may be: it and its ancestors
abbrev pub line : List Structure → Option ℕ → List ℕ
line structures next = option_map_or (λ n. n ∷ ancestors structures n) next []

-- the ancestors of a structure are its parent and the parent's
pub ancestors_step : (structures : List Structure) (i : ℕ) (s : Structure) → slice_get structures i ≡ Some s → IfSome s.parent (λ p. p < i) → ancestors structures i ≡ line structures s.parent
ancestors_step structures i s is before =
    let split = split_at structures i s is in
    let earlier = reverse split.before in
    let later = reverse split.after in
    let order : reverse structures ≡ later ++ (s ∷ earlier) =
    ap reverse split.are
    ∙ (reverse-append split.before (s ∷ split.after)
    ∙ (ap (λ xs. xs ++ earlier) (reverse-append (s ∷ []) split.after)
    ∙ append_assoc later (s ∷ []) earlier)) in
    let many : length earlier ≡ i = length-reverse split.before ∙ split.counted in
    let own : ancestors structures i ≡ option_map_or (λ p. p ∷ ancestors_among earlier p) s.parent [] =
    ap (λ rs. ancestors_among rs i) order
    ∙ (in_later later (s ∷ earlier) i (omega (arith, many))
    ∙ of_last s earlier i (sym many)) in
    own ∙ (elim s.parent as (λ o. IfSome o (λ p. p < i) → option_map_or (λ p. p ∷ ancestors_among earlier p) o [] ≡ line structures o) [
      | None ↦ λ _. refl
      | Some p ↦ λ lt.
          ap (λ ps. p ∷ ps)
          (sym (ap (λ rs. ancestors_among rs p) order
          ∙ (in_later later (s ∷ earlier) p (omega (arith, many, lt))
          ∙ in_earlier s earlier p (omega (arith, many, lt)))))
    ] before)

-- a number that is that of no structure has none
pub no_ancestors : (structures : List Structure) (i : ℕ) → length structures ≤ i → ancestors structures i ≡ []
no_ancestors structures i le = past_end (reverse structures) i (rw (length-reverse structures) le)
