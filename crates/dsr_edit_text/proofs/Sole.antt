-- A text is the script of one list of groups.
use Rattle.std.proofs.Common.{◌≡◌, ◌++◌, ◌∙◌, ℕ, Bool, All, List, [], ◌∷◌, refl, sym, ap}
use Rattle.std.proofs.lemmas.List.Elements.{All-head, All-tail}
use Rattle.dsr_edit_text.proofs.Back.{set_back}
use Rattle.dsr_edit_text.proofs.Once.{set_is_no_commit}
use Rattle.dsr_edit_text.specs.Lenient.{set_in}
use Rattle.dsr_edit_text.specs.Scripts.{IsScript, IsSetText, SetText, commit_text, group_texts, script_texts, set_text}

heads : {A : Type 0} (x y : A) (xs ys : List A) → x ∷ xs ≡ y ∷ ys → x ≡ y
heads x y xs ys is = cc

tails : {A : Type 0} (x y : A) (xs ys : List A) → x ∷ xs ≡ y ∷ ys → xs ≡ ys
tails x y xs ys is = cc

never_empty : {A : Type 0} (x : A) (xs : List A) → [] ≡ x ∷ xs → ⊥
never_empty x xs is = absurd cc

script_is_some : (group : List SetText) (groups : List (List SetText)) → [] ≡ script_texts (group ∷ groups) → ⊥
script_is_some [] groups is = never_empty commit_text (script_texts groups) is
script_is_some (set ∷ group) groups is = never_empty (set_text set) (group_texts group ++ script_texts groups) is

module _ (second : Bool) where
  one_set : (s t : SetText) → IsSetText second s → IsSetText second t → set_text s ≡ set_text t → s ≡ t
  one_set s t one two is = sym (set_back s second one) ∙ (ap set_in is ∙ set_back t second two)

  abbrev AreFormed : List (List SetText) → Type 0
  AreFormed groups = All (All (IsSetText second)) groups

  one_script_behind :
      (gs hs : List (List SetText)) (g h : List SetText) → AreFormed gs → AreFormed hs → All (IsSetText second) g → All (IsSetText second) h
      → group_texts g ++ script_texts gs ≡ group_texts h ++ script_texts hs → (g ≡ h) × (gs ≡ hs)
  one_script_behind [] [] [] [] a b c d is = (refl, refl)
  one_script_behind [] (y ∷ hs) [] [] a b c d is = absurd (script_is_some y hs (tails commit_text commit_text [] (script_texts (y ∷ hs)) is))
  one_script_behind (x ∷ gs) [] [] [] a b c d is = absurd (script_is_some x gs (sym (tails commit_text commit_text (script_texts (x ∷ gs)) [] is)))
  one_script_behind (x ∷ gs) (y ∷ hs) [] [] a b c d is =
      let same = one_script_behind gs hs x y
      (All-tail (All (IsSetText second)) x gs a) (All-tail (All (IsSetText second)) y hs b)
      (All-head (All (IsSetText second)) x gs a) (All-head (All (IsSetText second)) y hs b)
      (tails commit_text commit_text (script_texts (x ∷ gs)) (script_texts (y ∷ hs)) is) in
      (refl, ap (λ z. z ∷ gs) same.0 ∙ ap (λ zs. y ∷ zs) same.1)
  one_script_behind gs hs [] (t ∷ h) a b c d is =
      absurd (set_is_no_commit t (sym (heads commit_text (set_text t) (script_texts gs) (group_texts h ++ script_texts hs) is)))
  one_script_behind gs hs (s ∷ g) [] a b c d is =
      absurd (set_is_no_commit s (heads (set_text s) commit_text (group_texts g ++ script_texts gs) (script_texts hs) is))
  one_script_behind gs hs (s ∷ g) (t ∷ h) a b c d is =
      let set = one_set s t (All-head (IsSetText second) s g c) (All-head (IsSetText second) t h d)
      (heads (set_text s) (set_text t) (group_texts g ++ script_texts gs) (group_texts h ++ script_texts hs) is) in
      let same = one_script_behind gs hs g h a b (All-tail (IsSetText second) s g c) (All-tail (IsSetText second) t h d)
      (tails (set_text s) (set_text t) (group_texts g ++ script_texts gs) (group_texts h ++ script_texts hs) is) in
      (ap (λ z. z ∷ g) set ∙ ap (λ zs. t ∷ zs) same.0, same.1)

  one_script_of : (gs hs : List (List SetText)) → AreFormed gs → AreFormed hs → script_texts gs ≡ script_texts hs → gs ≡ hs
  one_script_of [] [] a b is = refl
  one_script_of [] (h ∷ hs) a b is = absurd (script_is_some h hs is)
  one_script_of (g ∷ gs) [] a b is = absurd (script_is_some g gs (sym is))
  one_script_of (g ∷ gs) (h ∷ hs) a b is =
      let same = one_script_behind gs hs g h
      (All-tail (All (IsSetText second)) g gs a) (All-tail (All (IsSetText second)) h hs b)
      (All-head (All (IsSetText second)) g gs a) (All-head (All (IsSetText second)) h hs b) is in
      ap (λ z. z ∷ gs) same.0 ∙ ap (λ zs. h ∷ zs) same.1

  pub one_script : (text : List ℕ) (gs hs : List (List SetText)) → IsScript second text gs → IsScript second text hs → gs ≡ hs
  one_script text gs hs one two = one_script_of gs hs one.formed two.formed (sym one.texts_are ∙ two.texts_are)
