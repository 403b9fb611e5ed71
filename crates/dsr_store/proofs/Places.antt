-- A list of files and its map: what a search of the list finds is what the map has, and a write at the
-- place that was found, or behind a list that lacks the name, is an `insert`.
use Rattle.std.proofs.Common.{◌≡◌, ◌≢◌, ◌<◌, ◌+◌, ℕ, suc, Bool, true, false, cond, List, [], ◌∷◌, ◌++◌, length, get_or, set, Option, Some, None, refl, sym, ap, subst, ◌∙◌, arith}
use Rattle.std.specs.Bool.{Decides}
use Rattle.std.specs.Str.{bytes_eq}
use Rattle.std.specs.Ordering.{nat_cmp, eq_by_cmp}
use Rattle.std.specs.Cmp.Lexicographic.{slice_cmp, texts_ties, nat_list_cmp_total}
use Rattle.std.specs.FinMap.{find, get, insert, get-from_entries, get-insert, same_map, slice_cmp-IsAntisymmetric, nat_cmp-IsAntisymmetric}
use Rattle.std.proofs.lemmas.Slice.Eq.{bytes_eq-Decides}
use Rattle.dsr_store.specs.Files.{Files}
use Rattle.dsr_store.specs.Keeping.{entries_of, files_of, place_from}
use Rattle.dsr_store.specs.declared.outside.Held.{Held}

-- the map's own test of two names
abbrev same : List ℕ → List ℕ → Bool
same = eq_by_cmp (slice_cmp nat_cmp)

-- what the first file of the name holds
abbrev bytes_at : List ℕ → List Held → Option (List ℕ)
bytes_at name files = find (slice_cmp nat_cmp) name (entries_of files)

same-Decides : (a b : List ℕ) → Decides (same a b) (a ≡ b)
same-Decides a b = subst (λ test. Decides test (a ≡ b)) (texts_ties a b) (bytes_eq-Decides a b)

differ : (a b : List ℕ) → a ≢ b → same a b ≡ false
differ a b apart = elim (same a b) as (λ test. same a b ≡ test → test ≡ false) [ true ↦ λ yes. absurd (apart ((same-Decides a b).0 yes)) | false ↦ λ _. refl ] refl

-- two tests that never both hold may be made in either order
cond_swap : {A : Type 0} (a b : Bool) (x y z : A) → (a ≡ true → b ≡ true → ⊥) → cond a x (cond b y z) ≡ cond b y (cond a x z)
cond_swap true true x y z apart = absurd (apart refl refl)
cond_swap true false x y z apart = refl
cond_swap false b x y z apart = refl

-- a test within its own else-branch is idle
cond_again : {A : Type 0} (b : Bool) (x y z : A) → cond b x z ≡ cond b x (cond b y z)
cond_again true x y z = refl
cond_again false x y z = refl

-- no name is equal to two names that differ
never_both : (q a b : List ℕ) → same a b ≡ false → same q b ≡ true → same q a ≡ true → ⊥
never_both q a b apart is_b is_a =
    let e : a ≡ b = sym ((same-Decides q a).0 is_a) ∙ (same-Decides q b).0 is_b in
    let yes : same a b ≡ true = (same-Decides a b).1 e in cc

-- the first file of the name stands at this place
record IsFirstAt (name : List ℕ) (files : List Held) (place : ℕ) : Type 0 where
  in_range : place < length files
  found : (d : Held) → bytes_at name files ≡ Some (get_or files place d).bytes
  named : (d : Held) → (get_or files place d).name ≡ name
  replaced : (file : Held) → file.name ≡ name → (q : List ℕ) → bytes_at q (set files place file) ≡ cond (same q name) (Some file.bytes) (bytes_at q files)

first_here : (name : List ℕ) (f : Held) (files : List Held) → name ≡ f.name → IsFirstAt name (f ∷ files) 0
first_here name f files e = record {
  in_range = omega arith;
  found = λ d. rw ((same-Decides name f.name).1 e) refl;
  named = λ d. sym e;
  replaced = λ file n q. rw n (rw (← e) (cond_again (same q name) (Some file.bytes) (Some f.bytes) (bytes_at q files)));
}

first_later : (name : List ℕ) (f : Held) (files : List Held) (place : ℕ) → same name f.name ≡ false → IsFirstAt name files place → IsFirstAt name (f ∷ files) (suc place)
first_later name f files place apart at = record {
  in_range = omega (arith, at.in_range);
  found = λ d. rw apart (at.found d);
  named = at.named;
  replaced = λ file n q.
      ap (cond (same q f.name) (Some f.bytes)) (at.replaced file n q)
      ∙ cond_swap (same q f.name) (same q name) (Some f.bytes) (Some file.bytes) (bytes_at q files) (never_both q name f.name apart);
}

-- a search that began at n and found a place
found_from : (n : ℕ) (name : List ℕ) (files : List Held) (i : ℕ) → place_from n name files ≡ Some i → (place : ℕ) × (i ≡ n + place) × IsFirstAt name files place
found_from n name [] i e = absurd cc
found_from n name (f ∷ files) i e =
    elim (bytes_eq name f.name) as (λ b. bytes_eq name f.name ≡ b → cond b (Some n) (place_from (n + 1) name files) ≡ Some i → (place : ℕ) × (i ≡ n + place) × IsFirstAt name (f ∷ files) place) [
      | true ↦ λ yes e. let is : n ≡ i = cc in (0, omega (arith, is), first_here name f files ((bytes_eq-Decides name f.name).0 yes))
      | false ↦ λ apart e. let rest = found_from (n + 1) name files i e in
          (suc rest.0, omega (arith, rest.1), first_later name f files rest.0 (sym (texts_ties name f.name) ∙ apart) rest.2)
    ] refl e

-- a search that found none
absent_from : (n : ℕ) (name : List ℕ) (files : List Held) → place_from n name files ≡ None → bytes_at name files ≡ None
absent_from n name [] e = refl
absent_from n name (f ∷ files) e =
    elim (bytes_eq name f.name) as (λ b. bytes_eq name f.name ≡ b → cond b (Some n) (place_from (n + 1) name files) ≡ None → bytes_at name (f ∷ files) ≡ None) [
      | true ↦ λ yes e. absurd cc
      | false ↦ λ apart e. rw (sym (texts_ties name f.name) ∙ apart) (absent_from (n + 1) name files e)
    ] refl e

first_at : (name : List ℕ) (files : List Held) (place : ℕ) → place_from 0 name files ≡ Some place → IsFirstAt name files place
first_at name files place e =
    let found = found_from 0 name files place e in
    let same_place : found.0 ≡ place = omega (arith, found.1) in
    subst (IsFirstAt name files) same_place found.2

-- lists whose searches differ at one name make maps that differ there
one_name_set : (old new : List Held) (name bytes : List ℕ) → ((q : List ℕ) → bytes_at q new ≡ cond (same q name) (Some bytes) (bytes_at q old)) → files_of new ≡ insert (files_of old) name bytes
one_name_set old new name bytes h = same_map nat_list_cmp_total (slice_cmp-IsAntisymmetric nat_cmp-IsAntisymmetric) _ _ (λ q.
    get-from_entries nat_list_cmp_total (entries_of new) q ∙ h q
    ∙ ap (cond (same q name) (Some bytes)) (sym (get-from_entries nat_list_cmp_total (entries_of old) q))
    ∙ sym (get-insert nat_list_cmp_total (files_of old) name bytes q))

-- the map has what stands at the place that was found
pub get-found : (name : List ℕ) (files : List Held) (place : ℕ) (d : Held) → place_from 0 name files ≡ Some place → get (files_of files) name ≡ Some (get_or files place d).bytes
get-found name files place d e = get-from_entries nat_list_cmp_total (entries_of files) name ∙ (first_at name files place e).found d

-- the map lacks a name that was not found
pub get-absent : (name : List ℕ) (files : List Held) → place_from 0 name files ≡ None → get (files_of files) name ≡ None
get-absent name files e = get-from_entries nat_list_cmp_total (entries_of files) name ∙ absent_from 0 name files e

-- other bytes at the place that was found
pub insert-found : (name : List ℕ) (files : List Held) (place : ℕ) (old : Held) (bytes : List ℕ) → place_from 0 name files ≡ Some place → old ≡ get_or files place old → files_of (set files place (record { name = old.name; bytes = bytes })) ≡ insert (files_of files) name bytes
insert-found name files place old bytes e is =
    let at = first_at name files place e in
    let file : Held = record { name = old.name; bytes = bytes } in
    let named : file.name ≡ name = ap (λ (f : Held). f.name) is ∙ at.named old in
    one_name_set files (set files place file) name bytes (at.replaced file named)

bytes_at-append : (q : List ℕ) (files : List Held) (file : Held) → bytes_at file.name files ≡ None → bytes_at q (files ++ file ∷ []) ≡ cond (same q file.name) (Some file.bytes) (bytes_at q files)
bytes_at-append q [] file lacks = refl
bytes_at-append q (f ∷ files) file lacks =
    elim (same file.name f.name) as (λ b. same file.name f.name ≡ b → cond b (Some f.bytes) (bytes_at file.name files) ≡ None → bytes_at q (f ∷ files ++ file ∷ []) ≡ cond (same q file.name) (Some file.bytes) (bytes_at q (f ∷ files))) [
      | true ↦ λ yes e. absurd cc
      | false ↦ λ apart e.
          ap (cond (same q f.name) (Some f.bytes)) (bytes_at-append q files file e)
          ∙ cond_swap (same q f.name) (same q file.name) (Some f.bytes) (Some file.bytes) (bytes_at q files) (never_both q file.name f.name apart)
    ] refl lacks

-- a file behind a list that lacks its name
pub insert-absent : (files : List Held) (file : Held) → place_from 0 file.name files ≡ None → files_of (files ++ file ∷ []) ≡ insert (files_of files) file.name file.bytes
insert-absent files file e = one_name_set files (files ++ file ∷ []) file.name file.bytes (λ q. bytes_at-append q files file (absent_from 0 file.name files e))

-- an insert leaves each other name
pub get-insert_other : (files : Files) (name bytes other : List ℕ) → other ≢ name → get (insert files name bytes) other ≡ get files other
get-insert_other files name bytes other apart = get-insert nat_list_cmp_total files name bytes other ∙ rw (differ other name apart) refl
