-- Groups of lines that were read one after the other.
use Rattle.std.proofs.Common.{◌≡◌, ◌<◌, ◌≤◌, ◌+◌, ◌^◌, ◌++◌, ◌∙◌, ℕ, zero, suc, Bool, true, false, All, List, [], ◌∷◌, None, Some, Result, Ok, Err, Vec, Global, IfOk, IfErr, length, map, take, slice_get, inl, inr, refl, sym, ap, subst, arith, append_assoc, append-nil, length-append}
use Rattle.std.specs.Prelude.{nat_eq}
use Rattle.std.proofs.lemmas.Bool.{eqb-true}
use Rattle.std.proofs.lemmas.List.{flat_map_more, length-map, map-append}
use Rattle.std.proofs.lemmas.List.Elements.{All-nil, All-push}
use Rattle.std.proofs.lemmas.Option.{slice_get_within}
use Rattle.bstr.specs.Text.{lines_of}
use Rattle.dsr_edit_text.specs.Reads.{AreScript, IsWrongAt, ReadsGroups, ReadsSet}
use Rattle.dsr_edit_text.specs.Scripts.{BeginsWith, IsFirstWrong, IsScript, IsSetText, SetText, Tells, commit_text, group_texts, script_texts, set_text}
use Rattle.dsr_edit_text.specs.Shown.{shown, shown_groups}
use Rattle.dsr_edit_text.specs.declared.faults.ScriptFault.{ScriptFault}
use Rattle.dsr_edit_text.specs.declared.faults.ScriptFault.TheVariants as faults
use Rattle.dsr_edit_text.specs.declared.lines.SetLine.{SetLine}

take_one : {A : Type 0} (xs : List A) (k : ℕ) (x : A) → slice_get xs k ≡ Some x → take (k + 1) xs ≡ take k xs ++ x ∷ []
take_one [] k x is = absurd cc
take_one (y ∷ xs) zero x is = let same : y ≡ x = cc in ap (λ z. z ∷ []) same
take_one (y ∷ xs) (suc k) x is =
    let next : suc k + 1 ≡ suc (k + 1) = omega arith in
    ap (λ n. take n (y ∷ xs)) next ∙ ap (λ zs. y ∷ zs) (take_one xs k x is)

take_whole : {A : Type 0} (xs : List A) (k : ℕ) → length xs ≤ k → take k xs ≡ xs
take_whole [] zero all = refl
take_whole [] (suc k) all = refl
take_whole (x ∷ xs) zero all = absurd (omega (arith, all))
take_whole (x ∷ xs) (suc k) all = ap (λ ys. x ∷ ys) (take_whole xs k (omega (arith, all)))

no_items : {A : Type 0} (xs : List A) → nat_eq (length xs) 0 ≡ true → xs ≡ []
no_items [] none = refl
no_items (x ∷ xs) none = let zero = eqb-true (length (x ∷ xs)) 0 none in absurd (omega (arith, zero))

-- ---- texts of groups

script_more : (groups : List (List SetText)) (group : List SetText) → script_texts (groups ++ group ∷ []) ≡ script_texts groups ++ group_texts group
script_more groups group = sym (flat_map_more group_texts [] groups group)

-- how many lines so many groups have, and what was read of the next one
abbrev pub lines_of_groups : List (List SetText) → List SetText → ℕ
lines_of_groups groups group = length (script_texts groups) + length group

group_long : (group : List SetText) → length (group_texts group) ≡ length group + 1
group_long group = length-append (map set_text group) (commit_text ∷ []) ∙ ap (λ n. n + 1) (length-map group set_text)

commit_long : (groups : List (List SetText)) (group : List SetText) → lines_of_groups (groups ++ group ∷ []) [] ≡ lines_of_groups groups group + 1
commit_long groups group =
    let one = ap length (script_more groups group) in
    let two = length-append (script_texts groups) (group_texts group) in
    let three = group_long group in
    omega (arith, one, two, three)

set_long : (groups : List (List SetText)) (group : List SetText) (set : SetText) → lines_of_groups groups (group ++ set ∷ []) ≡ lines_of_groups groups group + 1
set_long groups group set = let more = length-append group (set ∷ []) in omega (arith, more)

-- ---- what was read

-- the first lines are these groups, and these lines of a further one
pub record AreRead (second : Bool) (texts : List (List ℕ)) (place : ℕ) (groups : List (List SetText)) (group : List SetText) : Type 0 where
  pub begins : BeginsWith second texts groups group
  pub place_is : lines_of_groups groups group ≡ place

module _ (second : Bool) (texts : List (List ℕ)) where
  pub none_read : AreRead second texts 0 [] []
  none_read = record {
    begins = record { formed = All-nil (All (IsSetText second)); group_formed = All-nil (IsSetText second); texts_are = refl; within = omega arith };
    place_is = refl;
  }

  module _ (k : ℕ) (groups : List (List SetText)) (group : List SetText) (read : AreRead second texts k groups group) where
    module _ (text : List ℕ) (there : slice_get texts k ≡ Some text) where
      next_texts : take (k + 1) texts ≡ (script_texts groups ++ map set_text group) ++ text ∷ []
      next_texts =
          take_one texts k text there
          ∙ ap (λ ts. ts ++ text ∷ []) (ap (λ n. take n texts) (sym read.place_is) ∙ read.begins.texts_are)

      inside : k + 1 ≤ length texts
      inside = let less = slice_get_within texts k text there in omega (arith, less)

      pub commit_read : text ≡ commit_text → AreRead second texts (k + 1) (groups ++ group ∷ []) []
      commit_read is =
          let long : lines_of_groups (groups ++ group ∷ []) [] ≡ k + 1 = commit_long groups group ∙ ap (λ n. n + 1) read.place_is in
          let texts_now : take (k + 1) texts ≡ script_texts (groups ++ group ∷ []) ++ [] =
          next_texts ∙ (ap (λ t. (script_texts groups ++ map set_text group) ++ t ∷ []) is
          ∙ (append_assoc (script_texts groups) (map set_text group) (commit_text ∷ [])
          ∙ (sym (script_more groups group) ∙ sym (append-nil (script_texts (groups ++ group ∷ [])))))) in
          record {
            begins = record {
              formed = All-push (All (IsSetText second)) groups group read.begins.formed read.begins.group_formed;
              group_formed = All-nil (IsSetText second);
              texts_are = ap (λ n. take n texts) long ∙ texts_now;
              within = subst (λ n. n ≤ length texts) (sym long) inside;
            };
            place_is = long;
          }

      pub set_read : (set : SetText) → IsSetText second set → text ≡ set_text set → AreRead second texts (k + 1) groups (group ++ set ∷ [])
      set_read set its is =
          let long : lines_of_groups groups (group ++ set ∷ []) ≡ k + 1 = set_long groups group set ∙ ap (λ n. n + 1) read.place_is in
          let texts_now : take (k + 1) texts ≡ script_texts groups ++ map set_text (group ++ set ∷ []) =
          next_texts ∙ (ap (λ t. (script_texts groups ++ map set_text group) ++ t ∷ []) is
          ∙ (append_assoc (script_texts groups) (map set_text group) (set_text set ∷ [])
          ∙ ap (λ ts. script_texts groups ++ ts) (sym (map-append set_text group (set ∷ []))))) in
          record {
            begins = record {
              formed = read.begins.formed;
              group_formed = All-push (IsSetText second) group set read.begins.group_formed its;
              texts_are = ap (λ n. take n texts) long ∙ texts_now;
              within = subst (λ n. n ≤ length texts) (sym long) inside;
            };
            place_is = long;
          }

      pub wrong_here : (text ≡ commit_text → ⊥) → ReadsSet second text None → IsWrongAt second texts (k + 1)
      wrong_here no_commit no_set = record {
        groups = groups;
        group = group;
        begins = read.begins;
        number_is = ap (λ n. n + 1) (sym read.place_is);
        wrong = inl (record { text = text; text_is = ap (slice_get texts) read.place_is ∙ there; no_set = no_set; no_commit = no_commit });
      }

    -- the last line was read
    module _ (all : length texts ≤ k) where
      same_long : lines_of_groups groups group ≡ length texts
      same_long = let within = read.begins.within in let place = read.place_is in omega (arith, within, place, all)

      pub all_read : group ≡ [] → AreScript second texts groups
      all_read none = record {
        formed = read.begins.formed;
        texts_are =
            sym (take_whole texts (lines_of_groups groups group) (let long = same_long in omega (arith, long)))
            ∙ (read.begins.texts_are ∙ (ap (λ g. script_texts groups ++ map set_text g) none ∙ append-nil (script_texts groups)));
      }

      pub unended : (group ≡ [] → ⊥) → IsWrongAt second texts (length texts + 1)
      unended some = record {
        groups = groups;
        group = group;
        begins = read.begins;
        number_is = ap (λ n. n + 1) (sym same_long);
        wrong = inr (same_long, some);
      }

-- ---- the program's lines

pub groups_more : (groups : List (Vec SetLine Global)) (group : Vec SetLine Global) → shown_groups (groups ++ group ∷ []) ≡ shown_groups groups ++ map shown group.items ∷ []
groups_more groups group = map-append (λ (g : Vec SetLine Global). map shown g.items) groups (group ∷ [])

pub lines_more : (group : List SetLine) (set : SetLine) → map shown (group ++ set ∷ []) ≡ map shown group ++ shown set ∷ []
lines_more group set = map-append shown group (set ∷ [])

pub some_lines : (group : List SetLine) → nat_eq (length group) 0 ≡ false → map shown group ≡ [] → ⊥
some_lines [] other is = absurd cc
some_lines (set ∷ group) other is = absurd cc

pub no_lines : (group : List SetLine) → nat_eq (length group) 0 ≡ true → map shown group ≡ []
no_lines group none = ap (map shown) (no_items group none)

-- ---- the whole text

pub script_read :
    (second : Bool) (text : List ℕ) (texts : List (List ℕ)) (result : Result (Vec (Vec SetLine Global) Global) ScriptFault) → texts ≡ lines_of text → ReadsGroups second texts result
    → IfOk result (λ groups. IsScript second text (shown_groups groups.items))
script_read second text texts (Err fault) are reads = tt
script_read second text texts (Ok groups) are reads = record { formed = reads.formed; texts_are = sym are ∙ reads.texts_are }

pub fault_told :
    (second : Bool) (text : List ℕ) (texts : List (List ℕ)) (result : Result (Vec (Vec SetLine Global) Global) ScriptFault) → texts ≡ lines_of text → ReadsGroups second texts result
    → IfErr result (Tells (IsFirstWrong second text))
fault_told second text texts (Ok groups) are reads = tt
fault_told second text texts (Err faults.NoMemory) are reads = tt
fault_told second text texts (Err (faults.Line number)) are reads =
    let its = subst (λ ts. IsWrongAt second ts number) are reads in
    record { groups = its.groups; group = its.group; begins = its.begins; number_is = its.number_is; wrong = its.wrong }

pub few_lines :
    (second : Bool) (texts : List (List ℕ)) (result : Result (Vec (Vec SetLine Global) Global) ScriptFault) → length texts < 2 ^ 63 → ReadsGroups second texts result
    → IfOk result (λ groups. length (script_texts (shown_groups groups.items)) < 2 ^ 63)
few_lines second texts (Err fault) few reads = tt
few_lines second texts (Ok groups) few reads = let same = ap length reads.texts_are in omega (arith, few, same)
