-- What tables tell is what the names of declared tables stand for, where each table is right.
use Rattle.std.proofs.Common.{◌≡◌, ◌≤◌, ℕ, List, [], ◌∷◌, map, length, Option, None, Some, All, is_some, if◌then◌else◌, get_or, slice_get, option_map, refl, sym, ap, ◌∙◌}
use Rattle.std.proofs.lemmas.Option.{slice_get-map, slice_get-get_or}
use Rattle.std.specs.List.{position_from}
use Rattle.std.specs.Option.{option_and_then}
use Rattle.std.specs.Str.{bytes_eq}
use Rattle.indexmap.specs.IndexMap.{get}
use Rattle.dsr_ir.specs.declared.declarations.FieldRef.{FieldRef}
use Rattle.dsr_ir.specs.declared.declarations.Structures.{Structures}
use Rattle.dsr_meaning.specs.Typed.{AreTyped}
use Rattle.dsr_language_theory.specs.Known.{has_field_name, known_in, record_field}
use Rattle.dsr_language_theory.specs.Known.{own_field as own_field_of, first_field as first_field_of}
use Rattle.dsr_names.specs.Tables.{told_by, own_field, first_field, line_of}
use Rattle.dsr_names.specs.declared.tables.TableNames.{TableNames}
use Rattle.dsr_names.proofs.Ancestors.{lines, line_at}

-- each table as the contract of the function that makes it has it
pub record AreRight (base : Structures) (tables : TableNames) : Type 0 where
  pub pools : (q : List ℕ) → get bytes_eq tables.pools q ≡ position_from (λ p. bytes_eq p.name q) 1 base.pools
  pub sets : (q : List ℕ) → get bytes_eq tables.sets q ≡ position_from (λ s. bytes_eq s.name q) 0 base.sets
  pub relations : (q : List ℕ) → get bytes_eq tables.relations q ≡ position_from (λ r. bytes_eq r.name q) 0 base.rels
  pub fields : map (get bytes_eq) tables.fields.items ≡ map (λ s q. position_from (has_field_name q) 0 s.fields) base.structures
  pub ancestors : map (λ v. v.items) tables.ancestors.items ≡ lines base.structures

-- what a part of an item leads to
and_then_part : {A B C : Type 0} (f : A → B) (h : B → Option C) (o : Option A) → option_and_then (λ x. h (f x)) o ≡ option_and_then h (option_map f o)
and_then_part f h None = refl
and_then_part f h (Some x) = refl

module _ (base : Structures) (tables : TableNames) (right : AreRight base tables) where
  -- the fields that a structure itself declares
  own_is : (q : List ℕ) (i : ℕ) → own_field tables q i ≡ own_field_of base q i
  own_is q i =
      let number : (List ℕ → Option ℕ) → Option FieldRef = λ numbers. option_map (λ k. record { structure = i; field = k }) (numbers q) in
      and_then_part (get bytes_eq) number (slice_get tables.fields.items i)
      ∙ ap (option_and_then number) (
      sym (slice_get-map (get bytes_eq) tables.fields.items i)
      ∙ ap (λ numbers. slice_get numbers i) right.fields
      ∙ slice_get-map (λ s q. position_from (has_field_name q) 0 s.fields) base.structures i)
      ∙ sym (and_then_part (λ s q. position_from (has_field_name q) 0 s.fields) number (slice_get base.structures i))

  first_is : (q : List ℕ) (is : List ℕ) → first_field tables q is ≡ first_field_of base q is
  first_is q [] = refl
  first_is q (i ∷ is) =
      let own = own_is q i in
      let rest = first_is q is in
      λ j. if is_some (own j) then own j else rest j

  field_is : (i : ℕ) (q : List ℕ) → first_field tables q (i ∷ line_of tables i) ≡ record_field base i q
  field_is i q =
      first_is q (i ∷ line_of tables i)
      ∙ ap (λ line. first_field_of base q (i ∷ line)) (ap (λ ls. get_or ls i []) right.ancestors ∙ line_at base.structures i)

  -- so the tables tell what the names stand for
  pub tables_tell : told_by base tables ≡ known_in base
  tables_tell = λ j. record {
    base = base;
    pool = λ q. right.pools q j;
    set = λ q. right.sets q j;
    relation = λ q. right.relations q j;
    field = λ i q. field_is i q j;
  }

-- typed structures have few fields each
pub few_fields : (base : Structures) → AreTyped base → All (λ s. length s.fields ≤ 64) base.structures
few_fields base typed k d lt = (typed.structures k (get_or base.structures k d) (slice_get-get_or base.structures k d lt)).few_fields
