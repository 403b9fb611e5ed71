-- What flows hand on among the rows of what rules change is the table.
use Rattle.std.proofs.Common.{◌≡◌, ◌<◌, ◌+◌, ◌↔◌, ℕ, zero, suc, false, List, [], ◌∷◌, take, drop, All, IsTrue, inl, inr, refl, sym, ap, subst, ◌∙◌, arith}
use Rattle.std.specs.Prelude.{slice_get, if◌then◌else◌}
use Rattle.std.specs.Option.{option_map_or}
use Rattle.dsr_effect.specs.Rows.{IsBetween, IsHandedOn, begins, goes, has_row_tag, tag_after}
use Rattle.dsr_effect.specs.Table.{AreFlows, IsChangedBy, IsPassing, IsSwapping, row_number, symbol_count}
use Rattle.dsr_effect.specs.declared.flows.Flow.{Flow}
use Rattle.dsr_ir.specs.Rules.{symbol_of}
use Rattle.dsr_ir.specs.declared.declarations.Structures.{Structures}
use Rattle.dsr_ir.specs.declared.updates.Symbol.{Symbol}
use Rattle.dsr_ir.specs.declared.updates.Symbol.TheVariants.{Set, Rel}
use Rattle.dsr_meaning.specs.Typed.{IsTyped}
use Rattle.dsr_update_theory.specs.Changes.{Change}
use Rattle.dsr_update_theory.specs.Effects.{InTable, touched, passed, swapped, IsDeclared, changes, has_tag, other_direction, symbol_number, tag_passed}
use Rattle.dsr_update_theory.specs.declared.effects.Tag.{Tag}
use Rattle.dsr_update_theory.specs.declared.effects.Tag.TheVariants.{Any}
use Rattle.dsr_update_theory.specs.declared.effects.Tags.{Tags}
use Rattle.dsr_update_theory.specs.declared.effects.Direction.{Direction}
use Rattle.dsr_update_theory.specs.declared.effects.Direction.TheVariants.{Gain, Loss}
use Rattle.dsr_effect.proofs.RowNumbers.{complement_declared, given_declared, premise_declared, row_below, row_once}
use Rattle.dsr_meaning.proofs.Items.{all_of}

module _ (c : Change) (typed : IsTyped c.spec) (flows : List Flow) (are : AreFlows c flows) where
  -- each flow is between rows
  pub are_between : (count : ℕ) → count ≡ symbol_count c.spec.base + symbol_count c.spec.base → All (IsBetween count) flows
  are_between count many = all_of (IsBetween count) flows (λ flow among. rw many (elim (are.sound flow among) as (λ _. IsBetween (symbol_count c.spec.base + symbol_count c.spec.base) flow) [
    | inl f ↦ let p : IsPassing c f.0 f.1 f.2 flow = f.4 in record {
      from = rw p.from (row_below c.spec.base f.2 (Set f.1) (premise_declared c.spec typed f.0 f.1 f.3 p.premise_is));
      to = rw p.to (row_below c.spec.base f.2 (symbol_of f.0.inc) (given_declared c.spec typed f.0 f.3));
    }
    | inr f ↦ let p : IsSwapping c f.0 f.1 f.2 flow = f.3 in let both = complement_declared c.spec typed f.0 f.1 p.base_is in record {
      from = rw p.from (row_below c.spec.base f.2 (Set f.1) both.1);
      to = rw p.to (row_below c.spec.base (other_direction f.2) (Set f.0) both.0);
    }
  ]))

  module _ (rows : List Tags) (first : (row : ℕ) (tag : Tag) → IsTrue (has_row_tag rows row tag) ↔ IsChangedBy c c.spec.rules row tag) where
    -- what is in the table is handed on
    there : {direction : Direction} {symbol : Symbol} {tag : Tag} → InTable c direction symbol tag → IsHandedOn flows rows (row_number c.spec.base direction symbol) tag
    there (touched rule direction tag among may) =
        let row = row_number c.spec.base direction (symbol_of rule.inc) in
        begins row tag ((first row tag).1 (record { rule = rule; direction = direction; among = among; row_is = refl; changes = may }))
    there (passed rule premise direction tag among is before in_place) =
        let f = are.rules rule premise direction among is in
        let flow : Flow = f.0 in
        let p : IsPassing c rule premise direction flow = f.2 in
        let from = subst (λ r. IsHandedOn flows rows r tag) (sym p.from) (there before) in
        let to = goes flow tag f.1 from ((p.hands tag).1 in_place) in
        subst (λ t. IsHandedOn flows rows (row_number c.spec.base direction (symbol_of rule.inc)) t) (ap (λ k. if k then tag else Any) p.keeps)
        (subst (λ r. IsHandedOn flows rows r (tag_after flow tag)) p.to to)
    there (swapped set base direction tag is before) =
        let f = are.complements set base direction is in
        let flow : Flow = f.0 in
        let p : IsSwapping c set base direction flow = f.2 in
        let from = subst (λ r. IsHandedOn flows rows r tag) (sym p.from) (there before) in
        let to = goes flow tag f.1 from (p.hands tag) in
        subst (λ t. IsHandedOn flows rows (row_number c.spec.base (other_direction direction) (Set set)) t) (ap (λ k. if k then tag else Any) p.keeps)
        (subst (λ r. IsHandedOn flows rows r (tag_after flow tag)) p.to to)

    named : (w v : Direction) (s t : Symbol) (tag : Tag) → IsDeclared c.spec.base s → IsDeclared c.spec.base t → row_number c.spec.base w s ≡ row_number c.spec.base v t → InTable c w s tag → InTable c v t tag
    named w v s t tag p q e h =
        let same = row_once c.spec.base w v s t p q e in
        subst (λ x. InTable c x t tag) same.direction_is (subst (λ x. InTable c w x tag) same.symbol_is h)

    -- what is handed on is in the table
    back : {row : ℕ} {tag : Tag} → IsHandedOn flows rows row tag → (direction : Direction) (symbol : Symbol) → IsDeclared c.spec.base symbol → row ≡ row_number c.spec.base direction symbol → InTable c direction symbol tag
    back (begins row tag has) direction symbol declared is =
        let f = (first row tag).0 has in
        named f.direction direction (symbol_of f.rule.inc) symbol tag (given_declared c.spec typed f.rule f.among) declared (sym f.row_is ∙ is) (touched f.rule f.direction tag f.among f.changes)
    back (goes flow tag among before goes_on) direction symbol declared is = elim (are.sound flow among) as (λ _. InTable c direction symbol (tag_after flow tag)) [
      | inl f ↦
          let p : IsPassing c f.0 f.1 f.2 flow = f.4 in
          let from : InTable c f.2 (Set f.1) tag = back before f.2 (Set f.1) (premise_declared c.spec typed f.0 f.1 f.3 p.premise_is) p.from in
          let to = passed f.0 f.1 f.2 tag f.3 p.premise_is from ((p.hands tag).0 goes_on) in
          subst (InTable c direction symbol) (sym (ap (λ k. if k then tag else Any) p.keeps))
          (named f.2 direction (symbol_of f.0.inc) symbol (tag_passed f.0.inc tag) (given_declared c.spec typed f.0 f.3) declared (sym p.to ∙ is) to)
      | inr f ↦
          let p : IsSwapping c f.0 f.1 f.2 flow = f.3 in
          let both = complement_declared c.spec typed f.0 f.1 p.base_is in
          let from : InTable c f.2 (Set f.1) tag = back before f.2 (Set f.1) both.1 p.from in
          let to = swapped f.0 f.1 f.2 tag p.base_is from in
          subst (InTable c direction symbol) (sym (ap (λ k. if k then tag else Any) p.keeps))
          (named (other_direction f.2) direction (Set f.0) symbol tag both.0 declared (sym p.to ∙ is) to)
    ]

    pub table_exact : (settled : List Tags) → ((row : ℕ) (tag : Tag) → IsTrue (has_row_tag settled row tag) ↔ IsHandedOn flows rows row tag) → (direction : Direction) (symbol : Symbol) (tag : Tag) → IsDeclared c.spec.base symbol → IsTrue (has_row_tag settled (row_number c.spec.base direction symbol) tag) ↔ InTable c direction symbol tag
    table_exact settled exactly direction symbol tag declared =
        let row = row_number c.spec.base direction symbol in
        (λ has. back ((exactly row tag).0 has) direction symbol declared refl, λ h. (exactly row tag).1 (there h))

-- ---- the two halves of the rows

in_front_half : {A : Type 0} (xs : List A) (n k : ℕ) → k < n → slice_get (take n xs) k ≡ slice_get xs k
in_front_half xs zero k lt = absurd (omega (arith, lt))
in_front_half [] (suc n) k lt = refl
in_front_half (x ∷ xs) (suc n) zero lt = refl
in_front_half (x ∷ xs) (suc n) (suc k) lt = in_front_half xs n k (omega (arith, lt))

in_back_half : {A : Type 0} (xs : List A) (n k : ℕ) → slice_get (drop n xs) k ≡ slice_get xs (n + k)
in_back_half xs zero k = let same : k ≡ 0 + k = omega arith in ap (slice_get xs) same
in_back_half [] (suc n) k = refl
in_back_half (x ∷ xs) (suc n) k = let same : suc (n + k) ≡ suc n + k = omega arith in in_back_half xs n k ∙ ap (slice_get (x ∷ xs)) same

number_below : (base : Structures) (symbol : Symbol) → IsDeclared base symbol → symbol_number base symbol < symbol_count base
number_below base (Set set) lt = omega (arith, lt)
number_below base (Rel rel) lt = omega (arith, lt)

-- the effect has what the rows have
pub halves_tell : (base : Structures) (settled gains losses : List Tags) → gains ≡ take (symbol_count base) settled → losses ≡ drop (symbol_count base) settled → (direction : Direction) (symbol : Symbol) (tag : Tag) → IsDeclared base symbol → changes base (record { gains = gains; losses = losses }) direction symbol tag ≡ has_row_tag settled (row_number base direction symbol) tag
halves_tell base settled gains losses front back Gain symbol tag declared =
    ap (λ rows. option_map_or (has_tag tag) (slice_get rows (symbol_number base symbol)) false) front
    ∙ ap (λ o. option_map_or (has_tag tag) o false) (in_front_half settled (symbol_count base) (symbol_number base symbol) (number_below base symbol declared))
halves_tell base settled gains losses front back Loss symbol tag declared =
    ap (λ rows. option_map_or (has_tag tag) (slice_get rows (symbol_number base symbol)) false) back
    ∙ ap (λ o. option_map_or (has_tag tag) o false) (in_back_half settled (symbol_count base) (symbol_number base symbol))
