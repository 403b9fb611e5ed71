-- What the two updates of the examples may change: one relation alone, at the record or at the entry that is written.
use Rattle.std.proofs.Common.{◌≡◌, ◌∙◌, ◌⊎◌, ℕ, false, List, [], ◌∷◌, None, Some, inl, inr, refl, sym, ap, subst, arith}
use Rattle.std.proofs.lemmas.Bool.{false≢true}
use Rattle.std.proofs.lemmas.Option.{same_Some, none-some}
use Rattle.dsr_step_laws.proofs.Tried.{plain, updating}
use Rattle.dsr_example_laws.proofs.Given.{base, entry_path, leading, marking, pairing, rules, sharing, valuing}
use Rattle.dsr_ir.specs.Rules.{symbol_of}
use Rattle.dsr_ir.specs.declared.constraints.Quant.{Quant}
use Rattle.dsr_ir.specs.declared.constraints.Quant.TheVariants.{Each}
use Rattle.dsr_ir.specs.declared.constraints.Var.{Var}
use Rattle.dsr_ir.specs.declared.constraints.Var.TheVariants.{First}
use Rattle.dsr_ir.specs.declared.rules.Rule.{Rule}
use Rattle.dsr_ir.specs.declared.updates.At.TheVariants.{SlotOf}
use Rattle.dsr_ir.specs.declared.updates.Goal.TheVariants.{SetValue}
use Rattle.dsr_ir.specs.declared.updates.Pick.TheVariants.{Num}
use Rattle.dsr_ir.specs.declared.updates.Place.TheVariants.{Head, Of}
use Rattle.dsr_ir.specs.declared.updates.Symbol.{Symbol}
use Rattle.dsr_ir.specs.declared.updates.Symbol.TheVariants.{Set, Rel}
use Rattle.dsr_ir.specs.declared.updates.Update.{Update}
use Rattle.dsr_ir.specs.declared.updates.Write.{Write}
use Rattle.dsr_meaning.specs.Counting.{IsIn}
use Rattle.dsr_meaning.specs.Instances.{pool_of_premise}
use Rattle.dsr_meaning.specs.Typed.{pool_of_var}
use Rattle.dsr_update_theory.specs.Changes.{Change, reads_touched}
use Rattle.dsr_update_theory.specs.Effects.{InTable, MayChange, tag_at_w}
use Rattle.dsr_update_theory.specs.Touching.{IsBlockedAtW, IsKeptApartBy, IsTouchedAtF, IsTouchedAtW}
use Rattle.dsr_update_theory.specs.Values.{NoneReference, Number}
use Rattle.dsr_update_theory.specs.declared.effects.Direction.{Direction}
use Rattle.dsr_update_theory.specs.declared.effects.Direction.TheVariants.{Gain}
use Rattle.dsr_update_theory.specs.declared.effects.Tag.{Tag}
use Rattle.dsr_update_theory.specs.declared.effects.Tag.TheVariants.{Written, Entry}

-- ---- tables

-- what an instance changes is at the written record, with the rule's tag, or at the fresh one
at_record : (c : Change) (rule : Rule) (d : Direction) (t : Tag) → MayChange c rule d t → (IsTouchedAtW c rule × (t ≡ tag_at_w c rule d rule.inc)) ⊎ IsTouchedAtF c rule
at_record c rule d t (MayChange.gain_at_w at open_there) = inl (at, refl)
at_record c rule d t (MayChange.loss_at_w at stays) = inl (at, refl)
at_record c rule d t (MayChange.gain_at_f at open_there) = inr at
at_record c rule d t (MayChange.loss_at_f at stays) = inr at

-- one relation alone changes, with one tag
abbrev pub OnlyIn : ℕ → Tag → Symbol → Tag → Type 0
OnlyIn rel tag (Set set) t = ⊥
OnlyIn rel tag (Rel r) t = (r ≡ rel) × (t ≡ tag)

-- where no rule changes more, nor does what follows
only_table : (c : Change) (rel : ℕ) (tag : Tag) → ((rule : Rule) (d : Direction) (t : Tag) → IsIn rule c.spec.rules → MayChange c rule d t → OnlyIn rel tag (symbol_of rule.inc) t) → (d : Direction) (s : Symbol) (t : Tag) → InTable c d s t → OnlyIn rel tag s t
only_table c rel tag only d s t (InTable.touched rule x u among may) = only rule x u among may
only_table c rel tag only d s t (InTable.passed rule premise x u among is there out) = absurd (only_table c rel tag only x (Set premise) u there)
only_table c rel tag only d s t (InTable.swapped set below x u is there) = absurd (only_table c rel tag only x (Set below) u there)

-- a rule that isn't touched changes nothing
untouched : (c : Change) (rel : ℕ) (tag : Tag) (rule item : Rule) (d : Direction) (t : Tag) → c.update.fresh ≡ None → (IsTouchedAtW c item → ⊥) → rule ≡ item → MayChange c rule d t → OnlyIn rel tag (symbol_of rule.inc) t
untouched c rel tag rule item d t none never same may =
    elim (at_record c item d t (subst (λ r. MayChange c r d t) same may)) as (λ _. OnlyIn rel tag (symbol_of rule.inc) t) [
      | inl at_w ↦ absurd (never at_w.0)
      | inr at_f ↦ absurd (none-some _ (sym none ∙ at_f.pool))
    ]

-- what a touched one changes is what it gives
touched : (c : Change) (rel : ℕ) (tag : Tag) (rule item : Rule) (d : Direction) (t : Tag) → c.update.fresh ≡ None → symbol_of item.inc ≡ Rel rel → tag_at_w c item d item.inc ≡ tag → rule ≡ item → MayChange c rule d t → OnlyIn rel tag (symbol_of rule.inc) t
touched c rel tag rule item d t none symbol tag_is same may =
    elim (at_record c item d t (subst (λ r. MayChange c r d t) same may)) as (λ _. OnlyIn rel tag (symbol_of rule.inc) t) [
      | inl at_w ↦ subst (λ s. OnlyIn rel tag s t) (sym (ap (λ (r : Rule). symbol_of r.inc) same ∙ symbol)) (refl, at_w.1 ∙ tag_is)
      | inr at_f ↦ absurd (none-some _ (sym none ∙ at_f.pool))
    ]

pub one_zero : ◌≡◌ {A = ℕ} 1 0 → ⊥
one_zero same = omega (arith, same)

-- ---- v.value := 0

abbrev pub assign : Var → Update
assign v = updating 6 (Of v) (plain 1 0 (Num 0)) None

abbrev pub assigning : List (ℕ × ℕ) → Quant → Var → Change
assigning exclusive quant v = record { spec = sharing; exclusive = exclusive; quant = quant; goal = SetValue; update = assign v }

module _ (exclusive : List (ℕ × ℕ)) (quant : Quant) (v : Var) (node : pool_of_var base quant v ≡ Some 1) where
  abbrev c : Change
  c = assigning exclusive quant v

  -- a node is written, so no rule of the head is touched
  not_of_head : (item : Rule) → item.premise ≡ None → IsTouchedAtW c item → ⊥
  not_of_head item none at = one_zero (same_Some 1 0 (sym node ∙ (at.pool ∙ ap (λ o. Some (pool_of_premise base o)) none)))

  by_rule : (rule : Rule) (d : Direction) (t : Tag) → IsIn rule rules → MayChange c rule d t → OnlyIn 2 Written (symbol_of rule.inc) t
  by_rule rule d t (inl is) = untouched c 2 Written rule (leading 0 0) d t refl (not_of_head (leading 0 0) refl) is
  by_rule rule d t (inr (inl is)) = untouched c 2 Written rule (leading 1 1) d t refl (not_of_head (leading 1 1) refl) is
  by_rule rule d t (inr (inr (inl is))) = untouched c 2 Written rule (leading 2 0) d t refl (not_of_head (leading 2 0) refl) is
  by_rule rule d t (inr (inr (inr (inl is)))) = untouched c 2 Written rule (leading 2 1) d t refl (not_of_head (leading 2 1) refl) is
  by_rule rule d t (inr (inr (inr (inr (inl is))))) = untouched c 2 Written rule (pairing 0 0) d t refl (not_of_head (pairing 0 0) refl) is
  by_rule rule d t (inr (inr (inr (inr (inr (inl is)))))) = untouched c 2 Written rule (pairing 1 1) d t refl (not_of_head (pairing 1 1) refl) is
  by_rule rule d t (inr (inr (inr (inr (inr (inr (inl is))))))) = touched c 2 Written rule valuing d t refl refl refl is
  by_rule rule d t (inr (inr (inr (inr (inr (inr (inr (inl is)))))))) = untouched c 2 Written rule marking d t refl (not_of_head marking refl) is
  by_rule rule d t (inr (inr (inr (inr (inr (inr (inr (inr more)))))))) = absurd more

  -- V alone changes, at the written record
  pub only_values : (d : Direction) (s : Symbol) (t : Tag) → InTable c d s t → OnlyIn 2 Written s t
  only_values = only_table c 2 Written by_rule

  -- it leaves 0, which isn't none
  not_none : IsBlockedAtW c valuing false → ⊥
  not_none (inl (guard, among, sure)) = among
  not_none (inr left) = let same : Number 0 ≡ NoneReference = (left (Number 0)).0 refl in absurd cc

  -- it may be gained there, unless the record is known to be outside of C
  pub gains_value : (IsKeptApartBy c (Of v) (Some 2) → ⊥) → InTable c Gain (Rel 2) Written
  gains_value inside = InTable.touched valuing Gain Written (inr (inr (inr (inr (inr (inr (inl refl))))))) (MayChange.gain_at_w (record { pool = node; reads = refl; apart = inside }) not_none)

-- ---- head.marks[x] := 1

abbrev pub mark_write : Write
mark_write = record { path = entry_path; pick = Num 1; wants = None }

abbrev pub mark : Update
mark = record { rule = 7; place = Head; at = SlotOf First; writes = mark_write ∷ []; fresh = None }

module _ (exclusive : List (ℕ × ℕ)) where
  abbrev pub entering : Change
  entering = record { spec = sharing; exclusive = exclusive; quant = Each 0; goal = SetValue; update = mark }

  -- the other rules of the head read other fields
  not_read : (item : Rule) → reads_touched entering item ≡ false → IsTouchedAtW entering item → ⊥
  not_read item unread at = false≢true (sym unread ∙ at.reads)

  not_of_node : IsTouchedAtW entering valuing → ⊥
  not_of_node at = one_zero (sym (same_Some 0 1 at.pool))

  by_entry : (rule : Rule) (d : Direction) (t : Tag) → IsIn rule rules → MayChange entering rule d t → OnlyIn 3 Entry (symbol_of rule.inc) t
  by_entry rule d t (inl is) = untouched entering 3 Entry rule (leading 0 0) d t refl (not_read (leading 0 0) refl) is
  by_entry rule d t (inr (inl is)) = untouched entering 3 Entry rule (leading 1 1) d t refl (not_read (leading 1 1) refl) is
  by_entry rule d t (inr (inr (inl is))) = untouched entering 3 Entry rule (leading 2 0) d t refl (not_read (leading 2 0) refl) is
  by_entry rule d t (inr (inr (inr (inl is)))) = untouched entering 3 Entry rule (leading 2 1) d t refl (not_read (leading 2 1) refl) is
  by_entry rule d t (inr (inr (inr (inr (inl is))))) = untouched entering 3 Entry rule (pairing 0 0) d t refl (not_read (pairing 0 0) refl) is
  by_entry rule d t (inr (inr (inr (inr (inr (inl is)))))) = untouched entering 3 Entry rule (pairing 1 1) d t refl (not_read (pairing 1 1) refl) is
  by_entry rule d t (inr (inr (inr (inr (inr (inr (inl is))))))) = untouched entering 3 Entry rule valuing d t refl not_of_node is
  by_entry rule d t (inr (inr (inr (inr (inr (inr (inr (inl is)))))))) = touched entering 3 Entry rule marking d t refl refl refl is
  by_entry rule d t (inr (inr (inr (inr (inr (inr (inr (inr more)))))))) = absurd more

  -- M alone changes, at the written entry
  pub only_marks : (d : Direction) (s : Symbol) (t : Tag) → InTable entering d s t → OnlyIn 3 Entry s t
  only_marks = only_table entering 3 Entry by_entry

  no_reference : IsBlockedAtW entering marking false → ⊥
  no_reference (inl (guard, among, sure)) = among
  no_reference (inr left) = let same : Number 1 ≡ NoneReference = (left (Number 1)).0 refl in absurd cc

  pub gains_mark : InTable entering Gain (Rel 3) Entry
  gains_mark = InTable.touched marking Gain Entry (inr (inr (inr (inr (inr (inr (inr (inl refl)))))))) (MayChange.gain_at_w (record { pool = refl; reads = refl; apart = λ none. none }) no_reference)
