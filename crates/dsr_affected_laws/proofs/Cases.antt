-- The value of a node is written: B and V are affected, A and N aren't.
use Rattle.std.proofs.Common.{◌≡◌, ◌⊎◌, ◌∙◌, ℕ, zero, suc, nat_eq, Bool, true, false, List, [], ◌∷◌, Option, None, Some, slice_get, inl, inr, refl, sym, subst, arith}
use Rattle.std.specs.Prelude.{IsTrue}
use Rattle.std.proofs.lemmas.Bool.{false≢true}
use Rattle.std.proofs.lemmas.Option.{same_Some}
use Rattle.dsr_affected_laws.specs.Affected.{HasSymbol, IsAffected, IsAffectedConstraint, PassesAffected, atom_symbols, quant_symbols, reads_any}
use Rattle.dsr_affected_laws.specs.Affected.HasSymbol.{of_literal, quantified}
use Rattle.dsr_affected_laws.specs.Affected.IsAffected.{read}
use Rattle.dsr_affected_laws.specs.Differing.{AreAlikeBut, CoversAffected, IsCellAt}
use Rattle.dsr_affected_laws.proofs.Least.{passed}
use Rattle.dsr_affected_laws.proofs.Writing.{one_differs}
use Rattle.dsr_affected_laws.specs.Cases.{EditCase}
use Rattle.dsr_step_laws.proofs.Given.{base, constraint_of, example, from_head, image, layout, marked, of_node, rules, slot}
use Rattle.dsr_step_laws.proofs.Putting.{bytes_of_image, puts_byte_3}
use Rattle.dsr_step_laws.proofs.Shown.{example_0}
use Rattle.dsr_step_laws.proofs.Stepping.{valued}
use Rattle.dsr_ir.specs.Rules.{symbol_of}
use Rattle.dsr_ir.specs.declared.constraints.Atom.{Atom}
use Rattle.dsr_ir.specs.declared.constraints.Conj.{Conj}
use Rattle.dsr_ir.specs.declared.constraints.Constraint.{Constraint}
use Rattle.dsr_ir.specs.declared.constraints.Literal.{Literal}
use Rattle.dsr_ir.specs.declared.constraints.Quant.{Quant}
use Rattle.dsr_ir.specs.declared.declarations.FieldRef.{FieldRef}
use Rattle.dsr_ir.specs.declared.rules.Rule.{Rule}
use Rattle.dsr_ir.specs.declared.updates.Symbol.{Symbol}
use Rattle.dsr_ir.specs.declared.updates.Symbol.TheVariants.{Set, Rel}
use Rattle.dsr_meaning.specs.Counting.{IsIn}
use Rattle.dsr_meaning.specs.Lists.{any_of}
use Rattle.dsr_meaning.specs.Models.{base_of}
use Rattle.dsr_meaning.specs.Writes.{AreBytes}
use Rattle.dsr_meaning.proofs.Items.{none_of}
use Rattle.dsr_step_theory.specs.Resets.{byte_cell}

abbrev value : FieldRef
value = record { structure = 1; field = 1 }

abbrev fields : List FieldRef
fields = value ∷ []

-- ---- the images

bytes_of_valued : AreBytes valued
bytes_of_valued zero = omega arith
bytes_of_valued (suc zero) = omega arith
bytes_of_valued (suc (suc zero)) = omega arith
bytes_of_valued (suc (suc (suc zero))) = omega arith
bytes_of_valued (suc (suc (suc (suc zero)))) = omega arith
bytes_of_valued (suc (suc (suc (suc (suc zero))))) = omega arith
bytes_of_valued (suc (suc (suc (suc (suc (suc zero)))))) = omega arith
bytes_of_valued (suc (suc (suc (suc (suc (suc (suc zero))))))) = omega arith
bytes_of_valued (suc (suc (suc (suc (suc (suc (suc (suc n)))))))) = omega arith

-- byte 3 is the value of slot 0
at_byte_3 : IsCellAt example layout (slot 0) value 0 (byte_cell 3)
at_byte_3 = record {
  declared = refl;
  of_record = inr refl;
  entry = record {
    entry = record { place = _; place_is = refl; index_below = omega arith; within = (omega arith, omega arith) };
    cell_is = refl;
  };
}

alike : AreAlikeBut example layout fields image valued
alike = record {
  image = example_0.applied.image;
  new_bytes = bytes_of_valued;
  differ = one_differs example layout fields (slot 0) value 0 (byte_cell 3) image valued (inl refl) at_byte_3 puts_byte_3.puts.others;
}

-- ---- what is affected

abbrev such : Symbol → Bool
such (Set n) = nat_eq n 1
such (Rel n) = nat_eq n 1

by_rule : (P : Rule → Type 0) → P (from_head 0) → P (from_head 1) → P marked → P (of_node 0 0) → P (of_node 1 1) → (k : ℕ) (rule : Rule) → slice_get rules k ≡ Some rule → P rule
by_rule P a b c d e zero rule is = subst P (same_Some _ _ is) a
by_rule P a b c d e (suc zero) rule is = subst P (same_Some _ _ is) b
by_rule P a b c d e (suc (suc zero)) rule is = subst P (same_Some _ _ is) c
by_rule P a b c d e (suc (suc (suc zero))) rule is = subst P (same_Some _ _ is) d
by_rule P a b c d e (suc (suc (suc (suc zero)))) rule is = subst P (same_Some _ _ is) e
by_rule P a b c d e (suc (suc (suc (suc (suc k))))) rule is = absurd cc

no_premise : (premise : ℕ) (P : Type 0) → ◌≡◌ {A = Option ℕ} None (Some premise) → P
no_premise premise P e = absurd cc

-- the only premise is A, which doesn't pass
not_a : (premise : ℕ) (P : Type 0) → ◌≡◌ {A = Option ℕ} (Some 0) (Some premise) → IsTrue (nat_eq premise 1) → P
not_a premise P e passes = absurd (false≢true (subst (λ n. nat_eq n 1 ≡ true) (sym (same_Some 0 premise e)) passes))

no_base : (set b : ℕ) (P : Type 0) → base_of example set ≡ Some b → P
no_base zero b P e = absurd cc
no_base (suc zero) b P e = absurd cc
no_base (suc (suc set)) b P e = absurd cc

closed : PassesAffected example fields such
closed = record {
  read = by_rule (λ rule. IsTrue (reads_any base fields rule) → IsTrue (such (symbol_of rule.inc))) (λ h. h) (λ h. h) (λ _. refl) (λ h. h) (λ _. refl);
  handed_on = λ k rule premise is. by_rule (λ r. r.premise ≡ Some premise → IsTrue (such (Set premise)) → IsTrue (such (symbol_of r.inc)))
      (λ e _. no_premise premise _ e) (λ e _. no_premise premise _ e) (not_a premise _) (not_a premise _) (not_a premise _) k rule is;
  swapped = λ set b is _. no_base set b _ is;
}

free : (symbol : Symbol) → such symbol ≡ false → IsAffected example fields symbol → ⊥
free symbol fails affected = false≢true (sym fails ∙ passed example fields such closed symbol affected)

-- ---- which constraints

module _ (name : List ℕ) (quant : Quant) (atom : Atom) (negated : Bool) where
  abbrev its : Constraint
  its = constraint_of name quant atom negated

  own : (symbol : Symbol) → HasSymbol its symbol → IsIn symbol (quant_symbols quant) ⊎ IsIn symbol (atom_symbols atom)
  own symbol (quantified i) = inl i
  own symbol (of_literal conj literal (inl e) among i) = inr (in_atom (subst (λ (x : Conj). IsIn literal x.literals) e among)) where
    in_atom : IsIn literal (record { atom = atom; negated = negated; given = false } ∷ []) → IsIn symbol (atom_symbols atom)
    in_atom (inl f) = subst (λ (l : Literal). IsIn symbol (atom_symbols l.atom)) f i
    in_atom (inr none) = absurd none
  own symbol (of_literal conj literal (inr none) among i) = absurd none

  not_affected : any_of such (quant_symbols quant) ≡ false → any_of such (atom_symbols atom) ≡ false → (c : Constraint) → its ≡ c → IsAffectedConstraint example fields c → ⊥
  not_affected one two c is affected = by (subst (IsAffectedConstraint example fields) (sym is) affected) where
    by : IsAffectedConstraint example fields its → ⊥
    by h = free h.symbol (elim (own h.symbol h.has) as (λ _. such h.symbol ≡ false) [
      | inl i ↦ none_of such (quant_symbols quant) one h.symbol i
      | inr i ↦ none_of such (atom_symbols atom) two h.symbol i
    ]) h.affected

covers : CoversAffected example fields (0 ∷ 3 ∷ 8 ∷ [])
covers zero c is = inl (0, refl)
covers (suc zero) c is = inr (not_affected _ _ _ _ refl refl c (same_Some _ _ is))
covers (suc (suc zero)) c is = inr (not_affected _ _ _ _ refl refl c (same_Some _ _ is))
covers (suc (suc (suc zero))) c is = inl (1, refl)
covers (suc (suc (suc (suc zero)))) c is = inr (not_affected _ _ _ _ refl refl c (same_Some _ _ is))
covers (suc (suc (suc (suc (suc zero))))) c is = inr (not_affected _ _ _ _ refl refl c (same_Some _ _ is))
covers (suc (suc (suc (suc (suc (suc zero)))))) c is = inr (not_affected _ _ _ _ refl refl c (same_Some _ _ is))
covers (suc (suc (suc (suc (suc (suc (suc zero))))))) c is = inr (not_affected _ _ _ _ refl refl c (same_Some _ _ is))
covers (suc (suc (suc (suc (suc (suc (suc (suc zero)))))))) c is = inl (2, refl)
covers (suc (suc (suc (suc (suc (suc (suc (suc (suc k))))))))) c is = absurd cc

pub edit_case : EditCase
edit_case = record {
  spec = example;
  layout = layout;
  fields = fields;
  old = image;
  new = valued;
  alike = alike;
  changed = example_0.changed;
  affected = (Set 1, read (Set 1) 2 marked (record { rule_is = refl; gives = refl }) refl);
  free = (Set 0, free (Set 0) refl);
  order = 0 ∷ 3 ∷ 8 ∷ [];
  covers = covers;
  fewer = omega arith;
}
