-- The removals of rules are what the definitions of templates name, and each stands once.
use Rattle.std.proofs.Common.{◌≡◌, ◌+◌, ◌||◌, ℕ, true, false, cond, List, [], ◌∷◌, ◌++◌, map, max, length, nat_eq, fold, Option, refl, ap, sym, subst, ◌∙◌, inl, arith}
use Rattle.std.specs.List.{filter_map, cons_option, range_with_len}
use Rattle.std.proofs.lemmas.List.FromFn.{map-range_with_len_more}
use Rattle.dsr_ir.specs.declared.constraints.Var.{Var}
use Rattle.dsr_ir.specs.declared.declarations.Spec.{Spec}
use Rattle.dsr_ir.specs.declared.declarations.Structures.{Structures}
use Rattle.dsr_ir.specs.declared.rules.Rule.{Rule}
use Rattle.dsr_ir.specs.declared.updates.Goal.{Goal}
use Rattle.dsr_ir.specs.declared.updates.Symbol.{Symbol}
use Rattle.dsr_ir.specs.declared.updates.Template.{Template}
use Rattle.dsr_meaning.specs.Counting.{IsIn}
use Rattle.dsr_update_theory.specs.Givers.{givers}
use Rattle.dsr_update_theory.specs.Options.{options}
use Rattle.dsr_update_theory.specs.Templates as defined
use Rattle.dsr_update_theory.specs.Templates.{AreOnce}
use Rattle.dsr_goal.specs.declared.removing.Removal.{Removal}
use Rattle.dsr_goal.specs.Removing.{removal_by, update_at, template_at, most_options, lacks_option, templates_of}
use Rattle.dsr_goal.proofs.Once.{once_again, once_first}

module _ (base : Structures) (v : Option Var) where
  abbrev removal_of : ℕ × Rule → Removal
  removal_of r = removal_by base v r.0 r.1

  updates_same : (j : ℕ) (rules : List (ℕ × Rule)) → filter_map (update_at j) (map removal_of rules) ≡ defined.removal_updates base v j rules
  updates_same j [] = refl
  updates_same j (r ∷ rest) = ap (cons_option (update_at j (removal_of r))) (updates_same j rest)

  lacks_same : (rules : List (ℕ × Rule)) → lacks_option (map removal_of rules) ≡ defined.lacks_option base rules
  lacks_same [] = refl
  lacks_same (r ∷ rest) = ap (λ b. nat_eq (length (options base r.1)) 0 || b) (lacks_same rest)

  most_from : (n : ℕ) (rules : List (ℕ × Rule)) → fold (λ most r. max most (length r.options)) n (map removal_of rules) ≡ max n (defined.most_options base rules)
  most_from n [] = omega arith
  most_from n (r ∷ rest) =
      let others = most_from (max n (length (options base r.1))) rest in
      others ∙ omega arith

  most_same : (rules : List (ℕ × Rule)) → most_options (map removal_of rules) ≡ defined.most_options base rules
  most_same rules = most_from 0 rules ∙ omega arith

  templates_same : (goal : Goal) (rules : List (ℕ × Rule)) → templates_of goal (map removal_of rules) ≡ cond (defined.lacks_option base rules) [] (map (λ j. record { goal = goal; updates = defined.removal_updates base v j rules }) (range_with_len 0 (defined.most_options base rules)))
  templates_same goal rules = λ i. cond (lacks_same rules i) [] (map (λ j. record { goal = goal; updates = updates_same j rules i }) (range_with_len 0 (most_same rules i)))

mapped : {R : Type 0} (base : Structures) (v : Option Var) (h : R → ℕ × Rule) (rs : List R) → map (λ r. removal_by base v (h r).0 (h r).1) rs ≡ map (removal_of base v) (map h rs)
mapped base v h [] = refl
mapped base v h (r ∷ rs) = ap (λ xs. removal_by base v (h r).0 (h r).1 ∷ xs) (mapped base v h rs)

-- the templates of all rules of a symbol, from a list of them in another form
pub removals_same : {R : Type 0} (h : R → ℕ × Rule) (spec : Spec) (symbol : Symbol) (goal : Goal) (v : Option Var) (rules : List R) (removals : List Removal) → map h rules ≡ givers spec symbol → removals ≡ map (λ r. removal_by spec.base v (h r).0 (h r).1) rules → templates_of goal removals ≡ defined.all_removals spec symbol goal v
removals_same h spec symbol goal v rules removals found is =
    ap (templates_of goal) (is ∙ mapped spec.base v h rules ∙ ap (map (removal_of spec.base v)) found)
    ∙ templates_same spec.base v goal (givers spec symbol)

-- ---- each once

module _ {T : Type 0} (f : ℕ → T) where
  more : (i : ℕ) (x : T) → x ≡ f i → map f (range_with_len 0 i) ++ x ∷ [] ≡ map f (range_with_len 0 (i + 1))
  more i x e = ap (λ y. map f (range_with_len 0 i) ++ y ∷ []) e ∙ sym (map-range_with_len_more f 0 i i (omega arith))

  -- the next one stands there
  pub seen_more : (i : ℕ) (x : T) (ys : List T) → x ≡ f i → IsIn x ys → AreOnce [] (map f (range_with_len 0 i)) ys → AreOnce [] (map f (range_with_len 0 (i + 1))) ys
  seen_more i x ys e found once = subst (λ xs. AreOnce [] xs ys) (more i x e) (once_again x once (inl found))

  -- or is new
  pub new_more : (i : ℕ) (x : T) (ys : List T) → x ≡ f i → (IsIn x ys → ⊥) → AreOnce [] (map f (range_with_len 0 i)) ys → AreOnce [] (map f (range_with_len 0 (i + 1))) (ys ++ x ∷ [])
  new_more i x ys e absent once = subst (λ xs. AreOnce [] xs (ys ++ x ∷ [])) (more i x e) (once_first x once absent (λ h. h))

pub none_once : (goal : Goal) (removals : List Removal) (ts : List Template) → lacks_option removals ≡ true → ts ≡ [] → AreOnce [] (templates_of goal removals) ts
none_once goal removals ts lacks none =
    subst (λ b. AreOnce [] (cond b [] (map (template_at goal removals) (range_with_len 0 (most_options removals)))) ts) (sym lacks)
    (subst (AreOnce [] []) (sym none) AreOnce.done)

pub all_once : (goal : Goal) (removals : List Removal) (n : ℕ) (ts : List Template) → lacks_option removals ≡ false → n ≡ most_options removals → AreOnce [] (map (template_at goal removals) (range_with_len 0 n)) ts → AreOnce [] (templates_of goal removals) ts
all_once goal removals n ts has most once =
    subst (λ b. AreOnce [] (cond b [] (map (template_at goal removals) (range_with_len 0 (most_options removals)))) ts) (sym has)
    (subst (λ m. AreOnce [] (map (template_at goal removals) (range_with_len 0 m)) ts) most once)
