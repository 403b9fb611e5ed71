-- Of the updates of a template that take facts away each is by a rule of its own.
use Rattle.std.proofs.Common.{◌≡◌, ◌≤◌, ◌∙◌, ℕ, zero, suc, true, false, List, [], ◌∷◌, ◌++◌, map, Option, None, Some, slice_get, inl, inr, refl, sym, ap, subst, arith}
use Rattle.std.proofs.lemmas.Option.{same_Some}
use Rattle.std.specs.List.{cons_option}
use Rattle.std.specs.Prelude.{option_map, if◌then◌else◌}
use Rattle.dsr_repair_theory.specs.Choices.{TakesAway}
use Rattle.dsr_repair_laws.proofs.DueForms.{IsDueForm, goal_same, of_compensated}
use Rattle.dsr_repair_laws.proofs.TakenGoals.{adding_takes_none}
use Rattle.dsr_ir.specs.Rules.{gives}
use Rattle.dsr_ir.specs.declared.constraints.Literal.{Literal}
use Rattle.dsr_ir.specs.declared.constraints.Var.{Var}
use Rattle.dsr_ir.specs.declared.declarations.Spec.{Spec}
use Rattle.dsr_ir.specs.declared.declarations.Structures.{Structures}
use Rattle.dsr_ir.specs.declared.rules.Rule.{Rule}
use Rattle.dsr_ir.specs.declared.tuples.Binding.{Binding}
use Rattle.dsr_ir.specs.declared.tuples.Fact.{Fact}
use Rattle.dsr_ir.specs.declared.updates.Goal.{Goal}
use Rattle.dsr_ir.specs.declared.updates.Goal.TheVariants as goals
use Rattle.dsr_ir.specs.declared.updates.Symbol.{Symbol}
use Rattle.dsr_ir.specs.declared.updates.Template.{Template}
use Rattle.dsr_ir.specs.declared.updates.Update.{Update}
use Rattle.dsr_graph_theory.specs.Sides.{atom_symbol}
use Rattle.dsr_meaning.specs.Lists.{each_at}
use Rattle.dsr_update_theory.specs.Options.{options}
use Rattle.dsr_update_theory.specs.Givers.{givers}
use Rattle.dsr_update_theory.specs.Templates.{item_or_last, removal_updates, removing}

-- ---- rules that rise

-- the numbers rise from one on
abbrev AreRisingFrom : ℕ → List (ℕ × Rule) → Type 0
AreRisingFrom n [] = Unit {0}
AreRisingFrom n (r ∷ rules) = (n ≤ r.0) × AreRisingFrom (suc r.0) rules

-- so do the updates' rules
abbrev AreByRising : ℕ → List Update → Type 0
AreByRising n [] = Unit {0}
AreByRising n (u ∷ updates) = (n ≤ u.rule) × AreByRising (suc u.rule) updates

lower : (n m : ℕ) (us : List Update) → n ≤ m → AreByRising m us → AreByRising n us
lower n m [] less rise = tt
lower n m (u ∷ us) less rise = let from = rise.0 in (omega (arith, less, from), rise.1)

at_least : (n : ℕ) (us : List Update) (k : ℕ) (u : Update) → AreByRising n us → slice_get us k ≡ Some u → n ≤ u.rule
at_least n [] k u rise is = absurd cc
at_least n (v ∷ us) zero u rise is = subst (λ (x : Update). n ≤ x.rule) (same_Some v u is) rise.0
at_least n (v ∷ us) (suc k) u rise is =
    let from = rise.0 in
    let later = at_least (suc v.rule) us k u rise.1 is in
    omega (arith, from, later)

one_place :
    (n : ℕ) (us : List Update) (j k : ℕ) (u w : Update) → AreByRising n us → slice_get us j ≡ Some u → slice_get us k ≡ Some w
    → u.rule ≡ w.rule → j ≡ k
one_place n [] j k u w rise one two same = absurd cc
one_place n (v ∷ us) zero zero u w rise one two same = refl
one_place n (v ∷ us) zero (suc k) u w rise one two same =
    let later = at_least (suc v.rule) us k w rise.1 two in
    let first : v.rule ≡ u.rule = ap (λ (x : Update). x.rule) (same_Some v u one) in
    absurd (omega (arith, later, first, same))
one_place n (v ∷ us) (suc j) zero u w rise one two same =
    let later = at_least (suc v.rule) us j u rise.1 one in
    let first : v.rule ≡ w.rule = ap (λ (x : Update). x.rule) (same_Some v w two) in
    absurd (omega (arith, later, first, same))
one_place n (v ∷ us) (suc j) (suc k) u w rise one two same = ap suc (one_place (suc v.rule) us j k u w rise.1 one two same)

givers_rise : (spec : Spec) (symbol : Symbol) (n : ℕ) (rules : List Rule) → AreRisingFrom n (each_at (λ k rule. if gives symbol rule.inc then (k, rule) ∷ [] else []) n rules)
givers_rise spec symbol n [] = tt
givers_rise spec symbol n (rule ∷ rules) =
    let rest = givers_rise spec symbol (suc n) rules in
    elim (gives symbol rule.inc) as (λ b. AreRisingFrom n ((if b then (n, rule) ∷ [] else []) ++ each_at (λ k rule. if gives symbol rule.inc then (k, rule) ∷ [] else []) (suc n) rules)) [
      | true ↦ (omega arith, rest)
      | false ↦ from_lower n (each_at (λ k rule. if gives symbol rule.inc then (k, rule) ∷ [] else []) (suc n) rules) rest
    ] where
      from_lower : (m : ℕ) (rs : List (ℕ × Rule)) → AreRisingFrom (suc m) rs → AreRisingFrom m rs
      from_lower m [] rise = tt
      from_lower m (r ∷ rs) rise = let from = rise.0 in (omega (arith, from), rise.1)

removals_rise : (base : Structures) (v : Option Var) (j n : ℕ) (rules : List (ℕ × Rule)) → AreRisingFrom n rules → AreByRising n (removal_updates base v j rules)
removals_rise base v j n [] rise = tt
removals_rise base v j n (r ∷ rules) rise =
    let from = rise.0 in
    let rest = removals_rise base v j (suc r.0) rules rise.1 in
    elim (item_or_last (options base r.1) j) as (λ o. AreByRising n (cons_option (option_map (removing v r.0 r.1) o) (removal_updates base v j rules))) [
      | None ↦ lower n (suc r.0) (removal_updates base v j rules) (omega (arith, from)) rest
      | Some write ↦ (from, rest)
    ]

-- so of those of a removal one alone is by a rule
removal_once :
    (spec : Spec) (symbol : Symbol) (v : Option Var) (number : ℕ) (updates : List Update) → updates ≡ removal_updates spec.base v number (givers spec symbol)
    → (j k : ℕ) (u w : Update) → slice_get updates j ≡ Some u → slice_get updates k ≡ Some w → u.rule ≡ w.rule → j ≡ k
removal_once spec symbol v number updates are j k u w one two same =
    one_place 0 updates j k u w
    (subst (AreByRising 0) (sym are) (removals_rise spec.base v number 0 (givers spec symbol) (givers_rise spec symbol 0 spec.rules)))
    one two same

-- of updates that take facts away one alone is by a rule
abbrev pub TakesOnce : Template → Type 0
TakesOnce t =
    (j k : ℕ) (u w : Update) → TakesAway t.goal j → TakesAway t.goal k → slice_get t.updates j ≡ Some u → slice_get t.updates k ≡ Some w
    → u.rule ≡ w.rule → j ≡ k

-- and so behind an update that supplies
later_once :
    (spec : Spec) (symbol : Symbol) (v : Option Var) (number : ℕ) (first : Update) (rest : List Update) → rest ≡ removal_updates spec.base v number (givers spec symbol)
    → (j k : ℕ) (u w : Update) → TakesAway goals.ExactlyOne j → TakesAway goals.ExactlyOne k
    → slice_get (first ∷ rest) j ≡ Some u → slice_get (first ∷ rest) k ≡ Some w → u.rule ≡ w.rule → j ≡ k
later_once spec symbol v number first rest are zero k u w one two at at' same = absurd one
later_once spec symbol v number first rest are (suc j) zero u w one two at at' same = absurd two
later_once spec symbol v number first rest are (suc j) (suc k) u w one two at at' same =
    ap suc (removal_once spec symbol v number rest are j k u w at at' same)

module _ (is_fact : Fact → Type 0) (spec : Spec) (b : Binding) (its : Literal) (template : Template) (due : IsDueForm is_fact spec b its template) where
  pub taken_once : TakesOnce template
  taken_once j k u w one two at at' same =
      let goal = goal_same template due.raw due.more due.is in
      elim due.form as (λ _. j ≡ k) [
        | inl adds ↦ absurd (adding_takes_none due.raw.goal j adds.goal (subst (λ g. TakesAway g j) (sym goal) one))
        | inr (inl removes) ↦
            let first = of_compensated template due.raw due.more due.raw.updates j u due.is refl at in
            let second = of_compensated template due.raw due.more due.raw.updates k w due.is refl at' in
            removal_once spec (atom_symbol its.atom) _ removes.removal.number due.raw.updates removes.removal.are j k first.bare second.bare first.there second.there
            (sym (ap (λ (x : Update). x.rule) first.is) ∙ (same ∙ ap (λ (x : Update). x.rule) second.is))
        | inr (inr both) ↦
            let exactly : template.goal ≡ goals.ExactlyOne = sym goal ∙ both.goal in
            let first = of_compensated template due.raw due.more (both.update ∷ both.rest) j u due.is both.are at in
            let second = of_compensated template due.raw due.more (both.update ∷ both.rest) k w due.is both.are at' in
            later_once spec (atom_symbol its.atom) _ both.removal.number both.update both.rest both.removal.are j k first.bare second.bare
            (subst (λ g. TakesAway g j) exactly one) (subst (λ g. TakesAway g k) exactly two) first.there second.there
            (sym (ap (λ (x : Update). x.rule) first.is) ∙ (same ∙ ap (λ (x : Update). x.rule) second.is))
      ]
