-- The instances of a chain fire, and their lines.
use Rattle.std.proofs.Common.{◌≡◌, ◌<◌, ◌≤◌, ◌+◌, ◌∙◌, ◌↔◌, ◌++◌, ℕ, List, [], ◌∷◌, None, Some, Result, Ok, Err, length, option_map, slice_get, get_or, take, inl, inr, sym, ap, subst, arith, append_assoc}
use Rattle.std.proofs.lemmas.Grind.{common_steps}
use Rattle.std.proofs.lemmas.List.{reverse-append, take_more}
use Rattle.std.proofs.lemmas.Option.{get_or_from_slice_get, slice_get_within}
use Rattle.std.specs.Prelude.{OnOk, reverse}
use Rattle.dsr_chain_laws.specs.Shortest.{FirstChain}
use Rattle.dsr_chain_laws.specs.Shortest.FirstChain.{begin, follow}
use Rattle.dsr_command_why.specs.Whys.{AreLines, GivesSome, PushesLine, instance_line}
use Rattle.dsr_command_why.specs.Whys.AreLines.{more}
use Rattle.dsr_ir.specs.declared.declarations.Spec.{Spec}
use Rattle.dsr_ir.specs.declared.layouts.Layout.{Layout}
use Rattle.dsr_ir.specs.declared.tuples.Fact.{Fact}
use Rattle.dsr_ir.specs.declared.tuples.Instance.{Instance}
use Rattle.dsr_ir.specs.declared.rules.Rule.{Rule}
use Rattle.dsr_meaning.proofs.Firing.{some_same}
use Rattle.dsr_meaning.proofs.Items.{in_left, in_right, item_at}
use Rattle.dsr_meaning.specs.Counting.{IsIn}
use Rattle.dsr_meaning.specs.Instances.{Gives}
use Rattle.dsr_meaning.specs.Legal.{IsLegalLayout}
use Rattle.dsr_resolve.proofs.GivenFacts.{same_fact}
use Rattle.dsr_resolve.proofs.RuleReads.{can_read}
use Rattle.dsr_resolve.specs.Laws.{CanRead}
use Rattle.dsr_resolve.specs.Rules.{AreResolved, fact_in, resolved_of}
use Rattle.dsr_resolve.specs.declared.resolved.Gives.TheVariants as gives
use Rattle.dsr_resolve.specs.declared.resolved.Resolved.{Resolved}
use Rattle.dsr_step_theory.specs.Images.{IsImageOf}

-- what a look-up shows behind the last rule
abbrev pub no_rule : Resolved
no_rule = record { rule = 0; premise = None; entries = 0; conditions = []; gives = gives.Own 0 }

in_reverse : {A : Type 0} (x : A) (xs : List A) → IsIn x xs → IsIn x (reverse xs)
in_reverse x [] is = absurd is
in_reverse x (y ∷ ys) is = subst (IsIn x) (sym (reverse-append (y ∷ []) ys)) (elim is [
  | inl here ↦ in_right x (reverse ys) (y ∷ []) (inl here)
  | inr behind ↦ in_left x (reverse ys) (y ∷ []) (in_reverse x ys behind)
])

-- a text that is put piece by piece
pub line_put :
    {A E : Type 0} (r : Result A E) (old one two three new place word fact last : List ℕ) → one ≡ old ++ place → two ≡ one ++ word → three ≡ two ++ fact
    → OnOk r (new ≡ three ++ last) → OnOk r (new ≡ old ++ (((place ++ word) ++ fact) ++ last))
line_put (Err e) old one two three new place word fact last a b c put = tt
line_put (Ok x) old one two three new place word fact last a b c put =
    put ∙ (ap (λ t. t ++ last) (c ∙ ap (λ t. t ++ fact) (b ∙ ap (λ t. t ++ word) a))
    ∙ (ap (λ t. (t ++ fact) ++ last) (append_assoc old place word)
    ∙ (ap (λ t. t ++ last) (append_assoc old (place ++ word) fact) ∙ append_assoc old ((place ++ word) ++ fact) last)))

module _ (spec : Spec) (layout : Layout) (bytes : List ℕ) where
  all_give : (js : List Instance) (fact : Fact) → FirstChain spec layout bytes js fact → (i : Instance) → IsIn i js → GivesSome spec layout bytes i
  all_give _ fact (begin j rule head gives end) i is = elim is [
    | inl here ↦ subst (GivesSome spec layout bytes) (sym here) (record { rule = rule; fact = fact; gives = gives })
    | inr none ↦ absurd none
  ]
  all_give _ fact (follow {is = js} j rule set before premise gives end) i is = elim is [
    | inl here ↦ subst (GivesSome spec layout bytes) (sym here) (record { rule = rule; fact = fact; gives = gives })
    | inr behind ↦ all_give js _ before i behind
  ]

  -- each instance of a chain that stands in order fires
  pub gives_some : (chain : List Instance) (fact : Fact) → FirstChain spec layout bytes (reverse chain) fact → (k : ℕ) (i : Instance) → slice_get chain k ≡ Some i → GivesSome spec layout bytes i
  gives_some chain fact first k i at = all_give (reverse chain) fact first i (in_reverse i chain (item_at chain k i at))

  module _ (image : IsImageOf spec layout bytes) (legal : IsLegalLayout layout) (rules : List Resolved) (resolved : AreResolved spec layout rules) (i : Instance) (some : GivesSome spec layout bytes i) (d : Resolved) where
    stands : slice_get rules i.rule ≡ Some (resolved_of spec layout i.rule some.rule)
    stands = resolved i.rule ∙ ap (option_map (resolved_of spec layout i.rule)) some.gives.is_instance.rule_is

    pub rule_within : i.rule < length rules
    rule_within = slice_get_within rules i.rule (resolved_of spec layout i.rule some.rule) stands

    pub declared_within : i.rule < length spec.rules
    declared_within = slice_get_within spec.rules i.rule some.rule some.gives.is_instance.rule_is

    its : get_or rules i.rule d ≡ resolved_of spec layout i.rule some.rule
    its = get_or_from_slice_get rules i.rule (resolved_of spec layout i.rule some.rule) d stands

    pub reads : CanRead bytes (get_or rules i.rule d) i.elem.slot i.index
    reads = subst (λ r. CanRead bytes r i.elem.slot i.index) (sym its) (can_read spec bytes layout image.layout_is image.typed legal i some.rule some.gives.is_instance)

    gives_same : (fact : Fact) → (fact_in bytes (get_or rules i.rule d) i.elem i.index ≡ Some fact) ↔ Gives spec layout bytes i some.rule fact
    gives_same fact = subst (λ r. (fact_in bytes r i.elem i.index ≡ Some fact) ↔ Gives spec layout bytes i some.rule fact) (sym its) (same_fact spec bytes layout image.layout_is image.typed legal i some.rule some.gives.is_instance fact)

    pub never_none : fact_in bytes (get_or rules i.rule d) i.elem i.index ≡ None → ⊥
    never_none none = let both : None ≡ Some some.fact = sym none ∙ (gives_same some.fact).1 some.gives in absurd cc

    pub given : (fact : Fact) → fact_in bytes (get_or rules i.rule d) i.elem i.index ≡ Some fact → Gives spec layout bytes i some.rule fact
    given fact is = (gives_same fact).0 is

  -- one line more
  pub line_more :
      (chain : List Instance) (k : ℕ) (d : Instance) (old new : List ℕ) → k < length chain
      → AreLines spec layout bytes (take k chain) old → PushesLine spec layout bytes (k + 1) (get_or chain k d) old new
      → AreLines spec layout bytes (take (k + 1) chain) new
  line_more chain k d old new below lines pushes =
      let i = get_or chain k d in
      let long : length (take k chain) ≡ k = take_long chain k below in
      let text : new ≡ old ++ instance_line spec (length (take k chain) + 1) i pushes.some.rule.span pushes.some.fact =
      pushes.new_is ∙ ap (λ n. old ++ instance_line spec (n + 1) i pushes.some.rule.span pushes.some.fact) (sym long) in
      subst (λ xs. AreLines spec layout bytes xs new) (sym (take_next chain k d below))
      (subst (AreLines spec layout bytes (take k chain ++ i ∷ [])) (sym text) (more i pushes.some.rule pushes.some.fact lines pushes.some.gives))
    where
      take_long : (xs : List Instance) (n : ℕ) → n < length xs → length (take n xs) ≡ n
      take_long xs n h = grind (arith, common_steps)

      take_next : (xs : List Instance) (n : ℕ) (x : Instance) → n < length xs → take (n + 1) xs ≡ take n xs ++ get_or xs n x ∷ []
      take_next xs n x h = grind (arith, common_steps, take_more)

  -- the line of an instance, with the fact that its rule gives, is put
  pub line_pushed :
      {A E : Type 0} (r : Result A E) (number : ℕ) (i : Instance) (some : GivesSome spec layout bytes i) (rule : Rule) (fact : Fact) (old new : List ℕ)
      → slice_get spec.rules i.rule ≡ Some rule → Gives spec layout bytes i some.rule fact
      → OnOk r (new ≡ old ++ instance_line spec number i rule.span fact) → OnOk r (PushesLine spec layout bytes number i old new)
  line_pushed (Err e) number i some rule fact old new at gives put = tt
  line_pushed (Ok x) number i some rule fact old new at gives put =
      let rules : some.rule ≡ rule = some_same _ some.rule rule gives.is_instance.rule_is at in
      record {
        some = record { rule = some.rule; fact = fact; gives = gives };
        new_is = put ∙ ap (λ (r : Rule). old ++ instance_line spec number i r.span fact) (sym rules);
      }

  -- all lines
  pub all_lines : (chain : List Instance) (k : ℕ) (text : List ℕ) → length chain ≤ k → AreLines spec layout bytes (take k chain) text → AreLines spec layout bytes chain text
  all_lines chain k text all lines = subst (λ xs. AreLines spec layout bytes xs text) (whole chain k all) lines where
    whole : (xs : List Instance) (n : ℕ) → length xs ≤ n → take n xs ≡ xs
    whole xs n h = grind (arith, common_steps)
