-- Rules without faults are typed.
use Rattle.std.proofs.Common.{◌≡◌, ◌≤◌, ◌||◌, ℕ, true, nat_eq, nat_lt, List, [], length, All, sym, subst, true≢false, arith}
use Rattle.std.proofs.lemmas.Bool.{or_parts, ltb-false}
use Rattle.std.proofs.lemmas.List.{length-map}
use Rattle.std.proofs.lemmas.List.Elements.{All-map}
use Rattle.dsr_ir.specs.declared.declarations.Structures.{Structures}
use Rattle.dsr_tree.specs.declared.faults.Condition.TheVariants as conditions
use Rattle.dsr_tree.specs.declared.tree.Rule.{Rule}
use Rattle.dsr_meaning.specs.Lists.{each_at}
use Rattle.dsr_meaning.specs.Typed.{IsTypedGuard, IsTypedRule}
use Rattle.dsr_meaning.proofs.Empty.{both_empty, each_has, few}
use Rattle.dsr_language_theory.proofs.Absent.{when_absent}
use Rattle.dsr_language_theory.specs.Known.{known_in}
use Rattle.dsr_language_theory.specs.Rules.{guards_of}
use Rattle.dsr_language_theory.specs.RuleFaults.{guard_faults, inclusion_faults, rule_faults, rules_faults}
use Rattle.dsr_language_theory.specs.TypedRules.{typed_guard, rule_in, typed_rule, typed_rules}
use Rattle.dsr_language_laws.proofs.RulePaths.{guard_here}
use Rattle.dsr_language_laws.proofs.RuleScopes.{Grounded, grounded, scope_in}
use Rattle.dsr_language_laws.proofs.TypedInclusions.{inclusion_here}

-- a rule without fault, one part after another
pub record SoundRule (base : Structures) (r : Rule) : Type 0 where
  pub few_guards : length (guards_of r.guards) ≤ 4
  pub ground : Grounded base r
  pub guards : each_at (λ _ g. guard_faults (scope_in base r) g) 0 (guards_of r.guards) ≡ []
  pub inclusion : inclusion_faults (scope_in base r) r.inclusion ≡ []

module _ (base : Structures) where
  pub sound_rule : (i : ℕ) (r : Rule) → rule_faults (known_in base) i r ≡ [] → SoundRule base r
  sound_rule i r e =
      let limits = both_empty _ _ e in
      let premise = both_empty _ _ limits.1 in
      let span = both_empty _ _ premise.1 in
      let last = both_empty (each_at (λ _ g. guard_faults (scope_in base r) g) 0 (guards_of r.guards)) _ span.1 in
      let below = or_parts (nat_eq i 128) (nat_lt 4 (length (guards_of r.guards))) (when_absent (nat_eq i 128 || nat_lt 4 (length (guards_of r.guards))) conditions.Limit r.place limits.0) in
      record {
        few_guards = ltb-false 4 (length (guards_of r.guards)) below.1;
        ground = grounded base r premise.0 span.0;
        guards = last.0;
        inclusion = last.1;
      }

  rule_is_typed : (i : ℕ) (r : Rule) → rule_faults (known_in base) i r ≡ [] → IsTypedRule base (typed_rule (known_in base) r)
  rule_is_typed i r e =
      let scope = scope_in base r in
      let sound = sound_rule i r e in
      let guards = guards_of r.guards in
      record {
        premise = sound.ground.premise.plain;
        span = sound.ground.span;
        few_guards = subst (λ n. n ≤ 4) (sym (length-map guards (typed_guard scope))) sound.few_guards;
        guards = All-map (IsTypedGuard base (rule_in scope r)) (typed_guard scope) guards (each_has (λ _ g. guard_faults scope g) (λ g. IsTypedGuard base (rule_in scope r) (typed_guard scope g)) (λ _ g. guard_here base r sound.ground g) 0 guards sound.guards);
        inc = inclusion_here base r sound.ground r.inclusion sound.inclusion;
      }

  pub rules_are_typed : (rules : List Rule) → rules_faults (known_in base) rules ≡ [] → All (IsTypedRule base) (typed_rules (known_in base) rules)
  rules_are_typed rules e = All-map (IsTypedRule base) (typed_rule (known_in base)) rules (each_has (rule_faults (known_in base)) (λ r. IsTypedRule base (typed_rule (known_in base) r)) rule_is_typed 0 rules e)

  -- a rule that is one too many has a fault
  rule_limit : (r : Rule) → rule_faults (known_in base) 128 r ≡ [] → ⊥
  rule_limit r e = true≢false (when_absent true conditions.Limit r.place (both_empty _ _ e).0)

  pub few_rules : (rules : List Rule) → rules_faults (known_in base) rules ≡ [] → length (typed_rules (known_in base) rules) ≤ 128
  few_rules rules e = subst (λ n. n ≤ 128) (sym (length-map rules (typed_rule (known_in base)))) (few (rule_faults (known_in base)) 128 0 128 (omega arith) rule_limit rules e)
