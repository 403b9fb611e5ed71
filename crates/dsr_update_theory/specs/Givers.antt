-- The rules that give facts of a symbol.
use Rattle.std.specs.Prelude.{◌≡◌, ℕ, Bool, true, false, not, List, [], ◌∷◌, Some, is_some, slice_get, if◌then◌else◌}
use Rattle.dsr_ir.specs.Rules.{gives}
use Rattle.dsr_ir.specs.declared.declarations.Spec.{Spec}
use Rattle.dsr_ir.specs.declared.rules.Inc.{Inc}
use Rattle.dsr_ir.specs.declared.rules.Inc.TheVariants.{Own, Slot, OwnPair, SlotPair}
use Rattle.dsr_ir.specs.declared.rules.Rule.{Rule}
use Rattle.dsr_ir.specs.declared.rules.Span.{Span}
use Rattle.dsr_ir.specs.declared.rules.Span.TheVariants.{Single}
use Rattle.dsr_ir.specs.declared.updates.Symbol.{Symbol}
use Rattle.dsr_ir.specs.declared.updates.Symbol.TheVariants.{Rel}
use Rattle.dsr_meaning.specs.Lists.{each_at}

-- the rule with this number gives facts of the symbol
pub record IsGiver (spec : Spec) (symbol : Symbol) (k : ℕ) (rule : Rule) : Type 0 where
  pub rule_is : slice_get spec.rules k ≡ Some rule
  pub gives : gives symbol rule.inc ≡ true

-- some rule gives facts of the symbol
abbrev pub HasGiver : Spec → Symbol → Type 0
HasGiver spec symbol = (k : ℕ) × (rule : Rule) × IsGiver spec symbol k rule

-- each rule that does is such a one
abbrev pub EachGiver : Spec → Symbol → (Rule → Type 0) → Type 0
EachGiver spec symbol Such = (k : ℕ) (rule : Rule) → IsGiver spec symbol k rule → Such rule

-- a symbol that has rules, each of which is such a one: whatever gives its facts does so in this
-- way
pub record IsGivenBy (spec : Spec) (symbol : Symbol) (Such : Rule → Type 0) : Type 0 where
  pub some : HasGiver spec symbol
  pub each : EachGiver spec symbol Such

-- what each rule of the symbol gives, by its number, in order of declaration
abbrev pub each_giver : {T : Type 0} → Spec → Symbol → (ℕ → Rule → List T) → List T
each_giver spec symbol f =
    each_at (λ k rule. if gives symbol rule.inc then f k rule else []) 0 spec.rules

-- the rules of the symbol, with their numbers
abbrev pub givers : Spec → Symbol → List (ℕ × Rule)
givers spec symbol = each_giver spec symbol (λ k rule. (k, rule) ∷ [])

-- ---- kinds of rules

-- the rule has no index
abbrev pub is_single : Span → Bool
is_single Single = true
is_single _ = false

-- the record itself is the member or the source
abbrev pub is_own : Inc → Bool
is_own (Own set) = true
is_own (OwnPair rel path) = true
is_own _ = false

-- the slot at the index is
abbrev pub is_slot : Inc → Bool
is_slot (Slot set pool) = true
is_slot (SlotPair rel pool path) = true
is_slot _ = false

-- the rule gives each record one pair at most: with a field of the record itself, or each slot of a
-- pool with a field of the head
abbrev pub gives_once : Rule → Bool
gives_once rule = once rule.inc where
  once : Inc → Bool
  once (OwnPair rel path) = is_single rule.span
  once (SlotPair rel pool path) = not (is_some rule.premise)
  once _ = false

-- The relation is functional: one rule alone gives its pairs, and gives each record one at most. So
-- in every image each record has one target at most, as a law.
abbrev pub is_functional : Spec → ℕ → Bool
is_functional spec rel = by_one (givers spec (Rel rel)) where
  by_one : List (ℕ × Rule) → Bool
  by_one (giver ∷ []) = gives_once giver.1
  by_one _ = false
