-- A template that is due has few updates: one, or one for each rule of a symbol, or both.
use Rattle.std.proofs.Common.{◌≡◌, ◌≤◌, ℕ, suc, Bool, true, false, List, [], ◌∷◌, length, map, Option, None, Some, option_map, inl, inr, ap, arith, if◌then◌else◌}
use Rattle.std.proofs.lemmas.List.{length-append, length-map}
use Rattle.std.specs.List.{cons_option, filter_map}
use Rattle.dsr_repair_laws.proofs.DueForms.{IsDueForm}
use Rattle.dsr_repair_laws.proofs.TriedTemplates.{IsRemoval, RawForm}
use Rattle.dsr_update_theory.specs.Templates.{KnownSets}
use Rattle.dsr_ir.specs.Rules.{gives}
use Rattle.dsr_ir.specs.declared.constraints.Atom.{Atom}
use Rattle.dsr_ir.specs.declared.constraints.Literal.{Literal}
use Rattle.dsr_ir.specs.declared.declarations.Spec.{Spec}
use Rattle.dsr_ir.specs.declared.rules.Rule.{Rule}
use Rattle.dsr_ir.specs.declared.tuples.Binding.{Binding}
use Rattle.dsr_ir.specs.declared.tuples.Fact.{Fact}
use Rattle.dsr_ir.specs.declared.constraints.Var.{Var}
use Rattle.dsr_ir.specs.declared.updates.Symbol.{Symbol}
use Rattle.dsr_ir.specs.declared.updates.Template.{Template}
use Rattle.dsr_ir.specs.declared.updates.Update.{Update}
use Rattle.dsr_graph_theory.specs.Lists.{with_writes}
use Rattle.dsr_meaning.specs.Lists.{each_at}
use Rattle.dsr_meaning.specs.Typed.{IsTyped}
use Rattle.dsr_update_theory.specs.Givers.{givers}
use Rattle.dsr_update_theory.specs.Options.{options}
use Rattle.dsr_update_theory.specs.Templates.{item_or_last, removing}

one_more : {Y : Type 0} (o : Option Y) (ys : List Y) (n : ℕ) → length ys ≤ n → length (cons_option o ys) ≤ suc n
one_more None ys n few = omega (arith, few)
one_more (Some y) ys n few = omega (arith, few)

picked_few : {X Y : Type 0} (f : X → Option Y) (xs : List X) → length (filter_map f xs) ≤ length xs
picked_few f [] = omega arith
picked_few f (x ∷ xs) = one_more (f x) (filter_map f xs) (length xs) (picked_few f xs)

one_or_none : (t : Bool) (k : ℕ) (rule : Rule) → length {A = ℕ × Rule} (if t then (k, rule) ∷ [] else []) ≤ 1
one_or_none true k rule = omega arith
one_or_none false k rule = omega arith

givers_from : (symbol : Symbol) (k : ℕ) (rules : List Rule)
    → length {A = ℕ × Rule} (each_at (λ k rule. if gives symbol rule.inc then (k, rule) ∷ [] else []) k rules) ≤ length rules
givers_from symbol k [] = omega arith
givers_from symbol k (rule ∷ rest) =
    let this = one_or_none (gives symbol rule.inc) k rule in
    let later = givers_from symbol (suc k) rest in
    let both = length-append {A = ℕ × Rule} (if gives symbol rule.inc then (k, rule) ∷ [] else [])
    (each_at (λ k rule. if gives symbol rule.inc then (k, rule) ∷ [] else []) (suc k) rest) in
    omega (arith, this, later, both)

removals_few : (spec : Spec) (symbol : Symbol) (v : Option Var) (updates : List Update) → IsTyped spec
    → IsRemoval spec symbol v updates → length updates ≤ 128
removals_few spec symbol v updates typed is =
    let picked = picked_few (λ r. option_map (removing v r.0 r.1) (item_or_last (options spec.base r.1) is.number)) (givers spec symbol) in
    let rules = givers_from symbol 0 spec.rules in
    let few = typed.few_rules in
    let same = ap length is.are in
    omega (arith, picked, rules, few, same)

raw_few : (spec : Spec) (known : KnownSets) (atom : Atom) (negated : Bool) (t : Template) → IsTyped spec
    → RawForm spec known atom negated t → length t.updates ≤ 129
raw_few spec known atom negated t typed (inl adds) = let one = ap length adds.are in omega (arith, one)
raw_few spec known atom negated t typed (inr (inl removes)) =
    let few = removals_few spec _ _ t.updates typed removes.removal in omega (arith, few)
raw_few spec known atom negated t typed (inr (inr both)) =
    let few = removals_few spec _ _ both.rest typed both.removal in
    let all = ap length both.are in
    omega (arith, few, all)

pub few_of : (is_fact : Fact → Type 0) (spec : Spec) (b : Binding) (its : Literal) (template : Template) → IsTyped spec
    → IsDueForm is_fact spec b its template → length template.updates ≤ 200
few_of is_fact spec b its template typed form =
    let raw = raw_few spec form.known its.atom its.negated form.raw typed form.form in
    let mapped = length-map form.raw.updates (with_writes form.more) in
    let same : length template.updates ≡ length (map (with_writes form.more) form.raw.updates) = ap (λ t. length t.updates) form.is in
    omega (arith, raw, mapped, same)
