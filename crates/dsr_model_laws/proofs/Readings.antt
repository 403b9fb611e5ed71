-- What chains derive depends on nothing but what rules read.
use Rattle.std.proofs.Common.{◌≡◌, ℕ, zero, suc, List, [], ◌∷◌, Option, None, Some, All, inl, inr, refl, sym, ◌∙◌}
use Rattle.std.proofs.lemmas.List.Elements.{All-nil, All-cons, All-head, All-tail}
use Rattle.std.proofs.lemmas.Option.{none-some, same_Some}
use Rattle.std.specs.Prelude.{slice_get}
use Rattle.dsr_ir.specs.Rules.{target_of}
use Rattle.dsr_ir.specs.declared.declarations.Spec.{Spec}
use Rattle.dsr_ir.specs.declared.layouts.Layout.{Layout}
use Rattle.dsr_ir.specs.declared.rules.Guard.{Guard}
use Rattle.dsr_ir.specs.declared.rules.Inc.{Inc}
use Rattle.dsr_ir.specs.declared.rules.Inc.TheVariants.{Own, Target, Slot, OwnPair, SlotPair}
use Rattle.dsr_ir.specs.declared.rules.Path.{Path}
use Rattle.dsr_ir.specs.declared.rules.Rule.{Rule}
use Rattle.dsr_ir.specs.declared.tuples.Element.{Element}
use Rattle.dsr_ir.specs.declared.tuples.Fact.{Fact}
use Rattle.dsr_ir.specs.declared.tuples.Fact.TheVariants.{Member, Pair}
use Rattle.dsr_ir.specs.declared.tuples.Instance.{Instance}
use Rattle.dsr_ir.specs.declared.tuples.Target.{Target as TargetOf}
use Rattle.dsr_ir.specs.declared.tuples.Target.TheVariants.{Elem, Num}
use Rattle.dsr_meaning.specs.Cells.{value_at}
use Rattle.dsr_meaning.specs.Counting.{IsIn}
use Rattle.dsr_meaning.specs.Instances.{Gives, GuardHolds, HasTarget, Includes, IsInstance}
use Rattle.dsr_meaning.specs.Models.{Chain, begin, follow, IsFact, IsMemberBy, base_of}
use Rattle.dsr_model_laws.specs.Reading.{Reads, ReadTheSame}

found_in : {A : Type 0} (xs : List A) (k : ℕ) (x : A) → slice_get xs k ≡ Some x → IsIn x xs
found_in [] k x e = absurd (none-some x e)
found_in (y ∷ xs) zero x e = inl (sym (same_Some y x e))
found_in (y ∷ xs) (suc k) x e = inr (found_in xs k x e)

pub both_ways : (spec : Spec) (layout : Layout) (a b : List ℕ) → ReadTheSame spec layout a b → ReadTheSame spec layout b a
both_ways spec layout a b same rule i path declared instance reads = sym (same rule i path declared instance reads)

module _ (spec : Spec) (layout : Layout) (a b : List ℕ) (same : ReadTheSame spec layout a b) where
  -- the values of what the rule reads at the instance
  abbrev AreSame : Instance → Path → Type 0
  AreSame i path = value_at layout a i.elem i.index path ≡ value_at layout b i.elem i.index path

  read_same : (i : Instance) (rule : Rule) → IsInstance spec layout i rule → (path : Path) → Reads rule path → AreSame i path
  read_same i rule instance path reads = same rule i path (found_in spec.rules i.rule rule instance.rule_is) instance reads

  guards_hold : (i : Instance) (guards : List Guard) → ((guard : Guard) → IsIn guard guards → AreSame i guard.path) → All (GuardHolds spec layout a i) guards → All (GuardHolds spec layout b i) guards
  guards_hold i [] alike hold = All-nil (GuardHolds spec layout b i)
  guards_hold i (guard ∷ guards) alike hold =
      let first = All-head (GuardHolds spec layout a i) guard guards hold in
      All-cons (GuardHolds spec layout b i) guard guards
      (record { value = first.value; read = sym (alike guard (inl refl)) ∙ first.read; met = first.met })
      (guards_hold i guards (λ other at. alike other (inr at)) (All-tail (GuardHolds spec layout a i) guard guards hold))

  has_target : (i : Instance) (path : Path) → AreSame i path → (t : TargetOf) → HasTarget spec layout a i path t → HasTarget spec layout b i path t
  has_target i path alike (Elem e) leads = record { value = leads.value; read = sym alike ∙ leads.read; refers = leads.refers; code = leads.code }
  has_target i path alike (Num n) has = record { number = has.number; read = sym alike ∙ has.read }

  includes : (i : Instance) (inc : Inc) (fact : Fact) → ((path : Path) → target_of inc ≡ Some path → AreSame i path) → Includes spec layout a i inc fact → Includes spec layout b i inc fact
  includes i (Own set) fact alike h = h
  includes i (Target set path) fact alike h = (h.0, has_target i path (alike path refl) (Elem h.0) h.1, h.2)
  includes i (Slot set pool) fact alike h = h
  includes i (OwnPair rel path) fact alike h = (h.0, has_target i path (alike path refl) h.0 h.1, h.2)
  includes i (SlotPair rel pool path) fact alike h = (h.0, has_target i path (alike path refl) h.0 h.1, h.2)

  gives : (i : Instance) (rule : Rule) (fact : Fact) → Gives spec layout a i rule fact → Gives spec layout b i rule fact
  gives i rule fact g =
      let alike = read_same i rule g.is_instance in
      record {
        is_instance = g.is_instance;
        guards = guards_hold i rule.guards (λ guard at. alike guard.path (inl (guard, at, refl))) g.guards;
        included = includes i rule.inc fact (λ path is. alike path (inr is)) g.included;
      }

  pub chain_over : {is : List Instance} {fact : Fact} → Chain spec layout a is fact → Chain spec layout b is fact
  chain_over {fact = fact} (begin i rule none g) = begin i rule none (gives i rule fact g)
  chain_over {fact = fact} (follow i rule set chain some g) = follow i rule set (chain_over chain) some (gives i rule fact g)

module _ (spec : Spec) (layout : Layout) (a b : List ℕ) (same : ReadTheSame spec layout a b) where
  member_over : (set : ℕ) (base : Option ℕ) (e : Element) → IsMemberBy spec layout a set base e → IsMemberBy spec layout b set base e
  member_over set None e h = (h.0, chain_over spec layout a b same h.1)
  member_over set (Some base) e h =
      record { pool_is = h.pool_is; slot_below = h.slot_below; outside = λ d. h.outside (d.0, chain_over spec layout b a (both_ways spec layout a b same) d.1) }

  pub fact_over : (fact : Fact) → IsFact spec layout a fact → IsFact spec layout b fact
  fact_over (Member set e) h = member_over set (base_of spec set) e h
  fact_over (Pair rel e target) h = (h.0, chain_over spec layout a b same h.1)
