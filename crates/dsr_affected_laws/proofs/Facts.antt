-- A symbol that isn't affected has the same facts.
use Rattle.std.proofs.Common.{◌≡◌, ◌↔◌, ℕ, true, false, List, Option, None, Some, refl, sym}
use Rattle.dsr_affected_laws.specs.Affected.{IsAffected, reads_any}
use Rattle.dsr_affected_laws.specs.Affected.IsAffected.{handed_on, read, swapped}
use Rattle.dsr_affected_laws.specs.Differing.{AreAlikeBut}
use Rattle.dsr_affected_laws.proofs.Unmoved.{unmoved}
use Rattle.dsr_ir.specs.declared.declarations.FieldRef.{FieldRef}
use Rattle.dsr_ir.specs.declared.declarations.Spec.{Spec}
use Rattle.dsr_ir.specs.declared.layouts.Layout.{Layout}
use Rattle.dsr_ir.specs.declared.rules.Path.{Path}
use Rattle.dsr_ir.specs.declared.rules.Rule.{Rule}
use Rattle.dsr_ir.specs.declared.tuples.Element.{Element}
use Rattle.dsr_ir.specs.declared.tuples.Fact.{Fact}
use Rattle.dsr_ir.specs.declared.tuples.Fact.TheVariants.{Member, Pair}
use Rattle.dsr_ir.specs.declared.tuples.Instance.{Instance}
use Rattle.dsr_meaning.specs.Counting.{IsIn}
use Rattle.dsr_meaning.specs.Instances.{Gives, IsInstance}
use Rattle.dsr_meaning.specs.Looking.{symbol_of}
use Rattle.dsr_meaning.specs.Models.{Chain, IsDerived, IsFact, IsMemberBy, base_of}
use Rattle.dsr_meaning.specs.Models.Chain.{begin, follow}
use Rattle.dsr_effect_laws.proofs.GivenFacts.{gives_same}
use Rattle.dsr_step_laws.proofs.GivenSymbols.{giver_of}
use Rattle.dsr_effect_laws.specs.Leaving.{IsSameAt}
use Rattle.dsr_update_theory.specs.Changes.{paths_of}
use Rattle.dsr_update_theory.specs.Givers.{IsGiver}

module _ (spec : Spec) (layout : Layout) (fields : List FieldRef) where
  -- no field of these affects the fact's symbol
  abbrev pub IsFree : Fact → Type 0
  IsFree fact = IsAffected spec fields (symbol_of fact) → ⊥

  -- rules that don't read what may have changed read the same in both
  abbrev pub ReadsSame : List ℕ → List ℕ → Type 0
  ReadsSame a b =
      (i : Instance) (rule : Rule) → IsInstance spec layout i rule → reads_any spec.base fields rule ≡ false
      → (path : Path) → IsIn path (paths_of rule) → IsSameAt layout a b i path

  module _ (a b : List ℕ) (same : ReadsSame a b) where
    giver : (i : Instance) (rule : Rule) (fact : Fact) → Gives spec layout a i rule fact → IsGiver spec (symbol_of fact) i.rule rule
    giver i rule fact g = record { rule_is = g.is_instance.rule_is; gives = giver_of spec layout a i rule.inc fact g.included }

    gives : (i : Instance) (rule : Rule) (fact : Fact) → IsFree fact → Gives spec layout a i rule fact → Gives spec layout b i rule fact
    gives i rule fact free g = elim (reads_any spec.base fields rule) as (λ t. reads_any spec.base fields rule ≡ t → Gives spec layout b i rule fact) [
      | true ↦ λ reads. absurd (free (read (symbol_of fact) i.rule rule (giver i rule fact g) reads))
      | false ↦ λ none. gives_same spec layout a b i rule fact (λ path among. same i rule g.is_instance none path among) g
    ] refl

    chained : (is : List Instance) (fact : Fact) → IsFree fact → Chain spec layout a is fact → Chain spec layout b is fact
    chained is fact free (begin i rule first g) = begin i rule first (gives i rule fact free g)
    chained is fact free (follow {is = js} i rule set chain under g) =
        follow i rule set (chained js (Member set i.elem) (λ affected. free (handed_on (symbol_of fact) i.rule rule set (giver i rule fact g) under affected)) chain) under (gives i rule fact free g)

    pub derived : (fact : Fact) → IsFree fact → IsDerived spec layout a fact → IsDerived spec layout b fact
    derived fact free d = (d.0, chained d.0 fact free d.1)

  module _ (a b : List ℕ) (to : ReadsSame a b) (from : ReadsSame b a) where
    member : (set : ℕ) (e : Element) (o : Option ℕ) → base_of spec set ≡ o → IsFree (Member set e) → IsMemberBy spec layout a set o e → IsMemberBy spec layout b set o e
    member set e None is free h = derived a b to (Member set e) free h
    member set e (Some base) is free h = record {
      pool_is = h.pool_is;
      slot_below = h.slot_below;
      outside = λ d. h.outside (derived b a from (Member base e) (λ affected. free (swapped set base is affected)) d);
    }

    pub stays : (fact : Fact) → IsFree fact → IsFact spec layout a fact → IsFact spec layout b fact
    stays (Member set e) free h = member set e (base_of spec set) refl free h
    stays (Pair rel e target) free h = derived a b to (Pair rel e target) free h

pub same_facts : (spec : Spec) (layout : Layout) (fields : List FieldRef) (old new : List ℕ) → AreAlikeBut spec layout fields old new → (fact : Fact) → (IsAffected spec fields (symbol_of fact) → ⊥) → IsFact spec layout new fact ↔ IsFact spec layout old fact
same_facts spec layout fields old new alike fact free = (stays spec layout fields new old back forth fact free, stays spec layout fields old new forth back fact free) where
  forth : ReadsSame spec layout fields old new
  forth i rule instance none path among = unmoved spec layout fields old new alike i rule instance path among none

  back : ReadsSame spec layout fields new old
  back i rule instance none path among = sym (forth i rule instance none path among)
