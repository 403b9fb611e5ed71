-- What a template is that the row of a plan has: one that is tried for its literal, perhaps compensated.
use Rattle.std.proofs.Common.{◌≡◌, ◌-◌, ◌∙◌, ℕ, List, [], ◌∷◌, ◌++◌, map, Some, inl, inr, refl, sym, subst}
use Rattle.std.specs.Prelude.{MatchOption}
use Rattle.std.specs.List.{flat_map}
use Rattle.std.proofs.lemmas.List.{append-nil}
use Rattle.std.proofs.lemmas.Option.{same_Some}
use Rattle.dsr_ir.specs.declared.constraints.Atom.{Atom}
use Rattle.dsr_ir.specs.declared.constraints.Constraint.{Constraint}
use Rattle.dsr_ir.specs.declared.constraints.Literal.{Literal}
use Rattle.dsr_ir.specs.declared.declarations.Spec.{Spec}
use Rattle.dsr_ir.specs.declared.tuples.Fact.{Fact}
use Rattle.dsr_ir.specs.declared.updates.Template.{Template}
use Rattle.dsr_ir.specs.declared.updates.Update.{Update}
use Rattle.dsr_ir.specs.declared.updates.Write.{Write}
use Rattle.dsr_graph_theory.specs.Candidates.{AreCompensations}
use Rattle.dsr_graph_theory.specs.Lists.{AreCompensable, AreListed, AreTaken, Compensable, all_of, compensated_by, two_of, with_one, with_two, with_writes}
use Rattle.dsr_graph_theory.specs.Owners.{Owner}
use Rattle.dsr_graph_theory.specs.Sides.{IsKept}
use Rattle.dsr_meaning.specs.Consistency.{BoundConstraint}
use Rattle.dsr_meaning.specs.Counting.{IsIn}
use Rattle.dsr_plan_theory.specs.Plans.{HasTemplate, IsListedAt, IsPlan, IsRowOf, IsWayFor, MayRepair, owner_at}
use Rattle.dsr_plan_theory.specs.declared.choices.Choice.{Choice}
use Rattle.dsr_plan_theory.specs.declared.choices.Row.{Row}
use Rattle.dsr_plan_theory.specs.declared.choices.Way.{Way}
use Rattle.dsr_plan_theory.specs.declared.choices.Way.TheVariants.{By}
use Rattle.dsr_repair_theory.specs.Due.{IsDue}
use Rattle.dsr_update_theory.specs.Templates.{AreRaw, KnownSets, TellsKnown, literal_at}
use Rattle.dsr_plan_laws.proofs.KnownSets.{told}
use Rattle.dsr_meaning.proofs.Items.{in_either, in_flat, in_map, item_at}

-- ---- what is listed

-- a template that is taken is kept, and one of those in the list
pub record IsOneTaken (owner : Owner) (atom : Atom) (all : List Template) (template : Template) : Type 0 where
  pub among : IsIn template all
  pub kept : IsKept owner atom template

one_more : (owner : Owner) (atom : Atom) (first : Template) (all : List Template) (template : Template) → IsOneTaken owner atom all template → IsOneTaken owner atom (first ∷ all) template
one_more owner atom first all template one = record { among = inr one.among; kept = one.kept }

taken_one : {owner : Owner} {atom : Atom} {n : ℕ} {before all rest : List Template} (template : Template) → AreTaken owner atom n before all rest → IsIn template rest → IsOneTaken owner atom all template
taken_one template AreTaken.no_more is_in = absurd is_in
taken_one template AreTaken.enough is_in = absurd is_in
taken_one {owner} {atom} template (AreTaken.again {all = all} first seen later) is_in = one_more owner atom first all template (taken_one template later is_in)
taken_one {owner} {atom} template (AreTaken.left_out {all = all} first off later) is_in = one_more owner atom first all template (taken_one template later is_in)
taken_one {owner} {atom} template (AreTaken.taken {all = all} first new kept later) (inl same) = record { among = inl same; kept = subst (IsKept owner atom) (sym same) kept }
taken_one {owner} {atom} template (AreTaken.taken {all = all} first new kept later) (inr behind) = one_more owner atom first all template (taken_one template later behind)

-- the template is one of these, with more writes of those that compensate it
pub record IsCompensated (pairs : List Compensable) (template : Template) : Type 0 where
  pub pair : Compensable
  pub among : IsIn pair pairs
  pub more : List Write
  pub of_pair : (write : Write) → IsIn write more → IsIn write pair.1
  pub is : template ≡ compensated_by pair.0 more

bare_update : (u : Update) → with_writes [] u ≡ u
bare_update u = λ i. record { rule = u.rule; place = u.place; at = u.at; writes = append-nil u.writes i; fresh = u.fresh }

bare_updates : (us : List Update) → map (with_writes []) us ≡ us
bare_updates [] = refl
bare_updates (u ∷ us) = λ i. bare_update u i ∷ bare_updates us i

bare : (template : Template) → compensated_by template [] ≡ template
bare template = λ i. record { goal = template.goal; updates = bare_updates template.updates i }

two_in : (writes more : List Write) → IsIn more (two_of writes) → (write : Write) → IsIn write more → IsIn write writes
two_in [] more is_in write here = absurd is_in
two_in (first ∷ rest) more is_in write here = elim (in_either more (map (λ later. first ∷ later ∷ []) rest) (two_of rest) is_in) [
  | inl now ↦
      let pair = in_map (λ later. first ∷ later ∷ []) rest more now in
      elim (subst (IsIn write) pair.is here) as (λ _. IsIn write (first ∷ rest)) [
        | inl same ↦ inl same
        | inr (inl same) ↦ inr (subst (λ w. IsIn w rest) (sym same) pair.among)
        | inr (inr none) ↦ absurd none
      ]
  | inr later ↦ inr (two_in rest more later write here)
]

compensated_one : (pairs : List Compensable) (template : Template) → IsIn template (all_of pairs) → IsCompensated pairs template
compensated_one pairs template is_in = elim (in_either template (map (λ c. c.0) pairs) (flat_map with_one pairs ++ flat_map with_two pairs) is_in) [
  | inl plain ↦
      let one = in_map (λ (c : Compensable). c.0) pairs template plain in
      record { pair = one.from; among = one.among; more = []; of_pair = λ write none. absurd none; is = one.is ∙ sym (bare one.from.0) }
  | inr more ↦ elim (in_either template (flat_map with_one pairs) (flat_map with_two pairs) more) [
    | inl single ↦
        let one = in_flat with_one pairs template single in
        let by = in_map (λ write. compensated_by one.from.0 (write ∷ [])) one.from.1 template one.is_in in
        record {
          pair = one.from;
          among = one.among;
          more = by.from ∷ [];
          of_pair = λ write here. elim here as (λ _. IsIn write one.from.1) [ inl same ↦ subst (λ w. IsIn w one.from.1) (sym same) by.among | inr none ↦ absurd none ];
          is = by.is;
        }
    | inr double ↦
        let one = in_flat with_two pairs template double in
        let by = in_map (compensated_by one.from.0) (two_of one.from.1) template one.is_in in
        record { pair = one.from; among = one.among; more = by.from; of_pair = two_in one.from.1 by.from by.among; is = by.is }
  ]
]

-- the pair is of a template that is tried
pub record IsOfTried (owner : Owner) (tried : List Template) (pair : Compensable) : Type 0 where
  pub among : IsIn pair.0 tried
  pub are_compensations : AreCompensations owner pair.0 pair.1

tried_one : {owner : Owner} {tried : List Template} {pairs : List Compensable} (pair : Compensable) → AreCompensable owner tried pairs → IsIn pair pairs → IsOfTried owner tried pair
tried_one pair AreCompensable.done is_in = absurd is_in
tried_one {owner} pair (AreCompensable.more {rest} template writes its later) (inl same) =
    subst (IsOfTried owner (template ∷ rest)) (sym same) (record { among = inl refl; are_compensations = its })
tried_one pair (AreCompensable.more template writes its later) (inr behind) =
    let one = tried_one pair later behind in
    record { among = inr one.among; are_compensations = one.are_compensations }

-- ---- what is made of it

-- The template is one that is tried for the literal, with these writes behind those of each update; they are among those
-- that compensate it, and it is kept.
pub record IsFormOf (owner : Owner) (its : Literal) (template : Template) : Type 0 where
  pub known : KnownSets
  pub tells : TellsKnown owner.spec owner.constraint.quant known
  pub tried : List Template
  pub are_tried : AreRaw owner.spec known owner.constraint.quant its tried
  pub raw : Template
  pub is_tried : IsIn raw tried
  pub compensations : List Write
  pub are_compensations : AreCompensations owner raw compensations
  pub more : List Write
  pub of_compensations : (write : Write) → IsIn write more → IsIn write compensations
  pub is : template ≡ compensated_by raw more
  pub kept : IsKept owner its.atom template

pub listed_form : (owner : Owner) (conj literal : ℕ) (its : Literal) (number : ℕ) (template : Template) → literal_at owner.constraint conj literal ≡ Some its → IsListedAt owner conj literal number template → IsFormOf owner its template
listed_form owner conj literal its number template literal_is at =
    let listed : AreListed owner conj literal its.atom at.templates = subst (λ o. MatchOption o (at.templates ≡ []) (λ l. AreListed owner conj literal l.atom at.templates)) literal_is at.listed in
    let taken = taken_one template listed.are_taken (item_at at.templates (number - 1) template at.template_is) in
    let made = compensated_one listed.compensable template taken.among in
    let of_tried = tried_one made.pair listed.are_compensable made.among in
    let known = told owner.spec owner.constraint.quant in
    let raw = subst (λ o. MatchOption o (listed.tried ≡ []) (λ l. (known : KnownSets) → TellsKnown owner.spec owner.constraint.quant known → AreRaw owner.spec known owner.constraint.quant l listed.tried)) literal_is listed.are_tried in
    record {
      known = known.0;
      tells = known.1;
      tried = listed.tried;
      are_tried = raw known.0 known.1;
      raw = made.pair.0;
      is_tried = of_tried.among;
      compensations = made.pair.1;
      are_compensations = of_tried.are_compensations;
      more = made.more;
      of_compensations = made.of_pair;
      is = made.is;
      kept = taken.kept;
    }

by_way : (owner : Owner) (conj literal : ℕ) (its : Literal) (way : Way) (number : ℕ) (template : Template) → way ≡ By number template → IsWayFor owner conj literal its way → MayRepair owner conj literal its number template
by_way owner conj literal its way number template is may = subst (IsWayFor owner conj literal its) is may

-- of a template that the row of a plan has for a literal
pub row_form : (spec : Spec) (choice : Choice) (n : ℕ) (constraint : Constraint) (row : Row) (conj literal : ℕ) (its : Literal) (template : Template) → IsPlan spec choice → IsRowOf spec choice n constraint row → literal_at constraint conj literal ≡ Some its → HasTemplate row conj literal template → IsFormOf (owner_at spec n constraint) its template
row_form spec choice n constraint row conj literal its template plan row_of literal_is has =
    let way = (plan.ways n constraint row row_of).ways conj literal its literal_is in
    let same : way.0 ≡ By has.number template = same_Some way.0 (By has.number template) (sym way.1 ∙ has.way_is) in
    let may = by_way (owner_at spec n constraint) conj literal its way.0 has.number template same way.2 in
    listed_form (owner_at spec n constraint) conj literal its has.number template literal_is may.listed

-- of the template that is due
pub due_form : (is_fact : Fact → Type 0) (spec : Spec) (choice : Choice) (v : BoundConstraint) (conj literal : ℕ) (its : Literal) (template : Template) → IsPlan spec choice → (due : IsDue is_fact spec choice v conj literal its template) → IsFormOf (owner_at spec v.constraint due.constraint) its template
due_form is_fact spec choice v conj literal its template plan due =
    let repaired = due.literal_is.repaired in
    row_form spec choice v.constraint due.constraint due.row conj literal its template plan due.binding_is.row_of repaired.literal_is repaired.template_is
