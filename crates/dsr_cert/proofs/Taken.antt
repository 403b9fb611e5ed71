-- The template that a choice has for a literal, and what is wrong with it.
use Rattle.std.proofs.Common.{◌≡◌, ◌≤◌, ◌<◌, ◌-◌, ◌⊎◌, ℕ, inl, inr, Bool, true, false, [], ◌∷◌, Option, None, Some, slice_get, refl, sym, ap, subst, ◌∙◌, arith}
use Rattle.std.specs.Prelude.{Decides, nat_le, ◌||◌, not, is_some, option_and_then}
use Rattle.std.proofs.lemmas.Bool.{false≢true}
use Rattle.std.proofs.lemmas.Bool.Decides.{nat_tests}
use Rattle.dsr_graph_theory.specs.Breaks.{Breaks, Falsifies, Relies}
use Rattle.dsr_cert.specs.Flaws.{Unlisted, HasWay, IsBreaking, IsFalsifying, IsRelying, IsUnlisted}
use Rattle.dsr_cert.specs.Searches.{IsNotAbove, IsTakenFor, NoneUnder, literal_in, way_in}
use Rattle.dsr_cert.specs.Certificates.{Fits, FitsRow, IsNamed}
use Rattle.dsr_goal.proofs.Decided.{template_decides}
use Rattle.dsr_graph.proofs.Found.{ways_listed, ways_only}
use Rattle.dsr_graph.proofs.Paired.{paired_back}
use Rattle.dsr_graph.specs.Graphs.{IsGraphOf, IsOwnerIn, IsWayOf, ways_of}
use Rattle.dsr_graph.specs.declared.graphs.Graph.{Graph}
use Rattle.dsr_graph_theory.specs.declared.causes.Reason.{Reason}
use Rattle.dsr_ir.specs.declared.constraints.Constraint.{Constraint}
use Rattle.dsr_ir.specs.declared.constraints.Literal.{Literal}
use Rattle.dsr_ir.specs.declared.declarations.Spec.{Spec}
use Rattle.dsr_ir.specs.contracts.updates.TemplatePartialEq.TheImpl as equality
use Rattle.dsr_ir.specs.declared.updates.Template.{Template}
use Rattle.dsr_graph_theory.specs.Owners.{Owner}
use Rattle.dsr_plan_theory.specs.Plans.{IsListedAt, owner_at, way_at}
use Rattle.dsr_plan_theory.specs.declared.choices.Choice.{Choice}
use Rattle.dsr_plan_theory.specs.declared.choices.Way.TheVariants.{By}
use Rattle.dsr_placement.proofs.Once.{breaks_if}
use Rattle.dsr_update_theory.specs.Templates.{literal_at}

pub one_item : {T : Type 0} (o : Option T) (a b : T) → o ≡ Some a → o ≡ Some b → a ≡ b
one_item o a b is too = let both = sym is ∙ too in cc

not_less : (a b : ℕ) → (a < b → ⊥) → b ≤ a
not_less a b never = elim (nat_le b a) as (λ t. nat_le b a ≡ t → b ≤ a) [
  | true ↦ λ e. grind (arith, nat_tests)
  | false ↦ λ e. absurd (never (grind (arith, nat_tests)))
] refl

-- ---- listed templates

module _ (graph : Graph) (n : ℕ) (owner : Owner) (in_graph : IsOwnerIn graph n owner) (conj literal number : ℕ) (template : Template) where
  abbrev pub IsIt : Type 0
  IsIt = IsListedAt owner conj literal number template

  pub listed_there : (template_is : slice_get (ways_of graph n conj literal) (number - 1) ≡ Some template) → 1 ≤ number → IsIt
  listed_there template_is from_one = record {
    templates = ways_of graph n conj literal;
    listed = ways_listed graph n owner in_graph conj literal;
    from_one = from_one;
    template_is = template_is;
  }

  pub found_there : IsIt → slice_get (ways_of graph n conj literal) (number - 1) ≡ Some template
  found_there its = sym (ap (λ ts. slice_get ts (number - 1)) (ways_only graph n owner in_graph conj literal its.templates its.listed)) ∙ its.template_is

  pub listed_if : (t : Template) → slice_get (ways_of graph n conj literal) (number - 1) ≡ Some t → 1 ≤ number → (b : Bool) → Decides b (t ≡ template) → Decides b IsIt
  listed_if t there from_one b same = (
    λ e. listed_there (there ∙ ap Some (same.0 e)) from_one,
    λ its. same.1 (one_item (slice_get (ways_of graph n conj literal) (number - 1)) t template there (found_there its)),
  )

  pub never_at : slice_get (ways_of graph n conj literal) (number - 1) ≡ None → IsIt → ⊥
  never_at none its = let both = sym none ∙ found_there its in absurd cc

  pub listed_or_not : IsIt ⊎ (IsIt → ⊥)
  listed_or_not = by (nat_le 1 number) (slice_get (ways_of graph n conj literal) (number - 1)) refl refl where
    decided : (b : Bool) → Decides b IsIt → IsIt ⊎ (IsIt → ⊥)
    decided true d = inl (d.0 refl)
    decided false d = inr (λ its. false≢true (d.1 its))

    by : (some : Bool) (o : Option Template) → nat_le 1 number ≡ some → slice_get (ways_of graph n conj literal) (number - 1) ≡ o → IsIt ⊎ (IsIt → ⊥)
    by false o zero_is is = inr (λ its. let one = its.from_one in absurd (grind (arith, nat_tests)))
    by true None some none = inr (never_at none)
    by true (Some t) some is = decided (equality.ghosts.eq t template) (listed_if t is (grind (arith, nat_tests)) (equality.ghosts.eq t template) (template_decides t template))

module _ (spec : Spec) (choice : Choice) (n conj literal : ℕ) where
  -- two of them are one
  pub record IsSameWay (a b : HasWay spec choice n conj literal) : Type 0 where
    pub constraint : a.constraint ≡ b.constraint
    pub row : a.row ≡ b.row
    pub its : a.its ≡ b.its
    pub number : a.number ≡ b.number
    pub template : a.template ≡ b.template

  by_number : (a b : ℕ) (s t : Template) → Some (By a s) ≡ Some (By b t) → a ≡ b
  by_number a b s t e = cc

  by_template : (a b : ℕ) (s t : Template) → Some (By a s) ≡ Some (By b t) → s ≡ t
  by_template a b s t e = cc

  pub same_way : (a b : HasWay spec choice n conj literal) → IsSameWay a b
  same_way a b =
      let constraint = one_item (slice_get spec.constraints n) a.constraint b.constraint a.row_of.constraint_is b.row_of.constraint_is in
      let row = one_item (slice_get choice.rows n) a.row b.row a.row_of.row_is b.row_of.row_is in
      let way : Some (By a.number a.template) ≡ Some (By b.number b.template) = sym a.way_is ∙ (ap (λ r. way_at r conj literal) row ∙ b.way_is) in
      record {
        constraint = constraint;
        row = row;
        its = one_item (literal_at a.constraint conj literal) a.its b.its a.literal_is (ap (λ c. literal_at c conj literal) constraint ∙ b.literal_is);
        number = by_number a.number b.number a.template b.template way;
        template = by_template a.number b.number a.template b.template way;
      }

  -- look-ups find it
  inside : {A B : Type 0} (f : A → Option B) (o : Option A) (b : B) → option_and_then f o ≡ Some b → (a : A) × (o ≡ Some a) × (f a ≡ Some b)
  inside f None b is = absurd cc
  inside f (Some a) b is = (a, refl, is)

  pub taken_is : (its : Literal) (number : ℕ) (template : Template) → literal_in spec n conj literal ≡ Some its → way_in choice n conj literal ≡ Some (By number template) → IsTakenFor spec choice n conj literal its number template
  taken_is its number template literal_is way_is =
      let c = inside (λ constraint. literal_at constraint conj literal) (slice_get spec.constraints n) its literal_is in
      let r = inside (λ row. way_at row conj literal) (slice_get choice.rows n) (By number template) way_is in
      record {
        way = record {
          constraint = c.0;
          row = r.0;
          row_of = record { constraint_is = c.1; row_is = r.1 };
          its = its;
          literal_is = c.2;
          number = number;
          template = template;
          way_is = r.2;
        };
        its_is = refl;
        number_is = refl;
        template_is = refl;
      }

  pub literal_found : (way : HasWay spec choice n conj literal) → literal_in spec n conj literal ≡ Some way.its
  literal_found way = ap (option_and_then (λ constraint. literal_at constraint conj literal)) way.row_of.constraint_is ∙ way.literal_is

  pub way_found : (way : HasWay spec choice n conj literal) → way_in choice n conj literal ≡ Some (By way.number way.template)
  way_found way = ap (option_and_then (λ row. way_at row conj literal)) way.row_of.row_is ∙ way.way_is

  -- what is so of it is so where its parts are named otherwise
  along : (P : Constraint → ℕ → Template → Type 0) (a b : HasWay spec choice n conj literal) → P a.constraint a.number a.template → P b.constraint b.number b.template
  along P a b its =
      let same = same_way a b in
      subst (λ t. P b.constraint b.number t) same.template (subst (λ m. P b.constraint m a.template) same.number (subst (λ c. P c a.number a.template) same.constraint its))

  module _ (its : Literal) (number : ℕ) (template : Template) (taken : IsTakenFor spec choice n conj literal its number template) where
    abbrev Listed : ℕ → Template → Type 0
    Listed m t = IsListedAt (owner_at spec n taken.way.constraint) conj literal m t

    own : Listed number template → Listed taken.way.number taken.way.template
    own listed = subst (λ t. Listed taken.way.number t) (sym taken.template_is) (subst (λ m. Listed m template) (sym taken.number_is) listed)

    told : Listed taken.way.number taken.way.template → Listed number template
    told listed = subst (λ t. Listed number t) taken.template_is (subst (λ m. Listed m taken.way.template) taken.number_is listed)

    given_is : (way : HasWay spec choice n conj literal) → way.its.given ≡ its.given
    given_is way = ap (λ l. l.given) ((same_way way taken.way).its ∙ taken.its_is)

    refuted : its.given ≡ false → Listed number template → IsUnlisted spec choice n conj literal → ⊥
    refuted free listed flaw = by flaw.unlisted where
      by : (flaw.way.its.given ≡ true) ⊎ (IsListedAt (owner_at spec n flaw.way.constraint) conj literal flaw.way.number flaw.way.template → ⊥) → ⊥
      by (inl given) = false≢true (sym free ∙ (sym (given_is flaw.way) ∙ given))
      by (inr unlisted) = unlisted (along (λ c m t. IsListedAt (owner_at spec n c) conj literal m t) taken.way flaw.way (own listed))

    pub unlisted_if : (listed : Bool) → Decides listed (Listed number template) → Decides (its.given || not listed) (IsUnlisted spec choice n conj literal)
    unlisted_if listed decides = by its.given listed refl decides where
      by : (given b : Bool) → its.given ≡ given → Decides b (Listed number template) → Decides (given || not b) (IsUnlisted spec choice n conj literal)
      by true b is d = (λ _. record { way = taken.way; unlisted = inl (given_is taken.way ∙ is) }, λ _. refl)
      by false true is d = (λ e. absurd (false≢true e), λ flaw. absurd (refuted is (d.0 refl) flaw))
      by false false is d = (λ _. record { way = taken.way; unlisted = inr (λ listed. false≢true (d.1 (told listed))) }, λ _. refl)

    pub given_unlisted : its.given ≡ true → Decides its.given (IsUnlisted spec choice n conj literal)
    given_unlisted given = (λ _. record { way = taken.way; unlisted = inl (given_is taken.way ∙ given) }, λ _. given)

  -- ---- by the graph

  module _ (graph : Graph) (graph_is : IsGraphOf spec graph) where
    abbrev pub InGraph : Constraint → Type 0
    InGraph c = IsOwnerIn graph n (owner_at spec n c)

    pub in_graph : (c : Constraint) → slice_get spec.constraints n ≡ Some c → InGraph c
    in_graph c is = record { graph_is = graph_is; number_is = refl; constraint_is = is }

    -- where no template is unlisted, this one is listed
    pub listed_way : NoneUnder spec choice (1 ∷ []) → (way : HasWay spec choice n conj literal) → IsNamed (owner_at spec n way.constraint) conj literal way.its way.number way.template
    listed_way none way = by way.its.given refl (listed_or_not graph n (owner_at spec n way.constraint) (in_graph way.constraint way.row_of.constraint_is) conj literal way.number way.template) where
      by : (given : Bool) → way.its.given ≡ given → IsListedAt (owner_at spec n way.constraint) conj literal way.number way.template ⊎ (IsListedAt (owner_at spec n way.constraint) conj literal way.number way.template → ⊥) → IsNamed (owner_at spec n way.constraint) conj literal way.its way.number way.template
      by true given listed = absurd (none (Unlisted n conj literal) (record { is = record { way = way; unlisted = inl given }; begins = (refl, tt) }))
      by false free (inl listed) = record { free = free; listed = listed }
      by false free (inr unlisted) = absurd (none (Unlisted n conj literal) (record { is = record { way = way; unlisted = inr unlisted }; begins = (refl, tt) }))

    pub way_of : NoneUnder spec choice (1 ∷ []) → (way : HasWay spec choice n conj literal) → IsWayOf graph n conj literal (way.number - 1) (owner_at spec n way.constraint) way.template
    way_of none way =
        let named = listed_way none way in
        let owner_in = in_graph way.constraint way.row_of.constraint_is in
        let same = ways_only graph n (owner_at spec n way.constraint) owner_in conj literal named.listed.templates named.listed.listed in
        record { owner_in = owner_in; template_is = sym (ap (λ ts. slice_get ts (way.number - 1)) same) ∙ named.listed.template_is }

  pub falsifying_if : (way : HasWay spec choice n conj literal) (r : Option ℕ) → Falsifies (owner_at spec n way.constraint) conj literal way.template r → Decides (is_some r) (IsFalsifying spec choice n conj literal)
  falsifying_if way None told = (
    λ e. absurd (false≢true e),
    λ flaw. absurd (told flaw.falsified (along (λ c m t. Falsifies (owner_at spec n c) conj literal t (Some flaw.falsified)) flaw.way way flaw.falsifies).may),
  )
  falsifying_if way (Some m) told = (λ _. record { way = way; falsified = m; falsifies = told }, λ _. refl)

  -- ---- levels

  pub breaking_not_above : (m : ℕ) → IsBreaking spec choice n conj literal m → IsNotAbove choice m n
  breaking_not_above m flaw = record {
    row = flaw.other_row;
    row_is = flaw.other_of.row_is;
    other = flaw.way.row;
    other_is = flaw.way.row_of.row_is;
    not_above = not_less flaw.way.row.level flaw.other_row.level flaw.not_higher;
  }

  pub breaking_if : (way : HasWay spec choice n conj literal) (m : ℕ) (other : Constraint) → slice_get spec.constraints m ≡ Some other → IsNotAbove choice m n → (r : Option Reason) → Breaks (owner_at spec n way.constraint) (owner_at spec m other) way.template r → Decides (is_some r) (IsBreaking spec choice n conj literal m)
  breaking_if way m other other_is not_above None told = (
    λ e. absurd (false≢true e),
    λ flaw.
        let same = one_item (slice_get spec.constraints m) flaw.other other flaw.other_of.constraint_is other_is in
        let breaks = along (λ c k t. Breaks (owner_at spec n c) (owner_at spec m other) t (Some flaw.reason)) flaw.way way (subst (λ x. Breaks (owner_at spec n flaw.way.constraint) (owner_at spec m x) flaw.way.template (Some flaw.reason)) same flaw.breaks) in
        (breaks_if (owner_at spec n way.constraint) (λ _. Unit {0}) way.template m other None tt told).1 (record { member = tt; reason = flaw.reason; breaks = breaks }),
  )
  breaking_if way m other other_is not_above (Some reason) told = (
    λ _.
        let row = one_item (slice_get choice.rows n) not_above.other way.row not_above.other_is way.row_of.row_is in
        let le = subst (λ r. not_above.row.level ≤ r.level) row not_above.not_above in
        record {
          way = way;
          other = other;
          other_row = not_above.row;
          other_of = record { constraint_is = other_is; row_is = not_above.row_is };
          reason = reason;
          breaks = told;
          not_higher = λ less. absurd (omega (arith, less, le));
        },
    λ _. refl,
  )

module _ (spec : Spec) (choice : Choice) (n on : ℕ) where
  pub relying_not_above : IsRelying spec choice n on → IsNotAbove choice n on
  relying_not_above flaw = record {
    row = flaw.row;
    row_is = flaw.row_of.row_is;
    other = flaw.other_row;
    other_is = flaw.other_of.row_is;
    not_above = not_less flaw.other_row.level flaw.row.level flaw.not_lower;
  }

  pub relying_if : Fits spec choice → IsNotAbove choice n on → (b : Bool) → Decides b (Relies spec n on) → Decides b (IsRelying spec choice n on)
  relying_if fits not_above b relies = (
    λ t.
        let c = paired_back (λ k constraint row. FitsRow constraint row) spec.constraints choice.rows n not_above.row fits not_above.row_is in
        let d = paired_back (λ k constraint row. FitsRow constraint row) spec.constraints choice.rows on not_above.other fits not_above.other_is in
        let le = not_above.not_above in
        record {
          constraint = c.0;
          row = not_above.row;
          row_of = record { constraint_is = c.1; row_is = not_above.row_is };
          other = d.0;
          other_row = not_above.other;
          other_of = record { constraint_is = d.1; row_is = not_above.other_is };
          relies = relies.0 t;
          not_lower = λ less. absurd (omega (arith, less, le));
        },
    λ flaw. relies.1 flaw.relies,
  )
