-- Members, one constraint after the other, and that each waits for one.
use Rattle.std.proofs.Common.{◌≡◌, ◌<◌, ◌+◌, ◌++◌, ◌⊎◌, inl, inr, ℕ, List, [], ◌∷◌, Option, None, Some, slice_get, refl, sym, ap, subst, ◌∙◌, arith}
use Rattle.dsr_graph_theory.specs.Breaks.{Falsifies}
use Rattle.dsr_ir.specs.declared.constraints.Constraint.{Constraint}
use Rattle.dsr_ir.specs.declared.declarations.Spec.{Spec}
use Rattle.dsr_ir.specs.declared.updates.Template.{Template}
use Rattle.dsr_graph_theory.specs.Owners.{Owner}
use Rattle.dsr_meaning.proofs.Lists.{in_front_or_last, last_in}
use Rattle.dsr_meaning.specs.Counting.{IsIn}
use Rattle.dsr_plan_theory.proofs.Grown.{covers_fewer}
use Rattle.dsr_plan_theory.specs.Plans.{Covers, IsListedAt, owner_at}
use Rattle.dsr_plan_theory.specs.StuckSets.{AreInOrder, AreStuckWays, BreaksMember, FindsFirst, IsAmong, IsHopeless, IsStuckMember, MemberRelies, awaited_by, numbers_of}
use Rattle.dsr_plan_theory.specs.Stuck.{IsHeld, IsStuck, MustTest, SparesMembers, relied, uncovered}
use Rattle.dsr_plan_theory.specs.declared.refusals.StuckMember.{StuckMember}
use Rattle.dsr_plan_theory.specs.declared.refusals.StuckWay.{StuckWay}
use Rattle.dsr_removal.proofs.Firsts.{none_at_all}
use Rattle.dsr_removal.proofs.Items.{in_order_more, number_in, numbers_more}
use Rattle.dsr_removal.specs.Members.{AreMembers, AreMembersBelow, EachWaits, IsMemberAt}
use Rattle.dsr_meaning.proofs.Items.{in_left}
use Rattle.dsr_meaning.proofs.Numbers.{below_next}

module _ (spec : Spec) (Member : ℕ → Type 0) where
  pub no_members : AreMembersBelow spec Member 0 []
  no_members = record {
    in_order = tt;
    all = λ m less member. absurd (omega (arith, less));
    only = λ m among. absurd among;
    below = λ m among. absurd among;
    are = λ member among. absurd among;
  }

  -- a constraint that is no member is gone by
  pub one_passed : (n : ℕ) (members : List StuckMember) → (Member n → ⊥) → AreMembersBelow spec Member n members → AreMembersBelow spec Member (n + 1) members
  one_passed n members not_here its = record {
    in_order = its.in_order;
    all = λ m less member. elim (below_next m n less) as (λ _. IsAmong members m) [
      | inl lower ↦ its.all m lower member
      | inr same ↦ absurd (not_here (subst Member same member))
    ];
    only = its.only;
    below = λ m among. let less = its.below m among in omega (arith, less);
    are = its.are;
  }

  module _ (n : ℕ) (members : List StuckMember) (member : StuckMember) (here : Member n) (told : IsMemberAt spec Member n member) (its : AreMembersBelow spec Member n members) where
    numbers : numbers_of (members ++ member ∷ []) ≡ numbers_of members ++ n ∷ []
    numbers = numbers_more members member ∙ ap (λ k. numbers_of members ++ k ∷ []) told.number_is

    either : (m : ℕ) → IsAmong (members ++ member ∷ []) m → IsAmong members m ⊎ (m ≡ n)
    either m among = in_front_or_last n m (numbers_of members) (subst (IsIn m) numbers among)

    -- one that is a member is put behind the others
    pub one_more : AreMembersBelow spec Member (n + 1) (members ++ member ∷ [])
    one_more = record {
      in_order = subst (AreInOrder ◌<◌) (sym numbers) (in_order_more ◌<◌ (numbers_of members) n its.in_order its.below);
      all = λ m less is. subst (IsIn m) (sym numbers) (elim (below_next m n less) as (λ _. IsIn m (numbers_of members ++ n ∷ [])) [
        | inl lower ↦ in_left m (numbers_of members) (n ∷ []) (its.all m lower is)
        | inr same ↦ subst (λ k. IsIn k (numbers_of members ++ n ∷ [])) (sym same) (last_in n (numbers_of members))
      ]);
      only = λ m among. elim (either m among) as (λ _. Member m) [
        | inl front ↦ its.only m front
        | inr same ↦ subst Member (sym same) here
      ];
      below = λ m among. elim (either m among) as (λ _. m < n + 1) [
        | inl front ↦ let less = its.below m front in omega (arith, less)
        | inr same ↦ omega (arith, same)
      ];
      are = λ x among. elim (in_front_or_last member x members among) as (λ _. IsStuckMember spec Member x) [
        | inl front ↦ its.are x front
        | inr same ↦ subst (IsStuckMember spec Member) (sym same) told.stuck
      ];
    }

  pub members_whole : (n : ℕ) (members : List StuckMember) → ((m : ℕ) → Member m → m < n) → AreMembersBelow spec Member n members → AreMembers spec Member members
  members_whole n members few its = record {
    in_order = its.in_order;
    all = λ m member. its.all m (few m member) member;
    only = its.only;
    are = its.are;
  }

-- ---- waiting

module _ (Member : ℕ → Type 0) (owner : Owner) (ways : AreStuckWays owner Member []) where
  -- without ways, a template that falsifies nothing breaks no member
  spared : (conj literal number : ℕ) (template : Template) → IsListedAt owner conj literal number template → Falsifies owner conj literal template None → SparesMembers owner Member template
  spared conj literal number template listed falsifies m other reason member there breaks =
      none_at_all (BreaksMember owner Member template)
      (λ n first. ways.all (record { conj = conj; literal = literal; way = number; breaks = n; reason = first.is.reason })
      (record { template = template; listed = listed; falsifies_none = falsifies; first = first; reason_is = first.is.breaks }))
      m (record { member = member; reason = reason; breaks = record { other = other; other_is = there; breaks = breaks } })

  tests_more : (conj literal : ℕ) → MustTest owner Member conj literal → MustTest owner (λ _. ⊥) conj literal
  tests_more conj literal must can = must (record {
    its = can.its;
    literal_is = can.literal_is;
    number = can.number;
    template = can.template;
    may = can.may;
    spares = spared conj literal can.number can.template can.may.listed can.may.falsifies_none;
  })

  pub covered_by_all : (constraint : Constraint) → Covers constraint (MustTest owner (λ _. ⊥)) → Covers constraint (MustTest owner Member)
  covered_by_all constraint covers = covers_fewer constraint (MustTest owner (λ _. ⊥)) (MustTest owner Member) tests_more covers

module _ (spec : Spec) (Member : ℕ → Type 0) (members : List StuckMember) (stuck : IsStuck spec Member) (are : AreMembers spec Member members) (none_hopeless : (n : ℕ) → IsHopeless spec Member n → ⊥) where
  -- something holds each member
  not_free : (n : ℕ) (constraint : Constraint) → Member n → slice_get spec.constraints n ≡ Some constraint → ((m : ℕ) → MemberRelies spec Member n m → ⊥) → AreStuckWays (owner_at spec n constraint) Member [] → IsHeld spec Member n constraint → ⊥
  not_free n constraint member there no_relier ways (relied m is relies) = no_relier m (record { member = is; relies = relies })
  not_free n constraint member there no_relier ways (uncovered fails) = none_hopeless n (record {
    member = member;
    constraint = constraint;
    constraint_is = there;
    uncovered = λ covers. fails (covered_by_all Member (owner_at spec n constraint) ways constraint covers);
  })

  waits_by : (n : ℕ) (constraint : Constraint) → Member n → slice_get spec.constraints n ≡ Some constraint → (by : Option ℕ) (ways : List StuckWay) → FindsFirst (MemberRelies spec Member n) by → AreStuckWays (owner_at spec n constraint) Member ways → (next : ℕ) × (awaited_by by ways ≡ Some next) × IsAmong members next
  waits_by n constraint member there (Some who) ways its_relier its = (who, refl, are.all who its_relier.is.member)
  waits_by n constraint member there None (w ∷ ways) its_relier its = (w.breaks, refl, are.all w.breaks (its.only w (inl refl)).first.is.member)
  waits_by n constraint member there None [] its_relier its = absurd (not_free n constraint member there its_relier its (stuck.held n constraint member there))

  pub each_waits : EachWaits members
  each_waits member among =
      let its = are.are member among in
      let here = are.only member.constraint (number_in members member among) in
      waits_by member.constraint its.constraint here its.constraint_is member.relied_by member.ways its.relied_by its.ways
