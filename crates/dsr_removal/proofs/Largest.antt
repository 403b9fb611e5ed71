-- What rounds leave is the largest stuck set.
use Rattle.std.proofs.Common.{◌≡◌, ◌∙◌, ℕ, zero, suc, Bool, true, false, IsTrue, List, Option, None, Some, map, slice_get, nat_le, refl, sym, ap, subst, arith}
use Rattle.std.specs.Option.{option_map_or}
use Rattle.std.proofs.lemmas.Bool.Decides.{nat_tests}
use Rattle.std.proofs.lemmas.Option.{slice_get_within}
use Rattle.dsr_ir.specs.declared.declarations.Spec.{Spec}
use Rattle.dsr_meaning.specs.Counting.{IsIn}
use Rattle.dsr_placement.specs.Placing.{IsLeft}
use Rattle.dsr_plan_theory.proofs.Grown.{first_fewer, held_more, not_both}
use Rattle.dsr_plan_theory.specs.Stuck.{IsStuck}
use Rattle.dsr_removal.proofs.Staying.{entry, left_many, left_told}
use Rattle.dsr_removal.specs.Placements.{AreLargest}
use Rattle.dsr_removal.specs.Rounds.{AreSettled, IsLeftAt, is_late}
use Rattle.dsr_meaning.proofs.Items.{item_there}

module _ (spec : Spec) (rounds : List (Option ℕ)) (count : ℕ) (settled : AreSettled spec rounds count) where
  module _ (Member : ℕ → Type 0) (stuck : IsStuck spec Member) where
    -- a round that begins with all of a stuck set places none of it
    later : (r : ℕ) → ((n : ℕ) → Member n → IsLeftAt rounds r n) → (n : ℕ) → Member n → (y : Option ℕ) → slice_get rounds n ≡ Some y → IsTrue (is_late r y) → IsTrue (is_late (suc r) y)
    later r all n member None there late = late
    later r all n member (Some k) there late =
        elim (nat_le (suc r) k) as (λ b. nat_le (suc r) k ≡ b → IsTrue (nat_le (suc r) k)) [
          | true ↦ λ e. e
          | false ↦ λ e.
              let same : k ≡ r = grind (arith, nat_tests) in
              let placed : slice_get rounds n ≡ Some (Some r) = there ∙ ap (λ m. Some (Some m)) same in
              let c = item_there spec.constraints n (stuck.declared n member) in
              let first = settled.rounds_are.first n r c.0 placed c.1 in
              absurd (not_both spec Member n c.0 (first_fewer Member (IsLeftAt rounds r) all spec n c.0 first) (stuck.held n c.0 member c.1))
        ] refl

    at_first : (n : ℕ) (y : Option ℕ) → IsTrue (is_late 0 y)
    at_first n None = refl
    at_first n (Some k) = grind (arith, nat_tests)

    all_left : (r : ℕ) (n : ℕ) → Member n → IsLeftAt rounds r n
    all_left zero n member =
        let many = settled.rounds_are.as_many in
        let below = stuck.declared n member in
        let its = item_there rounds n (omega (arith, many, below)) in
        subst (λ o. IsTrue (option_map_or (is_late 0) o false)) (sym its.1) (at_first n its.0)
    all_left (suc r) n member =
        let its = entry r n rounds (all_left r n member) in
        subst (λ o. IsTrue (option_map_or (is_late (suc r)) o false)) (sym its.1) (later r (all_left r) n member its.0 its.1 its.2)

  stuck_at : IsStuck spec (IsLeftAt rounds count)
  stuck_at = record {
    declared = λ m left.
        let its = entry count m rounds left in
        let below = slice_get_within rounds m its.0 its.1 in
        let many = settled.rounds_are.as_many in
        omega (arith, below, many);
    held = λ m constraint left there. settled.ends m constraint left there;
  }

  pub left_is_largest : (left : List Bool) → left ≡ map (is_late count) rounds → (n : ℕ) → slice_get rounds n ≡ Some None → AreLargest spec left
  left_is_largest left is n none =
      let told = left_told left rounds count is in
      let to : (m : ℕ) → IsLeft left m → IsLeftAt rounds count m = λ m marked. sym (told m) ∙ marked in
      let back : (m : ℕ) → IsLeftAt rounds count m → IsLeft left m = λ m late. told m ∙ late in
      record {
        as_many = left_many left rounds count is ∙ settled.rounds_are.as_many;
        some = (n, back n (ap (λ o. option_map_or (is_late count) o false) none));
        stuck = record {
          declared = λ m marked. stuck_at.declared m (to m marked);
          held = λ m constraint marked there. held_more (IsLeftAt rounds count) (IsLeft left) back spec m constraint (stuck_at.held m constraint (to m marked) there);
        };
        all = λ set m is_stuck among. back m (all_left (λ k. IsIn k set) is_stuck count m among);
      }
