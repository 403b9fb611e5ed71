-- The writes that make guards true, and those that give a target besides.
use Rattle.std.proofs.Common.{◌≡◌, ◌≢◌, ◌∙◌, nat_eq, Bool, true, false, not, ◌&&◌, List, [], ◌∷◌, None, Some, inl, inr, refl, sym, ap, subst, arith}
use Rattle.std.specs.Prelude.{option_map, if◌then◌else◌}
use Rattle.std.specs.Option.{option_and_then}
use Rattle.std.proofs.lemmas.Bool.{eqb-true}
use Rattle.std.proofs.lemmas.Bool.Decides.{nat_tests}
use Rattle.std.proofs.lemmas.Option.{same_Some}
use Rattle.dsr_ir.specs.declared.declarations.FieldRef.{FieldRef}
use Rattle.dsr_ir.specs.declared.declarations.Structures.{Structures}
use Rattle.dsr_ir.specs.declared.rules.Guard.{Guard}
use Rattle.dsr_ir.specs.declared.rules.Path.{Path}
use Rattle.dsr_ir.specs.declared.updates.Pick.{Pick}
use Rattle.dsr_ir.specs.declared.updates.Write.{Write}
use Rattle.dsr_meaning.specs.Counting.{IsIn}
use Rattle.dsr_meaning.specs.Lists.{any_of}
use Rattle.dsr_step_laws.proofs.GuardWrites.{IsGuardWrite, guard_written}
use Rattle.dsr_update_theory.specs.Guards.{guard_write}
use Rattle.dsr_update_theory.specs.Options.{reference_write}
use Rattle.dsr_update_theory.specs.Templates.{accept_slot, all_true, is_on, is_same_field, others, passes_slot, target_writes}
use Rattle.dsr_meaning.proofs.Items.{none_of}

-- ---- fields that are the same

same_parts : (a b : FieldRef) → a.structure ≡ b.structure → a.field ≡ b.field → a ≡ b
same_parts a b structure field = λ i. record { structure = structure i; field = field i }

pub same_field : (a b : FieldRef) → is_same_field a b ≡ true → a ≡ b
same_field a b e =
    elim (nat_eq a.structure b.structure) as (λ t. nat_eq a.structure b.structure ≡ t → (t && nat_eq a.field b.field) ≡ true → a ≡ b) [
      | true ↦ λ is h. same_parts a b (eqb-true a.structure b.structure is) (eqb-true a.field b.field h)
      | false ↦ λ _ h. absurd cc
    ] refl e

own_field : (a : FieldRef) → is_same_field a a ≡ true
own_field a =
    let structure : nat_eq a.structure a.structure ≡ true = grind (arith, nat_tests) in
    let field : nat_eq a.field a.field ≡ true = grind (arith, nat_tests) in
    ap (λ t. t && nat_eq a.field a.field) structure ∙ field

pub other_field : (a b : FieldRef) → is_same_field a b ≡ false → a ≢ b
other_field a b e same =
    let own : is_same_field a b ≡ true = ap (λ x. is_same_field x b) same ∙ own_field b in
    let both : true ≡ false = sym own ∙ e in
    absurd cc

-- ---- guards made true

-- the first guard is made true by the first write, and no other one is on its field
pub record IsAllTrue (base : Structures) (guard : Guard) (rest : List Guard) (writes : List Write) : Type 0 where
  pub alone : any_of (is_on guard.path.field) rest ≡ false
  pub write : Write
  pub made : guard_write base true guard ≡ Some write
  pub later : List Write
  pub later_are : all_true base rest ≡ Some later
  pub are : writes ≡ write ∷ later

pub first_true : (base : Structures) (guard : Guard) (rest : List Guard) (writes : List Write) → all_true base (guard ∷ rest) ≡ Some writes → IsAllTrue base guard rest writes
first_true base guard rest writes e =
    elim (any_of (is_on guard.path.field) rest) as (λ b. any_of (is_on guard.path.field) rest ≡ b → (if b then None else option_and_then (λ write. option_map (λ ws. write ∷ ws) (all_true base rest)) (guard_write base true guard)) ≡ Some writes → IsAllTrue base guard rest writes) [
      | true ↦ λ _ h. absurd cc
      | false ↦ λ alone h. elim (guard_write base true guard) as (λ o. guard_write base true guard ≡ o → option_and_then (λ write. option_map (λ ws. write ∷ ws) (all_true base rest)) o ≡ Some writes → IsAllTrue base guard rest writes) [
        | None ↦ λ _ g. absurd cc
        | Some write ↦ λ made g. elim (all_true base rest) as (λ o. all_true base rest ≡ o → option_map (λ ws. write ∷ ws) o ≡ Some writes → IsAllTrue base guard rest writes) [
          | None ↦ λ _ k. absurd cc
          | Some later ↦ λ later_are k. record {
            alone = alone;
            write = write;
            made = made;
            later = later;
            later_are = later_are;
            are = sym (same_Some (write ∷ later) writes k);
          }
        ] refl g
      ] refl h
    ] refl e

-- a write by which the guard is made true
pub record HasWrite (guard : Guard) (writes : List Write) : Type 0 where
  pub write : Write
  pub among : IsIn write writes
  pub by : IsGuardWrite true guard write

pub write_of : (base : Structures) (guards : List Guard) (writes : List Write) → all_true base guards ≡ Some writes → (guard : Guard) → IsIn guard guards → HasWrite guard writes
write_of base [] writes e guard is_in = absurd is_in
write_of base (g ∷ rest) writes e guard (inl same) =
    let first = first_true base g rest writes e in
    record {
      write = first.write;
      among = subst (IsIn first.write) (sym first.are) (inl refl);
      by = guard_written base true guard first.write (ap (guard_write base true) same ∙ first.made);
    }
write_of base (g ∷ rest) writes e guard (inr later) =
    let first = first_true base g rest writes e in
    let found = write_of base rest first.later first.later_are guard later in
    record {
      write = found.write;
      among = subst (IsIn found.write) (sym first.are) (inr found.among);
      by = found.by;
    }

-- a guard on whose path the write is
pub record HasGuard (guards : List Guard) (write : Write) : Type 0 where
  pub guard : Guard
  pub among : IsIn guard guards
  pub path : write.path ≡ guard.path

pub guard_of : (base : Structures) (guards : List Guard) (writes : List Write) → all_true base guards ≡ Some writes → (write : Write) → IsIn write writes → HasGuard guards write
guard_of base [] writes e write is_in = absurd (subst (IsIn write) (sym (same_Some [] writes e)) is_in)
guard_of base (g ∷ rest) writes e write is_in =
    let first = first_true base g rest writes e in
    let by = guard_written base true g first.write first.made in
    elim (subst (IsIn write) first.are is_in) [
      | inl same ↦ record { guard = g; among = inl refl; path = ap (λ w. w.path) (same ∙ by.is) }
      | inr later ↦
          let found = guard_of base rest first.later first.later_are write later in
          record { guard = found.guard; among = inr found.among; path = found.path }
    ]

-- ---- guards that aren't on a field

pub other_in : (field : FieldRef) (guards : List Guard) (guard : Guard) → IsIn guard guards → is_on field guard ≡ false → IsIn guard (others field guards)
other_in field [] guard is_in off = is_in
other_in field (g ∷ rest) guard (inl same) off =
    let first_off : is_on field g ≡ false = ap (is_on field) (sym same) ∙ off in
    subst (λ b. IsIn guard (if b then others field rest else g ∷ others field rest)) (sym first_off) (inl same)
other_in field (g ∷ rest) guard (inr later) off =
    elim (is_on field g) as (λ b. IsIn guard (if b then others field rest else g ∷ others field rest)) [
      | true ↦ other_in field rest guard later off
      | false ↦ inr (other_in field rest guard later off)
    ]

pub record IsOther (field : FieldRef) (guards : List Guard) (guard : Guard) : Type 0 where
  pub among : IsIn guard guards
  pub off : is_on field guard ≡ false

behind : (field : FieldRef) (g : Guard) (rest : List Guard) (guard : Guard) → IsOther field rest guard → IsOther field (g ∷ rest) guard
behind field g rest guard other = record { among = inr other.among; off = other.off }

pub in_others : (field : FieldRef) (guards : List Guard) (guard : Guard) → IsIn guard (others field guards) → IsOther field guards guard
in_others field [] guard is_in = absurd is_in
in_others field (g ∷ rest) guard is_in =
    elim (is_on field g) as (λ b. is_on field g ≡ b → IsIn guard (if b then others field rest else g ∷ others field rest) → IsOther field (g ∷ rest) guard) [
      | true ↦ λ _ h. behind field g rest guard (in_others field rest guard h)
      | false ↦ λ off h. elim h [
        | inl same ↦ record { among = inl same; off = ap (is_on field) same ∙ off }
        | inr later ↦ behind field g rest guard (in_others field rest guard later)
      ]
    ] refl is_in

-- ---- the target and the guards

-- the target is written first, and each guard on another field is made true
pub record AreTargetWrites (base : Structures) (pick : Pick) (path : Path) (guards : List Guard) (writes : List Write) : Type 0 where
  pub accepts : accept_slot path.field guards ≡ true
  pub write : Write
  pub made : reference_write base pick path ≡ Some write
  pub later : List Write
  pub later_are : all_true base (others path.field guards) ≡ Some later
  pub are : writes ≡ write ∷ later

pub target_written : (base : Structures) (pick : Pick) (path : Path) (guards : List Guard) (writes : List Write) → target_writes base pick path guards ≡ Some writes → AreTargetWrites base pick path guards writes
target_written base pick path guards writes e =
    elim (accept_slot path.field guards) as (λ b. accept_slot path.field guards ≡ b → (if b then option_and_then (λ write. option_map (λ ws. write ∷ ws) (all_true base (others path.field guards))) (reference_write base pick path) else None) ≡ Some writes → AreTargetWrites base pick path guards writes) [
      | false ↦ λ _ h. absurd cc
      | true ↦ λ accepts h. elim (reference_write base pick path) as (λ o. reference_write base pick path ≡ o → option_and_then (λ write. option_map (λ ws. write ∷ ws) (all_true base (others path.field guards))) o ≡ Some writes → AreTargetWrites base pick path guards writes) [
        | None ↦ λ _ g. absurd cc
        | Some write ↦ λ made g. elim (all_true base (others path.field guards)) as (λ o. all_true base (others path.field guards) ≡ o → option_map (λ ws. write ∷ ws) o ≡ Some writes → AreTargetWrites base pick path guards writes) [
          | None ↦ λ _ k. absurd cc
          | Some later ↦ λ later_are k. record {
            accepts = accepts;
            write = write;
            made = made;
            later = later;
            later_are = later_are;
            are = sym (same_Some (write ∷ later) writes k);
          }
        ] refl g
      ] refl h
    ] refl e

-- a guard on the target's field asks for no more than a slot
pub accepted : (field : FieldRef) (guards : List Guard) → accept_slot field guards ≡ true → (guard : Guard) → IsIn guard guards → is_on field guard ≡ true → passes_slot guard.test ≡ true
accepted field guards accepts guard is_in on =
    let none : any_of (λ g. is_on field g && not (passes_slot g.test)) guards ≡ false = negated (any_of (λ g. is_on field g && not (passes_slot g.test)) guards) accepts in
    let fails : (is_on field guard && not (passes_slot guard.test)) ≡ false = none_of (λ g. is_on field g && not (passes_slot g.test)) guards none guard is_in in
    passed (passes_slot guard.test) (sym (ap (λ t. t && not (passes_slot guard.test)) on) ∙ fails) where
      negated : (b : Bool) → not b ≡ true → b ≡ false
      negated true h = absurd cc
      negated false h = refl

      passed : (b : Bool) → not b ≡ false → b ≡ true
      passed true h = refl
      passed false h = absurd cc
