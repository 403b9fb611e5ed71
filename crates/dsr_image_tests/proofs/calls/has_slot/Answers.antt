use Rattle.std.proofs.Common.{◌≡◌, ◌∙◌, ◌<◌, ℕ, nat_lt, Bool, true, false, length, replicate, None, Some, IsSomeAnd, is_some, option_map, slice_get, get_or, refl, sym, ap, subst, inl, inr, arith}
use Rattle.std.proofs.lemmas.Bool.{cases_lt, le-ltb, true≢false}
use Rattle.std.proofs.lemmas.List.{length-replicate}
use Rattle.std.proofs.lemmas.Option.{slice_get_read}
use Rattle.std.specs.Bool.{OnTrue}
use Rattle.dsr_ir.specs.declared.declarations.SetDecl.{SetDecl}
use Rattle.dsr_ir.specs.declared.layouts.Layout.{Layout}
use Rattle.dsr_meaning.specs.Instances.{record_count}
use Rattle.dsr_model.proofs.Starting.{numbered_at}
use Rattle.dsr_model.specs.Sets.{HasSlot, empty_set, empty_sets, is_premise, mark_count}
use Rattle.dsr_image_tests.proofs.calls.has_slot.Goals as goal

below_if : (m n : ℕ) → nat_lt m n ≡ true → m < n
below_if m n is = elim (cases_lt m n) [
  | inl below ↦ below
  | inr past ↦ absurd (true≢false (sym is ∙ le-ltb m n past))
]

-- a set that is no complement has a mark for each slot
has_mark : (layout : Layout) (premise : Bool) (d : SetDecl) (slot : ℕ) → is_some d.except ≡ false → slot < record_count layout d.pool
    → slot < length (empty_set layout premise d).marks
has_mark layout premise d slot plain below = elim d.except as (λ o. is_some o ≡ false → slot < length (replicate (mark_count o (record_count layout d.pool)) false)) [
  | None ↦ λ _. omega (arith, below, length-replicate (record_count layout d.pool) false)
  | Some base ↦ λ never. absurd cc
] plain

pub returns-then-is_none : goal.returns-then-is_none
returns-then-is_none c =
    let spec = c.args.spec.now in
    let layout = c.args.layout.now in
    let within : c.args.set < length c.items.result.now = below_if _ _ (sym c.in-Some.ensures.lookup.0) in
    let read : c.in-Some.decl.now ≡ get_or c.items.result.now c.args.set c.in-Some.decl.now = c.in-Some.ensures.lookup.1 in
    let declared : slice_get spec.base.sets c.args.set ≡ Some c.in-Some.decl.now =
    ap (λ ds. slice_get ds c.args.set) (sym c.items.ensures) ∙ slice_get_read c.items.result.now (length c.items.result.now) c.args.set c.in-Some.decl.now refl within read in
    let at = numbered_at (λ k d. empty_set layout (is_premise spec.rules k) d) spec.base.sets c.args.set
    ∙ ap (option_map (empty_set layout (is_premise spec.rules c.args.set))) declared in
    elim (nat_lt c.from.result c.record_count.result) as (λ b. nat_lt c.from.result c.record_count.result ≡ b → OnTrue b (HasSlot (empty_sets spec layout) c.args.set c.args.slot)) [
      | true ↦ λ is.
          let below : c.args.slot < record_count layout c.in-Some.decl.now.pool = omega (arith, below_if _ _ is, c.from.ensures, c.record_count.ensures) in
          subst (λ o. IsSomeAnd o (λ s. c.args.slot < length s.marks)) (sym at)
          (has_mark layout (is_premise spec.rules c.args.set) c.in-Some.decl.now c.args.slot c.if-is_none.ensures below)
      | false ↦ λ _. tt
    ] refl
