use Rattle.std.proofs.Common.{◌≡◌, ◌∙◌, false, true, Some, length, slice_get, inl, inr, refl, sym, ap, subst, arith}
use Rattle.std.proofs.lemmas.Bool.{cases_lt}
use Rattle.std.proofs.lemmas.Option.{slice_get_read, slice_get_within}
use Rattle.dsr_ir.specs.declared.declarations.SetDecl.{SetDecl}
use Rattle.dsr_lost.specs.Lost.{Holds}
use Rattle.dsr_meaning.proofs.Firing.{some_same}
use Rattle.dsr_lost.proofs.records.is_free.Goals as goal

pub loop-number-preserved : goal.loop-number-preserved
loop-number-preserved c = λ set decl below found holds.
    let at : slice_get c.args.spec.now.base.sets c.loop-number.number ≡ Some c.set-item.result =
    ap (λ ds. slice_get ds c.loop-number.number) (sym c.items-set-items.ensures) ∙ slice_get_read c.items-set-items.result.now (length c.items-set-items.result.now) c.loop-number.number c.set-item.result refl c.loop-number-test.true c.set-item.is in
    elim (cases_lt set c.loop-number.number) [
      | inl less ↦ c.loop-number.invariant set decl less found holds
      | inr more ↦
          let same : set ≡ c.loop-number.number = omega (arith, below, more) in
          let decls : decl ≡ c.set-item.result = some_same _ decl c.set-item.result (subst (λ n. slice_get c.args.spec.now.base.sets n ≡ Some decl) same found) at in
          let here : Holds c.args.model.now c.loop-number.number c.set-item.result c.args.elem =
          subst (λ n. Holds c.args.model.now n c.set-item.result c.args.elem) same (subst (λ (d : SetDecl). Holds c.args.model.now set d c.args.elem) decls holds) in
          let both : false ≡ true = sym c.if-holds.false ∙ c.holds.ensures.1 here in absurd cc
    ]

pub returns-then-holds : goal.returns-then-holds
returns-then-holds c =
    let at : slice_get c.args.spec.now.base.sets c.loop-number.number ≡ Some c.set-item.result =
    ap (λ ds. slice_get ds c.loop-number.number) (sym c.items-set-items.ensures) ∙ slice_get_read c.items-set-items.result.now (length c.items-set-items.result.now) c.loop-number.number c.set-item.result refl c.loop-number-test.true c.set-item.is in
    (λ is. absurd cc, λ free. absurd (free c.loop-number.number c.set-item.result at (c.holds.ensures.0 c.if-holds.true)))

pub returns : goal.returns
returns c = (
  λ _ set decl found holds.
      let below = slice_get_within c.args.spec.now.base.sets set decl found in
      let all : length c.items-set-items.result.now ≡ length c.args.spec.now.base.sets = ap length c.items-set-items.ensures in
      c.loop-number.invariant set decl (omega (arith, below, all, c.loop-number-test.false)) found holds,
  λ _. refl,
)
