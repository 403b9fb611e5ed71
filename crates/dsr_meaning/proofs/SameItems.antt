-- What the derived `==` says of guards and of what a rule's index runs over.
use Rattle.std.proofs.Common.{◌≡◌, ◌∙◌, inl, inr, true, List, [], ◌∷◌, Decides, refl, sym, ap, subst}
use Rattle.std.specs.List.{list_all, list_any}
use Rattle.std.proofs.lemmas.Bool.{false≢true}
use Rattle.std.proofs.lemmas.Bool.Decides.{Decides-and, Decides-eqb, Decides-like, Decides-or}
use Rattle.std.specs.Cmp.{booleans_Decides}
use Rattle.dsr_ir.specs.declared.declarations.FieldRef.{FieldRef}
use Rattle.dsr_ir.specs.declared.rules.Guard.{Guard}
use Rattle.dsr_ir.specs.declared.rules.Op.{Op}
use Rattle.dsr_ir.specs.declared.rules.Op.TheVariants as ops
use Rattle.dsr_ir.specs.declared.rules.Path.{Path}
use Rattle.dsr_ir.specs.declared.rules.Span.{Span}
use Rattle.dsr_ir.specs.declared.rules.Span.TheVariants as spans
use Rattle.dsr_ir.specs.declared.rules.Test.{Test}
use Rattle.dsr_ir.specs.declared.rules.Test.TheVariants as tests
use Rattle.dsr_ir.specs.contracts.declarations.FieldRefPartialEq.TheImpl as place
use Rattle.dsr_ir.specs.contracts.rules.GuardPartialEq.TheImpl as guard
use Rattle.dsr_ir.specs.contracts.rules.OpPartialEq.TheImpl as op
use Rattle.dsr_ir.specs.contracts.rules.PathPartialEq.TheImpl as path
use Rattle.dsr_ir.specs.contracts.rules.SpanPartialEq.TheImpl as span
use Rattle.dsr_ir.specs.contracts.rules.TestPartialEq.TheImpl as test
use Rattle.dsr_meaning.specs.Counting.{IsIn}

field_decides : (a b : FieldRef) → Decides (place.ghosts.eq a b) (a ≡ b)
field_decides a b =
    Decides-like _ (λ h. λ i. record { structure = h.0 i; field = h.1 i }) (λ e. (ap (λ x. x.structure) e, ap (λ x. x.field) e))
    (Decides-and _ _ (Decides-eqb a.structure b.structure) (Decides-eqb a.field b.field))

pub path_decides : (a b : Path) → Decides (path.ghosts.eq a b) (a ≡ b)
path_decides a b =
    Decides-like _ (λ h. λ i. record { field = h.0 i; indexed = h.1 i }) (λ e. (ap (λ x. x.field) e, ap (λ x. x.indexed) e))
    (Decides-and _ _ (field_decides a.field b.field) (booleans_Decides a.indexed b.indexed))

op_so : (o p : Op) → op.ghosts.eq o p ≡ true → o ≡ p
op_so ops.Eq ops.Eq e = refl
op_so ops.Ne ops.Ne e = refl
op_so ops.Lt ops.Lt e = refl
op_so ops.Le ops.Le e = refl
op_so ops.Gt ops.Gt e = refl
op_so ops.Ge ops.Ge e = refl
op_so _ _ e = absurd (false≢true e)

op_itself : (o : Op) → op.ghosts.eq o o ≡ true
op_itself ops.Eq = refl
op_itself ops.Ne = refl
op_itself ops.Lt = refl
op_itself ops.Le = refl
op_itself ops.Gt = refl
op_itself ops.Ge = refl

op_decides : (o p : Op) → Decides (op.ghosts.eq o p) (o ≡ p)
op_decides o p = (op_so o p, λ e. ap (op.ghosts.eq o) (sym e) ∙ op_itself o)

test_so : (s t : Test) → test.ghosts.eq s t ≡ true → s ≡ t
test_so (tests.Cmp o k) (tests.Cmp p l) e =
    let same = (Decides-and _ _ (op_decides o p) (Decides-eqb k l)).0 e in λ i. tests.Cmp (same.0 i) (same.1 i)
test_so tests.Legal tests.Legal e = refl
test_so tests.Illegal tests.Illegal e = refl
test_so tests.IsNone tests.IsNone e = refl
test_so tests.IsSome tests.IsSome e = refl
test_so _ _ e = absurd (false≢true e)

test_itself : (t : Test) → test.ghosts.eq t t ≡ true
test_itself (tests.Cmp o k) = (Decides-and _ _ (op_decides o o) (Decides-eqb k k)).1 (refl, refl)
test_itself tests.Legal = refl
test_itself tests.Illegal = refl
test_itself tests.IsNone = refl
test_itself tests.IsSome = refl

test_decides : (s t : Test) → Decides (test.ghosts.eq s t) (s ≡ t)
test_decides s t = (test_so s t, λ e. ap (test.ghosts.eq s) (sym e) ∙ test_itself s)

pub guard_decides : (a b : Guard) → Decides (guard.ghosts.eq a b) (a ≡ b)
guard_decides a b =
    Decides-like _ (λ h. λ i. record { path = h.0 i; test = h.1 i }) (λ e. (ap (λ x. x.path) e, ap (λ x. x.test) e))
    (Decides-and _ _ (path_decides a.path b.path) (test_decides a.test b.test))

span_so : (s t : Span) → span.ghosts.eq s t ≡ true → s ≡ t
span_so spans.Single spans.Single e = refl
span_so (spans.Array a) (spans.Array b) e = ap spans.Array ((field_decides a b).0 e)
span_so (spans.Slots p) (spans.Slots q) e = ap spans.Slots ((Decides-eqb p q).0 e)
span_so _ _ e = absurd (false≢true e)

span_itself : (s : Span) → span.ghosts.eq s s ≡ true
span_itself spans.Single = refl
span_itself (spans.Array a) = (field_decides a a).1 refl
span_itself (spans.Slots p) = (Decides-eqb p p).1 refl

pub span_decides : (s t : Span) → Decides (span.ghosts.eq s t) (s ≡ t)
span_decides s t = (span_so s t, λ e. ap (span.ghosts.eq s) (sym e) ∙ span_itself s)

-- ---- guards among others

pub among : (guards : List Guard) (one : Guard) → Decides (list_any (λ y. guard.ghosts.eq y one) guards) (IsIn one guards)
among [] one = (λ e. absurd cc, λ h. absurd h)
among (y ∷ ys) one = Decides-or _ _ (Decides-like _ sym sym (guard_decides y one)) (among ys one)

pub all_among : (guards others : List Guard)
    → Decides (list_all (λ one. list_any (λ y. guard.ghosts.eq y one) guards) others) ((one : Guard) → IsIn one others → IsIn one guards)
all_among guards [] = (λ _ one h. absurd h, λ _. refl)
all_among guards (o ∷ os) = Decides-like _ to from (Decides-and _ _ (among guards o) (all_among guards os))
  where
    to : IsIn o guards × ((one : Guard) → IsIn one os → IsIn one guards) → (one : Guard) → IsIn one (o ∷ os) → IsIn one guards
    to h one (inl e) = subst (λ x. IsIn x guards) (sym e) h.0
    to h one (inr later) = h.1 one later

    from : ((one : Guard) → IsIn one (o ∷ os) → IsIn one guards) → IsIn o guards × ((one : Guard) → IsIn one os → IsIn one guards)
    from each = (each o (inl refl), λ one later. each one (inr later))
