-- What a derived `==` says of two templates: that they are the same.
use Rattle.std.proofs.Common.{◌≡◌, ◌&&◌, Bool, true, false, List, [], ◌∷◌, Option, None, Some, eqb, refl, sym, ap, subst, true≢false, Decides}
use Rattle.std.proofs.Math.Bool.{beq}
use Rattle.std.specs.Cmp.{booleans_Decides}
use Rattle.std.specs.Cmp.Lexicographic.{pointwise}
use Rattle.std.specs.Option.{option_eq}
use Rattle.std.proofs.lemmas.Bool.{and_parts, eqb-true}
use Rattle.dsr_ir.specs.declared.constraints.Measure.{Measure}
use Rattle.dsr_ir.specs.declared.constraints.Measure.TheVariants as measures
use Rattle.dsr_ir.specs.declared.constraints.Var.{Var}
use Rattle.dsr_ir.specs.declared.constraints.Var.TheVariants as vars
use Rattle.dsr_ir.specs.declared.declarations.FieldRef.{FieldRef}
use Rattle.dsr_ir.specs.declared.rules.Op.{Op}
use Rattle.dsr_ir.specs.declared.rules.Op.TheVariants as ops
use Rattle.dsr_ir.specs.declared.rules.Path.{Path}
use Rattle.dsr_ir.specs.declared.rules.Test.{Test}
use Rattle.dsr_ir.specs.declared.rules.Test.TheVariants as tests
use Rattle.dsr_ir.specs.declared.updates.At.{At}
use Rattle.dsr_ir.specs.declared.updates.At.TheVariants as ats
use Rattle.dsr_ir.specs.declared.updates.Goal.{Goal}
use Rattle.dsr_ir.specs.declared.updates.Goal.TheVariants as goals
use Rattle.dsr_ir.specs.declared.updates.Pick.{Pick}
use Rattle.dsr_ir.specs.declared.updates.Pick.TheVariants as picks
use Rattle.dsr_ir.specs.declared.updates.Place.{Place}
use Rattle.dsr_ir.specs.declared.updates.Place.TheVariants as places
use Rattle.dsr_ir.specs.declared.updates.Template.{Template}
use Rattle.dsr_ir.specs.declared.updates.Update.{Update}
use Rattle.dsr_ir.specs.declared.updates.Write.{Write}
use Rattle.dsr_ir.specs.contracts.constraints.MeasurePartialEq.TheImpl as measure
use Rattle.dsr_ir.specs.contracts.constraints.VarPartialEq.TheImpl as variable
use Rattle.dsr_ir.specs.contracts.declarations.FieldRefPartialEq.TheImpl as field
use Rattle.dsr_ir.specs.contracts.rules.OpPartialEq.TheImpl as op
use Rattle.dsr_ir.specs.contracts.rules.PathPartialEq.TheImpl as path
use Rattle.dsr_ir.specs.contracts.rules.TestPartialEq.TheImpl as test
use Rattle.dsr_ir.specs.contracts.updates.AtPartialEq.TheImpl as at
use Rattle.dsr_ir.specs.contracts.updates.GoalPartialEq.TheImpl as goal
use Rattle.dsr_ir.specs.contracts.updates.PickPartialEq.TheImpl as pick
use Rattle.dsr_ir.specs.contracts.updates.PlacePartialEq.TheImpl as place
use Rattle.dsr_ir.specs.contracts.updates.TemplatePartialEq.TheImpl as template
use Rattle.dsr_ir.specs.contracts.updates.TemplateEq.TheImpl.Laws.{laws-law}
use Rattle.dsr_ir.specs.contracts.updates.UpdatePartialEq.TheImpl as update
use Rattle.dsr_ir.specs.contracts.updates.WritePartialEq.TheImpl as write

never : {A : Type 0} → false ≡ true → A
never e = absurd (true≢false (sym e))

pub maybe : {T : Type 0} (E : T → T → Bool) → ((a b : T) → E a b ≡ true → a ≡ b) → (p q : Option T) → option_eq E p q ≡ true → p ≡ q
maybe E is None None e = refl
maybe E is (Some a) (Some b) e = ap Some (is a b e)
maybe E is None (Some b) e = never e
maybe E is (Some a) None e = never e

each : {T : Type 0} (E : T → T → Bool) → ((a b : T) → E a b ≡ true → a ≡ b) → (xs ys : List T) → pointwise E xs ys ≡ true → xs ≡ ys
each E is [] [] e = refl
each E is [] (y ∷ ys) e = never e
each E is (x ∷ xs) [] e = never e
each E is (x ∷ xs) (y ∷ ys) e =
    let h = and_parts (E x y) (pointwise E xs ys) e in
    λ i. is x y h.0 i ∷ each E is xs ys h.1 i

pub var_is : (a b : Var) → variable.ghosts.eq a b ≡ true → a ≡ b
var_is vars.Head vars.Head e = refl
var_is vars.First vars.First e = refl
var_is vars.Second vars.Second e = refl
var_is _ _ e = never e

pub op_is : (a b : Op) → op.ghosts.eq a b ≡ true → a ≡ b
op_is ops.Eq ops.Eq e = refl
op_is ops.Ne ops.Ne e = refl
op_is ops.Lt ops.Lt e = refl
op_is ops.Le ops.Le e = refl
op_is ops.Gt ops.Gt e = refl
op_is ops.Ge ops.Ge e = refl
op_is _ _ e = never e

goal_is : (a b : Goal) → goal.ghosts.eq a b ≡ true → a ≡ b
goal_is goals.AddSet goals.AddSet e = refl
goal_is goals.RemoveSet goals.RemoveSet e = refl
goal_is goals.AddTuple goals.AddTuple e = refl
goal_is goals.RemoveTuple goals.RemoveTuple e = refl
goal_is goals.SetValue goals.SetValue e = refl
goal_is goals.Trim goals.Trim e = refl
goal_is goals.Supply goals.Supply e = refl
goal_is goals.ExactlyOne goals.ExactlyOne e = refl
goal_is _ _ e = never e

pub measure_is : (a b : Measure) → measure.ghosts.eq a b ≡ true → a ≡ b
measure_is (measures.Whole s) (measures.Whole t) e = ap measures.Whole (eqb-true s t e)
measure_is (measures.Out v r) (measures.Out w q) e =
    let h = and_parts (variable.ghosts.eq v w) (eqb r q) e in
    λ i. measures.Out (var_is v w h.0 i) (eqb-true r q h.1 i)
measure_is (measures.Into r v) (measures.Into q w) e =
    let h = and_parts (eqb r q) (variable.ghosts.eq v w) e in
    λ i. measures.Into (eqb-true r q h.0 i) (var_is v w h.1 i)
measure_is _ _ e = never e

test_is : (a b : Test) → test.ghosts.eq a b ≡ true → a ≡ b
test_is (tests.Cmp o k) (tests.Cmp p l) e =
    let h = and_parts (op.ghosts.eq o p) (eqb k l) e in
    λ i. tests.Cmp (op_is o p h.0 i) (eqb-true k l h.1 i)
test_is tests.Legal tests.Legal e = refl
test_is tests.Illegal tests.Illegal e = refl
test_is tests.IsNone tests.IsNone e = refl
test_is tests.IsSome tests.IsSome e = refl
test_is _ _ e = never e

pick_is : (a b : Pick) → pick.ghosts.eq a b ≡ true → a ≡ b
pick_is (picks.Num k) (picks.Num l) e = ap picks.Num (eqb-true k l e)
pick_is picks.NoneCode picks.NoneCode e = refl
pick_is (picks.CodeOf v) (picks.CodeOf w) e = ap picks.CodeOf (var_is v w e)
pick_is picks.Fresh picks.Fresh e = refl
pick_is (picks.SizeOf m) (picks.SizeOf n) e = ap picks.SizeOf (measure_is m n e)
pick_is _ _ e = never e

place_is : (a b : Place) → place.ghosts.eq a b ≡ true → a ≡ b
place_is places.Head places.Head e = refl
place_is (places.Of v) (places.Of w) e = ap places.Of (var_is v w e)
place_is places.Deriver places.Deriver e = refl
place_is _ _ e = never e

at_is : (a b : At) → at.ghosts.eq a b ≡ true → a ≡ b
at_is ats.Scalar ats.Scalar e = refl
at_is (ats.SlotOf v) (ats.SlotOf w) e = ap ats.SlotOf (var_is v w e)
at_is ats.Deriver ats.Deriver e = refl
at_is _ _ e = never e

field_is : (a b : FieldRef) → field.ghosts.eq a b ≡ true → a ≡ b
field_is a b e =
    let h = and_parts (eqb a.structure b.structure) (eqb a.field b.field) e in
    λ i. record { structure = eqb-true a.structure b.structure h.0 i; field = eqb-true a.field b.field h.1 i }

path_is : (a b : Path) → path.ghosts.eq a b ≡ true → a ≡ b
path_is a b e =
    let h = and_parts (field.ghosts.eq a.field b.field) (beq a.indexed b.indexed) e in
    λ i. record { field = field_is a.field b.field h.0 i; indexed = (booleans_Decides a.indexed b.indexed).0 h.1 i }

abbrev wanted_eq : Test × Bool → Test × Bool → Bool
wanted_eq a b = test.ghosts.eq a.0 b.0 && beq a.1 b.1

wanted_is : (a b : Test × Bool) → wanted_eq a b ≡ true → a ≡ b
wanted_is a b e =
    let h = and_parts (test.ghosts.eq a.0 b.0) (beq a.1 b.1) e in
    λ i. (test_is a.0 b.0 h.0 i, (booleans_Decides a.1 b.1).0 h.1 i)

write_is : (a b : Write) → write.ghosts.eq a b ≡ true → a ≡ b
write_is a b e =
    let h = and_parts (path.ghosts.eq a.path b.path) (pick.ghosts.eq a.pick b.pick && option_eq wanted_eq a.wants b.wants) e in
    let k = and_parts (pick.ghosts.eq a.pick b.pick) (option_eq wanted_eq a.wants b.wants) h.1 in
    λ i. record {
      path = path_is a.path b.path h.0 i;
      pick = pick_is a.pick b.pick k.0 i;
      wants = maybe wanted_eq wanted_is a.wants b.wants k.1 i;
    }

update_is : (a b : Update) → update.ghosts.eq a b ≡ true → a ≡ b
update_is a b e =
    let fresh = option_eq eqb a.fresh b.fresh in
    let writes = pointwise write.ghosts.eq a.writes b.writes in
    let entry = at.ghosts.eq a.at b.at in
    let record_of = place.ghosts.eq a.place b.place in
    let h = and_parts (eqb a.rule b.rule) (record_of && (entry && (writes && fresh))) e in
    let k = and_parts record_of (entry && (writes && fresh)) h.1 in
    let l = and_parts entry (writes && fresh) k.1 in
    let m = and_parts writes fresh l.1 in
    λ i. record {
      rule = eqb-true a.rule b.rule h.0 i;
      place = place_is a.place b.place k.0 i;
      at = at_is a.at b.at l.0 i;
      writes = each write.ghosts.eq write_is a.writes b.writes m.0 i;
      fresh = maybe eqb eqb-true a.fresh b.fresh m.1 i;
    }

template_is : (a b : Template) → template.ghosts.eq a b ≡ true → a ≡ b
template_is a b e =
    let h = and_parts (goal.ghosts.eq a.goal b.goal) (pointwise update.ghosts.eq a.updates b.updates) e in
    λ i. record { goal = goal_is a.goal b.goal h.0 i; updates = each update.ghosts.eq update_is a.updates b.updates h.1 i }

pub template_decides : (a b : Template) → Decides (template.ghosts.eq a b) (a ≡ b)
template_decides a b = (template_is a b, λ e. subst (λ x. template.ghosts.eq a x ≡ true) e (laws-law.refl a))
