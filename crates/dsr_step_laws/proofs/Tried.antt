-- The templates that are tried for each constraint of the examples.
use Rattle.std.proofs.Common.{◌≡◌, ℕ, Bool, true, false, List, [], ◌∷◌, Option, None, Some, refl}
use Rattle.dsr_ir.specs.declared.constraints.Quant.TheVariants.{Each}
use Rattle.dsr_ir.specs.declared.constraints.Var.TheVariants.{First}
use Rattle.dsr_ir.specs.declared.rules.Op.TheVariants.{Eq}
use Rattle.dsr_ir.specs.declared.rules.Test.TheVariants.{Cmp}
use Rattle.dsr_ir.specs.declared.updates.At.TheVariants.{Scalar}
use Rattle.dsr_ir.specs.declared.updates.Goal.{Goal}
use Rattle.dsr_ir.specs.declared.updates.Goal.TheVariants.{AddSet, RemoveSet, AddTuple, RemoveTuple, SetValue, Trim, Supply, ExactlyOne}
use Rattle.dsr_ir.specs.declared.updates.Pick.{Pick}
use Rattle.dsr_ir.specs.declared.updates.Pick.TheVariants.{Num, CodeOf, Fresh, NoneCode}
use Rattle.dsr_ir.specs.declared.updates.Place.{Place}
use Rattle.dsr_ir.specs.declared.updates.Place.TheVariants.{Head, Of}
use Rattle.dsr_ir.specs.declared.updates.Template.{Template}
use Rattle.dsr_ir.specs.declared.updates.Update.{Update}
use Rattle.dsr_ir.specs.declared.updates.Write.{Write}
use Rattle.dsr_update_theory.specs.KnownSets.IsKnown.{quantified}
use Rattle.dsr_update_theory.specs.Templates.{AreRawOf, KnownSets, TellsKnown}
use Rattle.dsr_update_theory.specs.Templates.AreOnce.{done, first}
use Rattle.dsr_step_laws.proofs.Constraints.{constraint_0, constraint_1, constraint_2, constraint_3, constraint_4, constraint_5, constraint_6, constraint_7, constraint_8}
use Rattle.dsr_step_laws.proofs.Given.{example, path_to}

-- ---- the updates

-- a write of a field of the structure, without a test
abbrev pub plain : ℕ → ℕ → Pick → Write
plain structure field pick = record { path = path_to structure field; pick = pick; wants = None }

-- a write of `value` after which `value = 1` holds, or doesn't
abbrev pub marking : ℕ → Bool → Write
marking number wanted = record { path = path_to 1 1; pick = Num number; wants = Some (Cmp Eq 1, wanted) }

abbrev pub updating : ℕ → Place → Write → Option ℕ → Update
updating rule place write fresh = record { rule = rule; place = place; at = Scalar; writes = write ∷ []; fresh = fresh }

-- x.value := 1
abbrev pub mark : Update
mark = updating 2 (Of First) (marking 1 true) None

-- x.value := 0
abbrev pub unmark : Update
unmark = updating 2 (Of First) (marking 0 false) None

-- x.next := x
abbrev pub join : Update
join = updating 3 (Of First) (plain 1 0 (CodeOf First)) None

-- x.next := none
abbrev pub cut : Update
cut = updating 3 (Of First) (plain 1 0 NoneCode) None

-- x.next := a fresh record
abbrev pub supply : Update
supply = updating 3 (Of First) (plain 1 0 Fresh) (Some 1)

-- x.value := 1, for the value alone
abbrev pub assign : Update
assign = updating 4 (Of First) (plain 1 1 (Num 1)) None

-- head.first := none, by rule 0, or head.second, by rule 1
abbrev pub clear : ℕ → Update
clear field = updating field Head (plain 0 field NoneCode) None

-- head.first := a fresh record, by rule 0, or head.second, by rule 1
abbrev pub fill : ℕ → Update
fill field = updating field Head (plain 0 field Fresh) (Some 1)

abbrev pub template_of : Goal → List Update → Template
template_of goal updates = record { goal = goal; updates = updates }

-- ---- the templates, by the number of the constraint

abbrev pub templates_0 : List Template
templates_0 = template_of AddSet (mark ∷ []) ∷ []

abbrev pub templates_1 : List Template
templates_1 = template_of AddTuple (join ∷ []) ∷ []

abbrev pub templates_2 : List Template
templates_2 = template_of RemoveTuple (cut ∷ []) ∷ []

abbrev pub templates_3 : List Template
templates_3 = template_of SetValue (assign ∷ []) ∷ []

abbrev pub templates_4 : List Template
templates_4 = template_of Trim (clear 0 ∷ clear 1 ∷ []) ∷ []

abbrev pub templates_5 : List Template
templates_5 = template_of Supply (supply ∷ []) ∷ []

abbrev pub templates_6 : List Template
templates_6 = template_of ExactlyOne (supply ∷ cut ∷ []) ∷ []

abbrev pub templates_7 : List Template
templates_7 =
    template_of ExactlyOne (fill 0 ∷ clear 0 ∷ clear 1 ∷ [])
    ∷ template_of ExactlyOne (fill 1 ∷ clear 0 ∷ clear 1 ∷ [])
    ∷ []

abbrev pub templates_8 : List Template
templates_8 = template_of RemoveSet (unmark ∷ []) ∷ []

-- ---- that they are tried

-- the record of x is known to be in A, since x is quantified over A
known_first : (known : KnownSets) → TellsKnown example (Each 0) known → known First 0 ≡ true
known_first known tells = (tells First 0).1 (quantified 0 refl)

pub tried_0 : AreRawOf example constraint_0 0 0 templates_0
tried_0 known tells = let k : known First 0 ≡ true = known_first known tells in rw k refl

pub tried_1 : AreRawOf example constraint_1 0 0 templates_1
tried_1 known tells = let k : known First 0 ≡ true = known_first known tells in rw k refl

pub tried_2 : AreRawOf example constraint_2 0 0 templates_2
tried_2 known tells = first (template_of RemoveTuple (cut ∷ [])) (λ h. h) done

pub tried_3 : AreRawOf example constraint_3 0 0 templates_3
tried_3 known tells = refl

pub tried_4 : AreRawOf example constraint_4 0 0 templates_4
tried_4 known tells = first (template_of Trim (clear 0 ∷ clear 1 ∷ [])) (λ h. h) done

pub tried_5 : AreRawOf example constraint_5 0 0 templates_5
tried_5 known tells = let k : known First 0 ≡ true = known_first known tells in rw k refl

pub tried_6 : AreRawOf example constraint_6 0 0 templates_6
tried_6 known tells =
    let k : known First 0 ≡ true = known_first known tells in
    let trims : List Template = template_of Trim (cut ∷ []) ∷ [] in
    (trims, first (template_of Trim (cut ∷ [])) (λ h. h) done, rw k refl)

pub tried_7 : AreRawOf example constraint_7 0 0 templates_7
tried_7 known tells = (templates_4, first (template_of Trim (clear 0 ∷ clear 1 ∷ [])) (λ h. h) done, refl)

pub tried_8 : AreRawOf example constraint_8 0 0 templates_8
tried_8 known tells = first (template_of RemoveSet (unmark ∷ [])) (λ h. h) done
