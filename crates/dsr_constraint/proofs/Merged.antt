-- The fault that is told of a part stands for all that were found in it.
use Rattle.std.proofs.Common.{◌≡◌, Bool, true, false, List, [], ◌∷◌, Option, None, Some, is_some, not, if◌then◌else◌, refl, sym, ap, ◌∙◌}
use Rattle.std.proofs.Math.Bool.{not-not}
use Rattle.dsr_tree.specs.Faults.{is_before}
use Rattle.dsr_tree.specs.declared.faults.Fault.{Fault}
use Rattle.dsr_language_theory.specs.Faults.{when}
use Rattle.dsr_language_theory.specs.Known.{is_nil}
use Rattle.dsr_names.specs.Telling.{told_of, told_after, Finds}
use Rattle.dsr_names.proofs.Least.{both, never, none_told}

-- the one that is told of a fault and of one that may be there
abbrev told_with : Option Fault → Option Fault → Option Fault
told_with o None = o
told_with o (Some f) = told_of o f

-- it doesn't matter which two of three are compared first
regrouped : (o : Option Fault) (f g : Fault) → told_of (told_of o f) g ≡ told_with o (told_of (Some f) g)
regrouped None f g = elim (is_before g f) as (λ b. (if b then Some g else Some f) ≡ told_with None (if b then Some g else Some f)) [ true ↦ refl | false ↦ refl ]
regrouped (Some a) f g =
    elim (is_before f a) as (λ b. is_before f a ≡ b → told_of (if b then Some f else Some a) g ≡ told_with (Some a) (told_of (Some f) g)) [
      | true ↦ λ first. elim (is_before g f) as (λ b. is_before g f ≡ b → (if b then Some g else Some f) ≡ told_with (Some a) (if b then Some g else Some f)) [
        | true ↦ λ second. rw (both a f g first second) refl
        | false ↦ λ _. rw first refl
      ] refl
      | false ↦ λ first. elim (is_before g f) as (λ b. is_before g f ≡ b → (if is_before g a then Some g else Some a) ≡ told_with (Some a) (if b then Some g else Some f)) [
        | true ↦ λ _. refl
        | false ↦ λ second. rw (never a f g first second) (rw first refl)
      ] refl
    ] refl

told_behind : (o : Option Fault) (f : Fault) (fs : List Fault) → told_after (told_of o f) fs ≡ told_with o (told_after (Some f) fs)
told_behind o f [] = refl
told_behind o f (g ∷ gs) =
    ap (λ x. told_after x gs) (regrouped o f g)
    ∙ elim (is_before g f) as (λ b. told_after (told_with o (if b then Some g else Some f)) gs ≡ told_with o (told_after (if b then Some g else Some f) gs)) [ true ↦ told_behind o g gs | false ↦ told_behind o f gs ]

-- what is told after a list is told of what was told before and of the list
told_together : (o : Option Fault) (fs : List Fault) → told_after o fs ≡ told_with o (told_after None fs)
told_together o [] = refl
told_together o (f ∷ fs) = told_behind o f fs

-- a part in which a fault was found
pub finds_part : {old new : Option Fault} (fs : List Fault) (part : Option Fault) (f : Fault) → part ≡ Some f → Finds fs None part → Finds (when true f.condition f.place) old new → Finds fs old new
finds_part {old} fs part f is found noted = record { is = noted.is ∙ ap (told_with old) (sym (sym found.is ∙ is)) ∙ sym (told_together old fs) }

-- a part in which none was found
pub finds_none : {old : Option Fault} (fs : List Fault) (part : Option Fault) → part ≡ None → Finds fs None part → Finds fs old old
finds_none {old} fs part is found = record { is = ap (told_with old) (sym (sym found.is ∙ is)) ∙ sym (told_together old fs) }

no_first : (f : Fault) (fs : List Fault) → f ∷ fs ≡ [] → ⊥
no_first f fs e = absurd cc

false_is_true : false ≡ true → ⊥
false_is_true e = absurd cc

-- none was found exactly where there is none
pub none_found : (fs : List Fault) (found : Option Fault) (none : Bool) → Finds fs None found → is_some found ≡ not none → none ≡ is_nil fs
none_found [] found none p e = sym (not-not none) ∙ ap not (sym e ∙ ap is_some p.is)
none_found (f ∷ fs) None none p e = absurd (no_first f fs (none_told (f ∷ fs) (sym p.is)))
none_found (f ∷ fs) (Some g) none p e = sym (not-not none) ∙ ap not (sym e)

-- where there is none the list is empty
pub nothing : (fs : List Fault) (none : Bool) → none ≡ is_nil fs → none ≡ true → fs ≡ []
nothing [] none is e = refl
nothing (f ∷ fs) none is e = absurd (false_is_true (sym is ∙ e))
