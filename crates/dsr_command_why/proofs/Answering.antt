-- Answers on images without layout.
use Rattle.std.proofs.Common.{◌≡◌, ◌≢◌, ℕ, List, Option, None, Some, Result, Ok, Err, IfOk, inl, inr, refl, sym, subst, unwrap_or, ap, option_map}
use Rattle.dsr_command_why.specs.Losts.{IsLostAnswer, lost_answer}
use Rattle.dsr_command_why.specs.Losts.IsLostAnswer.{listed}
use Rattle.dsr_ir.specs.declared.declarations.Spec.{Spec}
use Rattle.dsr_ir.specs.declared.layouts.Layout.{Layout}
use Rattle.dsr_ir.specs.declared.tuples.Element.{Element}
use Rattle.dsr_lost.specs.Lost.{AreLost}
use Rattle.dsr_layout.specs.Telling.{Tells, told_as}
use Rattle.dsr_layout.specs.declared.faults.LayoutFault.{LayoutFault}
use Rattle.dsr_layout.specs.declared.faults.LayoutFault.TheVariants as faults
use Rattle.dsr_meaning.specs.Refusals.{IsLayoutOf, Refusal, first_of, refusals}
use Rattle.dsr_script.specs.Moves.{shown}
use Rattle.dsr_script.specs.Scripts.{Answer}
use Rattle.dsr_script.specs.declared.moves.Told.{Told}
use Rattle.dsr_answers.specs.Texts.{layout_answer}

-- the first refusal is there, and is told as the fault
first_told :
    (first : Option Refusal) (fault : LayoutFault) → option_map told_as first ≡ Some fault
    → (refusal : Refusal) × (first ≡ Some refusal) × (told_as refusal ≡ fault)
first_told None fault is = absurd cc
first_told (Some refusal) fault is = (refusal, refl, ap (λ o. unwrap_or o fault) is)

-- a fault that tells the first refusal, told: the answer is whatever the answers to first refusals are
pub refused_told :
    {E : Type 0} (spec : Spec) (image : List ℕ) (fault : LayoutFault) (Fits : Answer → Type 0)
    → ((refusal : Refusal) → first_of (refusals spec image) ≡ Some refusal → Fits (layout_answer spec refusal))
    → (answer : Result Told E) → Tells (refusals spec image) fault
    → IfOk answer
    (λ told. (refusal : Refusal) → told_as refusal ≡ fault → shown told ≡ layout_answer spec refusal)
    → IfOk answer (λ _. fault ≢ faults.NoMemory)
    → IfOk answer (λ told. Fits (shown told))
refused_told spec image fault Fits fits (Err e) tells told known = tt
refused_told spec image fault Fits fits (Ok answer) (inl none) told known = absurd (known none)
refused_told spec image fault Fits fits (Ok answer) (inr is) told known =
    let first = first_told (first_of (refusals spec image)) fault is in
    subst Fits (sym (told first.0 first.2)) (fits first.0 first.1)

-- the lost records of an image, told
pub listed_told :
    {E : Type 0} (spec : Spec) (image : List ℕ) (layout : Layout) (es : List Element) (answer : Result Told E)
    → IsLayoutOf spec image layout → AreLost spec layout image es
    → IfOk answer (λ told. shown told ≡ lost_answer spec es) → IfOk answer (λ told. IsLostAnswer spec image (shown told))
listed_told spec image layout es (Err e) of are told = tt
listed_told spec image layout es (Ok answer) of are told = subst (IsLostAnswer spec image) (sym told) (listed layout es of are)
