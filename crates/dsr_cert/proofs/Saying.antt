-- What a line says behind its front, and how many lines there are.
use Rattle.std.proofs.Common.{◌≡◌, ◌≤◌, ◌<◌, ◌*◌, ◌++◌, ℕ, zero, suc, Bool, List, [], ◌∷◌, Option, None, Some, MatchOption, length, get_or, slice_get, refl, sym, ap, ◌∙◌, arith}
use Rattle.std.proofs.Math.Nat.{mul-suc}
use Rattle.std.specs.Borrow.{Bor}
use Rattle.std.specs.Prelude.{Decides, codes, decimal}
use Rattle.dsr_cert.proofs.Joined.{long}
use Rattle.dsr_cert.specs.Certificates.{ended, first_line, last_line}
use Rattle.dsr_cert.specs.Forms.{Heading, Ending, OfLiteral, IsOfForm, heading, ending, conj_forms, constraint_forms, forms, numbered}
use Rattle.dsr_cert.specs.Parts.{IsSaid, IsSaidAt, texts_of}
use Rattle.dsr_cert.specs.declared.lines.Said.{Said}
use Rattle.dsr_cert.specs.declared.lines.Said.TheVariants as saids
use Rattle.dsr_ir.specs.declared.constraints.Conj.{Conj}
use Rattle.dsr_ir.specs.declared.constraints.Constraint.{Constraint}
use Rattle.dsr_ir.specs.declared.declarations.Spec.{Spec}
use Rattle.dsr_meaning.proofs.Firing.{found_fits}
use Rattle.dsr_meaning.specs.Lists.{each_at}
use Rattle.dsr_meaning.specs.Typed.{IsTyped, IsTypedConj, IsTypedConstraint}
use Rattle.dsr_cert.proofs.Numbers.{limit}

pub cancel_front : (front a b : List ℕ) → front ++ a ≡ front ++ b → a ≡ b
cancel_front [] a b e = e
cancel_front (x ∷ front) a b e = let rest : front ++ a ≡ front ++ b = cc in cancel_front front a b rest

cancel_end : (a b : List ℕ) (c : ℕ) → a ++ c ∷ [] ≡ b ++ c ∷ [] → a ≡ b
cancel_end [] [] c e = refl
cancel_end [] (y ∷ b) c e = let many = ap length e in let more = long b (c ∷ []) in absurd (omega (arith, many, more))
cancel_end (x ∷ a) [] c e = let many = ap length e in let more = long a (c ∷ []) in absurd (omega (arith, many, more))
cancel_end (x ∷ a) (y ∷ b) c e =
    let head : x ≡ y = cc in
    let rest : a ++ c ∷ [] ≡ b ++ c ∷ [] = cc in
    λ i. head i ∷ cancel_end a b c rest i

pub same_ended : (a b : List ℕ) → ended a ≡ ended b → a ≡ b
same_ended a b e = cancel_end a b 10 e

-- ---- a line

module _ (o : Option (List ℕ)) where
  same_some : (a b : List ℕ) → o ≡ Some a → o ≡ Some b → a ≡ b
  same_some a b is too = let both = sym is ∙ too in cc

  pub line_by : (s : List ℕ) → o ≡ Some s → (r : Option (Bor (List ℕ))) → MatchOption r ((front : List ℕ) → s ≡ front ++ 10 ∷ [] → ⊥) (λ x. s ≡ x.now ++ 10 ∷ []) → MatchOption r ((line : List ℕ) → o ≡ Some (ended line) → ⊥) (λ line. o ≡ Some (ended line.now))
  line_by s is None never = λ line ends. never line (same_some s (ended line) is ends)
  line_by s is (Some x) ends = is ∙ ap Some ends

  pub line_if : (line expected : List ℕ) → o ≡ Some (ended line) → (b : Bool) → Decides b (line ≡ expected) → Decides b (o ≡ Some (ended expected))
  line_if line expected is b same = (
    λ t. is ∙ ap (λ x. Some (ended x)) (same.0 t),
    λ there. same.1 (same_ended line expected (same_some (ended line) (ended expected) is there)),
  )

  -- what it says behind its front
  module _ (line front text : List ℕ) (is : o ≡ Some (ended line)) (begins : line ≡ front ++ text) where
    says : (t : List ℕ) → text ≡ t → o ≡ Some (ended (front ++ t))
    says t same = is ∙ ap (λ x. Some (ended x)) (begins ∙ ap (λ x. front ++ x) same)

    said : (t : List ℕ) → o ≡ Some (ended (front ++ t)) → text ≡ t
    said t there = cancel_front front text t (sym begins ∙ same_ended line (front ++ t) (same_some (ended line) (ended (front ++ t)) is there))

    pub level_by : (bound : ℕ) (r : Option ℕ) → MatchOption r ((n : ℕ) → n < bound → text ≡ decimal n → ⊥) (λ n. (n < bound) × (text ≡ decimal n)) → MatchOption r ((level : ℕ) → level < bound → o ≡ Some (ended (front ++ decimal level)) → ⊥) (λ level. (level < bound) × (o ≡ Some (ended (front ++ decimal level))))
    level_by bound None none = λ level less there. none level less (said (decimal level) there)
    level_by bound (Some level) its = (its.0, says (decimal level) its.1)

module _ (lines : List (List ℕ)) (at : ℕ) (line front text : List ℕ) (is : slice_get lines at ≡ Some (ended line)) (begins : line ≡ front ++ text) where
  pub said_by : (s : Said) → IsSaid text s → IsSaidAt lines at front s
  said_by saids.Test its = says (slice_get lines at) line front text is begins (codes "test") its
  said_by (saids.Numbered digits) its = (says (slice_get lines at) line front text is begins (numbered digits.now) its.0, its.1)
  said_by saids.Other its = (
    λ there. its.0 (said (slice_get lines at) line front text is begins (codes "test") there),
    λ digits numeral there. its.1 digits numeral (said (slice_get lines at) line front text is begins (numbered digits) there),
  )

pub heading_only : (spec : Spec) (line : List ℕ) → IsOfForm spec Heading line → line ≡ first_line
heading_only spec _ heading = refl

pub ending_only : (spec : Spec) (line : List ℕ) → IsOfForm spec Ending line → line ≡ last_line
ending_only spec _ ending = refl

-- ---- how many lines are asked for

module _ {S T : Type 0} (f : ℕ → S → List T) (most : ℕ) where
  few_each : (n : ℕ) (xs : List S) → ((k i : ℕ) (x : S) → slice_get xs i ≡ Some x → length (f k x) ≤ most) → (b : ℕ) → length xs ≤ b → length (each_at f n xs) ≤ most * b
  few_each n [] few b le = omega arith
  few_each n (x ∷ xs) few zero le = absurd (omega (arith, le))
  few_each n (x ∷ xs) few (suc b) le =
      let rest = few_each (suc n) xs (λ k i y is. few k (suc i) y is) b (omega (arith, le)) in
      let one = few n 0 x refl in
      let both = long (f n x) (each_at f (suc n) xs) in
      let product = mul-suc most b in
      omega (arith, rest, one, both, product)

few_in_conj : (n conj : ℕ) (its : Conj) → length its.literals ≤ 8 → length (conj_forms n conj its) ≤ 8
few_in_conj n conj its few =
    let all = few_each (λ literal _. OfLiteral n conj literal ∷ []) 1 0 its.literals (λ k i x is. omega arith) 8 few in
    omega (arith, all)

few_in_constraint : (spec : Spec) (n : ℕ) (constraint : Constraint) → IsTypedConstraint spec constraint → length (constraint_forms n constraint) ≤ 129
few_in_constraint spec n constraint typed =
    let all = few_each (conj_forms n) 8 0 constraint.conjs (λ k i x is. few_in_conj n k x (found_fits (IsTypedConj spec constraint.quant) constraint.conjs i x typed.conjs is).few_literals) 16 typed.few_conjs in
    omega (arith, all)

pub few_forms : (spec : Spec) → IsTyped spec → length (forms spec) ≤ 20000
few_forms spec typed =
    let few = typed.few_constraints in
    let most = limit spec.base.version in
    let all = few_each constraint_forms 129 0 spec.constraints (λ k i x is. few_in_constraint spec k x (found_fits (IsTypedConstraint spec) spec.constraints i x typed.constraints is)) 128 (omega (arith, few, most)) in
    let both = long (each_at constraint_forms 0 spec.constraints) (Ending ∷ []) in
    omega (arith, all, both)

pub text_got : (lines : List (Bor (List ℕ))) (n : ℕ) (line : Bor (List ℕ)) → n < length lines → line ≡ get_or lines n line → slice_get (texts_of lines) n ≡ Some line.now
text_got [] n line less is = absurd (omega (arith, less))
text_got (x ∷ lines) zero line less is = ap (λ l. Some l.now) (sym is)
text_got (x ∷ lines) (suc n) line less is = text_got lines n line (omega (arith, less)) is
