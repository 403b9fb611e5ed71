-- Where each line is of its form and names a listed template, no line is wrong.
use Rattle.std.proofs.Common.{◌≡◌, ◌+◌, ◌++◌, ◌∙◌, ℕ, zero, suc, List, [], ◌∷◌, None, Some, length, map, slice_get, refl, sym, subst, arith}
use Rattle.dsr_ir.specs.declared.declarations.Spec.{Spec}
use Rattle.dsr_meaning.specs.Lists.{each_at}
use Rattle.dsr_cert.proofs.Saying.{same_ended}
use Rattle.dsr_graph.proofs.Paired.{made_item}
use Rattle.dsr_command_certify.proofs.Feedless.{AreFeedless, IsFeedless}
use Rattle.dsr_command_certify.proofs.Items.{made_none}
use Rattle.dsr_cert.specs.Certificates.{ended}
use Rattle.dsr_cert.specs.Forms.{Form, Heading, OfConstraint, OfLiteral, Ending, IsNoTemplate, IsOfForm, IsWrongIn, beyond, forms, malformed, no_template}
use Rattle.dsr_cert.specs.declared.faults.CertFault.{CertFault}
use Rattle.dsr_cert.proofs.Taken.{one_item}

module _ (spec : Spec) where
  -- the line of a literal doesn't name a template that isn't there
  abbrev pub NamesNoMissing : Form → List ℕ → Type 0
  NamesNoMissing (OfLiteral n conj literal) line = IsNoTemplate spec n conj literal line → ⊥
  NamesNoMissing Heading line = Unit {0}
  NamesNoMissing (OfConstraint n) line = Unit {0}
  NamesNoMissing Ending line = Unit {0}

  pub record IsRight (form : Form) (line : List ℕ) : Type 0 where
    pub of_form : IsOfForm spec form line
    pub feedless : IsFeedless line
    pub named : NamesNoMissing form line

  abbrev pub AreRight : List Form → List (List ℕ) → Type 0
  AreRight [] [] = Unit {0}
  AreRight [] (line ∷ lines) = ⊥
  AreRight (form ∷ forms) [] = ⊥
  AreRight (form ∷ forms) (line ∷ lines) = IsRight form line × AreRight forms lines

  pub right_joined : (a b : List Form) (s t : List (List ℕ)) → AreRight a s → AreRight b t → AreRight (a ++ b) (s ++ t)
  right_joined [] b [] t p q = q
  right_joined [] b (line ∷ s) t p q = absurd p
  right_joined (form ∷ a) b [] t p q = absurd p
  right_joined (form ∷ a) b (line ∷ s) t p q = (p.0, right_joined a b s t p.1 q)

  -- those of items that belong together
  pub each_right : {S V : Type 0} (f : ℕ → S → List Form) (g : ℕ → V → List (List ℕ)) (n : ℕ) (xs : List S) (ys : List V) → length ys ≡ length xs
      → ((k i : ℕ) (x : S) (y : V) → k ≡ n + i → slice_get xs i ≡ Some x → slice_get ys i ≡ Some y → AreRight (f k x) (g k y))
      → AreRight (each_at f n xs) (each_at g n ys)
  each_right f g n [] [] many each = tt
  each_right f g n [] (y ∷ ys) many each = absurd (omega (arith, many))
  each_right f g n (x ∷ xs) [] many each = absurd (omega (arith, many))
  each_right f g n (x ∷ xs) (y ∷ ys) many each =
      right_joined (f n x) (each_at f (suc n) xs) (g n y) (each_at g (suc n) ys) (each n 0 x y (omega arith) refl refl)
      (each_right f g (suc n) xs ys (omega (arith, many)) (λ k i a b is here there. each k (suc i) a b (omega (arith, is)) here there))

  pub right_feedless : (fs : List Form) (ls : List (List ℕ)) → AreRight fs ls → AreFeedless ls
  right_feedless [] [] are = tt
  right_feedless [] (line ∷ ls) are = absurd are
  right_feedless (form ∷ fs) [] are = absurd are
  right_feedless (form ∷ fs) (line ∷ ls) are = (are.0.feedless, right_feedless fs ls are.1)

  -- the line of a form
  record HasLine (ls : List (List ℕ)) (k : ℕ) (form : Form) : Type 0 where
    line : List ℕ
    line_is : slice_get ls k ≡ Some line
    right : IsRight form line

  right_at : (fs : List Form) (ls : List (List ℕ)) → AreRight fs ls → (k : ℕ) (form : Form) → slice_get fs k ≡ Some form → HasLine ls k form
  right_at [] [] are k form is = absurd cc
  right_at [] (line ∷ ls) are k form is = absurd are
  right_at (f ∷ fs) [] are k form is = absurd are
  right_at (f ∷ fs) (line ∷ ls) are zero form is = record { line = line; line_is = refl; right = subst (λ x. IsRight x line) (one_item (Some f) f form refl is) are.0 }
  right_at (f ∷ fs) (line ∷ ls) are (suc k) form is = let r = right_at fs ls are.1 k form is in record { line = r.line; line_is = r.line_is; right = r.right }

  right_past : (fs : List Form) (ls : List (List ℕ)) → AreRight fs ls → (k : ℕ) → slice_get fs k ≡ None → slice_get ls k ≡ None
  right_past [] [] are k none = refl
  right_past [] (line ∷ ls) are k none = absurd are
  right_past (f ∷ fs) [] are k none = absurd are
  right_past (f ∷ fs) (line ∷ ls) are zero none = absurd cc
  right_past (f ∷ fs) (line ∷ ls) are (suc k) none = right_past fs ls are.1 k none

  module _ (ls : List (List ℕ)) (are : AreRight (forms spec) ls) where
    there : (k : ℕ) (form : Form) (r : HasLine ls k form) → slice_get (map ended ls) k ≡ Some (ended r.line)
    there k form r = made_item ended ls k r.line r.line_is

    pub none_wrong : (k : ℕ) (fault : CertFault) → IsWrongIn spec (map ended ls) k fault → ⊥
    none_wrong _ _ (malformed k form is never) =
        let r = right_at (forms spec) ls are k form is in
        never (record { line = r.line; line_is = there k form r; of_form = r.right.of_form })
    none_wrong _ _ (beyond k line none is) =
        let nothing = sym (made_none ended ls k (right_past (forms spec) ls are k none)) ∙ is in
        absurd cc
    none_wrong _ _ (no_template k n conj literal line is line_is missing) =
        let r = right_at (forms spec) ls are k (OfLiteral n conj literal) is in
        let same : line ≡ r.line = same_ended line r.line (one_item (slice_get (map ended ls) k) (ended line) (ended r.line) line_is (there k (OfLiteral n conj literal) r)) in
        r.right.named (subst (IsNoTemplate spec n conj literal) same missing)
