-- Parts of a certificate, one behind the other.
use Rattle.std.proofs.Common.{◌≡◌, ◌≤◌, ◌<◌, ◌+◌, ◌++◌, ◌⊎◌, ℕ, zero, suc, inl, inr, true, false, nat_lt, List, [], ◌∷◌, Option, Some, length, slice_get, refl, sym, ap, subst, ◌∙◌, arith}
use Rattle.std.proofs.lemmas.Bool.Decides.{nat_tests}
use Rattle.dsr_cert.specs.Certificates.{ended}
use Rattle.dsr_cert.specs.Flaws.{Tells}
use Rattle.dsr_cert.specs.Forms.{Form, OfLiteral, IsNoTemplate, IsOfForm, IsWrongIn, malformed, beyond, no_template, forms}
use Rattle.dsr_cert.specs.Parts.{AreLinesAt, IsFirstFrom, IsPart, NoneWrong, Stands}
use Rattle.dsr_cert.specs.declared.faults.CertFault.{CertFault}
use Rattle.dsr_cert.specs.declared.faults.CertFault.TheVariants as faults
use Rattle.dsr_ir.specs.declared.declarations.Spec.{Spec}

-- ---- lists

pub long : {T : Type 0} (xs ys : List T) → length (xs ++ ys) ≡ length xs + length ys
long [] ys = sym (zero_plus (length ys)) where
  zero_plus : (n : ℕ) → 0 + n ≡ n
  zero_plus n = omega arith
long (x ∷ xs) ys = let rest = long xs ys in omega (arith, rest)

got_front : {T : Type 0} (xs ys : List T) (k : ℕ) (x : T) → slice_get xs k ≡ Some x → slice_get (xs ++ ys) k ≡ Some x
got_front [] ys k x is = absurd cc
got_front (y ∷ xs) ys zero x is = is
got_front (y ∷ xs) ys (suc k) x is = got_front xs ys k x is

got_back : {T : Type 0} (xs ys : List T) (k : ℕ) → slice_get (xs ++ ys) (length xs + k) ≡ slice_get ys k
got_back [] ys k = ap (slice_get ys) (zero_plus k) where
  zero_plus : (n : ℕ) → 0 + n ≡ n
  zero_plus n = omega arith
got_back (x ∷ xs) ys k =
    let next : length (x ∷ xs) + k ≡ suc (length xs + k) = omega arith in
    ap (slice_get (x ∷ (xs ++ ys))) next ∙ got_back xs ys k

-- an item of both is one of the first, or of the second
got_either : {T : Type 0} (xs ys : List T) (k : ℕ) (x : T) → slice_get (xs ++ ys) k ≡ Some x → (slice_get xs k ≡ Some x) ⊎ ((j : ℕ) × (k ≡ length xs + j) × (slice_get ys j ≡ Some x))
got_either [] ys k x is = inr (k, sym (zero_plus k), is) where
  zero_plus : (n : ℕ) → 0 + n ≡ n
  zero_plus n = omega arith
got_either (y ∷ xs) ys zero x is = inl is
got_either (y ∷ xs) ys (suc k) x is = more (got_either xs ys k x is) where
  more : (slice_get xs k ≡ Some x) ⊎ ((j : ℕ) × (k ≡ length xs + j) × (slice_get ys j ≡ Some x)) → (slice_get (y ∷ xs) (suc k) ≡ Some x) ⊎ ((j : ℕ) × (suc k ≡ length (y ∷ xs) + j) × (slice_get ys j ≡ Some x))
  more (inl front) = inl front
  more (inr back) = let e = back.1 in inr (back.0, omega (arith, e), back.2)

-- ---- what stands, one part behind the other

module _ (spec : Spec) where
  pub stands_front : (at : ℕ) (a b : List Form) → Stands spec at (a ++ b) → Stands spec at a
  stands_front at a b stands =
      let all = stands.inside in
      let many = long a b in
      record { inside = omega (arith, all, many); are = λ k form is. stands.are k form (got_front a b k form is) }

  pub stands_back : (at : ℕ) (a b : List Form) → Stands spec at (a ++ b) → Stands spec (at + length a) b
  stands_back at a b stands =
      let all = stands.inside in
      let many = long a b in
      record {
        inside = omega (arith, all, many);
        are = λ k form is.
            let same : at + (length a + k) ≡ at + length a + k = omega arith in
            subst (λ n. slice_get (forms spec) n ≡ Some form) same (stands.are (length a + k) form (got_back a b k ∙ is));
      }

  module _ (lines : List (List ℕ)) where
    -- whether a place is in front of another or not
    sides : (k n : ℕ) → (k < n) ⊎ (n ≤ k)
    sides k n = elim (nat_lt k n) as (λ t. nat_lt k n ≡ t → (k < n) ⊎ (n ≤ k)) [
      | true ↦ λ e. inl (grind (arith, nat_tests))
      | false ↦ λ e. inr (grind (arith, nat_tests))
    ] refl

    none_joined : (from mid to : ℕ) → NoneWrong spec lines from mid → NoneWrong spec lines mid to → NoneWrong spec lines from to
    none_joined from mid to front back k fault low high wrong = by (sides k mid) where
      by : (k < mid) ⊎ (mid ≤ k) → ⊥
      by (inl less) = front k fault low less wrong
      by (inr more) = back k fault more high wrong

    pub part_none : (at : ℕ) → IsPart spec lines at [] []
    part_none at = record {
      lines_are = λ k text is. absurd cc;
      as_many = refl;
      right = λ k fault low high wrong. absurd (omega (arith, low, high));
    }

    pub part_joined : (at : ℕ) (a b : List Form) (s t : List (List ℕ)) → IsPart spec lines at a s → IsPart spec lines (at + length a) b t → IsPart spec lines at (a ++ b) (s ++ t)
    part_joined at a b s t first second =
        let one = first.as_many in
        let two = second.as_many in
        let texts = long s t in
        let parts = long a b in
        record {
          lines_are = λ k text is. each k text (got_either s t k text is);
          as_many = omega (arith, one, two, texts, parts);
          right =
              let end : at + length a + length b ≡ at + length (a ++ b) = omega (arith, parts) in
              subst (NoneWrong spec lines at) end (none_joined at (at + length a) (at + length a + length b) first.right second.right);
        } where
          each : (k : ℕ) (text : List ℕ) → (slice_get s k ≡ Some text) ⊎ ((j : ℕ) × (k ≡ length s + j) × (slice_get t j ≡ Some text)) → slice_get lines (at + k) ≡ Some (ended text)
          each k text (inl front) = first.lines_are k text front
          each k text (inr back) =
              let e = back.1 in
              let many = first.as_many in
              let same : at + length a + back.0 ≡ at + k = omega (arith, e, many) in
              subst (λ n. slice_get lines n ≡ Some (ended text)) same (second.lines_are back.0 text back.2)

    -- the first fault behind what is right
    later : (from at : ℕ) (fault : CertFault) → from ≤ at → NoneWrong spec lines from at → IsFirstFrom spec lines at fault → IsFirstFrom spec lines from fault
    later from at fault le right first =
        let more = first.behind in
        record {
          k = first.k;
          behind = omega (arith, le, more);
          wrong = first.wrong;
          none_before = none_joined from at first.k right first.none_before;
        }

    pub tells_later : (from at : ℕ) (fault : CertFault) → from ≤ at → NoneWrong spec lines from at → Tells (IsFirstFrom spec lines at) fault → Tells (IsFirstFrom spec lines from) fault
    tells_later from at faults.NoMemory le right first = tt
    tells_later from at (faults.Text line) le right first = later from at (faults.Text line) le right first
    tells_later from at (faults.Coverage n) le right first = later from at (faults.Coverage n) le right first
    tells_later from at (faults.NotATemplate n c l) le right first = later from at (faults.NotATemplate n c l) le right first
    tells_later from at (faults.Falsifies n c l) le right first = later from at (faults.Falsifies n c l) le right first
    tells_later from at (faults.Edge n m) le right first = later from at (faults.Edge n m) le right first
    tells_later from at (faults.Reliance n m) le right first = later from at (faults.Reliance n m) le right first

    -- ---- one line

    pub here : (at : ℕ) (form : Form) → Stands spec at (form ∷ []) → slice_get (forms spec) at ≡ Some form
    here at form stands = let same : at + 0 ≡ at = omega arith in subst (λ n. slice_get (forms spec) n ≡ Some form) same (stands.are 0 form refl)

    first_wrong : (at : ℕ) (fault : CertFault) → IsWrongIn spec lines at fault → IsFirstFrom spec lines at fault
    first_wrong at fault wrong = record {
      k = at;
      behind = omega arith;
      wrong = wrong;
      none_before = λ k other low high is. absurd (omega (arith, low, high));
    }

    pub wrong_line : (at : ℕ) (form : Form) → Stands spec at (form ∷ []) → ((line : List ℕ) → slice_get lines at ≡ Some (ended line) → IsOfForm spec form line → ⊥) → IsFirstFrom spec lines at (faults.Text (at + 1))
    wrong_line at form stands never = first_wrong at (faults.Text (at + 1)) (malformed at form (here at form stands) (λ formed. never formed.line formed.line_is formed.of_form))

    pub wrong_template : (at n conj literal : ℕ) (line : List ℕ) → Stands spec at (OfLiteral n conj literal ∷ []) → slice_get lines at ≡ Some (ended line) → IsNoTemplate spec n conj literal line → IsFirstFrom spec lines at (faults.NotATemplate n conj literal)
    wrong_template at n conj literal line stands line_is none = first_wrong at (faults.NotATemplate n conj literal) (no_template at n conj literal line (here at (OfLiteral n conj literal) stands) line_is none)

    -- the line is of its form, and no literal's that names no template
    pub record IsRightLine (at : ℕ) (form : Form) (line : List ℕ) : Type 0 where
      pub line_is : slice_get lines at ≡ Some (ended line)
      pub of_form : IsOfForm spec form line
      pub named : (n conj literal : ℕ) → form ≡ OfLiteral n conj literal → (other : List ℕ) → ended other ≡ ended line → IsNoTemplate spec n conj literal other → ⊥

    one_of : {T : Type 0} (o : Option T) (a b : T) → o ≡ Some a → o ≡ Some b → a ≡ b
    one_of o a b is too = let both = sym is ∙ too in cc

    not_wrong : (at : ℕ) (form : Form) (line : List ℕ) → slice_get (forms spec) at ≡ Some form → IsRightLine at form line → (fault : CertFault) → IsWrongIn spec lines at fault → ⊥
    not_wrong at form line stands right _ (malformed _ other is never) =
        let same = one_of (slice_get (forms spec) at) form other stands is in
        never (record { line = line; line_is = right.line_is; of_form = subst (λ f. IsOfForm spec f line) same right.of_form })
    not_wrong at form line stands right _ (beyond _ other none is) = let both = sym none ∙ stands in absurd cc
    not_wrong at form line stands right _ (no_template _ n conj literal other is there none) =
        right.named n conj literal (one_of (slice_get (forms spec) at) form (OfLiteral n conj literal) stands is) other (one_of (slice_get lines at) (ended other) (ended line) there right.line_is) none

    pub right_line : (at : ℕ) (form : Form) (line : List ℕ) → Stands spec at (form ∷ []) → IsRightLine at form line → IsPart spec lines at (form ∷ []) (line ∷ [])
    right_line at form line stands right = record {
      lines_are = first;
      as_many = refl;
      right = λ k fault low high wrong.
          let same : k ≡ at = omega (arith, low, high) in
          not_wrong at form line (here at form stands) right fault (subst (λ n. IsWrongIn spec lines n fault) same wrong);
    } where
      first : AreLinesAt lines at (line ∷ [])
      first zero text is =
          let same : line ≡ text = cc in
          let place : at ≡ at + 0 = omega arith in
          subst (λ n. slice_get lines n ≡ Some (ended text)) place (subst (λ t. slice_get lines at ≡ Some (ended t)) same right.line_is)
      first (suc k) text is = absurd cc
