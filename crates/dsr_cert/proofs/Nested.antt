-- Parts of parts: one more of a list that is read.
use Rattle.std.proofs.Common.{◌≡◌, ◌≤◌, ◌<◌, ◌+◌, ◌++◌, ℕ, zero, suc, List, [], ◌∷◌, Option, None, Some, length, map, take, get_or, slice_get, refl, sym, ap, subst, ◌∙◌, arith, append_assoc}
use Rattle.std.specs.Prelude.{Bool, true, false, nat_lt, option_and_then}
use Rattle.dsr_cert.proofs.Appended.{each_more, each_next}
use Rattle.dsr_cert.proofs.Joined.{long, part_joined, stands_back, stands_front}
use Rattle.dsr_cert.specs.Certificates.{certificate_lines, ended, first_line, last_line, rows_lines}
use Rattle.dsr_cert.specs.declared.faults.CertFault.TheVariants as faults
use Rattle.dsr_graph.proofs.Paired.{item_beyond}
use Rattle.dsr_plan_theory.specs.declared.choices.Row.{Row}
use Rattle.std.proofs.lemmas.Bool.Decides.{nat_tests}
use Rattle.std.proofs.lemmas.Option.{slice_get_within, slice_get-get_or}
use Rattle.dsr_cert.specs.Forms.{Form, Heading, Ending, IsWrongIn, OfLiteral, beyond, constraints_forms, forms, malformed, no_template}
use Rattle.dsr_cert.specs.declared.faults.CertFault.{CertFault}
use Rattle.dsr_cert.specs.Parts.{IsFirstFrom, IsPart, NoneWrong, Stands}
use Rattle.dsr_compensate.proofs.Each.{take_length}
use Rattle.dsr_ir.specs.declared.constraints.Constraint.{Constraint}
use Rattle.dsr_ir.specs.declared.constraints.Conj.{Conj}
use Rattle.dsr_ir.specs.declared.constraints.Literal.{Literal}
use Rattle.dsr_ir.specs.declared.declarations.Spec.{Spec}
use Rattle.dsr_meaning.specs.Lists.{each_at}
use Rattle.dsr_update_theory.specs.Templates.{literal_at}
use Rattle.dsr_meaning.proofs.Items.{item_there}

module _ {S T : Type 0} (f : ℕ → S → List T) where
  -- what an item gives stands behind what those before it give
  split_each : (n : ℕ) (xs : List S) (i : ℕ) (x : S) → slice_get xs i ≡ Some x → (rest : List T) × (each_at f n xs ≡ each_at f n (take i xs) ++ (f (n + i) x ++ rest))
  split_each n [] i x is = absurd cc
  split_each n (y ∷ ys) zero x is =
      let same : y ≡ x = cc in
      let place : n ≡ n + 0 = omega arith in
      (each_at f (suc n) ys, ap (λ z. z ++ each_at f (suc n) ys) (λ i. f (place i) (same i)))
  split_each n (y ∷ ys) (suc i) x is =
      let r = split_each (suc n) ys i x is in
      let place : suc n + i ≡ n + suc i = omega arith in
      (r.0, ap (λ z. f n y ++ z) (r.1 ∙ ap (λ k. each_at f (suc n) (take i ys) ++ (f k x ++ r.0)) place) ∙ sym (append_assoc (f n y) (each_at f (suc n) (take i ys)) (f (n + suc i) x ++ r.0)))

pub each_stands : {S : Type 0} (spec : Spec) (f : ℕ → S → List Form) (xs : List S) (at : ℕ) → Stands spec at (each_at f 0 xs) → (i : ℕ) (x : S) → slice_get xs i ≡ Some x → Stands spec (at + length (each_at f 0 (take i xs))) (f i x)
each_stands spec f xs at stands i x is =
    let r = split_each f 0 xs i x is in
    let place : 0 + i ≡ i = omega arith in
    let whole = r.1 ∙ ap (λ k. each_at f 0 (take i xs) ++ (f k x ++ r.0)) place in
    stands_front spec (at + length (each_at f 0 (take i xs))) (f i x) r.0 (stands_back spec at (each_at f 0 (take i xs)) (f i x ++ r.0) (subst (Stands spec at) whole stands))

pub single_length : {S T : Type 0} (g : ℕ → S → T) (n : ℕ) (xs : List S) → length (each_at (λ k x. g k x ∷ []) n xs) ≡ length xs
single_length g n [] = refl
single_length g n (x ∷ xs) = ap suc (single_length g (suc n) xs)

pub singles : {S T : Type 0} (g : ℕ → S → T) (xs : List S) (i : ℕ) → i ≤ length xs → length (each_at (λ k x. g k x ∷ []) 0 (take i xs)) ≡ i
singles g xs i le = single_length g 0 (take i xs) ∙ take_length i xs le

-- a part of no lines
pub part_none : (spec : Spec) (lines : List (List ℕ)) (at : ℕ) → IsPart spec lines at [] []
part_none spec lines at = record {
  lines_are = λ k text there. absurd cc;
  as_many = refl;
  right = λ k fault from to wrong. absurd (omega (arith, from, to));
}

-- one more of each is one more part
pub part_step : {S V : Type 0} (spec : Spec) (lines : List (List ℕ)) (at : ℕ) (f : ℕ → S → List Form) (g : ℕ → V → List (List ℕ)) (xs : List S) (i : ℕ) (x : S) → i < length xs → x ≡ get_or xs i x
    → (vs ws : List V) (v : V) → ws ≡ vs ++ v ∷ [] → length vs ≡ i
    → IsPart spec lines at (each_at f 0 (take i xs)) (each_at g 0 vs) → IsPart spec lines (at + length (each_at f 0 (take i xs))) (f i x) (g i v)
    → IsPart spec lines at (each_at f 0 (take (i + 1) xs)) (each_at g 0 ws)
part_step spec lines at f g xs i x less is vs ws v ws_are many before now =
    let joined = part_joined spec lines at (each_at f 0 (take i xs)) (f i x) (each_at g 0 vs) (g i v) before now in
    let place : i ≡ 0 + length vs = omega (arith, many) in
    let texts : each_at g 0 vs ++ g i v ≡ each_at g 0 ws = ap (λ k. each_at g 0 vs ++ g k v) place ∙ (sym (each_more g 0 vs v) ∙ ap (each_at g 0) (sym ws_are)) in
    subst (λ part. IsPart spec lines at part (each_at g 0 ws)) (sym (each_next f xs i x less is)) (subst (IsPart spec lines at (each_at f 0 (take i xs) ++ f i x)) texts joined)

pub literal_from : (conj k : ℕ) (its : Conj) (l : Literal) (o : Option Constraint) → option_and_then (λ c. slice_get c.conjs conj) o ≡ Some its → slice_get its.literals k ≡ Some l → option_and_then (λ c. literal_at c conj k) o ≡ Some l
literal_from conj k its l None there is = absurd cc
literal_from conj k its l (Some c) there is = ap (option_and_then (λ x. slice_get x.literals k)) there ∙ is

-- the place behind one more part
pub next_step : {S : Type 0} (f : ℕ → S → List Form) (xs : List S) (i : ℕ) (x : S) → i < length xs → x ≡ get_or xs i x → (at next behind : ℕ) → next ≡ at + length (each_at f 0 (take i xs)) → behind ≡ next + length (f i x) → behind ≡ at + length (each_at f 0 (take (i + 1) xs))
next_step f xs i x less is at next behind now further =
    let whole = ap length (each_next f xs i x less is) in
    let both = long (each_at f 0 (take i xs)) (f i x) in
    omega (arith, now, further, whole, both)

-- an item of a list that is another's
pub got_there : {T : Type 0} (xs ys : List T) (k : ℕ) → xs ≡ ys → k < length xs → (d : T) → slice_get ys k ≡ Some (get_or xs k d)
got_there xs ys k same less d = subst (λ zs. slice_get zs k ≡ Some (get_or xs k d)) same (slice_get-get_or xs k d less)

-- ---- all forms

module _ (spec : Spec) where
  stands_whole : Stands spec 0 (forms spec)
  stands_whole = record {
    inside = omega arith;
    are = λ k form is. let same : k ≡ 0 + k = omega arith in subst (λ n. slice_get (forms spec) n ≡ Some form) same is;
  }

  pub stands_heading : Stands spec 0 (Heading ∷ [])
  stands_heading = stands_front spec 0 (Heading ∷ []) (constraints_forms spec ++ Ending ∷ []) stands_whole

  stands_behind : Stands spec 1 (constraints_forms spec ++ Ending ∷ [])
  stands_behind = stands_back spec 0 (Heading ∷ []) (constraints_forms spec ++ Ending ∷ []) stands_whole

  pub stands_rows : Stands spec 1 (constraints_forms spec)
  stands_rows = stands_front spec 1 (constraints_forms spec) (Ending ∷ []) stands_behind

  pub stands_ending : (next : ℕ) → next ≡ 1 + length (constraints_forms spec) → Stands spec next (Ending ∷ [])
  stands_ending next is = subst (λ n. Stands spec n (Ending ∷ [])) (sym is) (stands_back spec 1 (constraints_forms spec) (Ending ∷ []) stands_behind)

  pub many_forms : (next : ℕ) → next ≡ 1 + length (constraints_forms spec) → length (forms spec) ≡ next + 1
  many_forms next is = let both = long (constraints_forms spec) (Ending ∷ []) in omega (arith, is, both)

  module _ (lines : List (List ℕ)) (rows : List Row) (next : ℕ) (next_is : next ≡ 1 + length (constraints_forms spec)) (first : IsPart spec lines 0 (Heading ∷ []) (first_line ∷ [])) (middle : IsPart spec lines 1 (constraints_forms spec) (rows_lines spec rows)) (last : IsPart spec lines next (Ending ∷ []) (last_line ∷ [])) where
    pub whole : IsPart spec lines 0 (forms spec) (certificate_lines spec (record { rows = rows }))
    whole = part_joined spec lines 0 (Heading ∷ []) (constraints_forms spec ++ Ending ∷ []) (first_line ∷ []) (rows_lines spec rows ++ last_line ∷ []) first
        (part_joined spec lines 1 (constraints_forms spec) (Ending ∷ []) (rows_lines spec rows) (last_line ∷ []) middle (subst (λ n. IsPart spec lines n (Ending ∷ []) (last_line ∷ [])) next_is last))

    pub too_many : next + 1 < length lines → IsFirstFrom spec lines 0 (faults.Text (next + 1 + 1))
    too_many more =
        let many = many_forms next next_is in
        let line = item_there lines (next + 1) more in
        record {
          k = next + 1;
          behind = omega arith;
          wrong = beyond (next + 1) line.0 (item_beyond (forms spec) (next + 1) (omega (arith, many))) line.1;
          none_before = let end : 0 + length (forms spec) ≡ next + 1 = omega (arith, many) in subst (NoneWrong spec lines 0) end whole.right;
        }

    each_same : (ls : List (List ℕ)) (ts : List (List ℕ)) → ((k : ℕ) (text : List ℕ) → slice_get ts k ≡ Some text → slice_get ls k ≡ Some (ended text)) → length ls ≤ length ts → ls ≡ map ended ts
    each_same [] [] are le = refl
    each_same [] (t ∷ ts) are le = let clash = are 0 t refl in absurd cc
    each_same (l ∷ ls) [] are le = absurd (omega (arith, le))
    each_same (l ∷ ls) (t ∷ ts) are le =
        let one = are 0 t refl in
        let head : l ≡ ended t = cc in
        λ i. head i ∷ each_same ls ts (λ k text is. are (suc k) text is) (omega (arith, le)) i

    -- no line is wrong: none up to the last form, and there is none beyond
    pub none_wrong : length lines ≤ next + 1 → (k : ℕ) (fault : CertFault) → IsWrongIn spec lines k fault → ⊥
    none_wrong le k fault wrong = by (nat_lt k (length (forms spec))) refl where
      many : length (forms spec) ≡ next + 1
      many = many_forms next next_is

      not_beyond : (k : ℕ) (fault : CertFault) → length (forms spec) ≤ k → IsWrongIn spec lines k fault → ⊥
      not_beyond _ _ far (malformed k form is not_formed) = let near = slice_get_within (forms spec) k form is in omega (arith, near, far)
      not_beyond _ _ far (beyond k line none is) = let near = slice_get_within lines k line is in let all = many in omega (arith, near, far, le, all)
      not_beyond _ _ far (no_template k n conj literal line is ended_is none) = let near = slice_get_within (forms spec) k (OfLiteral n conj literal) is in omega (arith, near, far)

      by : (b : Bool) → nat_lt k (length (forms spec)) ≡ b → ⊥
      by true e = whole.right k fault (omega arith) (grind (arith, nat_tests)) wrong
      by false e = not_beyond k fault (grind (arith, nat_tests)) wrong

    pub all_lines : length lines ≤ next + 1 → lines ≡ map ended (certificate_lines spec (record { rows = rows }))
    all_lines le =
        let many = many_forms next next_is in
        let as_many = whole.as_many in
        each_same lines (certificate_lines spec (record { rows = rows })) (λ k text is. let same : 0 + k ≡ k = omega arith in subst (λ n. slice_get lines n ≡ Some (ended text)) same (whole.lines_are k text is)) (omega (arith, le, many, as_many))
