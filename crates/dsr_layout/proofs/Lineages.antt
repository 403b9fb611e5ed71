-- The ancestors of structures, where more structures are declared behind them.
use Rattle.std.proofs.Common.{◌≡◌, ◌<◌, ◌≤◌, ◌+◌, ℕ, true, false, nat_eq, nat_lt, List, [], ◌∷◌, ◌++◌, take, drop, length, reverse, inl, inr, Option, None, Some, slice_get, if◌then◌else◌, refl, sym, ap, ◌∙◌, arith}
use Rattle.std.specs.Option.{option_map_or}
use Rattle.std.proofs.lemmas.Bool.{cases_lt, cond-true, cond-false, eq-eqb, ne_eqb, lt-ltb, le-ltb, ltb-true}
use Rattle.std.proofs.lemmas.List.{length-append, length-reverse, length-take-le, reverse-append, take-append-drop}
use Rattle.std.proofs.lemmas.Option.{slice_get_within}
use Rattle.dsr_ir.specs.declared.declarations.Structure.{Structure}
use Rattle.dsr_meaning.specs.Places.{lineage_in, lineage}
use Rattle.dsr_layout.proofs.Items.{take_found}

-- a structure changes nothing for the others
of_other : (s : Structure) (earlier : List Structure) (i : ℕ) → (i ≡ length earlier → ⊥) → lineage_in (s ∷ earlier) i ≡ lineage_in earlier i
of_other s earlier i other = cond-false (nat_eq i (length earlier)) (s ∷ option_map_or (lineage_in earlier) s.parent []) (lineage_in earlier i) (ne_eqb i (length earlier) other)

-- its own ancestors are found among those before it
of_last : (s : Structure) (earlier : List Structure) (i : ℕ) → i ≡ length earlier → lineage_in (s ∷ earlier) i ≡ s ∷ option_map_or (lineage_in earlier) s.parent []
of_last s earlier i is = cond-true (nat_eq i (length earlier)) (s ∷ option_map_or (lineage_in earlier) s.parent []) (lineage_in earlier i) (eq-eqb i (length earlier) is)

-- a number that isn't one has no ancestors
of_none : (earlier : List Structure) (i : ℕ) → length earlier ≤ i → lineage_in earlier i ≡ []
of_none [] i past = refl
of_none (s ∷ earlier) i past = of_other s earlier i (λ e. omega arith) ∙ of_none earlier i (omega arith)

-- later structures change nothing for those before them
of_earlier : (later earlier : List Structure) (i : ℕ) → i < length earlier → lineage_in (later ++ earlier) i ≡ lineage_in earlier i
of_earlier [] earlier i lt = refl
of_earlier (s ∷ later) earlier i lt =
    let many = length-append later earlier in
    of_other s (later ++ earlier) i (λ e. omega arith) ∙ of_earlier later earlier i lt

pub lineage_none : (ss : List Structure) (i : ℕ) → length ss ≤ i → lineage ss i ≡ []
lineage_none ss i past = of_none (reverse ss) i (rw (length-reverse ss) past)

pub lineage_front : (ss later : List Structure) (i : ℕ) → i < length ss → lineage (ss ++ later) i ≡ lineage ss i
lineage_front ss later i lt = ap (λ rs. lineage_in rs i) (reverse-append ss later) ∙ of_earlier (reverse later) (reverse ss) i (rw (length-reverse ss) lt)

pub lineage_other : (ss : List Structure) (s : Structure) (i : ℕ) → (i ≡ length ss → ⊥) → lineage (ss ++ s ∷ []) i ≡ lineage ss i
lineage_other ss s i other =
    ap (λ rs. lineage_in rs i) (reverse-append ss (s ∷ []))
    ∙ of_other s (reverse ss) i (λ e. other (e ∙ length-reverse ss))

-- the ancestors of a structure by its parent, which is declared before it
abbrev pub ancestors : List Structure → ℕ → Option ℕ → List Structure
ancestors ss i parent = option_map_or (λ p. if nat_lt p i then lineage ss p else []) parent []

-- those of the next structure
ancestors_next : (ss : List Structure) (parent : Option ℕ) → option_map_or (lineage ss) parent [] ≡ ancestors ss (length ss) parent
ancestors_next ss None = refl
ancestors_next ss (Some p) = elim (cases_lt p (length ss)) [
  | inl lt ↦ sym (cond-true (nat_lt p (length ss)) (lineage ss p) [] (lt-ltb p (length ss) lt))
  | inr past ↦ lineage_none ss p past ∙ sym (cond-false (nat_lt p (length ss)) (lineage ss p) [] (le-ltb p (length ss) past))
]

pub lineage_last : (ss : List Structure) (s : Structure) (i : ℕ) → i ≡ length ss → lineage (ss ++ s ∷ []) i ≡ s ∷ ancestors ss (length ss) s.parent
lineage_last ss s i is =
    ap (λ rs. lineage_in rs i) (reverse-append ss (s ∷ []))
    ∙ of_last s (reverse ss) i (is ∙ sym (length-reverse ss))
    ∙ ap (λ line. s ∷ line) (ancestors_next ss s.parent)

-- a structure and its ancestors
module _ (ss : List Structure) (i : ℕ) (s : Structure) (found : slice_get ss i ≡ Some s) where
  within : i < length ss
  within = slice_get_within ss i s found

  many : length (take i ss) ≡ i
  many = length-take-le i ss (omega (arith, within))

  -- the ancestors are among those before it
  ancestors_before : (parent : Option ℕ) → ancestors (take i ss) i parent ≡ ancestors ss i parent
  ancestors_before None = refl
  ancestors_before (Some p) = elim (nat_lt p i) as (λ b. nat_lt p i ≡ b → (if b then lineage (take i ss) p else []) ≡ (if b then lineage ss p else [])) [
    | true ↦ λ e.
        let before = ltb-true p i e in
        sym (lineage_front (take i ss) (drop i ss) p (omega (arith, before, many))) ∙ ap (λ xs. lineage xs p) (take-append-drop i ss)
    | false ↦ λ _. refl
  ] refl

  split : ss ≡ (take i ss ++ s ∷ []) ++ drop (i + 1) ss
  split = sym (take-append-drop (i + 1) ss) ∙ ap (λ xs. xs ++ drop (i + 1) ss) (take_found ss i s found)

  pub lineage_of : lineage ss i ≡ s ∷ ancestors ss i s.parent
  lineage_of =
      let more : length (take i ss ++ s ∷ []) ≡ length (take i ss) + 1 = length-append (take i ss) (s ∷ []) in
      ap (λ xs. lineage xs i) split
      ∙ lineage_front (take i ss ++ s ∷ []) (drop (i + 1) ss) i (omega (arith, more, many))
      ∙ lineage_last (take i ss) s i (sym many)
      ∙ ap (λ n. s ∷ ancestors (take i ss) n s.parent) many
      ∙ ap (λ line. s ∷ line) (ancestors_before s.parent)
