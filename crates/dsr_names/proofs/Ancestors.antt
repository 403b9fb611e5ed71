-- The ancestors of structures, where one more structure is declared behind them.
use Rattle.std.proofs.Common.{◌≡◌, ◌<◌, ◌≤◌, ◌+◌, ℕ, true, false, nat_lt, List, [], ◌∷◌, ◌++◌, take, length, reverse, get_or, Option, refl, sym, ap, ◌∙◌, add-one, zero-add, arith}
use Rattle.std.proofs.Math.Seq.{take-suc}
use Rattle.std.proofs.lemmas.Grind.{common_steps}
use Rattle.std.proofs.lemmas.List.{length-reverse, reverse-append, get_or_past}
use Rattle.std.specs.Option.{option_map_or}
use Rattle.dsr_ir.specs.declared.declarations.Structure.{Structure}
use Rattle.dsr_meaning.specs.Typed.{ancestors, ancestors_among}
use Rattle.dsr_meaning.proofs.Ancestors.{in_earlier, of_last, past_end}
use Rattle.dsr_names.proofs.ByNumber.{by_number, by_number-get, by_number-length, by_number-push, by_number-same}

-- the ancestors of each structure, in order of declaration
abbrev pub lines : List Structure → List (List ℕ)
lines ss = by_number (ancestors ss) 0 ss

-- the line of a number, also of one past the end
pub line_at : (ss : List Structure) (i : ℕ) → get_or (lines ss) i [] ≡ ancestors ss i
line_at ss i =
    elim (nat_lt i (length ss)) as (λ b. nat_lt i (length ss) ≡ b → get_or (lines ss) i [] ≡ ancestors ss i) [
      | true ↦ λ e.
          let lt : i < length ss = grind (arith, common_steps) in
          by_number-get (ancestors ss) 0 ss i [] lt ∙ ap (ancestors ss) (zero-add i)
      | false ↦ λ e.
          let le : length ss ≤ i = grind (arith, common_steps) in
          let many = by_number-length (ancestors ss) 0 ss in
          let reversed = length-reverse ss in
          get_or_past (lines ss) i [] (rw many le) ∙ sym (past_end (reverse ss) i (rw reversed le))
    ] refl

-- the line of a structure whose parent is known, by the lines of those before it
abbrev pub line_after : List (List ℕ) → Option ℕ → List ℕ
line_after earlier parent = option_map_or (λ p. p ∷ get_or earlier p []) parent []

-- the ancestors of all structures, where one more stands behind
lines_push : (ss : List Structure) (s : Structure) → lines (ss ++ s ∷ []) ≡ lines ss ++ line_after (lines ss) s.parent ∷ []
lines_push ss s =
    let many = length-reverse ss in
    let was = ancestors_among (reverse ss) in
    let now = ancestors_among (s ∷ reverse ss) in
    let earlier : by_number now 0 ss ≡ by_number was 0 ss = by_number-same now was 0 ss (λ i lt. in_earlier s (reverse ss) i (rw many (omega arith))) in
    let last : now (0 + length ss) ≡ line_after (lines ss) s.parent =
    ap now (zero-add (length ss))
    ∙ of_last s (reverse ss) (length ss) (sym many)
    ∙ ap (λ f. option_map_or f s.parent []) (λ j p. p ∷ sym (line_at ss p) j) in
    ap (λ rs. by_number (ancestors_among rs) 0 (ss ++ s ∷ [])) (reverse-append ss (s ∷ []))
    ∙ by_number-push now 0 ss s
    ∙ (λ j. earlier j ++ last j ∷ [])

-- the ancestors of the structures up to one, and then of that one too
pub lines_next : (old : List (List ℕ)) {new : List (List ℕ)} {line : List ℕ} (xs : List Structure) (i : ℕ) (x : Structure) → i < length xs → x ≡ get_or xs i x → old ≡ lines (take i xs) → new ≡ old ++ line ∷ [] → line ≡ line_after old x.parent → new ≡ lines (take (i + 1) xs)
lines_next old xs i x lt is known pushed told =
    let more : take (i + 1) xs ≡ take i xs ++ x ∷ [] = rw add-one (take-suc xs i x lt ∙ ap (λ y. take i xs ++ y ∷ []) (sym is)) in
    pushed
    ∙ ap (λ l. old ++ l ∷ []) told
    ∙ ap (λ ls. ls ++ line_after ls x.parent ∷ []) known
    ∙ sym (lines_push (take i xs) x)
    ∙ sym (ap lines more)
