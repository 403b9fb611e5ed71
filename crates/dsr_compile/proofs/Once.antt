-- A text has one meaning or one refusal, and what means something isn't refused.
use Rattle.std.proofs.Common.{arith, ◌≡◌, ◌≤◌, ◌⊎◌, ℕ, List, [], Bool, false, refl, ap, subst, ◌∙◌, inl, inr}
use Rattle.std.proofs.lemmas.Bool.{and_cases, eqb-false, ltb-false, or_parts}
use Rattle.std.specs.Prelude.{◌&&◌, nat_eq, nat_lt}
use Rattle.dsr_answers.specs.Refused.{IsMeaning, IsRefused, meaning_answer, no_token, unexpected, past_limit, no_meaning, syntax_answer}
use Rattle.dsr_meaning.specs.Counting.{IsIn}
use Rattle.dsr_parse.proofs.Exclusive.{no_token_not_past_limit, no_token_not_unexpected, no_token_once, past_limit_once, spec_not_no_token, spec_not_past_limit, spec_not_unexpected, unexpected_not_past_limit, unexpected_once}
use Rattle.dsr_parse.proofs.TreesOnce as trees
use Rattle.dsr_parse.specs.Faults.{HasFault}
use Rattle.dsr_parse.specs.declared.parser.SyntaxFault.{SyntaxFault}
use Rattle.dsr_script.specs.Scripts.{Answer}
use Rattle.dsr_compile.specs.Readings.{Interpretation, IsInterpretation, Means, Refused}
use Rattle.dsr_language_theory.specs.Faults.{IsToldOf}
use Rattle.dsr_syntax_theory.specs.Parsing.{IsTreeOf}
use Rattle.dsr_syntax_theory.specs.Sentences.{IsSpecText}
use Rattle.dsr_tree.specs.Faults.{is_before, kind_number}
use Rattle.dsr_tree.specs.Trees.{TreeShape}
use Rattle.dsr_tree.specs.declared.faults.Fault.{Fault}
use Rattle.dsr_language_theory.specs.Specifications.{specification_faults}

pub tree_unique : (text : List ℕ) (t u : TreeShape) → IsTreeOf text t → IsTreeOf text u → t ≡ u
tree_unique text t u a b = trees.tree_unique text t u a b

-- the answer refuses each text that has the fault
abbrev pub RefusesSyntax : SyntaxFault → Answer → Type 0
RefusesSyntax fault a = (text : List ℕ) → HasFault text fault → IsRefused text a

spec_text : (text : List ℕ) (tree : TreeShape) → IsTreeOf text tree → IsSpecText text
spec_text text tree is = record { lexemes = is.lexemes; lexed = is.lexed; sentence = is.sentence }

pub not_refused : (text : List ℕ) (tree : TreeShape) (answer : Answer) → IsMeaning text tree → IsRefused text answer → ⊥
not_refused text tree _ means (no_token place is) =
    spec_not_no_token text place (spec_text text tree means.is_tree) is
not_refused text tree _ means (unexpected place is) =
    spec_not_unexpected text place (spec_text text tree means.is_tree) is
not_refused text tree _ means (past_limit place is) =
    spec_not_past_limit text place (spec_text text tree means.is_tree) is
not_refused text tree _ means (no_meaning other condition place is told) =
    let same : other ≡ tree = tree_unique text other tree is means.is_tree in
    subst (IsIn (record { place = place; condition = condition })) (ap specification_faults same ∙ means.no_fault) told.held

-- ---- one refusal

-- of two faults neither of which is told rather than the other, one answer tells
told_once : (f g : Fault) → is_before f g ≡ false → is_before g f ≡ false
    → meaning_answer (kind_number f.condition) f.place ≡ meaning_answer (kind_number g.condition) g.place
told_once f g one other =
    ap (λ k. meaning_answer k f.place) kinds ∙ ap (λ p. meaning_answer (kind_number g.condition) p) places
  where
    parts : (nat_lt f.place g.place ≡ false) × ((nat_eq f.place g.place && nat_lt (kind_number f.condition) (kind_number g.condition)) ≡ false)
    parts = or_parts _ _ one

    others : (nat_lt g.place f.place ≡ false) × ((nat_eq g.place f.place && nat_lt (kind_number g.condition) (kind_number f.condition)) ≡ false)
    others = or_parts _ _ other

    places : f.place ≡ g.place
    places =
        let low = ltb-false f.place g.place parts.0 in
        let high = ltb-false g.place f.place others.0 in
        omega (arith, low, high)

    no_less : (a b k l : ℕ) → a ≡ b → (nat_eq a b && nat_lt k l) ≡ false → l ≤ k
    no_less a b k l same never = elim (and_cases (nat_eq a b) (nat_lt k l) never) [
      | inl apart ↦ absurd (eqb-false a b apart same)
      | inr not ↦ ltb-false k l not
    ]

    kinds : kind_number f.condition ≡ kind_number g.condition
    kinds =
        let low = no_less f.place g.place (kind_number f.condition) (kind_number g.condition) places parts.1 in
        let back : g.place ≡ f.place = omega (arith, places) in
        let high = no_less g.place f.place (kind_number g.condition) (kind_number f.condition) back others.1 in
        omega (arith, low, high)

pub one_refusal : (text : List ℕ) (answer other : Answer) → IsRefused text answer → IsRefused text other → answer ≡ other
one_refusal text _ _ (no_token place is) (no_token at also) = ap (syntax_answer 1) (no_token_once text place at is also)
one_refusal text _ _ (no_token place is) (unexpected at also) = absurd (no_token_not_unexpected text place at is also)
one_refusal text _ _ (no_token place is) (past_limit at also) = absurd (no_token_not_past_limit text place at is also)
one_refusal text _ _ (no_token place is) (no_meaning tree condition at is_tree told) =
    absurd (spec_not_no_token text place (spec_text text tree is_tree) is)
one_refusal text _ _ (unexpected place is) (no_token at also) = absurd (no_token_not_unexpected text at place also is)
one_refusal text _ _ (unexpected place is) (unexpected at also) = ap (syntax_answer 2) (unexpected_once text place at is also)
one_refusal text _ _ (unexpected place is) (past_limit at also) = absurd (unexpected_not_past_limit text place at is also)
one_refusal text _ _ (unexpected place is) (no_meaning tree condition at is_tree told) =
    absurd (spec_not_unexpected text place (spec_text text tree is_tree) is)
one_refusal text _ _ (past_limit place is) (no_token at also) = absurd (no_token_not_past_limit text at place also is)
one_refusal text _ _ (past_limit place is) (unexpected at also) = absurd (unexpected_not_past_limit text at place also is)
one_refusal text _ _ (past_limit place is) (past_limit at also) = ap (syntax_answer 3) (past_limit_once text place at is also)
one_refusal text _ _ (past_limit place is) (no_meaning tree condition at is_tree told) =
    absurd (spec_not_past_limit text place (spec_text text tree is_tree) is)
one_refusal text _ _ (no_meaning tree condition place is_tree told) (no_token at is) =
    absurd (spec_not_no_token text at (spec_text text tree is_tree) is)
one_refusal text _ _ (no_meaning tree condition place is_tree told) (unexpected at is) =
    absurd (spec_not_unexpected text at (spec_text text tree is_tree) is)
one_refusal text _ _ (no_meaning tree condition place is_tree told) (past_limit at is) =
    absurd (spec_not_past_limit text at (spec_text text tree is_tree) is)
one_refusal text _ _ (no_meaning tree condition place is_tree told) (no_meaning tree_2 condition_2 at is_tree_2 told_2) =
    let f : Fault = record { place = place; condition = condition } in
    let g : Fault = record { place = at; condition = condition_2 } in
    let same : tree_2 ≡ tree = tree_unique text tree_2 tree is_tree_2 is_tree in
    let also : IsToldOf (specification_faults tree) g = subst (λ t. IsToldOf (specification_faults t) g) same told_2 in
    told_once f g (also.none_before f told.held) (told.none_before g also.held)

-- what is read of a text is one thing: what it means, or the answer that refuses it
pub one_reading : (text : List ℕ) (found other : Interpretation) → IsInterpretation text found → IsInterpretation text other → found ≡ other
one_reading text (Means tree) (Means tree_2) is also = ap Means (tree_unique text tree tree_2 is.is_tree also.is_tree)
one_reading text (Means tree) (Refused answer) is also = absurd (not_refused text tree answer is also)
one_reading text (Refused answer) (Means tree) is also = absurd (not_refused text tree answer also is)
one_reading text (Refused answer) (Refused answer_2) is also = ap Refused (one_refusal text answer answer_2 is also)
