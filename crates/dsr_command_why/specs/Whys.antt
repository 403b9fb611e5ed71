-- Why a fact is in the model of an image, as it is answered.
use Rattle.std.specs.Prelude.{◌≡◌, ◌<◌, ◌+◌, ◌++◌, ℕ, List, [], ◌∷◌, Option, None, Some, MatchOption, length, reverse, codes, decimal}
use Rattle.dsr_answers.specs.Texts.{element_text, layout_answer, symbol_name}
use Rattle.dsr_chain_laws.specs.Shortest.{FirstChain}
use Rattle.dsr_command_why.specs.Facts.{fact_text}
use Rattle.dsr_ir.specs.declared.declarations.Spec.{Spec}
use Rattle.dsr_ir.specs.declared.layouts.Layout.{Layout}
use Rattle.dsr_ir.specs.declared.rules.Rule.{Rule}
use Rattle.dsr_ir.specs.declared.rules.Span.{Span}
use Rattle.dsr_ir.specs.declared.rules.Span.TheVariants.{Array, Single, Slots}
use Rattle.dsr_ir.specs.declared.tuples.Element.{Element}
use Rattle.dsr_ir.specs.declared.tuples.Fact.{Fact}
use Rattle.dsr_ir.specs.declared.tuples.Fact.TheVariants.{Member}
use Rattle.dsr_ir.specs.declared.tuples.Instance.{Instance}
use Rattle.dsr_ir.specs.declared.updates.Symbol.{Symbol}
use Rattle.dsr_ir.specs.declared.updates.Symbol.TheVariants.{Set}
use Rattle.dsr_meaning.specs.Instances.{Gives, record_count}
use Rattle.dsr_meaning.specs.Looking.{symbol_of}
use Rattle.dsr_meaning.specs.Models.{IsDerived, IsFact, IsInComplement, base_of}
use Rattle.dsr_meaning.specs.Refusals.{IsLayoutOf, Refusal, first_of, refusals}
use Rattle.dsr_script.specs.Moves.{shown}
use Rattle.dsr_script.specs.Scripts.{Answer}
use Rattle.dsr_script.specs.declared.moves.Told.{Told}
use Rattle.dsr_script.specs.declared.status.Verdict.TheVariants as verdicts

-- the entry of the index, where the rule has one
abbrev pub index_text : Span → ℕ → List ℕ
index_text Single index = []
index_text (Array field) index = codes " index " ++ decimal index
index_text (Slots pool) index = codes " index " ++ decimal index

-- the number of the line, and where the instance is; lines and rules are counted from 1
abbrev pub place_text : Spec → ℕ → Instance → Span → List ℕ
place_text spec number i span =
    decimal number ++ codes " rule " ++ decimal (i.rule + 1) ++ codes " at "
    ++ element_text spec i.elem ++ index_text span i.index

-- the line of an instance of a rule with this index, and the fact that it gives
abbrev pub instance_line : Spec → ℕ → Instance → Span → Fact → List ℕ
instance_line spec number i span fact =
    place_text spec number i span ++ codes " gives " ++ fact_text spec fact
    ++ codes "\n"

-- the text has a line for each instance, in order, with the fact that the instance gives
pub data AreLines (spec : Spec) (layout : Layout) (image : List ℕ) : List Instance → List ℕ → Type 0 where
  none : AreLines spec layout image [] []
  more :
      {is : List Instance} {text : List ℕ} → (i : Instance) (rule : Rule) (fact : Fact)
      → AreLines spec layout image is text → Gives spec layout image i rule fact
      → AreLines spec layout image (is ++ i ∷ [])
      (text ++ instance_line spec (length is + 1) i rule.span fact)

-- these lines, and of how many instances the chain is
abbrev pub chain_answer : List ℕ → ℕ → Answer
chain_answer lines count = record {
  verdict = verdicts.Ok;
  text = lines ++ codes "chain " ++ decimal count ++ codes "\n";
}

-- the record is outside of the set
abbrev pub outside_answer : Spec → ℕ → Answer
outside_answer spec set = record {
  verdict = verdicts.Ok;
  text = codes "outside " ++ symbol_name spec (Set set) ++ codes "\n";
}

abbrev pub no_chain_answer : Answer
no_chain_answer = record { verdict = verdicts.Ok; text = codes "no chain\n" }

-- The image has no layout, and the first reason is told. Or the word is the text of a fact in which
-- chains end, and the first of the shortest is told. Or it is that of a member of a complement, and
-- its base is told. Or it is that of no fact of the model.
pub data IsWhyAnswer (spec : Spec) (image word : List ℕ) : Answer → Type 0 where
  unlaid :
      (refusal : Refusal) → first_of (refusals spec image) ≡ Some refusal
      → IsWhyAnswer spec image word (layout_answer spec refusal)
  chained :
      (layout : Layout) (fact : Fact) (is : List Instance) (lines : List ℕ)
      → IsLayoutOf spec image layout → fact_text spec fact ≡ word
      → FirstChain spec layout image (reverse is) fact → AreLines spec layout image is lines
      → IsWhyAnswer spec image word (chain_answer lines (length is))
  outside :
      (layout : Layout) (set base : ℕ) (e : Element) → IsLayoutOf spec image layout
      → fact_text spec (Member set e) ≡ word → base_of spec set ≡ Some base
      → IsInComplement spec layout image set base e
      → IsWhyAnswer spec image word (outside_answer spec base)
  no_chain :
      (layout : Layout) → IsLayoutOf spec image layout
      → ((fact : Fact) → IsFact spec layout image fact → fact_text spec fact ≡ word → ⊥)
      → IsWhyAnswer spec image word no_chain_answer

-- ---- for the functions that make it

-- the instance fires
pub record GivesSome (spec : Spec) (layout : Layout) (image : List ℕ) (i : Instance) : Type 0 where
  pub rule : Rule
  pub fact : Fact
  pub gives : Gives spec layout image i rule fact

-- its line is put behind a text
pub record PushesLine (spec : Spec) (layout : Layout) (image : List ℕ) (number : ℕ) (i : Instance)
    (old new : List ℕ) : Type 0 where
  pub some : GivesSome spec layout image i
  pub new_is : new ≡ old ++ instance_line spec number i some.rule.span some.fact

-- the answer for a fact whose text is the word; none where no chain ends in it
abbrev pub TellsChain : Spec → Layout → List ℕ → List ℕ → Fact → Option Told → Type 0
TellsChain spec layout image word fact answer =
    MatchOption answer (IsDerived spec layout image fact → ⊥)
    (λ told. IsWhyAnswer spec image word (shown told))

-- the answer for a record and the complement of a set; none where it isn't a member
abbrev pub TellsMember : Spec → Layout → List ℕ → ℕ → Element → Option Told → Type 0
TellsMember spec layout image base e answer =
    MatchOption answer
    (e.slot < record_count layout e.pool → (IsDerived spec layout image (Member base e) → ⊥) → ⊥)
    (λ told. (e.slot < record_count layout e.pool)
    × (IsDerived spec layout image (Member base e) → ⊥) × (shown told ≡ outside_answer spec base))

-- the answer for the symbol's fact whose text is the word; none where there is none in the model
abbrev pub TellsOf : Spec → Layout → List ℕ → List ℕ → Symbol → Option Told → Type 0
TellsOf spec layout image word symbol answer =
    MatchOption answer
    ((fact : Fact) → symbol_of fact ≡ symbol → IsFact spec layout image fact
    → fact_text spec fact ≡ word → ⊥)
    (λ told. IsWhyAnswer spec image word (shown told))

-- the answer for the facts of the first symbols of a kind
abbrev pub TellsBelow : Spec → Layout → List ℕ → List ℕ → (ℕ → Symbol) → ℕ → Option Told → Type 0
TellsBelow spec layout image word symbol count answer =
    MatchOption answer
    ((k : ℕ) → k < count → TellsOf spec layout image word (symbol k) None)
    (λ told. IsWhyAnswer spec image word (shown told))
