-- What a run says of the facts of an image, by the files that a shelf tells.
use Rattle.std.specs.Prelude.{◌≡◌, ◌≤◌, ℕ, List, length, reverse, Some}
use Rattle.std.specs.FinMap.{get}
use Rattle.dsr_chain_laws.specs.Shortest.{FirstChain, IsShortest}
use Rattle.dsr_command_laws.specs.Repairs.{IsTold}
use Rattle.dsr_command_theory.specs.Commands.{image_limit, spec_limit}
use Rattle.dsr_words.specs.Words.{Lost, Why, command_of}
use Rattle.dsr_command_why.specs.Facts.{fact_text}
use Rattle.dsr_command_why.specs.Losts.{lost_answer}
use Rattle.dsr_command_why.specs.Whys.{AreLines, chain_answer, no_chain_answer, outside_answer}
use Rattle.dsr_ir.specs.declared.declarations.Spec.{Spec}
use Rattle.dsr_ir.specs.declared.layouts.Layout.{Layout}
use Rattle.dsr_ir.specs.declared.tuples.Element.{Element}
use Rattle.dsr_ir.specs.declared.tuples.Fact.{Fact}
use Rattle.dsr_ir.specs.declared.tuples.Fact.TheVariants.{Member}
use Rattle.dsr_ir.specs.declared.tuples.Instance.{Instance}
use Rattle.dsr_language_theory.specs.Specifications.{IsSpecificationOf}
use Rattle.dsr_lost.specs.Lost.{AreLost}
use Rattle.dsr_meaning.specs.Models.{IsFact, IsInComplement, base_of}
use Rattle.dsr_meaning.specs.Refusals.{IsLayoutOf}
use Rattle.dsr_script.specs.Outside.{Outside}
use Rattle.dsr_script.specs.declared.status.Status.{Status}
use Rattle.dsr_script.specs.declared.status.Status.TheVariants.{Said}
use Rattle.dsr_script.specs.declared.status.Verdict.{Verdict}
use Rattle.dsr_script.specs.declared.status.Verdict.TheVariants as verdicts
use Rattle.dsr_store.specs.Files.{Files}

-- the words ask why the fact of this text is in the model of an image: the files are within their
-- limits, the text means the specification, and the image has the layout
pub record IsExplained (files : Files) (words : List (List ℕ)) (spec : Spec) (layout : Layout)
    (image fact : List ℕ) : Type 0 where
  pub spec_name : List ℕ
  pub image_name : List ℕ
  pub asked : command_of words ≡ Some (Why spec_name image_name fact)
  pub text : List ℕ
  pub spec_file : get files spec_name ≡ Some text
  pub image_file : get files image_name ≡ Some image
  pub short_text : length text ≤ spec_limit
  pub short_image : length image ≤ image_limit spec
  pub means : IsSpecificationOf text spec
  pub laid_out : IsLayoutOf spec image layout

-- chains end in a fact of this text: none has fewer instances than these, which are the first of
-- those that have as few, and a line is told for each
pub record IsChained (spec : Spec) (layout : Layout) (image text : List ℕ)
    (before after : Outside) : Type 0 where
  pub fact : Fact
  pub text_is : fact_text spec fact ≡ text
  pub instances : List Instance
  pub shortest : IsShortest spec layout image (reverse instances) fact
  pub first : FirstChain spec layout image (reverse instances) fact
  pub lines : List ℕ
  pub are_lines : AreLines spec layout image instances lines
  pub told : IsTold before after (chain_answer lines (length instances))

-- a member of a complement has the text, and the base of that is told
pub record IsOutside (spec : Spec) (layout : Layout) (image text : List ℕ)
    (before after : Outside) : Type 0 where
  pub set : ℕ
  pub base : ℕ
  pub elem : Element
  pub text_is : fact_text spec (Member set elem) ≡ text
  pub base_is : base_of spec set ≡ Some base
  pub member : IsInComplement spec layout image set base elem
  pub told : IsTold before after (outside_answer spec base)

-- no fact of the model has the text, and that is told
pub record HasNoChain (spec : Spec) (layout : Layout) (image text : List ℕ)
    (before after : Outside) : Type 0 where
  pub none : (fact : Fact) → IsFact spec layout image fact → fact_text spec fact ≡ text → ⊥
  pub told : IsTold before after no_chain_answer

-- one of the three, each of which keeps the others from being so
pub data IsWhy (spec : Spec) (layout : Layout) (image text : List ℕ) (before after : Outside)
    : Type 0 where
  chained : IsChained spec layout image text before after → IsWhy spec layout image text before after
  outside : IsOutside spec layout image text before after → IsWhy spec layout image text before after
  no_chain : HasNoChain spec layout image text before after → IsWhy spec layout image text before after

-- where the shelf tells its files and the words ask why a fact is there, a command that speaks says
-- so, with status 0
abbrev pub ExplainsFacts : List (List ℕ) → Outside → Outside → Status → Type 0
ExplainsFacts words before after status =
    (files : Files) (spec : Spec) (layout : Layout) (image fact : List ℕ) (verdict : Verdict)
    → before.held ≡ Some files → status ≡ Said verdict
    → IsExplained files words spec layout image fact
    → (verdict ≡ verdicts.Ok) × IsWhy spec layout image fact before after

-- nothing is said of a fact unless it was looked for in an image
abbrev pub ExplainsNothingElse : List (List ℕ) → Outside → Outside → Status → Type 0
ExplainsNothingElse words before after status =
    (files : Files) (spec_name image_name fact : List ℕ) → before.held ≡ Some files
    → command_of words ≡ Some (Why spec_name image_name fact) → status ≡ Said verdicts.Ok
    → (spec : Spec) × (layout : Layout) × (image : List ℕ)
    × IsExplained files words spec layout image fact
    × IsWhy spec layout image fact before after

-- ---- lost records

-- the words ask for the records of an image that no set has
pub record IsListed (files : Files) (words : List (List ℕ)) (spec : Spec) (layout : Layout)
    (image : List ℕ) : Type 0 where
  pub spec_name : List ℕ
  pub image_name : List ℕ
  pub asked : command_of words ≡ Some (Lost spec_name image_name)
  pub text : List ℕ
  pub spec_file : get files spec_name ≡ Some text
  pub image_file : get files image_name ≡ Some image
  pub short_text : length text ≤ spec_limit
  pub short_image : length image ≤ image_limit spec
  pub means : IsSpecificationOf text spec
  pub laid_out : IsLayoutOf spec image layout

-- exactly the lost records are told, in order
pub record ListsLost (spec : Spec) (layout : Layout) (image : List ℕ)
    (before after : Outside) : Type 0 where
  pub lost : List Element
  pub are_lost : AreLost spec layout image lost
  pub told : IsTold before after (lost_answer spec lost)

abbrev pub ListsRecords : List (List ℕ) → Outside → Outside → Status → Type 0
ListsRecords words before after status =
    (files : Files) (spec : Spec) (layout : Layout) (image : List ℕ) (verdict : Verdict)
    → before.held ≡ Some files → status ≡ Said verdict → IsListed files words spec layout image
    → (verdict ≡ verdicts.Ok) × ListsLost spec layout image before after

abbrev pub ListsNothingElse : List (List ℕ) → Outside → Outside → Status → Type 0
ListsNothingElse words before after status =
    (files : Files) (spec_name image_name : List ℕ) → before.held ≡ Some files
    → command_of words ≡ Some (Lost spec_name image_name) → status ≡ Said verdicts.Ok
    → (spec : Spec) × (layout : Layout) × (image : List ℕ)
    × IsListed files words spec layout image × ListsLost spec layout image before after
