-- Names that are spelled as a text spells them.
use Rattle.std.specs.Prelude.{ℕ, List, ◌∷◌, IsTrue, All}
use Rattle.dsr_ir.specs.declared.declarations.Spec.{Spec}
use Rattle.dsr_ir.specs.declared.declarations.Structure.{Structure}
use Rattle.dsr_meaning.specs.Typed.{HasName}
use Rattle.dsr_syntax_theory.specs.Tokens.{every, is_in_word, is_letter}

-- a letter, and behind it letters, digits and `_`
pub data IsSpelled : List ℕ → Type 0 where
  spelled :
      (letter : ℕ) (bytes : List ℕ) → IsTrue (is_letter letter) → IsTrue (every is_in_word bytes)
      → IsSpelled (letter ∷ bytes)

-- the names of a structure and of its fields; gaps have none
pub record AreFieldsSpelled (s : Structure) : Type 0 where
  pub own : IsSpelled s.name
  pub fields : All (λ f. HasName f → IsSpelled f.name) s.fields

-- each name that a specification declares
pub record HasSpelledNames (spec : Spec) : Type 0 where
  pub structures : All AreFieldsSpelled spec.base.structures
  pub pools : All (λ p. IsSpelled p.name) spec.base.pools
  pub sets : All (λ s. IsSpelled s.name) spec.base.sets
  pub relations : All (λ r. IsSpelled r.name) spec.base.rels
  pub constraints : All (λ c. IsSpelled c.name) spec.constraints
