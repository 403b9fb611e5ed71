-- What the faults of a text mean.
use Rattle.std.specs.Prelude.{ℕ, List, [], ◌∷◌}
use Rattle.dsr_tree.specs.declared.tokens.Lexeme.{Lexeme}
use Rattle.dsr_syntax_theory.specs.Grammar.{spec}
use Rattle.dsr_syntax_theory.specs.Sentences.{IsNoToken, IsUnexpected, IsPastLimit}
use Rattle.dsr_parse.specs.Machine.{run}
use Rattle.dsr_parse.specs.Reading.{EndsBy}
use Rattle.dsr_parse.specs.declared.parser.SyntaxFault.{SyntaxFault}
use Rattle.dsr_parse.specs.declared.parser.SyntaxFault.TheVariants.{Token, Expected, Limit, NoMemory}
use Rattle.dsr_parse.specs.declared.reader.Stop.{Stop}

-- the text has the fault; want of memory is none of a text
abbrev pub HasFault : List ℕ → SyntaxFault → Type 0
HasFault text (Token place) = IsNoToken text place
HasFault text (Expected place) = IsUnexpected text place
HasFault text (Limit place) = IsPastLimit text place
HasFault text NoMemory = ⊥

-- the machine stops so over the tokens of a text
abbrev pub StopsBy : List Lexeme → Stop → Type 0
StopsBy ls stop = EndsBy stop (run ls 0 (spec ∷ []))
