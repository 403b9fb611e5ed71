-- Faults of certificates, as text.
use Rattle.std.specs.Prelude.{◌+◌, ◌++◌, ℕ, List, [], codes, decimal}
use Rattle.dsr_command_plan.specs.StuckTexts.{named}
use Rattle.dsr_cert.specs.declared.faults.CertFault.{CertFault}
use Rattle.dsr_cert.specs.declared.faults.CertFault.TheVariants.{Text, Coverage, NotATemplate, Falsifies, Edge, Reliance, NoMemory}
use Rattle.dsr_ir.specs.declared.declarations.Spec.{Spec}
use Rattle.dsr_script.specs.Scripts.{Answer}
use Rattle.dsr_script.specs.declared.status.Verdict.TheVariants as verdicts

-- a word, a constraint's name, and the numbers of a conjunction and a literal, counted from 1
abbrev pub literal_text : List ℕ → Spec → ℕ → ℕ → ℕ → List ℕ
literal_text word spec constraint conj literal =
    named word spec constraint ++ codes " " ++ decimal (conj + 1) ++ codes "." ++ decimal (literal + 1)

-- a word with the names of two constraints
abbrev pub two_text : List ℕ → Spec → ℕ → ℕ → List ℕ
two_text word spec first second = named word spec first ++ named (codes " ") spec second

-- the number of the kind, and where it is
abbrev pub fault_text : Spec → CertFault → List ℕ
fault_text spec (Text line) = codes "1 " ++ decimal line
fault_text spec (Coverage n) = named (codes "2 ") spec n
fault_text spec (NotATemplate n conj literal) = literal_text (codes "3 ") spec n conj literal
fault_text spec (Falsifies n conj literal) = literal_text (codes "4 ") spec n conj literal
fault_text spec (Edge n other) = two_text (codes "5 ") spec n other
fault_text spec (Reliance n on) = two_text (codes "6 ") spec n on
fault_text spec NoMemory = []

abbrev pub fault_answer : Spec → CertFault → Answer
fault_answer spec fault = record {
  verdict = verdicts.CertRefused;
  text = codes "cert " ++ fault_text spec fault ++ codes "\n";
}
