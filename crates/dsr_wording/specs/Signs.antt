-- How comparisons are written.
use Rattle.std.specs.Prelude.{ℕ, List, codes}
use Rattle.dsr_ir.specs.declared.rules.Op.{Op}
use Rattle.dsr_ir.specs.declared.rules.Op.TheVariants.{Eq, Ge, Gt, Le, Lt, Ne}

-- the sign of a comparison, as in the text of a specification
abbrev pub sign_text : Op → List ℕ
sign_text Eq = codes "="
sign_text Ne = codes "!="
sign_text Lt = codes "<"
sign_text Le = codes "<="
sign_text Gt = codes ">"
sign_text Ge = codes ">="
