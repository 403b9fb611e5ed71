-- What the program's lines say.
use Rattle.std.specs.Prelude.{ℕ, List, Vec, map}
use Rattle.std.specs.Borrow.{Bor}
use Rattle.std.specs.declared.alloc.Global.{Global}
use Rattle.dsr_edit_text.specs.Scripts.{SetText}
use Rattle.dsr_edit_text.specs.declared.lines.SetLine.{SetLine}

abbrev pub shown : SetLine → SetText
shown set = record {
  pool = set.pool.now;
  slot = set.slot;
  field = set.field.now;
  index = set.index;
  value = set.value;
}

abbrev pub shown_groups : List (Vec SetLine Global) → List (List SetText)
shown_groups groups = map (λ group. map shown group.items) groups

-- what the borrowed lines are
abbrev pub texts_of : List (Bor (List ℕ)) → List (List ℕ)
texts_of texts = map (λ text. text.now) texts
