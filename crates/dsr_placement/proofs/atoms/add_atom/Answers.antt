use Rattle.std.proofs.Common.{sym, subst}
use Rattle.dsr_placement.proofs.Places.{kept_more, last_in}
use Rattle.dsr_placement.specs.Atoms.{Keeps}
use Rattle.dsr_meaning.specs.Counting.{IsIn}
use Rattle.dsr_placement.proofs.atoms.add_atom.Goals as goal

pub returns-then-is_among : goal.returns-then-is_among
returns-then-is_among c = record { keeps = λ a is_in. is_in; there = subst (IsIn c.args.atom) c.deref.ensures.value c.if-is_among.ensures }

pub returns : goal.returns
returns c =
    record {
      keeps = subst (Keeps c.args.atoms.now.items) (sym c.in_ok-push.ensures.items) (kept_more c.args.atoms.now.items c.args.atom);
      there = subst (IsIn c.args.atom) (sym c.in_ok-push.ensures.items) (last_in c.args.atoms.now.items c.args.atom);
    }
