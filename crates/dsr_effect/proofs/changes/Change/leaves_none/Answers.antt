use Rattle.std.proofs.Common.{refl, subst}
use Rattle.std.proofs.lemmas.Bool.{false≢true}
use Rattle.dsr_update_theory.specs.Values.{NoneReference}
use Rattle.dsr_effect.specs.Told.{IsLeft, change_of}
use Rattle.dsr_effect.proofs.changes.Change.leaves_none.Goals as goal

pub returns-in-None : goal.returns-in-None
returns-in-None c =
    let nothing = subst (IsLeft (change_of c.args.self.now) c.args.write.now) c.in-None.is c.left.ensures in
    (λ e. absurd (false≢true e), λ leaves. absurd (nothing NoneReference ((leaves NoneReference).1 refl)))
