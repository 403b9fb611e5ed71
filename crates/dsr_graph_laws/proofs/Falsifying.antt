-- No other literal of the conjunction turns false.
use Rattle.std.proofs.Common.{◌≡◌, ◌≢◌, ℕ, None, Some, refl, sym, subst}
use Rattle.dsr_graph_theory.specs.Breaks.{Falsifies}
use Rattle.dsr_graph_theory.specs.Excuses.{MayHappen}
use Rattle.dsr_effect_laws.proofs.FactChanges.{not_gained, not_lost}
use Rattle.dsr_repair_laws.proofs.TypedLiterals.{typed_in}
use Rattle.dsr_graph_laws.proofs.Literals.{literal_stays}
use Rattle.dsr_graph_laws.specs.Listed.{StaysTrue}
use Rattle.dsr_ir.specs.declared.constraints.Literal.{Literal}
use Rattle.dsr_template_laws.proofs.MadeAsJudged.{made}
use Rattle.dsr_template_laws.proofs.TriedApplications.{update_there}
use Rattle.dsr_template_laws.specs.Judging.{Application, change_in, owner_of}
use Rattle.dsr_template_laws.specs.Tried.{IsTried}
use Rattle.dsr_update_theory.specs.Templates.{literal_at}

module _ (a : Application) (t : IsTried a) where
  pub others_stay_true : Falsifies (owner_of a) a.step.conj a.step.literal a.template None → (n : ℕ) (literal : Literal) → n ≢ a.step.literal → literal_at a.applied.violated.constraint a.step.conj n ≡ Some literal → StaysTrue a literal
  others_stay_true none n literal other is b =
      let c = change_in a in
      let m = made a t in
      let its = typed_in a.spec a.applied.image.typed a.step.constraint a.applied.violated.constraint a.step.conj n literal a.applied.violated.declared is in
      literal_stays a.spec a.layout a.old a.new b (λ cause. MayHappen c cause.reason)
      (λ cause fact never is read. not_gained c a.layout a.step a.old a.new m fact (λ l. never (subst (MayHappen c) (sym is) (l.tag, l.listed))))
      (λ cause fact never is read. not_lost c a.layout a.step a.old a.new m fact (λ l. never (subst (MayHappen c) (sym is) (l.tag, l.listed))))
      literal its.literal_typed.negated
      (λ cause among happens. none n (record {
        other = other;
        literal = literal;
        literal_is = is;
        may = record {
          cause = cause;
          among = among;
          happens = (a.step.update, c, record { update = a.update; update_is = update_there a; change_is = refl }, happens);
        };
      }))
