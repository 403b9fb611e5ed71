use Rattle.std.proofs.Common.{◌↔◌, IsTrue, refl, sym, subst, ◌∙◌}
use Rattle.std.proofs.lemmas.Bool.{false≢true}
use Rattle.dsr_graph_theory.specs.Excuses.{HappensOnlyAt, IsExcusedAtEntry, IsExcusedAtPlace}
use Rattle.dsr_graph_theory.specs.Excuses.IsExcusedAt.{at_place}
use Rattle.dsr_graph.proofs.Deciding.{at_else, at_never}
use Rattle.dsr_graph.proofs.Tagged.{entry_decides}
use Rattle.dsr_update_theory.specs.declared.effects.Tag.TheVariants.{Written}
use Rattle.dsr_graph.proofs.excuses.Excuses.excuses_at.Goals as goal

pub returns-then-excuses_written : goal.returns-then-excuses_written
returns-then-excuses_written c = λ owner other change reason tells same are. (
  λ _. let both = (c.excuses_written.ensures owner other change reason tells are).0 c.if-excuses_written.true in
      at_place both.0 (subst (λ u. IsExcusedAtPlace owner other u.place c.args.at) (sym same) both.1),
  λ _. refl,
)

pub returns-then-not-is_only_entry : goal.returns-then-not-is_only_entry
returns-then-not-is_only_entry c = λ owner other change reason tells same are.
    at_never owner other change reason c.args.at c.excuses_written.result c.if-excuses_written.false
    (subst (λ u. IsTrue c.excuses_written.result ↔ (HappensOnlyAt change reason Written × IsExcusedAtPlace owner other u.place c.args.at)) (sym same) (c.excuses_written.ensures owner other change reason tells are))
    (λ only. false≢true (sym c.if-not-is_only_entry.true ∙ (c.is_only_entry.ensures ∙ (entry_decides change reason c.args.tags are).1 only)))

pub returns : goal.returns
returns c = λ owner other change reason tells same are.
    at_else owner other change reason c.args.at c.excuses_written.result c.excuses_entry.result c.if-excuses_written.false
    (subst (λ u. IsTrue c.excuses_written.result ↔ (HappensOnlyAt change reason Written × IsExcusedAtPlace owner other u.place c.args.at)) (sym same) (c.excuses_written.ensures owner other change reason tells are))
    ((entry_decides change reason c.args.tags are).0 (sym c.is_only_entry.ensures ∙ c.if-not-is_only_entry.false))
    (subst (λ u. IsTrue c.excuses_entry.result ↔ IsExcusedAtEntry owner other u.at c.args.at) (sym same) (c.excuses_entry.ensures owner other tells))
