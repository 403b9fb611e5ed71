use Rattle.std.proofs.Common.{◌++◌, ap, sym, subst, inr, refl}
use Rattle.std.specs.Prelude.{codes}
use Rattle.dsr_plan_theory.specs.Plans.{IsListedAt, owner_at}
use Rattle.dsr_cert.proofs.reading.Reader.named_way.Goals as goal

pub returns-in_default : goal.returns-in_default
returns-in_default c = (refl, λ constraint is. inr (c.in_default.ensures.listed constraint is))

pub returns : goal.returns
returns c = (
  ap (λ ds. codes "way " ++ ds) (sym c.in-Some.ensures.digits),
  λ constraint is. record {
    free = c.if-literal.false;
    listed = subst (λ t. IsListedAt (owner_at c.args.self.now.spec.now c.args.at.constraint constraint) c.args.at.conj c.args.at.literal c.in-Some.number t) (sym c.in_ok-template.ensures) (c.in-Some.ensures.listed constraint is);
  },
)
