use Rattle.std.proofs.Common.{IfOk, sym, subst}
use Rattle.dsr_ir.specs.declared.constraints.Atom.{Atom}
use Rattle.dsr_ir.specs.declared.constraints.Atom.TheVariants as atoms
use Rattle.dsr_update_theory.specs.Templates.{AreTemplates}
use Rattle.dsr_goal.specs.Knowing.{known_by}
use Rattle.dsr_goal.proofs.Results.{at_item}
use Rattle.dsr_goal.proofs.literals.of_literal.Goals as goal

pub returns-in-Member : goal.returns-in-Member
returns-in-Member c = subst (λ (a : Atom). IfOk c.member.result (λ ts. AreTemplates c.args.spec.now (known_by c.args.known.now) c.args.quant.now a c.args.literal.now.negated ts.items)) (sym c.in-Member.is) (at_item (λ quant ts. AreTemplates c.args.spec.now (known_by c.args.known.now) quant (atoms.Member c.in-Member.var c.in-Member.set) c.args.literal.now.negated ts.items) c.args.quant.now c.member.result c.member.ensures)

pub returns-in-Pair : goal.returns-in-Pair
returns-in-Pair c = subst (λ (a : Atom). IfOk c.pair.result (λ ts. AreTemplates c.args.spec.now (known_by c.args.known.now) c.args.quant.now a c.args.literal.now.negated ts.items)) (sym c.in-Pair.is) (at_item (λ quant ts. AreTemplates c.args.spec.now (known_by c.args.known.now) quant (atoms.Pair c.in-Pair.source c.in-Pair.target c.in-Pair.rel) c.args.literal.now.negated ts.items) c.args.quant.now c.pair.result c.pair.ensures)
