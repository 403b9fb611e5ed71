use Rattle.std.proofs.Common.{◌↔◌, IsTrue, subst, ◌∙◌}
use Rattle.dsr_meaning.specs.Counting.{IsIn}
use Rattle.dsr_graph.proofs.Found.{from_told}
use Rattle.dsr_graph.proofs.asking.relies.Goals as goal

pub returns : goal.returns
returns c =
    record {
      told = subst (λ numbers. IsTrue c.is_among.result ↔ IsIn c.args.on numbers) c.from_in.ensures c.is_among.ensures;
      relies = λ owner in_graph. subst (λ numbers. IsTrue c.is_among.result ↔ IsIn c.args.on numbers) (c.from_in.ensures ∙ from_told c.args.graph.now c.args.constraint owner in_graph) c.is_among.ensures;
    }
