use Rattle.std.proofs.Common.{◌≡◌, ◌<◌, None, Some, sym, ap, subst, ◌∙◌, arith}
use Rattle.std.specs.Result.{result_ok}
use Rattle.std.proofs.lemmas.Result.{Ok-from_Ok_iff}
use Rattle.dsr_graph_theory.specs.Breaks.{Falsifies}
use Rattle.dsr_graph.proofs.Telling.{falsifies_told, few_told}
use Rattle.dsr_graph.specs.Graphs.{IsOwnerIn, falsified_in}
use Rattle.dsr_graph_theory.specs.Owners.{Owner}
use Rattle.dsr_graph.proofs.asking.falsifies.Goals as goal

pub returns-in-Some : goal.returns-in-Some
returns-in-Some c =
    let some : falsified_in c.args.graph.now c.args.at.constraint c.args.at.conj c.args.at.literal c.args.way ≡ Some c.in-Some.place = sym c.falsified_in.ensures ∙ c.in-Some.is in
    let told : (owner : Owner) → IsOwnerIn c.args.graph.now c.args.at.constraint owner → c.ok.result ≡ falsified_in c.args.graph.now c.args.at.constraint c.args.at.conj c.args.at.literal c.args.way = λ owner in_graph.
    let few = few_told c.args.graph.now c.args.at.constraint owner in_graph c.args.at.conj c.args.at.literal c.args.way c.in-Some.place some in
    c.ok.ensures.value ∙ (ap result_ok (Ok-from_Ok_iff c.try_from.result (c.in-Some.place < 4294967296) c.in-Some.place c.try_from.ensures (omega (arith, few))) ∙ sym some) in
    record {
      told = told;
      falsifies = λ owner template its. subst (Falsifies owner c.args.at.conj c.args.at.literal template) (sym (told owner its.owner_in))
          (falsifies_told c.args.graph.now c.args.at.constraint owner its.owner_in c.args.at.conj c.args.at.literal c.args.way template its.template_is);
    }

pub returns-in-None : goal.returns-in-None
returns-in-None c =
    let none : falsified_in c.args.graph.now c.args.at.constraint c.args.at.conj c.args.at.literal c.args.way ≡ None = sym c.falsified_in.ensures ∙ c.in-None.is in
    record {
      told = λ owner in_graph. sym none;
      falsifies = λ owner template its. subst (Falsifies owner c.args.at.conj c.args.at.literal template) none
          (falsifies_told c.args.graph.now c.args.at.constraint owner its.owner_in c.args.at.conj c.args.at.literal c.args.way template its.template_is);
    }
