use Rattle.std.proofs.Common.{subst}
use Rattle.std.specs.Prelude.{◌||◌, not, Decides}
use Rattle.dsr_cert.proofs.Taken.{given_unlisted, in_graph, unlisted_if}
use Rattle.dsr_cert.specs.Flaws.{IsUnlisted}
use Rattle.dsr_graph.specs.Graphs.{owner_at}
use Rattle.dsr_cert.proofs.flaws.Chosen.is_unlisted.Goals as goal

pub returns-then-taken : goal.returns-then-taken
returns-then-taken c =
    given_unlisted c.args.self.now.spec.now c.args.self.now.choice.now c.args.at.constraint c.args.at.conj c.args.at.literal c.in-Some.taken.literal.now c.in-Some.taken.number c.in-Some.taken.template.now c.in-Some.ensures c.if-taken.true

pub returns-else-taken : goal.returns-else-taken
returns-else-taken c =
    let spec = c.args.self.now.spec.now in
    let choice = c.args.self.now.choice.now in
    let at = c.args.at in
    let way = c.in-Some.ensures.way in
    let told = c.is_listed.ensures (owner_at spec at.constraint way.constraint) (in_graph spec choice at.constraint at.conj at.literal c.args.self.now.graph.now c.requires.graph way.constraint way.row_of.constraint_is) in
    subst (λ given. Decides (given || not c.is_listed.result) (IsUnlisted spec choice at.constraint at.conj at.literal)) c.if-taken.false
    (unlisted_if spec choice at.constraint at.conj at.literal c.in-Some.taken.literal.now c.in-Some.taken.number c.in-Some.taken.template.now c.in-Some.ensures c.is_listed.result told)
