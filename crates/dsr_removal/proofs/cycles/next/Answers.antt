use Rattle.std.proofs.Common.{◌≡◌, sym, subst, ◌∙◌}
use Rattle.std.specs.Prelude.{IsSomeAnd}
use Rattle.dsr_compensate.proofs.Each.{each_ends, each_more, item_at}
use Rattle.dsr_removal.proofs.Items.{member_of}
use Rattle.dsr_removal.specs.Members.{WaitsAmong}
use Rattle.dsr_removal.proofs.cycles.next.Goals as goal
use Rattle.dsr_meaning.proofs.Items.{item_at as stands_among, place_of}

pub returns-then-member-number : goal.returns-then-member-number
returns-then-member-number c = λ waits among.
    let members = c.args.members.now in
    let member = c.member-item.result in
    let here = item_at members c.loop-member.member-index member c.loop-member-test.true c.member-item.is in
    let there = stands_among members c.loop-member.member-index member here in
    let its = waits member there in
    subst (λ found. IsSomeAnd found (WaitsAmong members c.args.number)) (sym (c.awaited.ensures ∙ its.1))
    (record {
      awaits = record { member = member; among = there; number_is = c.if-member-number.true; awaited = its.1 };
      among = its.2;
    })

pub loop-member-preserved : goal.loop-member-preserved
loop-member-preserved c =
    let here = item_at c.args.members.now c.loop-member.member-index c.member-item.result c.loop-member-test.true c.member-item.is in
    each_more (λ _ member. member.constraint ≡ c.args.number → ⊥) c.args.members.now c.loop-member.member-index c.member-item.result here c.if-member-number.false c.loop-member.invariant

pub returns : goal.returns
returns c = λ waits among.
    let its = member_of c.args.members.now c.args.number among in
    let place = place_of c.args.members.now its.0 its.1 in
    each_ends (λ _ member. member.constraint ≡ c.args.number → ⊥) c.args.members.now c.loop-member.member-index c.loop-member-test.false c.loop-member.invariant place.0 its.0 place.1 its.2
