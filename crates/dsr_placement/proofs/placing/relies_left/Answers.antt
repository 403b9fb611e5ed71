use Rattle.std.proofs.Common.{sym, ◌∙◌}
use Rattle.std.proofs.lemmas.Bool.{false≢true}
use Rattle.dsr_placement.proofs.placing.relies_left.Goals as goal

pub returns-then-not-is_left : goal.returns-then-not-is_left
returns-then-not-is_left c = record {
  told = (
    λ no. absurd (false≢true no),
    λ its. absurd (false≢true (sym c.if-not-is_left.true ∙ (c.is_left.ensures ∙ its.is_left))),
  );
  relies = λ owner in_graph. (
    λ no. absurd (false≢true no),
    λ its. absurd (false≢true (sym c.if-not-is_left.true ∙ (c.is_left.ensures ∙ its.member))),
  );
}

pub returns : goal.returns
returns c = record {
  told = (
    λ t. record { is_left = sym c.is_left.ensures ∙ c.if-not-is_left.false; relies = c.relies.ensures.told.0 t },
    λ its. c.relies.ensures.told.1 its.relies,
  );
  relies = λ owner in_graph. (
    λ t. record { member = sym c.is_left.ensures ∙ c.if-not-is_left.false; relies = (c.relies.ensures.relies owner in_graph).0 t },
    λ its. (c.relies.ensures.relies owner in_graph).1 its.relies,
  );
}
