-- What is so before each round, and how many sets are not marked.
use Rattle.dsr_effect.specs.AvoidedMarks.{AreAvoided, AreNamed, unmarked}
use Rattle.dsr_effect.proofs.avoided.avoided_sets.Given as goal

-- what is marked is avoided, and what is named is marked
abbrev pub invariant-loop : goal.invariant-loop
invariant-loop l = AreAvoided l.spec l.avoid l.marks × AreNamed l.avoid l.marks

abbrev pub decreases-loop : goal.decreases-loop
decreases-loop l = unmarked l.marks
