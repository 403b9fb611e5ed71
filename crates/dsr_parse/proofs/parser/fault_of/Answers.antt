use Rattle.std.proofs.Common.{◌-◌, length, inl, inr}
use Rattle.dsr_syntax_theory.specs.Sentences.{IsUnexpected, IsPastLimit}
use Rattle.dsr_parse.proofs.Sentences.{stops_within, exceeds_within, exceeds_some}
use Rattle.dsr_parse.proofs.Texts.{unexpected_end, unexpected_left, past_limit_left, no_token}
use Rattle.dsr_parse.proofs.Told.{at_found, at_end}
use Rattle.dsr_parse.proofs.parser.fault_of.Goals as goal

pub place_of-requires-clause-within : goal.place_of-requires-clause-within
place_of-requires-clause-within c = stops_within c.args.lexemes.now 0 c.in-Expected.left _ (rw c.in-Expected.is at c.requires.stops)

pub place_of-requires-in-Limit-clause-some : goal.place_of-requires-in-Limit-clause-some
place_of-requires-in-Limit-clause-some c = exceeds_some c.args.lexemes.now 0 c.in-Limit.left _ (rw c.in-Limit.is at c.requires.stops)

pub place_of-requires-in-Limit-clause-within : goal.place_of-requires-in-Limit-clause-within
place_of-requires-in-Limit-clause-within c = exceeds_within c.args.lexemes.now 0 c.in-Limit.left _ (rw c.in-Limit.is at c.requires.stops)

pub returns-in-Some : goal.returns-in-Some
returns-in-Some c = inr (no_token c.args.text.now c.args.lexemes.now c.in-Some.place (rw c.in-Some.is at c.requires.front) (inl (at_end c.args.lexemes.now c.args.stop c.in-Expected-eq0.field-0 c.in-Expected-eq0.is (rw c.in-Expected-eq0.is at c.in-Expected-eq0.field-0-test) c.requires.stops)))

pub returns-in-None : goal.returns-in-None
returns-in-None c = inr (unexpected_end c.args.text.now c.args.lexemes.now (rw c.in-None.is at c.requires.front) (at_end c.args.lexemes.now c.args.stop c.in-Expected-eq0.field-0 c.in-Expected-eq0.is (rw c.in-Expected-eq0.is at c.in-Expected-eq0.field-0-test) c.requires.stops))

pub returns-in-Expected : goal.returns-in-Expected
returns-in-Expected c = inr (at_found (IsUnexpected c.args.text.now) c.args.lexemes.now (length c.args.lexemes.now - c.in-Expected.left) c.place_of.result c.place_of.ensures (λ found is. unexpected_left c.args.text.now c.args.lexemes.now found c.args.fault c.in-Expected.left c.requires.front is (rw c.in-Expected.is at c.requires.stops)))

pub returns-in-Limit : goal.returns-in-Limit
returns-in-Limit c = inr (at_found (IsPastLimit c.args.text.now) c.args.lexemes.now (length c.args.lexemes.now - c.in-Limit.left) c.place_of-in-Limit.result c.place_of-in-Limit.ensures (λ found is. past_limit_left c.args.text.now c.args.lexemes.now found c.args.fault c.in-Limit.left c.requires.front is (rw c.in-Limit.is at c.requires.stops)))
