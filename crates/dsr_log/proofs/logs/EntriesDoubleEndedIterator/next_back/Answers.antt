-- The last entry, and those before it.
use Rattle.std.proofs.Common.{◌≡◌, ◌∙◌, ◌+◌, ◌++◌, ◌∷◌, [], ap, sym, length, arith}
use Rattle.dsr_log.proofs.Shared.{bytes_more, last_entry, one_longer, sets_more, shared_before}
use Rattle.dsr_log.specs.Logs.{byte_count, entries_of, set_count}
use Rattle.dsr_log.proofs.logs.EntriesDoubleEndedIterator.next_back.Goals as goal

pub overflow_sub-self-inside : goal.overflow_sub-self-inside
overflow_sub-self-inside c =
    omega (arith, c.self.invariant.sets_are, ap set_count c.in_ok-row.ensures.cases.0, sets_more c.in_ok-row.rows.now c.in_ok-row.row.now)

pub overflow_sub-self-inside-2 : goal.overflow_sub-self-inside-2
overflow_sub-self-inside-2 c =
    omega (arith, c.self.invariant.bytes_are, ap byte_count c.in_ok-row.ensures.cases.0, bytes_more c.in_ok-row.rows.now c.in_ok-row.row.now)

pub invariant_of-self : goal.invariant_of-self
invariant_of-self c =
    let last = c.in_ok-row.ensures.cases.0 in
    let few : length c.split_at.result.1.now ≡ c.in_ok-row.row.now.sets = omega (arith, c.self.invariant.sets_are, ap set_count last, sets_more c.in_ok-row.rows.now c.in_ok-row.row.now, c.split_at.ensures.back_len) in
    let some : length c.split_at-2.result.1.now ≡ c.in_ok-row.row.now.bytes = omega (arith, c.self.invariant.bytes_are, ap byte_count last, bytes_more c.in_ok-row.rows.now c.in_ok-row.row.now, c.split_at-2.ensures.back_len) in
    shared_before c.self.inside.rows.now c.in_ok-row.rows.now c.in_ok-row.row.now
    c.self.inside.sets.now c.split_at.result.0.now c.split_at.result.1.now
    c.self.inside.bytes.now c.split_at-2.result.0.now c.split_at-2.result.1.now
    last c.split_at.ensures.by_index.0 c.split_at-2.ensures.by_index.0 c.self.invariant few some

pub returns-clause-steps : goal.returns-clause-steps
returns-clause-steps c =
    let last = c.in_ok-row.ensures.cases.0 in
    let few : length c.split_at.result.1.now ≡ c.in_ok-row.row.now.sets = omega (arith, c.self.invariant.sets_are, ap set_count last, sets_more c.in_ok-row.rows.now c.in_ok-row.row.now, c.split_at.ensures.back_len) in
    let some : length c.split_at-2.result.1.now ≡ c.in_ok-row.row.now.bytes = omega (arith, c.self.invariant.bytes_are, ap byte_count last, bytes_more c.in_ok-row.rows.now c.in_ok-row.row.now, c.split_at-2.ensures.back_len) in
    sym c.self.view_is
    ∙ (last_entry c.self.inside.rows.now c.in_ok-row.rows.now c.in_ok-row.row.now
    c.self.inside.sets.now c.split_at.result.0.now c.split_at.result.1.now
    c.self.inside.bytes.now c.split_at-2.result.0.now c.split_at-2.result.1.now
    last c.split_at.ensures.by_index.0 c.split_at-2.ensures.by_index.0 c.self.invariant few some
    ∙ ap (λ e. entries_of c.in_ok-row.rows.now c.split_at.result.0.now c.split_at-2.result.0.now ++ e ∷ []) (sym c.new.ensures))

pub returns-clause-goes : goal.returns-clause-goes
returns-clause-goes c =
    let last = c.in_ok-row.ensures.cases.0 in
    let few : length c.split_at.result.1.now ≡ c.in_ok-row.row.now.sets = omega (arith, c.self.invariant.sets_are, ap set_count last, sets_more c.in_ok-row.rows.now c.in_ok-row.row.now, c.split_at.ensures.back_len) in
    let some : length c.split_at-2.result.1.now ≡ c.in_ok-row.row.now.bytes = omega (arith, c.self.invariant.bytes_are, ap byte_count last, bytes_more c.in_ok-row.rows.now c.in_ok-row.row.now, c.split_at-2.ensures.back_len) in
    let is = sym c.self.view_is
    ∙ last_entry c.self.inside.rows.now c.in_ok-row.rows.now c.in_ok-row.row.now
    c.self.inside.sets.now c.split_at.result.0.now c.split_at.result.1.now
    c.self.inside.bytes.now c.split_at-2.result.0.now c.split_at-2.result.1.now
    last c.split_at.ensures.by_index.0 c.split_at-2.ensures.by_index.0 c.self.invariant few some in
    record {
      on = λ _. (tt, tt, omega (arith, one_longer c.args.self.now (entries_of c.in_ok-row.rows.now c.split_at.result.0.now c.split_at-2.result.0.now) _ is));
      keeps = tt;
      rests = λ _. tt;
    }
