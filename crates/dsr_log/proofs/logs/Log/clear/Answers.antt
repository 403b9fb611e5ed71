-- Room that stays.
use Rattle.std.proofs.Common.{length, ap, arith}
use Rattle.dsr_log.proofs.Shared.{entries_counted}
use Rattle.dsr_log.specs.Logs.{Logged}
use Rattle.dsr_log.proofs.logs.Log.clear.Goals as goal

pub returns-clause-room : goal.returns-clause-room
returns-clause-room c =
    let rows = c.self.inside.rows in
    let spare = ap (λ (l : Logged). l.spare) c.self.view_is in
    let count = ap (λ (l : Logged). length l.entries) c.self.view_is in
    let rows_count = entries_counted rows.items c.self.inside.sets.items c.self.inside.bytes.items in
    omega (arith, spare, count, rows_count, rows.ok.0, rows.ok, c.clear.ensures.len, c.clear.ensures.capacity)

pub returns-clause-room_for_sets : goal.returns-clause-room_for_sets
returns-clause-room_for_sets c =
    let spare = ap (λ (l : Logged). l.spare_sets) c.self.view_is in
    omega (arith, spare, c.clear-2.ensures.len, c.clear-2.ensures.capacity)

pub returns-clause-room_for_bytes : goal.returns-clause-room_for_bytes
returns-clause-room_for_bytes c =
    let spare = ap (λ (l : Logged). l.spare_bytes) c.self.view_is in
    omega (arith, spare, c.clear-3.ensures.len, c.clear-3.ensures.capacity)
