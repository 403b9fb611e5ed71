-- An entry whose parts were appended to the parts of all others.
use Rattle.std.proofs.Common.{◌≡◌, ◌∙◌, ◌++◌, ◌∷◌, [], ap, sym, subst, length, refl, arith}
use Rattle.dsr_log.proofs.Shared.{entry_pushed, shared_pushed}
use Rattle.dsr_log.specs.Entries.{entry_of}
use Rattle.dsr_log.specs.Logs.{AreShared, Logged, entries_of}
use Rattle.dsr_log.specs.declared.logs.Row.{Row}
use Rattle.dsr_log.proofs.logs.Log.push.Goals as goal

pub invariant_of-self : goal.invariant_of-self
invariant_of-self c =
    let rows = c.self.inside.rows.items in
    let sets = c.self.inside.sets.items in
    let bytes = c.self.inside.bytes.items in
    let more = c.sets-sets.result.now in
    let other = c.bytes-bytes.result.now in
    let row : Row = record { head = c.head.result.now; sets = length more; bytes = length other } in
    let sets_are = rw c.unwrap.ensures at c.extend_from_slice.ensures.items in
    let bytes_are = rw c.unwrap-2.ensures at c.extend_from_slice-2.ensures.items in
    subst (λ rs. AreShared rs c.extend_from_slice.new.self.items c.extend_from_slice-2.new.self.items) (sym c.push_reserved.ensures.items)
    (subst (λ ss. AreShared (rows ++ row ∷ []) ss c.extend_from_slice-2.new.self.items) (sym sets_are)
    (subst (AreShared (rows ++ row ∷ []) (sets ++ more)) (sym bytes_are)
    (shared_pushed rows row sets more bytes other c.self.invariant refl refl)))

pub returns-clause-entries : goal.returns-clause-entries
returns-clause-entries c =
    let rows = c.self.inside.rows.items in
    let sets = c.self.inside.sets.items in
    let bytes = c.self.inside.bytes.items in
    let more = c.sets-sets.result.now in
    let other = c.bytes-bytes.result.now in
    let head = c.head.result.now in
    let row : Row = record { head = head; sets = length more; bytes = length other } in
    let sets_are = rw c.unwrap.ensures at c.extend_from_slice.ensures.items in
    let bytes_are = rw c.unwrap-2.ensures at c.extend_from_slice-2.ensures.items in
    let told : entry_of head more other ≡ c.args.entry.now = λ i. entry_of (c.head.ensures i) (c.sets-sets.ensures i) (c.bytes-bytes.ensures i) in
    (λ i. entries_of (c.push_reserved.ensures.items i) (sets_are i) (bytes_are i))
    ∙ (entry_pushed rows row sets more bytes other c.self.invariant.sets_are c.self.invariant.bytes_are refl refl
    ∙ (λ i. ap (λ (l : Logged). l.entries) c.self.view_is i ++ told i ∷ []))

pub returns-clause-spare_sets : goal.returns-clause-spare_sets
returns-clause-spare_sets c =
    let spare = ap (λ (l : Logged). l.spare_sets) c.self.view_is in
    let sets_len = rw c.unwrap.ensures at c.extend_from_slice.ensures.len in
    let told = ap length c.sets-sets.ensures in
    omega (arith, spare, sets_len, c.extend_from_slice.ensures.capacity, told)

pub returns-clause-spare_bytes : goal.returns-clause-spare_bytes
returns-clause-spare_bytes c =
    let spare = ap (λ (l : Logged). l.spare_bytes) c.self.view_is in
    let bytes_len = rw c.unwrap-2.ensures at c.extend_from_slice-2.ensures.len in
    let told = ap length c.bytes-bytes.ensures in
    omega (arith, spare, bytes_len, c.extend_from_slice-2.ensures.capacity, told)
