use Rattle.std.proofs.Common.{[], refl, ◌≡◌, ◌≤◌, ◌<◌, ◌+◌, Some, length, get_or, slice_get, sym, subst, arith}
use Rattle.std.proofs.lemmas.Result.{err_from_is_err_and}
use Rattle.dsr_cert.proofs.Joined.{tells_later}
use Rattle.dsr_cert.proofs.Nested.{each_stands, next_step, part_none, part_step}
use Rattle.dsr_cert.specs.Certificates.{row_lines, rows_lines}
use Rattle.dsr_cert.specs.Forms.{constraint_forms}
use Rattle.dsr_cert.specs.Parts.{IsNamedRow, IsPart, NoneWrong, Stands, texts_of}
use Rattle.dsr_compensate.proofs.Each.{item_at, take_length}
use Rattle.dsr_compensate.proofs.Later.{take_whole}
use Rattle.dsr_graph.proofs.Paired.{paired_none, paired_step}
use Rattle.dsr_graph.specs.Paired.{ArePaired}
use Rattle.dsr_meaning.specs.Lists.{each_at}
use Rattle.dsr_cert.proofs.reading.Reader.read_rows.Goals as goal

pub read_row-requires-clause-stands : goal.read_row-requires-clause-stands
read_row-requires-clause-stands c =
    let i = c.loop-number.number in
    let spec = c.args.self.now.spec.now in
    let x = c.constraint-item.result in
    let here = subst (λ xs. slice_get xs i ≡ Some x) c.items-constraint-items.ensures (item_at c.items-constraint-items.result.now i x c.loop-number-test.true c.constraint-item.is) in
    subst (λ k. Stands spec k (constraint_forms i x)) (sym c.loop-number.invariant.2) (each_stands spec constraint_forms spec.constraints 1 c.requires.stands i x here)

pub returns-in_err-row : goal.returns-in_err-row
returns-in_err-row c =
    let spec = c.args.self.now.spec.now in
    let lines = texts_of c.args.self.now.lines.now in
    let before = c.loop-number.invariant in
    let next = before.2 in
    let p = err_from_is_err_and c.from_residual.result c.from_residual.ensures.1 in
    rw (p.1, p.2) (tells_later spec lines 1 c.loop-number.next c.in_err-row.field-0.0 (omega (arith, next)) (subst (NoneWrong spec lines 1) (sym next) before.0.right) c.in_err-row.ensures)

pub loop-number-preserved : goal.loop-number-preserved
loop-number-preserved c =
    let i = c.loop-number.number in
    let spec = c.args.self.now.spec.now in
    let lines = texts_of c.args.self.now.lines.now in
    let x = c.constraint-item.result in
    let same = c.items-constraint-items.ensures in
    let less = subst (λ xs. i < length xs) same c.loop-number-test.true in
    let is = subst (λ xs. x ≡ get_or xs i x) same c.constraint-item.is in
    let before = c.loop-number.invariant in
    let row = c.in_ok-row.ensures in
    let as_many = before.1.as_many in
    let long = take_length i spec.constraints (omega (arith, less)) in (
      part_step spec lines 1 constraint_forms (row_lines spec) spec.constraints i x less is c.loop-number.rows.items c.add.new.items.items c.in_ok-row.row c.in_ok-add.ensures (omega (arith, as_many, long)) before.0
          (subst (λ k. IsPart spec lines k (constraint_forms i x) (row_lines spec i c.in_ok-row.row)) before.2 row.0),
      paired_step (λ k y r. IsNamedRow spec k y r) spec.constraints c.loop-number.rows.items c.add.new.items.items i x c.in_ok-row.row (item_at spec.constraints i x less is) c.in_ok-add.ensures row.1.0 before.1,
      next_step constraint_forms spec.constraints i x less is 1 c.loop-number.next c.in_ok-row.behind before.2 row.1.1,
    )

pub returns : goal.returns
returns c =
    let spec = c.args.self.now.spec.now in
    let lines = texts_of c.args.self.now.lines.now in
    let rows = c.loop-number.rows.items in
    let past = subst (λ xs. length xs ≤ c.loop-number.number) c.items-constraint-items.ensures c.loop-number-test.false in
    let before = c.loop-number.invariant in
    subst (λ xs. IsPart spec lines 1 (each_at constraint_forms 0 xs) (rows_lines spec rows) × (ArePaired (λ k y r. IsNamedRow spec k y r) xs rows × (c.loop-number.next ≡ 1 + length (each_at constraint_forms 0 xs)))) (take_whole c.loop-number.number spec.constraints past)
    (before.0, (before.1, before.2))

pub loop-number-init : goal.loop-number-init
loop-number-init c =
    let spec = c.args.self.now.spec.now in
    let lines = texts_of c.args.self.now.lines.now in
    subst (λ rows. IsPart spec lines 1 [] (rows_lines spec rows) × ArePaired (λ n constraint row. IsNamedRow spec n constraint row) [] rows × (1 ≡ 1 + 0)) (sym c.new-rows.ensures.items)
    (part_none spec lines 1, paired_none (λ n constraint row. IsNamedRow spec n constraint row), refl)

pub read_row-requires-clause-constraint : goal.read_row-requires-clause-constraint
read_row-requires-clause-constraint c =
    let i = c.loop-number.number in
    let x = c.constraint-item.result in
    subst (λ xs. slice_get xs i ≡ Some x) c.items-constraint-items.ensures (item_at c.items-constraint-items.result.now i x c.loop-number-test.true c.constraint-item.is)
