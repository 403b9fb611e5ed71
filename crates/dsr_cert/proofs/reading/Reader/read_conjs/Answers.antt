use Rattle.std.proofs.Common.{[], ap, ◌∙◌, ◌≡◌, ◌≤◌, ◌<◌, ◌+◌, Some, length, get_or, slice_get, sym, subst, arith}
use Rattle.std.proofs.lemmas.Grind.{elements}
use Rattle.std.proofs.lemmas.Result.{err_from_is_err_and}
use Rattle.dsr_cert.proofs.Joined.{tells_later}
use Rattle.dsr_cert.proofs.Nested.{each_stands, next_step, part_none, part_step, single_length}
use Rattle.dsr_cert.proofs.Saying.{few_forms}
use Rattle.dsr_cert.specs.Certificates.{conj_lines, conjs_lines, way_line}
use Rattle.dsr_cert.specs.Forms.{conj_forms}
use Rattle.dsr_cert.specs.Parts.{AreNamedIn, IsPart, NoneWrong, Stands, texts_of}
use Rattle.dsr_compensate.proofs.Each.{item_at, take_length}
use Rattle.dsr_compensate.proofs.Later.{take_whole}
use Rattle.dsr_graph.proofs.Paired.{paired_none, paired_step}
use Rattle.dsr_graph.specs.Paired.{ArePaired}
use Rattle.dsr_meaning.specs.Lists.{each_at}
use Rattle.dsr_plan_theory.specs.Plans.{owner_at}
use Rattle.std.specs.Prelude.{option_and_then}
use Rattle.dsr_cert.proofs.reading.Reader.read_conjs.Goals as goal

pub read_conj-requires-clause-stands : goal.read_conj-requires-clause-stands
read_conj-requires-clause-stands c =
    let i = c.loop-place.place in
    let spec = c.args.self.now.spec.now in
    let x = c.conj-item.result in
    let conjs = c.args.constraint.now.conjs in
    let here = subst (λ xs. slice_get xs i ≡ Some x) c.items-conj-items.ensures (item_at c.items-conj-items.result.now i x c.loop-place-test.true c.conj-item.is) in
    subst (λ k. Stands spec k (conj_forms c.args.number i x)) (sym c.loop-place.invariant.2) (each_stands spec (conj_forms c.args.number) conjs c.args.line c.requires.stands i x here)

pub returns-in_err-ways : goal.returns-in_err-ways
returns-in_err-ways c =
    let spec = c.args.self.now.spec.now in
    let lines = texts_of c.args.self.now.lines.now in
    let before = c.loop-place.invariant in
    let next = before.2 in
    let p = err_from_is_err_and c.from_residual.result c.from_residual.ensures.1 in
    rw (p.1, p.2) (tells_later spec lines c.args.line c.loop-place.next c.in_err-ways.field-0.0 (omega (arith, next)) (subst (NoneWrong spec lines c.args.line) (sym next) before.0.right) c.in_err-ways.ensures)

pub overflow_add-next : goal.overflow_add-next
overflow_add-next c =
    let i = c.loop-place.place in
    let spec = c.args.self.now.spec.now in
    let x = c.conj-item.result in
    let conjs = c.args.constraint.now.conjs in
    let here = subst (λ xs. slice_get xs i ≡ Some x) c.items-conj-items.ensures (item_at c.items-conj-items.result.now i x c.loop-place-test.true c.conj-item.is) in
    let stands = each_stands spec (conj_forms c.args.number) conjs c.args.line c.requires.stands i x here in
    let inside = stands.inside in
    let next = c.loop-place.invariant.2 in
    let few = few_forms spec c.requires.typed in
    let as_many = c.in_ok-ways.ensures.0.as_many in
    let texts = single_length (λ k way. way_line i k way) 0 c.in_ok-ways.ways.items in
    let long = c.len-next.ensures in
    omega (arith, inside, next, few, as_many, texts, long)

pub loop-place-preserved : goal.loop-place-preserved
loop-place-preserved c =
    let i = c.loop-place.place in
    let n = c.args.number in
    let spec = c.args.self.now.spec.now in
    let lines = texts_of c.args.self.now.lines.now in
    let conjs = c.args.constraint.now.conjs in
    let owner = owner_at spec n c.args.constraint.now in
    let x = c.conj-item.result in
    let same = c.items-conj-items.ensures in
    let less = subst (λ xs. i < length xs) same c.loop-place-test.true in
    let is = subst (λ xs. x ≡ get_or xs i x) same c.conj-item.is in
    let before = c.loop-place.invariant in
    let ways = c.in_ok-ways.ensures in
    let as_many = before.1.as_many in
    let long = take_length i conjs (omega (arith, less)) in
    let lines_many = ways.0.as_many in
    let texts = single_length (λ k way. way_line i k way) 0 c.in_ok-ways.ways.items in
    let counted = c.len-next.ensures in (
      part_step spec lines c.args.line (conj_forms n) conj_lines conjs i x less is c.loop-place.rows.items c.add.new.items.items c.new.result c.in_ok-add.ensures (omega (arith, as_many, long)) before.0
          (subst (λ k. IsPart spec lines k (conj_forms n i x) (conj_lines i c.new.result)) before.2 (subst (λ ws. IsPart spec lines c.loop-place.next (conj_forms n i x) (conj_lines i ws)) (sym c.new.ensures) ways.0)),
      paired_step (λ k y ws. AreNamedIn owner k y ws) conjs c.loop-place.rows.items c.add.new.items.items i x c.new.result (item_at conjs i x less is) c.in_ok-add.ensures (subst (AreNamedIn owner i x) (sym c.new.ensures) (ways.1 c.args.constraint.now c.requires.constraint)) before.1,
      next_step (conj_forms n) conjs i x less is c.args.line c.loop-place.next (c.loop-place.next + c.len-next.result) before.2 (omega (arith, lines_many, texts, counted)),
    )

pub returns : goal.returns
returns c =
    let spec = c.args.self.now.spec.now in
    let lines = texts_of c.args.self.now.lines.now in
    let n = c.args.number in
    let rows = c.loop-place.rows.items in
    let past = subst (λ xs. length xs ≤ c.loop-place.place) c.items-conj-items.ensures c.loop-place-test.false in
    let before = c.loop-place.invariant in
    subst (λ xs. IsPart spec lines c.args.line (each_at (conj_forms n) 0 xs) (conjs_lines rows) × (ArePaired (λ k y ws. AreNamedIn (owner_at spec n c.args.constraint.now) k y ws) xs rows × (c.loop-place.next ≡ c.args.line + length (each_at (conj_forms n) 0 xs)))) (take_whole c.loop-place.place c.args.constraint.now.conjs past)
    (before.0, (before.1, before.2))

pub loop-place-init : goal.loop-place-init
loop-place-init c =
    let spec = c.args.self.now.spec.now in
    let lines = texts_of c.args.self.now.lines.now in
    let n = c.args.number in
    let owner = owner_at spec n c.args.constraint.now in
    subst (λ rows. IsPart spec lines c.args.line [] (conjs_lines rows) × ArePaired (λ conj its ways. AreNamedIn owner conj its ways) [] rows × (c.args.line ≡ c.args.line + 0)) (sym c.new-rows.ensures.items)
    (part_none spec lines c.args.line, paired_none (λ conj its ways. AreNamedIn owner conj its ways), omega arith)

pub read_conj-requires-clause-conj : goal.read_conj-requires-clause-conj
read_conj-requires-clause-conj c =
    let i = c.loop-place.place in
    let x = c.conj-item.result in
    ap (option_and_then (λ constraint. slice_get constraint.conjs i)) c.requires.constraint
    ∙ subst (λ xs. slice_get xs i ≡ Some x) c.items-conj-items.ensures (item_at c.items-conj-items.result.now i x c.loop-place-test.true c.conj-item.is)

pub overflow_cast-place : goal.overflow_cast-place
overflow_cast-place c = grind (arith, elements)
