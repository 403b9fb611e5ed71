use Rattle.std.proofs.Common.{◌<◌, ◌≤◌, ◌+◌, false, [], ◌∷◌, length, get_or, slice_get, sym, subst, arith}
use Rattle.std.proofs.lemmas.Grind.{elements}
use Rattle.std.proofs.lemmas.Option.{get_or_from_slice_get}
use Rattle.std.proofs.lemmas.Result.{err_from_is_err_and}
use Rattle.dsr_cert.proofs.Joined.{tells_later}
use Rattle.dsr_cert.proofs.Nested.{each_stands, got_there, literal_from, part_none, part_step, single_length, singles}
use Rattle.dsr_cert.proofs.Saying.{few_forms}
use Rattle.dsr_cert.specs.Certificates.{NamesWay, conj_lines, way_line}
use Rattle.dsr_cert.specs.Forms.{OfLiteral}
use Rattle.dsr_cert.specs.Parts.{AtOwner, IsPart, NoneWrong, Stands, texts_of}
use Rattle.dsr_ir.specs.declared.constraints.Atom.TheVariants as atoms
use Rattle.dsr_ir.specs.declared.constraints.Literal.{Literal}
use Rattle.dsr_ir.specs.declared.constraints.Var.TheVariants as vars
use Rattle.dsr_graph.proofs.Paired.{paired_none, paired_step}
use Rattle.dsr_plan_theory.specs.Plans.{owner_at}
use Rattle.dsr_compensate.proofs.Later.{take_whole}
use Rattle.dsr_graph.specs.Paired.{ArePaired}
use Rattle.dsr_meaning.specs.Lists.{each_at}
use Rattle.dsr_cert.proofs.reading.Reader.read_conj.Goals as goal
use Rattle.dsr_meaning.proofs.Items.{item_there}

pub overflow_add-line : goal.overflow_add-line
overflow_add-line c =
    let inside = c.requires.stands.inside in
    let few = few_forms c.args.self.now.spec.now c.requires.typed in
    let many = single_length (λ literal _. OfLiteral c.args.number c.args.conj literal) 0 c.args.its.now.literals in
    let less = subst (λ xs. c.loop-place.place < length xs) c.items-literal-items.ensures c.loop-place-test.true in
    omega (arith, inside, few, many, less)

pub read_way-requires-clause-literal : goal.read_way-requires-clause-literal
read_way-requires-clause-literal c =
    literal_from c.args.conj c.loop-place.place c.args.its.now _ (slice_get c.args.self.now.spec.now.constraints c.args.number) c.requires.conj
    (got_there c.items-literal-items.result.now c.args.its.now.literals c.loop-place.place c.items-literal-items.ensures c.loop-place-test.true _)

pub read_way-requires-clause-stands : goal.read_way-requires-clause-stands
read_way-requires-clause-stands c =
    let i = c.loop-place.place in
    let literals = c.args.its.now.literals in
    let less = subst (λ xs. i < length xs) c.items-literal-items.ensures c.loop-place-test.true in
    let its = item_there literals i less in
    subst (λ k. Stands c.args.self.now.spec.now (c.args.line + k) (OfLiteral c.args.number c.args.conj i ∷ [])) (singles (λ literal _. OfLiteral c.args.number c.args.conj literal) literals i (omega (arith, less)))
    (each_stands c.args.self.now.spec.now (λ literal _. OfLiteral c.args.number c.args.conj literal ∷ []) literals c.args.line c.requires.stands i its.0 its.1)

pub returns-in_err-way : goal.returns-in_err-way
returns-in_err-way c =
    let i = c.loop-place.place in
    let spec = c.args.self.now.spec.now in
    let lines = texts_of c.args.self.now.lines.now in
    let literals = c.args.its.now.literals in
    let less = subst (λ xs. i < length xs) c.items-literal-items.ensures c.loop-place-test.true in
    let many = singles (λ literal _. OfLiteral c.args.number c.args.conj literal) literals i (omega (arith, less)) in
    let p = err_from_is_err_and c.from_residual.result c.from_residual.ensures.1 in
    rw (p.1, p.2) (tells_later spec lines c.args.line (c.args.line + i) c.in_err-way.field-0.0 (omega arith) (subst (λ k. NoneWrong spec lines c.args.line (c.args.line + k)) many c.loop-place.invariant.0.right) c.in_err-way.ensures)

pub loop-place-preserved : goal.loop-place-preserved
loop-place-preserved c =
    let i = c.loop-place.place in
    let n = c.args.number in
    let conj = c.args.conj in
    let spec = c.args.self.now.spec.now in
    let lines = texts_of c.args.self.now.lines.now in
    let literals = c.args.its.now.literals in
    let same = c.items-literal-items.ensures in
    let default : Literal = record { atom = atoms.Member vars.Head 0; negated = false; given = false } in
    let literal = get_or c.items-literal-items.result.now i default in
    let here = got_there c.items-literal-items.result.now literals i same c.loop-place-test.true default in
    let less = subst (λ xs. i < length xs) same c.loop-place-test.true in
    let is = sym (get_or_from_slice_get literals i literal literal here) in
    let many = singles (λ k _. OfLiteral n conj k) literals i (omega (arith, less)) in
    let before = c.loop-place.invariant in
    let texts = single_length (λ k way. way_line conj k way) 0 c.loop-place.ways.items in
    let as_many = before.0.as_many in (
      part_step spec lines c.args.line (λ k _. OfLiteral n conj k ∷ []) (λ k way. way_line conj k way ∷ []) literals i literal less is c.loop-place.ways.items c.add.new.items.items c.in_ok-way.way c.in_ok-add.ensures (omega (arith, texts, as_many, many)) before.0
          (subst (λ k. IsPart spec lines (c.args.line + k) (OfLiteral n conj i ∷ []) (way_line conj i c.in_ok-way.way ∷ [])) (sym many) c.in_ok-way.ensures.0),
      λ constraint there. paired_step (λ k l way. NamesWay (owner_at spec n constraint) conj k l way) literals c.loop-place.ways.items c.add.new.items.items i literal c.in_ok-way.way here c.in_ok-add.ensures (c.in_ok-way.ensures.1 constraint there) (before.1 constraint there),
    )

pub loop-place-init : goal.loop-place-init
loop-place-init c =
    let spec = c.args.self.now.spec.now in
    let lines = texts_of c.args.self.now.lines.now in
    let n = c.args.number in
    let conj = c.args.conj in
    subst (λ ways. IsPart spec lines c.args.line [] (conj_lines conj ways) × AtOwner spec n (λ owner. ArePaired (λ literal its way. NamesWay owner conj literal its way) [] ways)) (sym c.new-ways.ensures.items)
    (part_none spec lines c.args.line, λ constraint there. paired_none (λ literal its way. NamesWay (owner_at spec n constraint) conj literal its way))

pub returns : goal.returns
returns c =
    let spec = c.args.self.now.spec.now in
    let lines = texts_of c.args.self.now.lines.now in
    let n = c.args.number in
    let conj = c.args.conj in
    let ways = c.loop-place.ways.items in
    let past = subst (λ xs. length xs ≤ c.loop-place.place) c.items-literal-items.ensures c.loop-place-test.false in
    subst (λ xs. IsPart spec lines c.args.line (each_at (λ literal _. OfLiteral n conj literal ∷ []) 0 xs) (conj_lines conj ways) × AtOwner spec n (λ owner. ArePaired (λ literal its way. NamesWay owner conj literal its way) xs ways))
    (take_whole c.loop-place.place c.args.its.now.literals past) c.loop-place.invariant

pub overflow_cast-at : goal.overflow_cast-at
overflow_cast-at c = grind (arith, elements)
