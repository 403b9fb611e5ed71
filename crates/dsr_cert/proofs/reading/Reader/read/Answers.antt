use Rattle.std.proofs.Common.{◌≡◌, ℕ, List, map, sym, subst, arith}
use Rattle.std.proofs.lemmas.Grind.{elements}
use Rattle.dsr_cert.proofs.Nested.{all_lines, many_forms, none_wrong, too_many}
use Rattle.dsr_cert.proofs.Saying.{few_forms}
use Rattle.dsr_cert.specs.Certificates.{certificate_lines, ended}
use Rattle.dsr_cert.specs.Flaws.{Tells}
use Rattle.dsr_cert.specs.Forms.{IsWrongIn}
use Rattle.dsr_cert.specs.declared.faults.CertFault.{CertFault}
use Rattle.dsr_ir.specs.declared.declarations.Spec.{Spec}
use Rattle.dsr_cert.specs.Parts.{AreNamedRows, IsFirstFrom, texts_of}
use Rattle.dsr_graph.proofs.Paired.{made_length}
use Rattle.dsr_cert.proofs.reading.Reader.read.Goals as goal

abbrev NoneWrongIn : Spec → List (List ℕ) → Type 0
NoneWrongIn spec lines = (k : ℕ) (fault : CertFault) → IsWrongIn spec lines k fault → ⊥

pub overflow_add-next : goal.overflow_add-next
overflow_add-next c =
    let many = many_forms c.args.self.now.spec.now c.in_ok-rows.next c.in_ok-rows.ensures.1.1 in
    let few = few_forms c.args.self.now.spec.now c.requires.typed in
    omega (arith, many, few)

pub faulty-requires : goal.faulty-requires
faulty-requires c =
    let many = many_forms c.args.self.now.spec.now c.in_ok-rows.next c.in_ok-rows.ensures.1.1 in
    let few = few_forms c.args.self.now.spec.now c.requires.typed in
    record { small = omega (arith, many, few) }

pub returns-then-self-next : goal.returns-then-self-next
returns-then-self-next c =
    let spec = c.args.self.now.spec.now in
    let lines = texts_of c.args.self.now.lines.now in
    let more = c.if-self-next.true in
    let long = made_length (λ l. l.now) c.args.self.now.lines.now in
    subst (Tells (IsFirstFrom spec lines 0)) (sym c.faulty.ensures)
    (too_many spec lines c.in_ok-rows.rows.items c.in_ok-rows.next c.in_ok-rows.ensures.1.1 c.in_ok-read_heading.ensures.0 c.in_ok-rows.ensures.0 c.in_ok-read_ending.ensures.0 (omega (arith, more, long)))

pub returns : goal.returns
returns c =
    let spec = c.args.self.now.spec.now in
    let lines = texts_of c.args.self.now.lines.now in
    let no_more = c.if-self-next.false in
    let long = made_length (λ l. l.now) c.args.self.now.lines.now in
    subst (λ rows. AreNamedRows spec rows × (lines ≡ map ended (certificate_lines spec (record { rows = rows }))) × NoneWrongIn spec lines) (sym c.new.ensures) (
      c.in_ok-rows.ensures.1.0,
      all_lines spec lines c.in_ok-rows.rows.items c.in_ok-rows.next c.in_ok-rows.ensures.1.1 c.in_ok-read_heading.ensures.0 c.in_ok-rows.ensures.0 c.in_ok-read_ending.ensures.0 (omega (arith, no_more, long)),
      none_wrong spec lines c.in_ok-rows.rows.items c.in_ok-rows.next c.in_ok-rows.ensures.1.1 c.in_ok-read_heading.ensures.0 c.in_ok-rows.ensures.0 c.in_ok-read_ending.ensures.0 (omega (arith, no_more, long)),
    )

pub read_rows-requires-clause-stands : goal.read_rows-requires-clause-stands
read_rows-requires-clause-stands c = grind (arith, elements)

pub read_ending-requires-clause-stands : goal.read_ending-requires-clause-stands
read_ending-requires-clause-stands c = grind (arith, elements)
