-- The update that is chosen.
use Rattle.std.proofs.Common.{sym, ◌∙◌}
use Rattle.std.proofs.lemmas.Bool.{false≢true}
use Rattle.dsr_repair.proofs.Chosen.{adding_there, few_here, is_adding, is_removing, it_is_derived, some_to_go, some_update}
use Rattle.dsr_repair.specs.Chosen.{bound_of}
use Rattle.dsr_model.specs.Facts.{IsInModel}
use Rattle.dsr_fixpoint.proofs.Bridged.{same_facts}
use Rattle.dsr_repair.proofs.dues.chosen_for.Goals as goal

pub unreachable-requires : goal.unreachable-requires
unreachable-requires g c =
    adding_there (IsInModel c.args.model.now) c.args.spec.now c.args._choice.now c.args.layout.now (g.I.ImageBytes.bytes c.args.image.now)
    (same_facts c.args.spec.now c.args.layout.now (g.I.ImageBytes.bytes c.args.image.now) c.args.model.now c.requires.model c.requires.prepared)
    c.requires.image c.requires.plan (bound_of c.args.due.now) c.args.due.now.conj c.args.due.now.repaired.place
    c.args.due.now.repaired.literal.now c.args.due.now.repaired.template.now c.requires.due
    (c.adds.ensures.0 c.if-adds.true) c.in_default.ensures

pub returns-then-adds : goal.returns-then-adds
returns-then-adds g c =
    is_adding (IsInModel c.args.model.now) c.args.spec.now c.args._choice.now c.args.layout.now (g.I.ImageBytes.bytes c.args.image.now)
    (same_facts c.args.spec.now c.args.layout.now (g.I.ImageBytes.bytes c.args.image.now) c.args.model.now c.requires.model c.requires.prepared)
    c.requires.image c.requires.plan (bound_of c.args.due.now) c.args.due.now.conj c.args.due.now.repaired.place
    c.args.due.now.repaired.literal.now c.args.due.now.repaired.template.now c.requires.due
    c.in-Some.update.now (c.adds.ensures.0 c.if-adds.true) c.in-Some.ensures

pub unreachable-requires-in_default-fact_to_go : goal.unreachable-requires-in_default-fact_to_go
unreachable-requires-in_default-fact_to_go g c =
    some_to_go (IsInModel c.args.model.now) c.args.spec.now c.args._choice.now c.args.layout.now (g.I.ImageBytes.bytes c.args.image.now)
    (same_facts c.args.spec.now c.args.layout.now (g.I.ImageBytes.bytes c.args.image.now) c.args.model.now c.requires.model c.requires.prepared)
    c.requires.image c.requires.plan (bound_of c.args.due.now) c.args.due.now.conj c.args.due.now.repaired.place
    c.args.due.now.repaired.literal.now c.args.due.now.repaired.template.now c.requires.due
    (λ is. false≢true (sym c.if-adds.false ∙ c.adds.ensures.1 is)) c.in_default-fact_to_go.ensures

pub unreachable-requires-in_default-deriver : goal.unreachable-requires-in_default-deriver
unreachable-requires-in_default-deriver g c =
    it_is_derived (IsInModel c.args.model.now) c.args.spec.now c.args._choice.now c.args.layout.now (g.I.ImageBytes.bytes c.args.image.now)
    (same_facts c.args.spec.now c.args.layout.now (g.I.ImageBytes.bytes c.args.image.now) c.args.model.now c.requires.model c.requires.prepared)
    c.requires.image c.requires.plan (bound_of c.args.due.now) c.args.due.now.conj c.args.due.now.repaired.place
    c.args.due.now.repaired.literal.now c.args.due.now.repaired.template.now c.requires.due
    (λ is. false≢true (sym c.if-adds.false ∙ c.adds.ensures.1 is)) c.in-Some-fact_to_go.fact c.in-Some-fact_to_go.ensures c.in_default-deriver.ensures

pub unreachable-requires-in_default-update_by : goal.unreachable-requires-in_default-update_by
unreachable-requires-in_default-update_by g c =
    some_update (IsInModel c.args.model.now) c.args.spec.now c.args._choice.now c.args.layout.now (g.I.ImageBytes.bytes c.args.image.now)
    (same_facts c.args.spec.now c.args.layout.now (g.I.ImageBytes.bytes c.args.image.now) c.args.model.now c.requires.model c.requires.prepared)
    c.requires.image c.requires.plan (bound_of c.args.due.now) c.args.due.now.conj c.args.due.now.repaired.place
    c.args.due.now.repaired.literal.now c.args.due.now.repaired.template.now c.requires.due
    (λ is. false≢true (sym c.if-adds.false ∙ c.adds.ensures.1 is)) c.in-Some-fact_to_go.fact c.in-Some-fact_to_go.ensures
    c.in-Some-deriver.instance c.in-Some-deriver.ensures c.in_default-update_by.ensures

pub update_by-requires : goal.update_by-requires
update_by-requires g c = record {
  few = few_here (IsInModel c.args.model.now) c.args.spec.now c.args._choice.now c.args.layout.now (g.I.ImageBytes.bytes c.args.image.now)
      (same_facts c.args.spec.now c.args.layout.now (g.I.ImageBytes.bytes c.args.image.now) c.args.model.now c.requires.model c.requires.prepared)
      c.requires.image c.requires.plan (bound_of c.args.due.now) c.args.due.now.conj c.args.due.now.repaired.place
      c.args.due.now.repaired.literal.now c.args.due.now.repaired.template.now c.requires.due;
}

pub returns : goal.returns
returns g c =
    is_removing (IsInModel c.args.model.now) c.args.spec.now c.args._choice.now c.args.layout.now (g.I.ImageBytes.bytes c.args.image.now)
    (same_facts c.args.spec.now c.args.layout.now (g.I.ImageBytes.bytes c.args.image.now) c.args.model.now c.requires.model c.requires.prepared)
    c.requires.image c.requires.plan (bound_of c.args.due.now) c.args.due.now.conj c.args.due.now.repaired.place
    c.args.due.now.repaired.literal.now c.args.due.now.repaired.template.now c.requires.due
    (λ is. false≢true (sym c.if-adds.false ∙ c.adds.ensures.1 is)) c.in-Some-fact_to_go.fact c.in-Some-fact_to_go.ensures
    c.in-Some-deriver.instance c.in-Some-deriver.ensures
    c.in-Some-update_by.place c.in-Some-update_by.update.now c.in-Some-update_by.ensures
