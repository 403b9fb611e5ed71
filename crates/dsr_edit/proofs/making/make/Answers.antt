use Rattle.std.proofs.Common.{ap, length, refl, subst, sym, ◌∙◌}
use Rattle.dsr_edit.proofs.Outcomes.{consistent, first_violation}
use Rattle.dsr_edit.specs.Edits.{AreMade}
use Rattle.dsr_edit.specs.Updates.{AreReady, writes_of}
use Rattle.dsr_meaning.specs.Consistency.{IsConsistent, IsFirstViolated, NoneIsViolated, bound_constraint}
use Rattle.dsr_model.specs.Facts.{IsInModel}
use Rattle.dsr_edit.proofs.making.make.Goals as goal

pub put_noting-requires : goal.put_noting-requires
put_noting-requires c = record {
  between = record {
    image = c.requires.session.image;
    rules = c.requires.session.rules;
    prepared = c.requires.session.prepared;
    model = λ _. c.requires.session.model;
  };
  ready = subst (AreReady c.args.spec.now c.args.layout.now) (sym c.deref-puts.ensures.value) c.requires.prepared.ready;
  room = ap length c.deref_mut-was.ensures.value ∙ (c.requires.prepared.room ∙ sym (ap length c.deref-puts.ensures.value));
}

pub first_violated-requires : goal.first_violated-requires
first_violated-requires c = record { ordered = (c.put_noting.ensures.between.model refl).ordered }

pub put_back-requires : goal.put_back-requires
put_back-requires c = record {
  between = c.put_noting.ensures.between;
  ready = subst (AreReady c.args.spec.now c.args.layout.now) (sym c.deref-puts.ensures.value) c.requires.prepared.ready;
  room = c.put_noting.ensures.room;
  back = (c.args.image.now, c.put_noting.ensures.back);
}

pub returns-in-Some : goal.returns-in-Some
returns-in-Some c =
    let same = c.put_back.ensures.back c.args.image.now c.put_noting.ensures.back in
    let made = subst (λ group. AreMade c.args.spec.now c.args.layout.now group c.args.image.now c.put_noting.new.image) (ap writes_of c.deref-puts.ensures.value ∙ c.requires.prepared.writes) c.put_noting.ensures.made in
    record {
      session = record {
        image = c.put_back.ensures.between.image;
        consistent = subst (IsConsistent c.args.spec.now c.args.layout.now) (sym same) c.requires.session.consistent;
        rules = c.requires.session.rules;
        prepared = c.put_back.ensures.between.prepared;
        model = c.put_back.ensures.between.model refl;
      };
      outcome = (
        record {
          new = c.put_noting.new.image;
          made = made;
          first = first_violation c.args.spec.now c.args.layout.now c.args.image.now c.put_noting.new.image c.requires.session.image c.args._group.now made c.args.prepared.order.items c.requires.prepared.order c.requires.session.consistent c.put_noting.new.model (c.put_noting.ensures.between.model refl) c.put_noting.ensures.between.prepared (bound_constraint c.in-Some.found) (subst (λ order. IsFirstViolated (IsInModel c.put_noting.new.model) c.args.spec.now order (bound_constraint c.in-Some.found)) c.deref.ensures.value c.in-Some.ensures);
        },
        same,
      );
    }

pub returns : goal.returns
returns c =
    let made = subst (λ group. AreMade c.args.spec.now c.args.layout.now group c.args.image.now c.put_noting.new.image) (ap writes_of c.deref-puts.ensures.value ∙ c.requires.prepared.writes) c.put_noting.ensures.made in
    let stays = consistent c.args.spec.now c.args.layout.now c.args.image.now c.put_noting.new.image c.requires.session.image c.args._group.now made c.args.prepared.order.items c.requires.prepared.order c.requires.session.consistent c.put_noting.new.model (c.put_noting.ensures.between.model refl) c.put_noting.ensures.between.prepared (subst (NoneIsViolated (IsInModel c.put_noting.new.model) c.args.spec.now) c.deref.ensures.value c.in-None.ensures) in
    record {
      session = record {
        image = c.put_noting.ensures.between.image;
        consistent = stays;
        rules = c.requires.session.rules;
        prepared = c.put_noting.ensures.between.prepared;
        model = c.put_noting.ensures.between.model refl;
      };
      outcome = record { made = made; consistent = stays };
    }
