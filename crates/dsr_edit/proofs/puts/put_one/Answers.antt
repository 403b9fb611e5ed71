use Rattle.std.proofs.Common.{refl}
use Rattle.std.proofs.lemmas.Bool.{false≢true}
use Rattle.dsr_edit.proofs.Stepping.{cell_there, image_after, laid_out_after, was_model}
use Rattle.dsr_step_theory.specs.Puts.{IsPut}
use Rattle.dsr_edit.proofs.puts.put_one.Goals as goal

pub put-requires-clause-cell : goal.put-requires-clause-cell
put-requires-clause-cell c = cell_there c.args.spec.now c.args.layout.now c.args.image.now c.args.put.now c.requires.between.image c.requires.ready

pub put-requires-clause-claimed : goal.put-requires-clause-claimed
put-requires-clause-claimed c = λ j from before. refl

pub returns-then-not-changed : goal.returns-then-not-changed
returns-then-not-changed c =
    let one : IsPut c.args.put.now.cell c.args.value c.args.image.now c.put.new.self = record { puts = c.put.ensures.put; beside = c.put.ensures.beside; bytes = c.put.ensures.bytes } in
    record {
      put = one;
      between = record {
        image = image_after c.args.spec.now c.args.layout.now c.args.image.now c.put.new.self c.requires.between.image c.args.put.now c.requires.ready c.args.value c.requires.fits one;
        rules = c.requires.between.rules;
        prepared = c.requires.between.prepared;
        model = λ is. absurd (false≢true is);
      };
    }

pub shows_leaf-requires : goal.shows_leaf-requires
shows_leaf-requires c = record {
  laid_out = laid_out_after c.args.spec.now c.args.layout.now c.args.image.now c.put.new.self c.requires.between.image c.args.put.now c.requires.ready c.args.value c.requires.fits (record { puts = c.put.ensures.put; beside = c.put.ensures.beside; bytes = c.put.ensures.bytes });
  prepared = c.requires.between.prepared;
  rules = c.requires.between.rules;
  ordered = (c.requires.between.model c.if-not-changed.false).ordered;
  touched = c.by-touched.ensures;
}

pub returns-then-not-shows_leaf : goal.returns-then-not-shows_leaf
returns-then-not-shows_leaf c =
    let one : IsPut c.args.put.now.cell c.args.value c.args.image.now c.put.new.self = record { puts = c.put.ensures.put; beside = c.put.ensures.beside; bytes = c.put.ensures.bytes } in
    record {
      put = one;
      between = record {
        image = image_after c.args.spec.now c.args.layout.now c.args.image.now c.put.new.self c.requires.between.image c.args.put.now c.requires.ready c.args.value c.requires.fits one;
        rules = c.requires.between.rules;
        prepared = c.requires.between.prepared;
        model = λ is. absurd (false≢true is);
      };
    }

pub patch-requires : goal.patch-requires
patch-requires c =
    let one : IsPut c.args.put.now.cell c.args.value c.args.image.now c.put.new.self = record { puts = c.put.ensures.put; beside = c.put.ensures.beside; bytes = c.put.ensures.bytes } in
    record {
      laid_out = laid_out_after c.args.spec.now c.args.layout.now c.args.image.now c.put.new.self c.requires.between.image c.args.put.now c.requires.ready c.args.value c.requires.fits one;
      prepared = c.requires.between.prepared;
      rules = c.requires.between.rules;
      fresh = c.step_of-step.ensures.fresh;
      touched = c.by-touched.ensures;
      was = was_model c.args.spec.now c.args.layout.now c.args.image.now c.put.new.self c.requires.between.image c.args.put.now c.requires.ready c.args.value c.requires.fits one c.args.model.now c.step_of-step.result c.step_of-step.ensures (c.requires.between.model c.if-not-changed.false) (c.shows_leaf.ensures.0 c.if-not-shows_leaf.false);
    }

pub returns : goal.returns
returns c =
    let one : IsPut c.args.put.now.cell c.args.value c.args.image.now c.put.new.self = record { puts = c.put.ensures.put; beside = c.put.ensures.beside; bytes = c.put.ensures.bytes } in
    record {
      put = one;
      between = record {
        image = image_after c.args.spec.now c.args.layout.now c.args.image.now c.put.new.self c.requires.between.image c.args.put.now c.requires.ready c.args.value c.requires.fits one;
        rules = c.requires.between.rules;
        prepared = c.patch.ensures.prepared;
        model = λ _. c.patch.ensures.model;
      };
    }
