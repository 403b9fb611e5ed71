use Rattle.dsr_edit.proofs.Made.{layout_laid_out}
use Rattle.dsr_edit.proofs.puts.settle.Goals as goal

pub rebuild-requires : goal.rebuild-requires
rebuild-requires c = record {
  laid_out = layout_laid_out c.args.spec.now c.args.layout.now c.args.image.now c.requires.between.image;
  prepared = c.requires.between.prepared;
  rules = c.requires.between.rules;
}
