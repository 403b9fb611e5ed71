use Rattle.dsr_meaning.proofs.Values.{beside}
use Rattle.dsr_image.proofs.whole.put_cell.Goals as goal

pub returns-clause-beside : goal.returns-clause-beside
returns-clause-beside c = λ other form apart. beside _ _ other c.args.cell.now c.args.value c.write_cell.ensures.put form apart c.write_cell.ensures.before c.write_cell.ensures.after
