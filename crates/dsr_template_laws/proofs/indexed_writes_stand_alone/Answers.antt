use Rattle.dsr_template_laws.proofs.IndexedWrites.{indexed_alone}
use Rattle.dsr_template_laws.proofs.indexed_writes_stand_alone.Goals as goal

pub returns : goal.returns
returns c owner typed its typed_literal template n update tried write is_in indexed = indexed_alone owner typed its template n update tried write indexed typed_literal is_in
