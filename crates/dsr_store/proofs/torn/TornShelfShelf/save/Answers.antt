use Rattle.std.proofs.Common.{Some, ap}
use Rattle.dsr_store.specs.Keeping.{files_of}
use Rattle.dsr_store.proofs.Places.{get-insert_other}
use Rattle.dsr_store.proofs.torn.TornShelfShelf.save.Goals as goal

pub returns-clause-others : goal.returns-clause-others
returns-clause-others c other apart = ap Some (rw c.in_ok-put_file-2.ensures.ok (get-insert_other (files_of c.args.self.now.files.items) c.args.name.now c.args.bytes.now other apart))

pub returns-then-tick-clause-others : goal.returns-then-tick-clause-others
returns-then-tick-clause-others c other apart = ap Some (rw c.in_ok-put_file.ensures.ok (get-insert_other (files_of c.args.self.now.files.items) c.args.name.now c.front_within.result.now other apart))
