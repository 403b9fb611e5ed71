use Rattle.dsr_struct.proofs.lookups.Names.typed.Goals as goal

pub returns : goal.returns
returns c = λ i. record {
  version = c.version_of-version.ensures i;
  order = c.args.self.now.tree.now.order;
  head = c.head_number-number.ensures i;
  structures = c.in_ok-structures.ensures i;
  pools = c.in_ok-pools.ensures i;
  sets = c.in_ok-sets.ensures i;
  rels = c.in_ok-rels.ensures i;
}
