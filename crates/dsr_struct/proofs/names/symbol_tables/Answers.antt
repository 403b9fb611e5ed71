use Rattle.dsr_struct.proofs.names.symbol_tables.Goals as goal

pub returns : goal.returns
returns c = record {
  pools = c.in_ok-pools.ensures.pools;
  sets = c.in_ok-sets.ensures.sets;
  relations = c.in_ok-sets.ensures.relations;
  supplies = c.in_ok-pools.ensures.supplies;
}
