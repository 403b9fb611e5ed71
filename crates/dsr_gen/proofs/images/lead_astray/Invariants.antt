use Rattle.std.proofs.Common.{◌≡◌, length}
use Rattle.dsr_gen.specs.Images.{seed_at, links_after}
use Rattle.dsr_gen.proofs.images.lead_astray.Given as goal

abbrev pub invariant-loop : goal.invariant-loop
invariant-loop l = record {
  seed : l.seed ≡ seed_at l.number l.counter;
  links : l.links.items ≡ links_after l.number l.counter;
  nodes : length l.links.items ≡ l.number;
}
