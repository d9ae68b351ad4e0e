use Rattle.std.proofs.Common.{◌≡◌}
use Rattle.slab.specs.Slab.{slab_len}
use Rattle.st_map.specs.Chains.{AreFirstKeysOf, AreListsChained}
use Rattle.st_map.proofs.links.link_lists.Given as goal

abbrev pub invariant-loop-v : goal.invariant-loop-v
invariant-loop-v l = record {
  chained : AreListsChained l.ends l.keys l.arcs l.orders l.v;
  first : AreFirstKeysOf l.keys l.arcs l.orders l.v l.first.items;
  count : slab_len l.ends ≡ slab_len l.fn.ends;
}
