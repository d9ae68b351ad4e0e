use Rattle.std.proofs.Common.{◌≡◌, ◌*◌, ◌≤◌}
use Rattle.slab.specs.Slab.{slab_len}
use Rattle.st_map.specs.Links.{AreNamed}
use Rattle.st_map.proofs.links.name_ends.Given as goal

abbrev pub invariant-loop-e : goal.invariant-loop-e
invariant-loop-e l = record {
  named : AreNamed l.ends l.e l.keys.items;
  count : slab_len l.ends ≡ 2 * l.e;
  room : 2 * l.edges ≤ l.ends.capacity;
}
