use Rattle.std.proofs.Common.{◌≡◌, ◌<◌, length}
use Rattle.st_ids.specs.EdgeNumbers.{numbers}
use Rattle.st_map.specs.Chains.{IsListChained, listed_end, place_before}
use Rattle.st_map.specs.Links.{key_of}
use Rattle.st_map.proofs.links.link_list.Given as goal

abbrev pub invariant-loop-k : goal.invariant-loop-k
invariant-loop-k l = record {
  chained : IsListChained l.fn.ends l.ends l.keys l.arcs l.v (numbers l.list) l.k;
  at : l.k < length (numbers l.list) → l.at ≡ listed_end l.arcs l.v (numbers l.list) l.k;
  ccw : l.k < length (numbers l.list) → l.ccw ≡ key_of l.keys (listed_end l.arcs l.v (numbers l.list) (place_before (length (numbers l.list)) l.k));
}
