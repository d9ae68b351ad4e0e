use Rattle.std.proofs.Common.{◌≡◌, [], length, All, take, drop}
use Rattle.st_input.specs.Faults.{first_fault, edge_fault, ends_in, lengths_in}
use Rattle.st_input.specs.Orders.{HasEndsBelow}
use Rattle.st_input.proofs.nodes.arcs_of.Given as goal

abbrev pub invariant-loop-i : goal.invariant-loop-i
invariant-loop-i l = record {
  size : length l.ends ≡ l.i;
  within : All (HasEndsBelow (length l.vertices)) l.ends;
  arcs : l.ends ≡ ends_in l.vertices (take l.i l.edges);
  count : length l.lengths ≡ l.i;
  lengths : l.lengths ≡ lengths_in (take l.i l.edges);
  faults : first_fault (edge_fault l.vertices) (take l.i l.edges) (drop l.i l.edges) ≡ first_fault (edge_fault l.vertices) [] l.edges;
}
