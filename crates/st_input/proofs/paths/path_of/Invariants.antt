use Rattle.std.proofs.Common.{◌≡◌, take, drop}
use Rattle.st_input.specs.EdgeNames.{known_names}
use Rattle.st_input.specs.Paths.{edges_by, path_fault}
use Rattle.st_input.proofs.paths.path_of.Given as goal

abbrev pub invariant-loop-name : goal.invariant-loop-name
invariant-loop-name l = record {
  edges : l.edges ≡ edges_by (known_names l.names) (take l.name-index l.path);
  faults : path_fault (known_names l.names) l.i (drop l.name-index l.path) ≡ path_fault (known_names l.names) l.i l.path;
}
