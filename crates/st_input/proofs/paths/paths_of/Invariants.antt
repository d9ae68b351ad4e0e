use Rattle.std.proofs.Common.{◌≡◌, length, take, drop}
use Rattle.st_input.specs.EdgeNames.{known_names}
use Rattle.st_input.specs.Paths.{first_unknown, paths_by}
use Rattle.st_input.proofs.paths.paths_of.Given as goal

abbrev pub invariant-loop-i : goal.invariant-loop-i
invariant-loop-i l = record {
  paths : l.out ≡ paths_by (known_names l.names) (take l.i l.paths);
  size : length l.out ≡ l.i;
  faults : first_unknown (known_names l.names) l.i (drop l.i l.paths) ≡ first_unknown (known_names l.names) 0 l.paths;
}
