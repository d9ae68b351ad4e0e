use Rattle.std.proofs.Common.{◌≡◌, take, drop}
use Rattle.st_input.specs.EdgeNames.{known_names}
use Rattle.st_input.specs.Faults.{order_fault, edges_in}
use Rattle.st_input.proofs.edges.written_of.Given as goal

abbrev pub invariant-loop-mention : goal.invariant-loop-mention
invariant-loop-mention l = record {
  edges : l.out ≡ edges_in (known_names l.names) (take l.mention-index l.mentions);
  faults : order_fault (known_names l.names) (drop l.mention-index l.mentions) ≡ order_fault (known_names l.names) l.mentions;
}
