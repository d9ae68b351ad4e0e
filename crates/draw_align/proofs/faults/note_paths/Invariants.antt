use Rattle.std.proofs.Common.{◌≡◌}
use Rattle.draw_align.specs.Steps.{AreNoted}
use Rattle.draw_align.proofs.faults.note_paths.Given as goal

abbrev pub invariant-loop-p : goal.invariant-loop-p
invariant-loop-p l = record {
  count : l.noted.count ≡ l.p;
  noted : AreNoted l.sides l.paths l.p l.noted.table;
}
