use Rattle.std.proofs.Common.{◌≡◌, ◌+◌, ◌-◌, ◌<◌, ◌≤◌, drop, get_or}
use Rattle.std.specs.List.{prefix_len}
use Rattle.gml_core.specs.Bytes.{is_word}
use Rattle.gml_core.specs.Pieces.{first_of}
use Rattle.gml_core.specs.declared.pieces.First.TheVariants.{Letter}
use Rattle.gml_core.proofs.within.small_letters.Given as goal

abbrev pub invariant-loop-n : goal.invariant-loop-n
invariant-loop-n l = (l.n ≤ 15) × (l.n + prefix_len is_word (drop l.n l.text) ≡ prefix_len is_word l.text) × (0 < l.n → first_of (get_or l.text 0 0) ≡ Letter)

abbrev pub decreases-loop-n : goal.decreases-loop-n
decreases-loop-n l = 15 - l.n
