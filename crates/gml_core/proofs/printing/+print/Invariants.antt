use Rattle.std.proofs.Common.{◌≡◌, ◌++◌, drop}
use Rattle.gml_core.specs.Views.{entries}
use Rattle.gml_core.specs.Printing.{printed}
use Rattle.gml_core.proofs.printing.+print.Given as goal

abbrev pub invariant-print_pairs-loop-pair : goal.invariant-print_pairs-loop-pair
invariant-print_pairs-loop-pair l = l.out ++ printed (entries (drop l.pair-index l.pairs)) ≡ l.fn.out ++ printed (entries l.pairs)
