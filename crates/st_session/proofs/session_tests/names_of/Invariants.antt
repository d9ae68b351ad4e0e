use Rattle.std.proofs.Common.{◌≡◌, length}
use Rattle.st_session.proofs.CountedLemmas.{AreCounted}
use Rattle.st_session.proofs.session_tests.names_of.Given as goal

abbrev pub invariant-loop-i : goal.invariant-loop-i
invariant-loop-i g l = (length l.names ≡ l.i) × AreCounted l.first l.names
