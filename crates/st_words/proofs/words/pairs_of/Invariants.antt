use Rattle.std.proofs.Common.{map}
use Rattle.std.specs.String.{string_bytes}
use Rattle.st_words.proofs.WordLemmas.{AreFirstNames}
use Rattle.st_words.proofs.words.pairs_of.Given as goal

abbrev pub invariant-loop-i : goal.invariant-loop-i
invariant-loop-i l = AreFirstNames (map string_bytes l.words) l.i l.pairs
