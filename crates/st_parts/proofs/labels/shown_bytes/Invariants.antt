use Rattle.std.proofs.Common.{◌≡◌, map, take}
use Rattle.st_parts.specs.Parts.{shown_byte}
use Rattle.st_parts.proofs.labels.shown_bytes.Given as goal

abbrev pub invariant-loop-byte : goal.invariant-loop-byte
invariant-loop-byte l = l.text ≡ map shown_byte (take l.byte-index l.bytes)
