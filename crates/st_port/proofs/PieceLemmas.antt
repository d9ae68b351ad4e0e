-- A piece written in part.
use Rattle.std.proofs.Common.{◌≡◌, ℕ, List, length, take, drop, ◌+◌, ◌-◌, [], sym, subst, arith, Err}
use Rattle.std.proofs.Math.Seq.{take-add}
use Rattle.std.proofs.lemmas.List.{take-append-drop}
use Rattle.std.proofs.lemmas.Grind.{common_steps}
use Rattle.st_port.specs.Faults.{GoesOn, Rose}
use Rattle.st_port.specs.Streams.{SinkState, Gains}
use Rattle.st_port.specs.Writes.{Writes}
use Rattle.st_port.proofs.Public.{GoesOn-trans, Rose-later, Gains-append, Gains-kept}

-- The first i bytes of a piece, then j of those after them, as `&piece[i..]` has them.
pub Gains-more : (a b c : SinkState) (piece : List ℕ) (i j : ℕ) → Gains a b (take i piece) → Gains b c (take j (take (length piece - i) (drop i piece))) → Gains a c (take (i + j) piece)
Gains-more a b c piece i j first second =
    let tail : take (length piece - i) (drop i piece) ≡ drop i piece = grind (arith, common_steps) in
    let second' : Gains b c (take j (drop i piece)) = subst (λ l. Gains b c (take j l)) tail second in
    rw (take-add i j piece) (Gains-append a b c (take i piece) (take j (drop i piece)) first second')

-- the first i bytes of a piece, and then a write that failed
pub Writes-stopped : {E : Type 0} (a b c : SinkState) (e : E) (piece : List ℕ) (i : ℕ)
    → Gains a b (take i piece) → GoesOn a.faults b.faults → Gains b c [] → GoesOn b.faults c.faults → Rose b.faults c.faults → Writes a c (Err e) piece
Writes-stopped a b c e piece i first before second count cause = record {
  whole = tt;
  front = record {
    front = take i piece;
    rest = drop i piece;
    parts = sym (take-append-drop i piece);
    gains = Gains-kept a b c (take i piece) first second;
  };
  count = GoesOn-trans a.faults b.faults c.faults before count;
  cause = Rose-later a.faults b.faults c.faults before cause;
}
