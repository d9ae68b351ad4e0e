-- What a call that writes says of its sink.
--   Writes old new result piece                the piece was appended, or a fault was counted and a front of it was
--   Passes old new held held' piece            a buffer took the piece: some bytes went on to the sink, the others are held
--   Queues old new held held' result piece     the same of a call, which may also fail: nothing is held then
use Rattle.std.specs.Prelude.{◌≡◌, ℕ, List, [], ◌++◌, OnOk, OnErr, Result}
use Rattle.st_port.specs.Faults.{GoesOn, Rose}
use Rattle.st_port.specs.Streams.{SinkState, Gains, GainsFront}

-- the piece was appended whole, or the count of faults rose and some front of it was appended
pub record Writes {E : Type 0} (old new : SinkState) (result : Result (Unit {0}) E) (piece : List ℕ) : Type 0 where
  pub whole : OnOk result (Gains old new piece)
  pub front : OnErr result (GainsFront old new piece)
  pub count : GoesOn old.faults new.faults
  pub cause : OnErr result (Rose old.faults new.faults)

-- what was passed on, followed by what is held now, is what was held before, followed by the piece
pub record Passes (old new : SinkState) (held held' piece : List ℕ) : Type 0 where
  pub passed : List ℕ
  pub parts : held ++ piece ≡ passed ++ held'
  pub gains : Gains old new passed

-- Nothing is lost, doubled or moved; or the count of faults rose, nothing is held now, and the sink has got some front of
-- what was held, followed by the piece.
pub record Queues {E : Type 0} (old new : SinkState) (held held' : List ℕ) (result : Result (Unit {0}) E) (piece : List ℕ) : Type 0 where
  pub whole : OnOk result (Passes old new held held' piece)
  pub front : OnErr result (GainsFront old new (held ++ piece))
  pub emptied : OnErr result (held' ≡ [])
  pub count : GoesOn old.faults new.faults
  pub cause : OnErr result (Rose old.faults new.faults)
