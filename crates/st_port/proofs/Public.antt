-- Laws for callers: faults counted, pieces appended and bytes taken, one after the other.
use Rattle.std.proofs.Common.{◌≡◌, ℕ, List, length, ◌+◌, ◌++◌, [], Some, None, refl, ap, inl, inr, ◌∙◌, sym, subst, arith, length-append, append_assoc, append-nil, Result, Ok, Err}
use Rattle.std.specs.Prelude.{OnErr}
use Rattle.std.specs.declared.option.Option.{Option}
use Rattle.std.proofs.KnownBytes.{Appends-nil, Appends-trans, Consumes-nil, Consumes-trans}
use Rattle.st_port.specs.Faults.{Faults, GoesOn, Rose}
use Rattle.st_port.specs.Streams.{SourceState, SinkState, GrowsBy, Gains, GainsFront}
use Rattle.st_port.specs.Writes.{Writes, Queues}
use Rattle.st_port.specs.Reading.{Takes}

-- what holds, holds where a call failed
pub on_err : {T E P : Type 0} (r : Result T E) → P → OnErr r P
on_err (Ok v) h = tt
on_err (Err e) h = h

-- ---- counts of faults

pub GoesOn-same : (a : Faults) → GoesOn a a
GoesOn-same a = record { later = omega arith; stays = λ h. h }

pub GoesOn-trans : (a b c : Faults) → GoesOn a b → GoesOn b c → GoesOn a c
GoesOn-trans a b c p q = record { later = omega (arith, p.later, q.later); stays = λ h. q.stays (p.stays h) }

pub Rose-later : (a b c : Faults) → GoesOn a b → Rose b c → Rose a c
Rose-later a b c p (inl h) = inl (omega (arith, p.later, h))
Rose-later a b c p (inr h) = inr h

-- ---- pieces

GrowsBy-none : (a : Option ℕ) → GrowsBy a a 0
GrowsBy-none None = tt
GrowsBy-none (Some n) = λ fits. ap (λ v. Some v) (omega arith)

GrowsBy-trans : (a b c : Option ℕ) (j k : ℕ) → GrowsBy a b j → GrowsBy b c k → GrowsBy a c (j + k)
GrowsBy-trans None b c j k p q = tt
GrowsBy-trans (Some n) b c j k p q = λ fits.
    let first : b ≡ Some (n + j) = p (omega arith) in
    let second : GrowsBy (Some (n + j)) c k = subst (λ v. GrowsBy v c k) first q in
    second (omega (arith, fits)) ∙ ap (λ v. Some v) (omega arith)

-- nothing was done
pub Gains-none : (a : SinkState) → Gains a a []
Gains-none a = record { bytes = Appends-nil a.taken; number = GrowsBy-none a.number }

-- one piece, then another
pub Gains-append : (a b c : SinkState) (xs ys : List ℕ) → Gains a b xs → Gains b c ys → Gains a c (xs ++ ys)
Gains-append a b c xs ys first second = record {
  bytes = Appends-trans a.taken b.taken c.taken xs ys first.bytes second.bytes;
  number = subst (λ n. GrowsBy a.number c.number n) (sym (length-append xs ys)) (GrowsBy-trans a.number b.number c.number (length xs) (length ys) first.number second.number);
}

-- one piece, then nothing
pub Gains-kept : (a b c : SinkState) (xs : List ℕ) → Gains a b xs → Gains b c [] → Gains a c xs
Gains-kept a b c xs first second = subst (λ l. Gains a c l) (append-nil xs) (Gains-append a b c xs [] first second)

-- the whole piece is a front of it
pub GainsFront-all : (a b : SinkState) (xs : List ℕ) → Gains a b xs → GainsFront a b xs
GainsFront-all a b xs gains = record { front = xs; rest = []; parts = sym (append-nil xs); gains = gains }

-- the whole piece, then a front of another: a front of both
pub GainsFront-after : (a b c : SinkState) (xs ys : List ℕ) → Gains a b xs → GainsFront b c ys → GainsFront a c (xs ++ ys)
GainsFront-after a b c xs ys first second = record {
  front = xs ++ second.front;
  rest = second.rest;
  parts = ap (λ l. xs ++ l) second.parts ∙ sym (append_assoc xs second.front second.rest);
  gains = Gains-append a b c xs second.front first second.gains;
}

-- a front of a piece is one of a longer piece
pub GainsFront-longer : (a b : SinkState) (xs ys : List ℕ) → GainsFront a b xs → GainsFront a b (xs ++ ys)
GainsFront-longer a b xs ys part = record {
  front = part.front;
  rest = part.rest ++ ys;
  parts = ap (λ l. l ++ ys) part.parts ∙ append_assoc part.front part.rest ys;
  gains = part.gains;
}

-- ---- calls that write

-- nothing was written
pub Writes-none : {E : Type 0} (a : SinkState) → Writes {E = E} a a (Ok tt) []
Writes-none a = record { whole = Gains-none a; front = tt; count = GoesOn-same a.faults; cause = tt }

-- a piece, then another call
pub Writes-after : {E : Type 0} (a b c : SinkState) (v : Unit {0}) (r : Result (Unit {0}) E) (xs ys : List ℕ)
    → Writes {E = E} a b (Ok v) xs → Writes b c r ys → Writes a c r (xs ++ ys)
Writes-after a b c v (Ok w) xs ys p q =
    record { whole = Gains-append a b c xs ys p.whole q.whole; front = tt; count = GoesOn-trans a.faults b.faults c.faults p.count q.count; cause = tt }
Writes-after a b c v (Err w) xs ys p q =
    record {
      whole = tt;
      front = GainsFront-after a b c xs ys p.whole q.front;
      count = GoesOn-trans a.faults b.faults c.faults p.count q.count;
      cause = Rose-later a.faults b.faults c.faults p.count q.cause;
    }

-- a call that failed, of a longer piece
pub Writes-longer : {E : Type 0} (a b : SinkState) (e : E) (xs ys : List ℕ) → Writes a b (Err e) xs → Writes a b (Err e) (xs ++ ys)
Writes-longer a b e xs ys p = record { whole = tt; front = GainsFront-longer a b xs ys p.front; count = p.count; cause = p.cause }

-- a piece, then a call that appends nothing, as a flush
pub Writes-kept : {E : Type 0} (a b c : SinkState) (v : Unit {0}) (r : Result (Unit {0}) E) (xs : List ℕ)
    → Writes {E = E} a b (Ok v) xs → Gains b c [] → GoesOn b.faults c.faults → OnErr r (Rose b.faults c.faults) → Writes a c r xs
Writes-kept a b c v (Ok w) xs p gains count cause =
    record { whole = Gains-kept a b c xs p.whole gains; front = tt; count = GoesOn-trans a.faults b.faults c.faults p.count count; cause = tt }
Writes-kept a b c v (Err e) xs p gains count cause =
    record {
      whole = tt;
      front = GainsFront-all a c xs (Gains-kept a b c xs p.whole gains);
      count = GoesOn-trans a.faults b.faults c.faults p.count count;
      cause = Rose-later a.faults b.faults c.faults p.count cause;
    }

-- ---- calls through a buffer

-- nothing was put
pub Queues-none : {E : Type 0} (a : SinkState) (h : List ℕ) → Queues {E = E} a a h h (Ok tt) []
Queues-none a h = record {
  whole = record { passed = []; parts = append-nil h; gains = Gains-none a };
  front = tt;
  emptied = tt;
  count = GoesOn-same a.faults;
  cause = tt;
}

both_passed : (h h' h'' xs ys p q : List ℕ) → h ++ xs ≡ p ++ h' → h' ++ ys ≡ q ++ h'' → h ++ (xs ++ ys) ≡ (p ++ q) ++ h''
both_passed h h' h'' xs ys p q first second =
    sym (append_assoc h xs ys) ∙ ap (λ l. l ++ ys) first ∙ append_assoc p h' ys ∙ ap (λ l. p ++ l) second ∙ sym (append_assoc p q h'')

first_passed : (h h' xs ys p : List ℕ) → h ++ xs ≡ p ++ h' → p ++ (h' ++ ys) ≡ h ++ (xs ++ ys)
first_passed h h' xs ys p first = sym (append_assoc p h' ys) ∙ ap (λ l. l ++ ys) (sym first) ∙ append_assoc h xs ys

-- a piece, then another call
pub Queues-after : {E : Type 0} (a b c : SinkState) (h h' h'' : List ℕ) (v : Unit {0}) (r : Result (Unit {0}) E) (xs ys : List ℕ)
    → Queues {E = E} a b h h' (Ok v) xs → Queues b c h' h'' r ys → Queues a c h h'' r (xs ++ ys)
Queues-after a b c h h' h'' v (Ok w) xs ys p q = record {
  whole = record {
    passed = p.whole.passed ++ q.whole.passed;
    parts = both_passed h h' h'' xs ys p.whole.passed q.whole.passed p.whole.parts q.whole.parts;
    gains = Gains-append a b c p.whole.passed q.whole.passed p.whole.gains q.whole.gains;
  };
  front = tt;
  emptied = tt;
  count = GoesOn-trans a.faults b.faults c.faults p.count q.count;
  cause = tt;
}
Queues-after a b c h h' h'' v (Err e) xs ys p q = record {
  whole = tt;
  front = subst (λ l. GainsFront a c l) (first_passed h h' xs ys p.whole.passed p.whole.parts) (GainsFront-after a b c p.whole.passed (h' ++ ys) p.whole.gains q.front);
  emptied = q.emptied;
  count = GoesOn-trans a.faults b.faults c.faults p.count q.count;
  cause = Rose-later a.faults b.faults c.faults p.count q.cause;
}

-- a call that failed, of a longer piece
pub Queues-longer : {E : Type 0} (a b : SinkState) (h h' : List ℕ) (e : E) (xs ys : List ℕ) → Queues a b h h' (Err e) xs → Queues a b h h' (Err e) (xs ++ ys)
Queues-longer a b h h' e xs ys p = record {
  whole = tt;
  front = subst (λ l. GainsFront a b l) (append_assoc h xs ys) (GainsFront-longer a b (h ++ xs) ys p.front);
  emptied = p.emptied;
  count = p.count;
  cause = p.cause;
}

-- a buffer that held nothing is let go after a failure
pub Queues-failed : {E : Type 0} (a b : SinkState) (h : List ℕ) (e : E) (xs : List ℕ) → Queues a b [] h (Err e) xs → Writes a b (Err e) xs
Queues-failed a b h e xs p = record { whole = tt; front = p.front; count = p.count; cause = p.cause }

-- a buffer that held nothing holds nothing again
pub Queues-done : {E : Type 0} (a b : SinkState) (r : Result (Unit {0}) E) (xs : List ℕ) → Queues a b [] [] r xs → Writes a b r xs
Queues-done a b (Ok v) xs p = record {
  whole = subst (λ l. Gains a b l) (sym (p.whole.parts ∙ append-nil p.whole.passed)) p.whole.gains;
  front = tt;
  count = p.count;
  cause = tt;
}
Queues-done a b (Err e) xs p = Queues-failed a b [] e xs p

-- the bytes put into a buffer that held nothing, and then its `finish`
pub Queues-finish : {E : Type 0} (a b c : SinkState) (h : List ℕ) (v : Unit {0}) (r : Result (Unit {0}) E) (xs : List ℕ)
    → Queues {E = E} a b [] h (Ok v) xs → Queues b c h [] r [] → Writes a c r xs
Queues-finish a b c h v r xs p q = subst (λ l. Writes a c r l) (append-nil xs) (Queues-done a c r (xs ++ []) (Queues-after a b c [] h [] v r xs [] p q))

-- ---- bytes taken

-- nothing was read
pub Takes-none : (a : SourceState) → Takes a a []
Takes-none a = record { consumed = Consumes-nil a.left; quiet = refl }

-- some bytes, then others
pub Takes-append : (a b c : SourceState) (xs ys : List ℕ) → Takes a b xs → Takes b c ys → Takes a c (xs ++ ys)
Takes-append a b c xs ys p q = record { consumed = Consumes-trans a.left b.left c.left xs ys p.consumed q.consumed; quiet = q.quiet ∙ p.quiet }

-- reads that don't fail leave the count
pub Takes-count : (a b : SourceState) (xs : List ℕ) → Takes a b xs → GoesOn a.faults b.faults
Takes-count a b xs p = subst (λ f. GoesOn a.faults f) (sym p.quiet) (GoesOn-same a.faults)
