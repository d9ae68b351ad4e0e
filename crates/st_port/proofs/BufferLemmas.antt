-- A buffer that is emptied, and then a piece at once.
use Rattle.std.proofs.Common.{◌≡◌, List, ℕ, [], ◌++◌, ap, sym, refl, subst, ◌∙◌, append-nil, Result, Ok, Err}
use Rattle.st_port.specs.Streams.{SinkState, GainsFront}
use Rattle.st_port.specs.Writes.{Writes, Queues}
use Rattle.st_port.proofs.Public.{GoesOn-trans, Rose-later, Gains-append, GainsFront-after}

empty_through : {E : Type 0} (a b c : SinkState) (h : List ℕ) (v : Unit {0}) (r : Result (Unit {0}) E) (xs : List ℕ)
    → Queues {E = E} a b h [] (Ok v) [] → Writes b c r xs → Queues a c h [] r xs
empty_through a b c h v (Ok w) xs p q = record {
  whole = record {
    passed = p.whole.passed ++ xs;
    parts = ap (λ l. l ++ xs) (sym (append-nil h) ∙ p.whole.parts ∙ append-nil p.whole.passed) ∙ sym (append-nil (p.whole.passed ++ xs));
    gains = Gains-append a b c p.whole.passed xs p.whole.gains q.whole;
  };
  front = tt;
  emptied = tt;
  count = GoesOn-trans a.faults b.faults c.faults p.count q.count;
  cause = tt;
}
empty_through a b c h v (Err e) xs p q = record {
  whole = tt;
  front = subst (λ l. GainsFront a c l) (ap (λ l. l ++ xs) (sym (sym (append-nil h) ∙ p.whole.parts ∙ append-nil p.whole.passed))) (GainsFront-after a b c p.whole.passed xs p.whole.gains q.front);
  emptied = refl;
  count = GoesOn-trans a.faults b.faults c.faults p.count q.count;
  cause = Rose-later a.faults b.faults c.faults p.count q.cause;
}

-- what was held passed on, and then a piece at once
pub queues_through : {E : Type 0} (a b c : SinkState) (h h' : List ℕ) (v : Unit {0}) (r : Result (Unit {0}) E) (xs : List ℕ)
    → h' ≡ [] → Queues {E = E} a b h h' (Ok v) [] → Writes b c r xs → Queues a c h h' r xs
queues_through {E = E} a b c h h' v r xs e p q =
    let p' : Queues {E = E} a b h [] (Ok v) [] = subst (λ l. Queues {E = E} a b h l (Ok v) []) e p in
    subst (λ l. Queues a c h l r xs) (sym e) (empty_through a b c h v r xs p' q)
