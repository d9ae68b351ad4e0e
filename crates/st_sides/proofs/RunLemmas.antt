-- The lists of the edges of a run of ends out, and of a run of ends in.
use Rattle.std.proofs.Common.{◌≡◌, ◌≢◌, ℕ, zero, suc, ◌+◌, ◌-◌, ◌*◌, ◌<◌, ◌≤◌, true, false, [], ◌∷◌, ◌++◌, reverse, length, get_or, refl, sym, ap, ◌∙◌, inl, inr, arith}
use Rattle.std.proofs.lemmas.Bool.{cases_lt, both_ways}
use Rattle.std.proofs.lemmas.List.{reverse-append}
use Rattle.st_map.specs.Orbits.{iterate, Permutes, SameOrbit}
use Rattle.st_sides.specs.Runs.{TwoRuns}
use Rattle.st_ids.specs.Ends.{is_out, edge_of}
use Rattle.st_sides.specs.Stretches.{forward, backward}
use Rattle.st_map.proofs.Public.{iterate-stays, iterate-step, iterate-add, steps, turn_covers, turn_apart, is_out-tail, is_out-head, out_is, in_is}

-- k ends out and then p - k ends in, either of which may be none
pub record Runs (f : ℕ → ℕ) (x k p : ℕ) : Type 0 where
  pub some : 0 < p
  pub more : k ≤ p
  pub back : iterate p f x ≡ x
  pub apart : (j : ℕ) → 0 < j → j < p → iterate j f x ≡ x → ⊥
  pub first : (j : ℕ) → j < k → is_out (iterate j f x) ≡ true
  pub then : (j : ℕ) → k ≤ j → j < p → is_out (iterate j f x) ≡ false

pub from_two : (f : ℕ → ℕ) (x k p : ℕ) → TwoRuns f is_out x k p → Runs f x k p
from_two f x k p r = record { some = omega (arith, r.more); more = omega (arith, r.more); back = r.back; apart = r.apart; first = r.first; then = r.then }

pub length-forward : (k : ℕ) (f : ℕ → ℕ) (d : ℕ) → length (forward k f d) ≡ k
length-forward zero f d = refl
length-forward (suc k) f d = ap suc (length-forward k f (f d))

pub length-backward : (k : ℕ) (f : ℕ → ℕ) (d : ℕ) → length (backward k f d) ≡ k
length-backward zero f d = refl
length-backward (suc k) f d = ap suc (length-backward k f d)

pub forward-at : (k : ℕ) (f : ℕ → ℕ) (d i : ℕ) → i < k → get_or (forward k f d) i 0 ≡ edge_of (iterate i f d)
forward-at zero f d i l = absurd (omega arith)
forward-at (suc k) f d zero l = refl
forward-at (suc k) f d (suc i) l = forward-at k f (f d) i (omega arith) ∙ ap edge_of (iterate-step i f d)

pub backward-at : (k : ℕ) (f : ℕ → ℕ) (d i : ℕ) → i < k → get_or (backward k f d) i 0 ≡ edge_of (iterate (k - 1 - i) f d)
backward-at zero f d i l = absurd (omega arith)
backward-at (suc k) f d zero l = ap edge_of (steps f d k (suc k - 1 - 0) (omega arith))
backward-at (suc k) f d (suc i) l = backward-at k f d i (omega arith) ∙ ap edge_of (steps f d (k - 1 - i) (suc k - 1 - suc i) (omega arith))

-- For a loop that goes on while the ends are out: the list grows at its end, and it stops at the end of the run.
pub forward-push : (k : ℕ) (f : ℕ → ℕ) (d : ℕ) → forward (k + 1) f d ≡ forward k f d ++ edge_of (iterate k f d) ∷ []
forward-push zero f d = ap (λ n. forward n f d) (let e : 0 + 1 ≡ suc 0 = omega arith in e)
forward-push (suc k) f d =
    ap (λ n. forward n f d) (let e : suc k + 1 ≡ suc (k + 1) = omega arith in e)
    ∙ ap (λ es. edge_of d ∷ es) (forward-push k f (f d) ∙ ap (λ c. forward k f (f d) ++ edge_of c ∷ []) (iterate-step k f d))

pub forward_stops : (f : ℕ → ℕ) (x k p j : ℕ) → TwoRuns f is_out x k p → j ≤ k → is_out (iterate j f x) ≡ false → j ≡ k
forward_stops f x k p j r l o = elim (cases_lt j k) [
  | inl m ↦ absurd (both_ways (is_out (iterate j f x)) o (r.first j m))
  | inr m ↦ omega arith
]

pub forward_goes : (f : ℕ → ℕ) (x k p j : ℕ) → TwoRuns f is_out x k p → j ≤ k → is_out (iterate j f x) ≡ true → j < k
forward_goes f x k p j r l o = elim (cases_lt j k) [
  | inl m ↦ m
  | inr m ↦ absurd (both_ways (is_out (iterate j f x)) (r.then j m (omega (arith, r.more))) o)
]

-- the backward list is the forward one turned round
pub backward-reverse : (k : ℕ) (f : ℕ → ℕ) (d : ℕ) → backward k f d ≡ reverse (forward k f d)
backward-reverse zero f d = refl
backward-reverse (suc k) f d =
    ap (λ es. edge_of (iterate k f d) ∷ es) (backward-reverse k f d)
    ∙ sym (reverse-append (forward k f d) (edge_of (iterate k f d) ∷ []))
    ∙ ap reverse (sym (forward-push k f d) ∙ ap (λ n. forward n f d) (let e : k + 1 ≡ suc k = omega arith in e))

module _ (m : ℕ) (f : ℕ → ℕ) (perm : Permutes (2 * m) f) (x k p : ℕ) (l : x < 2 * m) (r : Runs f x k p) where
  -- the list of the ends out
  pub outs-at : (i : ℕ) → i < k → 2 * get_or (forward k f x) i 0 ≡ iterate i f x
  outs-at i li = ap (λ e. 2 * e) (forward-at k f x i li) ∙ sym (out_is (iterate i f x) (r.first i li))

  pub outs-below : (i : ℕ) → i < k → get_or (forward k f x) i 0 < m
  outs-below i li = omega (arith, outs-at i li, iterate-stays (2 * m) f perm i x l)

  pub outs-each : (e : ℕ) → SameOrbit f x (2 * e) → (i : ℕ) × (i < k) × (get_or (forward k f x) i 0 ≡ e)
  outs-each e s =
      let c : (j : ℕ) × (j < p) × (iterate j f x ≡ 2 * e) = turn_covers (2 * m) f perm x p (2 * e) r.some r.back s in
      elim (cases_lt c.0 k) [
        | inl lk ↦ (c.0, lk, omega (arith, outs-at c.0 lk, c.2))
        | inr lk ↦ absurd (both_ways (is_out (2 * e)) (ap is_out (sym c.2) ∙ r.then c.0 lk c.1) (is_out-tail e))
      ]

  pub outs-once : (i j : ℕ) → i < j → j < k → get_or (forward k f x) i 0 ≢ get_or (forward k f x) j 0
  outs-once i j ij jk e =
      let lp : j < p = omega (arith, r.more) in
      turn_apart (2 * m) f perm x p l r.apart i j ij lp (sym (outs-at i (omega arith)) ∙ ap (λ e. 2 * e) e ∙ outs-at j jk)

  pub outs-follow : (i : ℕ) → i + 1 < k → f (2 * get_or (forward k f x) i 0) ≡ 2 * get_or (forward k f x) (i + 1) 0
  outs-follow i li = ap f (outs-at i (omega arith)) ∙ steps f x (suc i) (i + 1) (omega arith) ∙ sym (outs-at (i + 1) li)

  -- the step before the first
  pub before-first : (d : ℕ) → d < 2 * m → f d ≡ x → d ≡ iterate (p - 1) f x
  before-first d ld e =
      let at : suc (p - 1) ≡ p = omega (arith, r.some) in
      perm.apart d (iterate (p - 1) f x) ld (iterate-stays (2 * m) f perm (p - 1) x l) (e ∙ sym (steps f x (suc (p - 1)) p at ∙ r.back))

  -- the list of the ends in
  pub ins-at : (i : ℕ) → i < p - k → 2 * get_or (backward (p - k) f (iterate k f x)) i 0 + 1 ≡ iterate (p - 1 - i) f x
  ins-at i li =
      let lift : iterate (p - k - 1 - i) f (iterate k f x) ≡ iterate (p - 1 - i) f x =
      sym (iterate-add (p - k - 1 - i) k f x) ∙ steps f x ((p - k - 1 - i) + k) (p - 1 - i) (omega arith) in
      ap (λ e. 2 * e + 1) (backward-at (p - k) f (iterate k f x) i li ∙ ap edge_of lift)
      ∙ sym (in_is (iterate (p - 1 - i) f x) (r.then (p - 1 - i) (omega arith) (omega (arith, r.some))))

  pub ins-below : (i : ℕ) → i < p - k → get_or (backward (p - k) f (iterate k f x)) i 0 < m
  ins-below i li = omega (arith, ins-at i li, iterate-stays (2 * m) f perm (p - 1 - i) x l)

  pub ins-each : (e : ℕ) → SameOrbit f x (2 * e + 1) → (i : ℕ) × (i < p - k) × (get_or (backward (p - k) f (iterate k f x)) i 0 ≡ e)
  ins-each e s =
      let c : (j : ℕ) × (j < p) × (iterate j f x ≡ 2 * e + 1) = turn_covers (2 * m) f perm x p (2 * e + 1) r.some r.back s in
      elim (cases_lt c.0 k) [
        | inl lk ↦ absurd (both_ways (is_out (2 * e + 1)) (is_out-head e) (ap is_out (sym c.2) ∙ r.first c.0 lk))
        | inr lk ↦
            let j : p - 1 - (p - 1 - c.0) ≡ c.0 = omega (arith, c.1) in
            (p - 1 - c.0, omega (arith, c.1), omega (arith, ins-at (p - 1 - c.0) (omega (arith, c.1)), steps f x (p - 1 - (p - 1 - c.0)) c.0 j, c.2))
      ]

  pub ins-once : (i j : ℕ) → i < j → j < p - k → get_or (backward (p - k) f (iterate k f x)) i 0 ≢ get_or (backward (p - k) f (iterate k f x)) j 0
  ins-once i j ij jk e =
      turn_apart (2 * m) f perm x p l r.apart (p - 1 - j) (p - 1 - i) (omega arith) (omega (arith, r.some))
      (sym (ins-at j jk) ∙ ap (λ e. 2 * e + 1) (sym e) ∙ ins-at i (omega arith))

  pub ins-follow : (i : ℕ) → i + 1 < p - k → f (2 * get_or (backward (p - k) f (iterate k f x)) (i + 1) 0 + 1) ≡ 2 * get_or (backward (p - k) f (iterate k f x)) i 0 + 1
  ins-follow i li =
      ap f (ins-at (i + 1) li) ∙ steps f x (suc (p - 1 - (i + 1))) (p - 1 - i) (omega arith) ∙ sym (ins-at i (omega arith))

  -- the step after the first edge in leads to the start
  pub ins-begin : 0 < p - k → f (2 * get_or (backward (p - k) f (iterate k f x)) 0 0 + 1) ≡ x
  ins-begin pos = ap f (ins-at 0 pos) ∙ steps f x (suc (p - 1 - 0)) p (omega (arith, r.some)) ∙ r.back
