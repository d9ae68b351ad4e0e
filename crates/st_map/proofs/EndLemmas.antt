-- Ends by their edge: 2e at the tail of e, 2e + 1 at its head.
use Rattle.std.proofs.Common.{◌≡◌, ℕ, ◌+◌, ◌-◌, ◌*◌, ◌/◌, ◌%◌, ◌<◌, true, false, not, eqb, ◌⊎◌, sym, ap, ◌∙◌, inl, inr, arith}
use Rattle.std.proofs.lemmas.Bool.{eq-eqb, ne_eqb, cases_eq, cond-true, cond-false, both_ways}
use Rattle.st_ids.specs.Ends.{twin, edge_of, is_out}
use Rattle.st_ids.specs.Graph.{HasEnds}
use Rattle.st_map.specs.Embedded.{Embedded, bare, darts, tail, head, at}

pub even_or_odd : (d : ℕ) → ((k : ℕ) × (d ≡ 2 * k)) ⊎ ((k : ℕ) × (d ≡ 2 * k + 1))
even_or_odd d = elim (cases_eq (d % 2) 0) [
  | inl e ↦ inl (d / 2, omega arith)
  | inr e ↦ inr (d / 2, omega arith)
]

even_test : (k : ℕ) → eqb ((2 * k) % 2) 0 ≡ true
even_test k = eq-eqb ((2 * k) % 2) 0 (omega arith)

odd_test : (k : ℕ) → eqb ((2 * k + 1) % 2) 0 ≡ false
odd_test k = ne_eqb ((2 * k + 1) % 2) 0 (λ e. omega arith)

pub is_out-tail : (k : ℕ) → is_out (2 * k) ≡ true
unfolding is_out
is_out-tail k = even_test k

pub is_out-head : (k : ℕ) → is_out (2 * k + 1) ≡ false
unfolding is_out
is_out-head k = odd_test k

pub edge_of-tail : (k : ℕ) → edge_of (2 * k) ≡ k
unfolding edge_of
edge_of-tail k = omega arith

pub edge_of-head : (k : ℕ) → edge_of (2 * k + 1) ≡ k
unfolding edge_of
edge_of-head k = omega arith

pub twin-tail : (k : ℕ) → twin (2 * k) ≡ 2 * k + 1
unfolding twin
twin-tail k = cond-true (eqb ((2 * k) % 2) 0) (2 * k + 1) (2 * k - 1) (even_test k)

pub twin-head : (k : ℕ) → twin (2 * k + 1) ≡ 2 * k
unfolding twin
twin-head k = cond-false (eqb ((2 * k + 1) % 2) 0) (2 * k + 1 + 1) (2 * k + 1 - 1) (odd_test k) ∙ omega arith

pub at-tail : (g : Embedded) (k : ℕ) → at g (2 * k) ≡ tail g k
unfolding at is_out edge_of
at-tail g k = cond-true (eqb ((2 * k) % 2) 0) (tail g ((2 * k) / 2)) (head g ((2 * k) / 2)) (even_test k)
    ∙ ap (tail g) (let e : (2 * k) / 2 ≡ k = omega arith in e)

pub at-head : (g : Embedded) (k : ℕ) → at g (2 * k + 1) ≡ head g k
unfolding at is_out edge_of
at-head g k = cond-false (eqb ((2 * k + 1) % 2) 0) (tail g ((2 * k + 1) / 2)) (head g ((2 * k + 1) / 2)) (odd_test k)
    ∙ ap (head g) (let e : (2 * k + 1) / 2 ≡ k = omega arith in e)

-- a dart out is 2e, a dart in is 2e + 1
pub out_is : (d : ℕ) → is_out d ≡ true → d ≡ 2 * edge_of d
out_is d o = elim (even_or_odd d) [
  | inl r ↦ r.1 ∙ ap (λ k. 2 * k) (sym (ap edge_of r.1 ∙ edge_of-tail r.0))
  | inr r ↦ absurd (both_ways (is_out d) (ap is_out r.1 ∙ is_out-head r.0) o)
]

pub in_is : (d : ℕ) → is_out d ≡ false → d ≡ 2 * edge_of d + 1
in_is d o = elim (even_or_odd d) [
  | inl r ↦ absurd (both_ways (is_out d) o (ap is_out r.1 ∙ is_out-tail r.0))
  | inr r ↦ r.1 ∙ ap (λ k. 2 * k + 1) (sym (ap edge_of r.1 ∙ edge_of-head r.0))
]

pub twin-out : (d : ℕ) → is_out d ≡ true → twin d ≡ 2 * edge_of d + 1
twin-out d o = ap twin (out_is d o) ∙ twin-tail (edge_of d)

pub twin-in : (d : ℕ) → is_out d ≡ false → twin d ≡ 2 * edge_of d
twin-in d o = ap twin (in_is d o) ∙ twin-head (edge_of d)

pub at-out : (g : Embedded) (d : ℕ) → is_out d ≡ true → at g d ≡ tail g (edge_of d)
at-out g d o = ap (at g) (out_is d o) ∙ at-tail g (edge_of d)

pub at-in : (g : Embedded) (d : ℕ) → is_out d ≡ false → at g d ≡ head g (edge_of d)
at-in g d o = ap (at g) (in_is d o) ∙ at-head g (edge_of d)

pub twin-twin : (d : ℕ) → twin (twin d) ≡ d
twin-twin d = elim (even_or_odd d) [
  | inl r ↦ ap (λ x. twin (twin x)) r.1 ∙ ap twin (twin-tail r.0) ∙ twin-head r.0 ∙ sym r.1
  | inr r ↦ ap (λ x. twin (twin x)) r.1 ∙ ap twin (twin-head r.0) ∙ twin-tail r.0 ∙ sym r.1
]

pub is_out-twin : (d : ℕ) → is_out (twin d) ≡ not (is_out d)
is_out-twin d = elim (even_or_odd d) [
  | inl r ↦ ap (λ x. is_out (twin x)) r.1 ∙ ap is_out (twin-tail r.0) ∙ is_out-head r.0 ∙ sym (ap (λ x. not (is_out x)) r.1 ∙ ap not (is_out-tail r.0))
  | inr r ↦ ap (λ x. is_out (twin x)) r.1 ∙ ap is_out (twin-head r.0) ∙ is_out-tail r.0 ∙ sym (ap (λ x. not (is_out x)) r.1 ∙ ap not (is_out-head r.0))
]

pub edge_of-twin : (d : ℕ) → edge_of (twin d) ≡ edge_of d
edge_of-twin d = elim (even_or_odd d) [
  | inl r ↦ ap (λ x. edge_of (twin x)) r.1 ∙ ap edge_of (twin-tail r.0) ∙ edge_of-head r.0 ∙ sym (ap edge_of r.1 ∙ edge_of-tail r.0)
  | inr r ↦ ap (λ x. edge_of (twin x)) r.1 ∙ ap edge_of (twin-head r.0) ∙ edge_of-tail r.0 ∙ sym (ap edge_of r.1 ∙ edge_of-head r.0)
]

pub twin-below : (m d : ℕ) → d < 2 * m → twin d < 2 * m
twin-below m d l = elim (even_or_odd d) [
  | inl r ↦ let e : twin d ≡ 2 * r.0 + 1 = ap twin r.1 ∙ twin-tail r.0 in omega (arith, r.1)
  | inr r ↦ let e : twin d ≡ 2 * r.0 = ap twin r.1 ∙ twin-head r.0 in omega (arith, r.1)
]

pub edge_of-below : (m d : ℕ) → d < 2 * m → edge_of d < m
edge_of-below m d l = elim (even_or_odd d) [
  | inl r ↦ let e : edge_of d ≡ r.0 = ap edge_of r.1 ∙ edge_of-tail r.0 in omega (arith, r.1)
  | inr r ↦ let e : edge_of d ≡ r.0 = ap edge_of r.1 ∙ edge_of-head r.0 in omega (arith, r.1)
]

pub twin-apart : (c d : ℕ) → twin c ≡ twin d → c ≡ d
twin-apart c d e = sym (twin-twin c) ∙ ap twin e ∙ twin-twin d

-- the vertex of an end is a vertex
pub at_below : (g : Embedded) → HasEnds (bare g) → (d : ℕ) → d < darts g → at g d < g.vertices
at_below g within d l = elim (even_or_odd d) [
  | inl r ↦ let e : at g d ≡ tail g r.0 = ap (at g) r.1 ∙ at-tail g r.0 in omega (arith, (within r.0 (omega (arith, r.1))).0)
  | inr r ↦ let e : at g d ≡ head g r.0 = ap (at g) r.1 ∙ at-head g r.0 in omega (arith, (within r.0 (omega (arith, r.1))).1)
]
