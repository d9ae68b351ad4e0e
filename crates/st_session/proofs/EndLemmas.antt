-- The end of an edge at one of its vertices.
use Rattle.std.proofs.Common.{◌≡◌, ◌≢◌, ◌<◌, ◌+◌, ◌*◌, ℕ, eqb, inl, inr, ap, sym, ◌∙◌, arith}
use Rattle.std.proofs.lemmas.Bool.{cases_eq, eq-eqb, ne_eqb, cond-true, cond-false}
use Rattle.st_map.specs.Embedded.{Embedded, at, darts, edges, tail}
use Rattle.st_map.specs.Orders.{IsEdgeAt, end_at}
use Rattle.st_map.proofs.Public.{at-head, at-tail}

pub end_at_tail : (g : Embedded) (v e : ℕ) → tail g e ≡ v → end_at g.ends v e ≡ 2 * e
end_at_tail g v e q = cond-true (eqb (tail g e) v) (2 * e) (2 * e + 1) (eq-eqb (tail g e) v q)

pub end_at_head : (g : Embedded) (v e : ℕ) → tail g e ≢ v → end_at g.ends v e ≡ 2 * e + 1
end_at_head g v e q = cond-false (eqb (tail g e) v) (2 * e) (2 * e + 1) (ne_eqb (tail g e) v q)

pub end_at_in : (g : Embedded) (v e : ℕ) → IsEdgeAt g.ends v e → end_at g.ends v e < darts g
end_at_in g v e h =
    let l : e < edges g = h.0 in
    elim (cases_eq (tail g e) v) [
      | inl q ↦ (let z : end_at g.ends v e ≡ 2 * e = end_at_tail g v e q in omega arith)
      | inr n ↦ (let z : end_at g.ends v e ≡ 2 * e + 1 = end_at_head g v e n in omega arith)
    ]

pub end_at_at : (g : Embedded) (v e : ℕ) → IsEdgeAt g.ends v e → at g (end_at g.ends v e) ≡ v
end_at_at g v e h = elim (cases_eq (tail g e) v) [
  | inl q ↦ ap (at g) (end_at_tail g v e q) ∙ at-tail g e ∙ q
  | inr n ↦ ap (at g) (end_at_head g v e n) ∙ at-head g e ∙ elim h.1 [ inl q ↦ absurd (n q) | inr q ↦ q ]
]

-- an end that stands at the vertex is an end of the edge there
pub edge_at : (g : Embedded) (v e d : ℕ) → e < edges g → d ≡ end_at g.ends v e → at g d ≡ v → IsEdgeAt g.ends v e
edge_at g v e d l q a = (
  l,
  elim (cases_eq (tail g e) v) [
    | inl t ↦ inl t
    | inr n ↦ inr (sym (at-head g e) ∙ ap (at g) (sym (q ∙ end_at_head g v e n)) ∙ a)
  ],
)
