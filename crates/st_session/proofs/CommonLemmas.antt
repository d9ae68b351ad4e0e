-- Faces as orbits, ends of kept edges, and reaching from and to the poles.
use Rattle.std.proofs.Common.{◌≡◌, ℕ, ◌+◌, ◌*◌, ◌<◌, eqb, inl, inr, refl, sym, ap, ◌∙◌, arith}
use Rattle.std.proofs.lemmas.Bool.{eqb-true, eqb-false, cases_eq}
use Rattle.st_ids.specs.Graph.{arcs_of}
use Rattle.st_ids.specs.Walks.{Reaches}
use Rattle.st_ids.proofs.Public.{IsWithin, down, reach_arc, reach_refl, reach_trans, up}
use Rattle.st_map.specs.Embedded.{Embedded, bare, edges, darts, tail, head, at, phi, face, faces}
use Rattle.st_map.proofs.Public.{at-head, at-tail, even_or_odd, some_or_none}
use Rattle.st_test.specs.Planar.{IsPlanarSt}
use Rattle.st_session.proofs.RootLemmas.{roots}

pub faces_are : (g : Embedded) → faces g ≡ roots (darts g) (phi g)
unfolding faces face
faces_are g = refl

-- an end of a kept edge stays at its vertex
pub at_kept : (g h : Embedded) → ((e : ℕ) → e < edges g → tail h e ≡ tail g e) → ((e : ℕ) → e < edges g → head h e ≡ head g e) → (d : ℕ) → d < darts g → at h d ≡ at g d
at_kept g h t k d l = elim (even_or_odd d) [
  | inl r ↦ (let z : d ≡ 2 * r.0 = r.1 in ap (at h) r.1 ∙ at-tail h r.0 ∙ t r.0 (omega arith) ∙ sym (ap (at g) r.1 ∙ at-tail g r.0))
  | inr r ↦ (let z : d ≡ 2 * r.0 + 1 = r.1 in ap (at h) r.1 ∙ at-head h r.0 ∙ k r.0 (omega arith) ∙ sym (ap (at g) r.1 ∙ at-head g r.0))
]

module _ (g : Embedded) (s t outer : ℕ) (st : IsPlanarSt g s t outer) where
  within : IsWithin (arcs_of (bare g)) g.vertices
  within = record { from_in = λ e l. (st.ends_in e l).0; to_in = λ e l. (st.ends_in e l).1 }

  -- the source reaches each vertex
  pub from_source : (v : ℕ) → v < g.vertices → Reaches (arcs_of (bare g)) s v
  from_source = down (arcs_of (bare g)) g.vertices st.no_cycle within (λ v. Reaches (arcs_of (bare g)) s v) (λ v i ih. elim (cases_eq v s) [
    | inl q ↦ reach_refl (sym q)
    | inr n ↦ elim (some_or_none (λ e. eqb (head g e) v) (edges g)) [
      | inl r ↦ (let e : head g r.0 ≡ v = eqb-true (head g r.0) v r.2 in reach_trans (ih r.0 r.1 e) (reach_trans (reach_arc r.0 r.1) (reach_refl e)))
      | inr none ↦ absurd (n (st.source.only v i (λ e l. eqb-false (head g e) v (none e l))))
    ]
  ])

  -- each vertex reaches the sink
  pub to_sink : (v : ℕ) → v < g.vertices → Reaches (arcs_of (bare g)) v t
  to_sink = up (arcs_of (bare g)) g.vertices st.no_cycle within (λ v. Reaches (arcs_of (bare g)) v t) (λ v i ih. elim (cases_eq v t) [
    | inl q ↦ reach_refl q
    | inr n ↦ elim (some_or_none (λ e. eqb (tail g e) v) (edges g)) [
      | inl r ↦ (let e : tail g r.0 ≡ v = eqb-true (tail g r.0) v r.2 in reach_trans (reach_refl (sym e)) (reach_trans (reach_arc r.0 r.1) (ih r.0 r.1 e)))
      | inr none ↦ absurd (n (st.sink.only v i (λ e l. eqb-false (tail g e) v (none e l))))
    ]
  ])
