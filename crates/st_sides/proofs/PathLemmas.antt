-- The two paths of each face.
use Rattle.std.proofs.Common.{◌≡◌, ℕ, ◌+◌, ◌-◌, ◌*◌, ◌<◌, List, length, get_or, refl, sym, ap, ◌∙◌, subst, arith}
use Rattle.st_map.specs.Orbits.{iterate, Permutes, SameOrbit}
use Rattle.st_sides.specs.Runs.{TwoRuns}
use Rattle.st_ids.specs.Ends.{is_out}
use Rattle.st_map.specs.Embedded.{Embedded, edges, darts, at, phi, face}
use Rattle.st_sides.specs.GraphWalks.{IsWalk}
use Rattle.st_test.specs.Planar.{IsPlanarSt}
use Rattle.st_sides.specs.Stretches.{forward, backward}
use Rattle.st_sides.specs.Conditions.{IsSidePath}
use Rattle.st_map.proofs.Public.{iterate-stays, iterate-add, steps, orbit-trans}
use Rattle.st_sides.proofs.RunLemmas.{Runs, from_two, length-forward, length-backward, outs-at, outs-below, outs-each, outs-once, ins-at, ins-below, ins-each, ins-once}
use Rattle.st_sides.proofs.FaceRuns.{perm_st, forward_walk, backward_walk}
use Rattle.st_sides.proofs.StarLemmas.{face-same}
use Rattle.st_sides.proofs.NodeLemmas.{same_orbit}

module _ (g : Embedded) (s t outer : ℕ) (st : IsPlanarSt g s t outer) (d x k p : ℕ) (ld : d < darts g) (lx : x < darts g)
    (so : SameOrbit (phi g) d x) (r : TwoRuns (phi g) is_out x k p) where
  runs : Runs (phi g) x k p
  runs = from_two (phi g) x k p r

  on_face : (j : ℕ) → face g (iterate j (phi g) x) ≡ face g d
  on_face j = sym (face-same g s t outer st d (iterate j (phi g) x) ld (orbit-trans (phi g) d x (iterate j (phi g) x) so (j, refl)))

  from_face : (c : ℕ) → c < darts g → face g c ≡ face g d → SameOrbit (phi g) x c
  from_face c lc e = same_orbit g s t outer st x c lx lc (sym (face-same g s t outer st d x ld so) ∙ sym e)

  pub right_path_of : IsSidePath g (λ e. face g (2 * e) ≡ face g d) (at g x) (at g (iterate k (phi g) x)) (forward k (phi g) x)
  right_path_of =
      let perm : Permutes (darts g) (phi g) = perm_st g s t outer st in
      let n : length (forward k (phi g) x) ≡ k = length-forward k (phi g) x in
      record {
        walk = forward_walk g st.orders st.ends_in k x lx r.first;
        has = record {
          only = λ i li.
              let lk : i < k = omega arith in (
                outs-below (edges g) (phi g) perm x k p lx runs i lk,
                ap (face g) (outs-at (edges g) (phi g) perm x k p lx runs i lk) ∙ on_face i,
              );
          each = λ e le fe.
              let q : (i : ℕ) × (i < k) × (get_or (forward k (phi g) x) i 0 ≡ e) =
              outs-each (edges g) (phi g) perm x k p lx runs e (from_face (2 * e) (omega arith) fe) in
              (q.0, omega (arith, q.1), q.2);
          once = λ i j ij lj. outs-once (edges g) (phi g) perm x k p lx runs i j ij (omega arith);
        };
      }

  pub left_path_of : IsSidePath g (λ e. face g (2 * e + 1) ≡ face g d) (at g x) (at g (iterate k (phi g) x)) (backward (p - k) (phi g) (iterate k (phi g) x))
  left_path_of =
      let perm : Permutes (darts g) (phi g) = perm_st g s t outer st in
      let y : ℕ = iterate k (phi g) x in
      let ly : y < darts g = iterate-stays (darts g) (phi g) perm k x lx in
      let n : length (backward (p - k) (phi g) y) ≡ p - k = length-backward (p - k) (phi g) y in
      let round : iterate (p - k) (phi g) y ≡ x = sym (iterate-add (p - k) k (phi g) x) ∙ steps (phi g) x ((p - k) + k) p (omega (arith, r.more)) ∙ r.back in
      record {
        walk = subst (λ v. IsWalk g (at g v) (backward (p - k) (phi g) (iterate k (phi g) x)) (at g (iterate k (phi g) x))) round
            (backward_walk g st.orders st.ends_in (p - k) y ly
            (λ j lj. ap is_out (sym (iterate-add j k (phi g) x)) ∙ r.then (j + k) (omega arith) (omega arith)));
        has = record {
          only = λ i li.
              let lk : i < p - k = omega arith in (
                ins-below (edges g) (phi g) perm x k p lx runs i lk,
                ap (face g) (ins-at (edges g) (phi g) perm x k p lx runs i lk) ∙ on_face (p - 1 - i),
              );
          each = λ e le fe.
              let q : (i : ℕ) × (i < p - k) × (get_or (backward (p - k) (phi g) y) i 0 ≡ e) =
              ins-each (edges g) (phi g) perm x k p lx runs e (from_face (2 * e + 1) (omega arith) fe) in
              (q.0, omega (arith, q.1), q.2);
          once = λ i j ij lj. ins-once (edges g) (phi g) perm x k p lx runs i j ij (omega arith);
        };
      }

-- the same edges by another condition
pub side_path_like : (g : Embedded) (P Q : ℕ → Type 0) (low high : ℕ) (es : List ℕ) → ((e : ℕ) → e < edges g → P e → Q e) → ((e : ℕ) → e < edges g → Q e → P e)
    → IsSidePath g P low high es → IsSidePath g Q low high es
side_path_like g P Q low high es to from w = record {
  walk = w.walk;
  has = record {
    only = λ i l. ((w.has.only i l).0, to (get_or es i 0) (w.has.only i l).0 (w.has.only i l).1);
    each = λ e le q. w.has.each e le (from e le q);
    once = w.has.once;
  };
}
