-- Lists with the same clockwise next make the same faces.
use Rattle.std.proofs.Common.{◌≡◌, ℕ, zero, suc, ◌+◌, ◌-◌, ◌*◌, ◌<◌, not, cond, eqb, ◌&&◌, List, ◌∷◌, length, get_or, refl, sym, ap, ◌∙◌, arith}
use Rattle.st_map.specs.Counting.{bit, count_below}
use Rattle.st_map.specs.Orbits.{iterate, SameOrbit, least_within}
use Rattle.st_ids.specs.Ends.{is_out, twin}
use Rattle.st_map.specs.Embedded.{Embedded, edges, darts, at, next, phi, face, faces, Touches}
use Rattle.st_sides.specs.GraphWalks.{IsWalk}
use Rattle.st_map.specs.Embedded.{HasOrders}
use Rattle.st_test.specs.Planar.{IsPlanarSt}
use Rattle.st_sides.specs.Conditions.{ListsOnce, AreOuts, AreIns, IsSidePath, AreSides, is_inner_face, node, left_face, right_face}
use Rattle.st_sides.specs.Normal.{reordered}
use Rattle.st_map.proofs.Public.{total-same, iterate-stays, orbit-trans, twin-below}
use Rattle.st_sides.proofs.FaceRuns.{perm_st}
use Rattle.st_sides.proofs.NodeLemmas.{face-below, same_orbit}

pub at-reordered : (g : Embedded) (os : List (List ℕ)) (d : ℕ) → at (reordered g os) d ≡ at g d
unfolding at
at-reordered g os d = refl

walk_back : (g : Embedded) (os : List (List ℕ)) (u v : ℕ) (es : List ℕ) → IsWalk (reordered g os) u es v → IsWalk g u es v
walk_back g os u v es w = w

walk_on : (g : Embedded) (os : List (List ℕ)) (u v : ℕ) (es : List ℕ) → IsWalk g u es v → IsWalk (reordered g os) u es v
walk_on g os u v es w = w

module _ (g : Embedded) (s t outer : ℕ) (st : IsPlanarSt g s t outer) (os : List (List ℕ))
    (same_next : (d : ℕ) → d < darts g → next (reordered g os) d ≡ next g d) where
  phi-re : (d : ℕ) → d < darts g → phi (reordered g os) d ≡ phi g d
  unfolding phi
  phi-re d l = same_next (twin d) (twin-below (edges g) d l)

  iterate-re : (k d : ℕ) → d < darts g → iterate k (phi (reordered g os)) d ≡ iterate k (phi g) d
  iterate-re zero d l = refl
  iterate-re (suc k) d l = ap (phi (reordered g os)) (iterate-re k d l)
      ∙ phi-re (iterate k (phi g) d) (iterate-stays (darts g) (phi g) (perm_st g s t outer st) k d l)

  orbit-re : (d e : ℕ) → d < darts g → SameOrbit (phi g) d e → SameOrbit (phi (reordered g os)) d e
  orbit-re d e l so = (so.0, iterate-re so.0 d l ∙ so.1)

  least-re : (k d : ℕ) → d < darts g → least_within k (phi (reordered g os)) d ≡ least_within k (phi g) d
  least-re zero d l = refl
  least-re (suc k) d l = omega (arith, iterate-re (suc k) d l, least-re k d l)

  pub face-re : (d : ℕ) → d < darts g → face (reordered g os) d ≡ face g d
  unfolding face
  face-re d l = least-re (darts g) d l

  pub faces-re : faces (reordered g os) ≡ faces g
  unfolding faces
  faces-re = total-same (darts g) (λ d. bit (eqb (face (reordered g os) d) d)) (λ d. bit (eqb (face g d) d)) (λ d l. ap (λ f. bit (eqb f d)) (face-re d l))

  module _ (o : ℕ) (o_in : o < darts g) (same_face : face g o ≡ face g outer) where
    inner-re : (d : ℕ) → d < darts g → is_inner_face (reordered g os) o d ≡ is_inner_face g outer d
    inner-re d l =
        ap (λ f. eqb f d && not (eqb (face (reordered g os) o) d)) (face-re d l)
        ∙ ap (λ f. eqb (face g d) d && not (eqb f d)) (face-re o o_in ∙ same_face)

    node-re : (d : ℕ) → d < darts g → node (reordered g os) o d ≡ node g outer d
    unfolding node
    node-re d l =
        ap (λ r. 1 + count_below r (is_inner_face (reordered g os) o)) (face-re d l)
        ∙ ap (λ r. 1 + r) (total-same (face g d) (λ k. bit (is_inner_face (reordered g os) o k)) (λ k. bit (is_inner_face g outer k))
        (λ k lk. ap bit (inner-re k (omega (arith, face-below g s t outer st d l)))))

    pub left_face-re : (e : ℕ) → e < edges g → left_face (reordered g os) o e ≡ left_face g outer e
    unfolding left_face
    left_face-re e l =
        ap (λ f. cond (eqb f (face (reordered g os) o)) 0 (node (reordered g os) o (2 * e))) (face-re (2 * e) (omega arith))
        ∙ ap (λ f. cond (eqb (face g (2 * e)) f) 0 (node (reordered g os) o (2 * e))) (face-re o o_in ∙ same_face)
        ∙ ap (λ k. cond (eqb (face g (2 * e)) (face g outer)) 0 k) (node-re (2 * e) (omega arith))

    pub right_face-re : (e : ℕ) → e < edges g → right_face (reordered g os) o e ≡ right_face g outer e
    unfolding right_face
    right_face-re e l =
        ap (λ f. cond (eqb f (face (reordered g os) o)) (faces (reordered g os)) (node (reordered g os) o (2 * e + 1))) (face-re (2 * e + 1) (omega arith))
        ∙ ap (λ f. cond (eqb (face g (2 * e + 1)) f) (faces (reordered g os)) (node (reordered g os) o (2 * e + 1))) (face-re o o_in ∙ same_face)
        ∙ ap (λ k. cond (eqb (face g (2 * e + 1)) (face g outer)) k (node (reordered g os) o (2 * e + 1))) faces-re
        ∙ ap (λ k. cond (eqb (face g (2 * e + 1)) (face g outer)) (faces g) k) (node-re (2 * e + 1) (omega arith))

    touches-re : (v : ℕ) → Touches g outer v → Touches (reordered g os) o v
    touches-re v h =
        (h.0, orbit-re o h.0 o_in (orbit-trans (phi g) o outer h.0 (same_orbit g s t outer st o outer o_in st.outer_in same_face) h.1), at-reordered g os h.0 ∙ h.2)

    pub planar-re : HasOrders (reordered g os) → IsPlanarSt (reordered g os) s t o
    planar-re orders = record {
      ends_in = st.ends_in;
      two = st.two;
      no_cycle = λ u e es w. st.no_cycle u e es (walk_back g os u u (e ∷ es) w);
      source = record { there = st.source.there; none_in = st.source.none_in; only = st.source.only };
      sink = record { there = st.sink.there; none_out = st.sink.none_out; only = st.sink.only };
      orders = orders;
      euler = ap (λ f. g.vertices + f) faces-re ∙ st.euler;
      outer_in = o_in;
      outer_s = touches-re s st.outer_s;
      outer_t = touches-re t st.outer_t;
    }

    lists_like : (P Q : ℕ → Type 0) (es : List ℕ) → ((e : ℕ) → e < edges g → P e → Q e) → ((e : ℕ) → e < edges g → Q e → P e) → ListsOnce (edges g) P es → ListsOnce (edges g) Q es
    lists_like P Q es to from h = record {
      only = λ i l. ((h.only i l).0, to (get_or es i 0) (h.only i l).0 (h.only i l).1);
      each = λ e le q. h.each e le (from e le q);
      once = h.once;
    }

    outs-re : (v : ℕ) (es : List ℕ) → AreOuts g s outer v es → AreOuts (reordered g os) s o v es
    outs-re v es h = record {
      has = h.has;
      follow = λ i l. same_next (2 * get_or es i 0) (omega (arith, (h.has.only i (omega arith)).0)) ∙ h.follow i l;
      begins = λ n p d ld e. h.begins n p d ld (sym (same_next d ld) ∙ e);
      begins_s = λ e p. face-re (2 * get_or es 0 0) (omega (arith, (h.has.only 0 p).0)) ∙ h.begins_s e p ∙ sym same_face ∙ sym (face-re o o_in);
    }

    ins-re : (v : ℕ) (es : List ℕ) → AreIns g t outer v es → AreIns (reordered g os) t o v es
    ins-re v es h = record {
      has = h.has;
      follow = λ i l. same_next (2 * get_or es (i + 1) 0 + 1) (omega (arith, (h.has.only (i + 1) l).0)) ∙ h.follow i l;
      begins = λ n p. ap is_out (same_next (2 * get_or es 0 0 + 1) (omega (arith, (h.has.only 0 p).0))) ∙ h.begins n p;
      ends_t = λ e p. face-re (2 * get_or es (length es - 1) 0 + 1) (omega (arith, (h.has.only (length es - 1) (omega arith)).0)) ∙ h.ends_t e p ∙ sym same_face ∙ sym (face-re o o_in);
    }

    pub sides-re : (outs ins : ℕ → List ℕ) (low high : ℕ → ℕ) (left_path right_path : ℕ → List ℕ)
        → AreSides g s t outer outs ins low high left_path right_path → AreSides (reordered g os) s t o outs ins low high left_path right_path
    sides-re outs ins low high left_path right_path h = record {
      outs_are = λ v l. outs-re v (outs v) (h.outs_are v l);
      ins_are = λ v l. ins-re v (ins v) (h.ins_are v l);
      left_is = λ f p l. let w : IsSidePath g (λ e. right_face g outer e ≡ f) (low f) (high f) (left_path f) = h.left_is f p (omega (arith, faces-re)) in
          record {
            walk = walk_on g os (low f) (high f) (left_path f) w.walk;
            has = lists_like (λ e. right_face g outer e ≡ f) (λ e. right_face (reordered g os) o e ≡ f) (left_path f)
                (λ e le q. right_face-re e le ∙ q) (λ e le q. sym (right_face-re e le) ∙ q) w.has;
          };
      right_is = λ f l. let w : IsSidePath g (λ e. left_face g outer e ≡ f) (low f) (high f) (right_path f) = h.right_is f (omega (arith, faces-re)) in
          record {
            walk = walk_on g os (low f) (high f) (right_path f) w.walk;
            has = lists_like (λ e. left_face g outer e ≡ f) (λ e. left_face (reordered g os) o e ≡ f) (right_path f)
                (λ e le q. left_face-re e le ∙ q) (λ e le q. sym (left_face-re e le) ∙ q) w.has;
          };
      left_none = h.left_none;
      right_none = ap right_path faces-re ∙ h.right_none;
      low_first = h.low_first;
      high_first = h.high_first;
      low_last = ap low faces-re ∙ h.low_last;
      high_last = ap high faces-re ∙ h.high_last;
    }
