-- The lowest and the highest edges of each face, and what meets along its sides.
use Rattle.std.proofs.Common.{◌≡◌, ◌≢◌, ℕ, zero, suc, ◌+◌, ◌-◌, ◌*◌, ◌<◌, ◌≤◌, true, false, List, length, get_or, take, drop, refl, sym, ap, ◌∙◌, subst, inl, inr, arith, length-take, length-drop}
use Rattle.std.proofs.lemmas.Bool.{cases_lt, cases_eq, cases_order, cases_Bool, both_ways}
use Rattle.st_map.specs.Orbits.{iterate, Permutes, SameOrbit}
use Rattle.st_sides.specs.Runs.{TwoRuns}
use Rattle.st_ids.specs.Ends.{is_out, edge_of}
use Rattle.st_map.specs.Embedded.{Embedded, edges, darts, tail, head, at, next, phi, face, faces}
use Rattle.st_sides.specs.GraphWalks.{IsWalk}
use Rattle.st_test.specs.Planar.{IsPlanarSt}
use Rattle.st_sides.specs.Conditions.{IsSidePath, AreSides, left_face, right_face, node}
use Rattle.st_sides.specs.LocalSides.{first, last, AtRightEnd, AtLeftEnd, AtFaces}
use Rattle.st_map.proofs.Public.{iterate-stays, steps, orbit-trans, orbit-stays, is_out-tail, is_out-head, at-tail, at-head, out_is, in_is, edge_of-below, at-next}
use Rattle.st_sides.proofs.FaceRuns.{at_st, perm_st, face_runs, has_out, has_in, poles_apart}
use Rattle.st_sides.proofs.StarLemmas.{face-same}
use Rattle.st_sides.proofs.NodeLemmas.{node-met, node-same, left_face-outer, left_face-inner, right_face-outer, right_face-inner}
use Rattle.st_sides.proofs.WalkPlaces.{walk-take, walk-drop, walk-joins, no_loop, tail_once, head_once}
use Rattle.st_sides.proofs.LocalLemmas.{phi-head, phi-tail, one_index, face-left, face-right, outer_up, left_face-same, right_face-same, right-left, out_there, in_there, next_at, out_after, in_after, low_is, high_is, some_in, some_out, left_s, right_t}

-- one place in a walk for each vertex that an edge comes to, or goes from
head_place : (g : Embedded) (s t outer : ℕ) → IsPlanarSt g s t outer → (u v : ℕ) (es : List ℕ) (i j : ℕ) → IsWalk g u es v → i < length es → j < length es
    → head g (get_or es i 0) ≡ head g (get_or es j 0) → i ≡ j
head_place g s t outer st u v es i j w li lj e = elim (cases_order i j) [
  | inl q ↦ q
  | inr o ↦ elim o [
    | inl a ↦ absurd (head_once g st.no_cycle u v es i j w a lj e)
    | inr a ↦ absurd (head_once g st.no_cycle u v es j i w a li (sym e))
  ]
]

tail_place : (g : Embedded) (s t outer : ℕ) → IsPlanarSt g s t outer → (u v : ℕ) (es : List ℕ) (i j : ℕ) → IsWalk g u es v → i < length es → j < length es
    → tail g (get_or es i 0) ≡ tail g (get_or es j 0) → i ≡ j
tail_place g s t outer st u v es i j w li lj e = elim (cases_order i j) [
  | inl q ↦ q
  | inr o ↦ elim o [
    | inl a ↦ absurd (tail_once g st.no_cycle u v es i j w a lj e)
    | inr a ↦ absurd (tail_once g st.no_cycle u v es j i w a li (sym e))
  ]
]

module _ (g : Embedded) (s t outer : ℕ) (st : IsPlanarSt g s t outer) (outs ins : ℕ → List ℕ) (low high : ℕ → ℕ) (left_path right_path : ℕ → List ℕ)
    (sides : AreSides g s t outer outs ins low high left_path right_path) where
  -- the edge whose tail is the begin of a walk comes first in it, and the one whose head is its end comes last
  begins_walk : (u v : ℕ) (es : List ℕ) (i : ℕ) → IsWalk g u es v → i < length es → tail g (get_or es i 0) ≡ u → first es ≡ get_or es i 0
  begins_walk u v es zero w l e = refl
  begins_walk u v es (suc i) w l e = absurd (no_loop g st.no_cycle u (take (suc i) es)
      (subst (λ z. IsWalk g u (take (suc i) es) z) e (walk-take g u v es (suc i) w l)) (omega (arith, length-take (suc i) es)))

  ends_walk : (u v : ℕ) (es : List ℕ) (i : ℕ) → IsWalk g u es v → i < length es → head g (get_or es i 0) ≡ v → last es ≡ get_or es i 0
  ends_walk u v es i w l e = elim (cases_lt (suc i) (length es)) [
    | inr m ↦ ap (λ k. get_or es k 0) (let z : length es - 1 ≡ i = omega arith in z)
    | inl m ↦ absurd (no_loop g st.no_cycle v (drop (suc i) es)
        (subst (λ z. IsWalk g z (drop (suc i) es) v) e (walk-drop g u v es i w l)) (omega (arith, length-drop (suc i) es)))
  ]

  some_edge_left : (f : ℕ) → f < faces g → (e : ℕ) × (e < edges g) × (left_face g outer e ≡ f)
  some_edge_left f lf = elim (cases_eq f 0) [
    | inl z ↦
        let h : (first (outs s) < edges g) × (tail g (first (outs s)) ≡ s) =
        out_there g s t outer st outs ins low high left_path right_path sides s 0 st.source.there
        (some_out g s t outer st outs ins low high left_path right_path sides s st.source.there (poles_apart g s t outer st)) in
        (first (outs s), h.0, left_s g s t outer st outs ins low high left_path right_path sides ∙ sym z)
    | inr n ↦
        let d : (d : ℕ) × (d < darts g) × (face g d ≢ face g outer) × (node g outer d ≡ f) = node-met g s t outer st f (omega arith) lf in
        let o : (e : ℕ) × SameOrbit (phi g) d.0 e × (is_out e ≡ true) = has_out g st.orders st.ends_in st.no_cycle d.0 d.1 in
        let lo : o.0 < darts g = orbit-stays (darts g) (phi g) (perm_st g s t outer st) d.0 o.0 d.1 o.1 in
        let h : face g (2 * edge_of o.0) ≡ face g d.0 = ap (face g) (sym (out_is o.0 o.2)) ∙ sym (face-same g s t outer st d.0 o.0 d.1 o.1) in (
          edge_of o.0,
          edge_of-below (edges g) o.0 lo,
          left_face-inner g s t outer st (edge_of o.0) (λ q. d.2 (sym h ∙ q)) ∙ node-same g s t outer st (2 * edge_of o.0) d.0 h ∙ d.3,
        )
  ]

  some_edge_right : (f : ℕ) → 0 < f → f ≤ faces g → (e : ℕ) × (e < edges g) × (right_face g outer e ≡ f)
  some_edge_right f pos lf = elim (cases_eq f (faces g)) [
    | inl z ↦
        let p : 0 < length (ins t) = some_in g s t outer st outs ins low high left_path right_path sides t st.sink.there (λ e. poles_apart g s t outer st (sym e)) in
        let h : (last (ins t) < edges g) × (head g (last (ins t)) ≡ t) =
        in_there g s t outer st outs ins low high left_path right_path sides t (length (ins t) - 1) st.sink.there (omega arith) in
        (last (ins t), h.0, right_t g s t outer st outs ins low high left_path right_path sides ∙ sym z)
    | inr n ↦
        let d : (d : ℕ) × (d < darts g) × (face g d ≢ face g outer) × (node g outer d ≡ f) = node-met g s t outer st f pos (omega arith) in
        let o : (e : ℕ) × SameOrbit (phi g) d.0 e × (is_out e ≡ false) = has_in g st.orders st.ends_in st.no_cycle d.0 d.1 in
        let lo : o.0 < darts g = orbit-stays (darts g) (phi g) (perm_st g s t outer st) d.0 o.0 d.1 o.1 in
        let h : face g (2 * edge_of o.0 + 1) ≡ face g d.0 = ap (face g) (sym (in_is o.0 o.2)) ∙ sym (face-same g s t outer st d.0 o.0 d.1 o.1) in (
          edge_of o.0,
          edge_of-below (edges g) o.0 lo,
          right_face-inner g s t outer st (edge_of o.0) (λ q. d.2 (sym h ∙ q)) ∙ node-same g s t outer st (2 * edge_of o.0 + 1) d.0 h ∙ d.3,
        )
  ]

  some_left : (f : ℕ) → 0 < f → f ≤ faces g → 0 < length (left_path f)
  some_left f pos lf =
      let e : (e : ℕ) × (e < edges g) × (right_face g outer e ≡ f) = some_edge_right f pos lf in
      let i : (i : ℕ) × (i < length (left_path f)) × (get_or (left_path f) i 0 ≡ e.0) = (sides.left_is f pos lf).has.each e.0 e.1 e.2 in
      omega (arith, i.1)

  some_right : (f : ℕ) → f < faces g → 0 < length (right_path f)
  some_right f lf =
      let e : (e : ℕ) × (e < edges g) × (left_face g outer e ≡ f) = some_edge_left f lf in
      let i : (i : ℕ) × (i < length (right_path f)) × (get_or (right_path f) i 0 ≡ e.0) = (sides.right_is f lf).has.each e.0 e.1 e.2 in
      omega (arith, i.1)

  lowest : (f : ℕ) → 0 < f → f < faces g → (i : ℕ) × (i + 1 < length (outs (low f)))
      × (get_or (outs (low f)) i 0 ≡ first (left_path f)) × (get_or (outs (low f)) (i + 1) 0 ≡ first (right_path f))
  lowest f pos lf =
      let perm : Permutes (darts g) (phi g) = perm_st g s t outer st in
      let q : (e : ℕ) × (e < edges g) × (left_face g outer e ≡ f) = some_edge_left f lf in
      let d : ℕ = 2 * q.0 in
      let ld : d < darts g = omega (arith, q.1) in
      let r : (x : ℕ) × (k : ℕ) × (p : ℕ) × (x < darts g) × SameOrbit (phi g) d x × TwoRuns (phi g) is_out x k p = face_runs g s t outer st d ld in
      let c : ℕ = iterate (r.2 - 1) (phi g) r.0 in
      let lc : c < darts g = iterate-stays (darts g) (phi g) perm (r.2 - 1) r.0 r.3 in
      let ic : is_out c ≡ false = r.5.then (r.2 - 1) (omega (arith, r.5.more)) (omega (arith, r.5.more)) in
      let step : phi g c ≡ r.0 = steps (phi g) r.0 (suc (r.2 - 1)) r.2 (omega (arith, r.5.more)) ∙ r.5.back in
      let b : ℕ = edge_of r.0 in
      let lb : b < edges g = edge_of-below (edges g) r.0 r.3 in
      let x_is : r.0 ≡ 2 * b = out_is r.0 (r.5.first 0 r.5.some) in
      let e : ℕ = edge_of c in
      let le : e < edges g = edge_of-below (edges g) c lc in
      let c_is : c ≡ 2 * e + 1 = in_is c ic in
      let nx : next g (2 * e) ≡ 2 * b = sym (phi-head g e) ∙ ap (phi g) (sym c_is) ∙ step ∙ x_is in
      let fb : left_face g outer b ≡ f = left_face-same g s t outer st b q.0 (ap (face g) (sym x_is) ∙ sym (face-same g s t outer st d r.0 ld r.4)) ∙ q.2 in
      let lw : (low (left_face g outer b) ≡ tail g b) × (0 < length (right_path (left_face g outer b))) × (first (right_path (left_face g outer b)) ≡ b) =
      low_is g s t outer st outs ins low high left_path right_path sides b c lb lc ic (step ∙ x_is) in
      let lv : low f ≡ tail g b = ap low (sym fb) ∙ lw.0 in
      let bv : low f < g.vertices = omega (arith, lv, (st.ends_in b lb).0) in
      let te : tail g e ≡ low f = sym (at-tail g e) ∙ sym (at-next g st.orders (at_st g s t outer st) (2 * e) (omega arith)) ∙ ap (at g) nx ∙ at-tail g b ∙ sym lv in
      let j : (j : ℕ) × (j < length (outs (low f))) × (get_or (outs (low f)) j 0 ≡ b) = (sides.outs_are (low f) bv).has.each b lb (sym lv) in
      let inner : face g (2 * b) ≢ face g outer = λ z. omega (arith, left_face-outer g s t outer st b z, fb) in
      let fr : face g (2 * e + 1) ≡ face g (2 * b) = face-right g s t outer st e le ∙ ap (face g) nx in
      let rl : (right_face g outer e ≡ left_face g outer b) × (0 < left_face g outer b) × (right_face g outer e < faces g) = right-left g s t outer st e b le fr inner in
      let i0 : (i : ℕ) × (i < length (left_path f)) × (get_or (left_path f) i 0 ≡ e) = (sides.left_is f pos (omega arith)).has.each e le (rl.0 ∙ fb) in
      let fe : first (left_path f) ≡ e = begins_walk (low f) (high f) (left_path f) i0.0 (sides.left_is f pos (omega arith)).walk i0.1 (ap (tail g) i0.2 ∙ te) ∙ i0.2 in
      let fb' : first (right_path f) ≡ b = ap (λ h. first (right_path h)) (sym fb) ∙ lw.2 in
      elim (out_after g s t outer st outs ins low high left_path right_path sides (low f) j.0 (2 * e) bv j.1 (omega arith) (nx ∙ ap (λ z. 2 * z) (sym j.2))) [
        | inl z ↦
            let b0 : get_or (outs (low f)) 0 0 ≡ b = ap (λ k. get_or (outs (low f)) k 0) (sym z) ∙ j.2 in
            absurd (elim (cases_eq (low f) s) [
              | inl es ↦ inner (ap (λ k. face g (2 * k)) (sym b0) ∙ (sides.outs_are (low f) bv).begins_s es (omega (arith, j.1)))
              | inr ns ↦ both_ways (is_out (2 * e)) ((sides.outs_are (low f) bv).begins ns (omega (arith, j.1)) (2 * e) (omega arith) (nx ∙ ap (λ k. 2 * k) (sym b0))) (is_out-tail e)
            ])
        | inr w ↦ (
          w.0,
          omega (arith, w.1, j.1),
          omega (arith, w.3, fe),
          ap (λ k. get_or (outs (low f)) k 0) (sym w.1) ∙ j.2 ∙ sym fb',
        )
      ]

  highest : (f : ℕ) → 0 < f → f < faces g → (i : ℕ) × (i + 1 < length (ins (high f)))
      × (get_or (ins (high f)) i 0 ≡ last (left_path f)) × (get_or (ins (high f)) (i + 1) 0 ≡ last (right_path f))
  highest f pos lf =
      let perm : Permutes (darts g) (phi g) = perm_st g s t outer st in
      let q : (e : ℕ) × (e < edges g) × (left_face g outer e ≡ f) = some_edge_left f lf in
      let d : ℕ = 2 * q.0 in
      let ld : d < darts g = omega (arith, q.1) in
      let r : (x : ℕ) × (k : ℕ) × (p : ℕ) × (x < darts g) × SameOrbit (phi g) d x × TwoRuns (phi g) is_out x k p = face_runs g s t outer st d ld in
      let c : ℕ = iterate (r.1 - 1) (phi g) r.0 in
      let lc : c < darts g = iterate-stays (darts g) (phi g) perm (r.1 - 1) r.0 r.3 in
      let oc : is_out c ≡ true = r.5.first (r.1 - 1) (omega (arith, r.5.some)) in
      let y : ℕ = iterate r.1 (phi g) r.0 in
      let ly : y < darts g = iterate-stays (darts g) (phi g) perm r.1 r.0 r.3 in
      let step : phi g c ≡ y = steps (phi g) r.0 (suc (r.1 - 1)) r.1 (omega (arith, r.5.some)) in
      let e : ℕ = edge_of c in
      let le : e < edges g = edge_of-below (edges g) c lc in
      let c_is : c ≡ 2 * e = out_is c oc in
      let a : ℕ = edge_of y in
      let la : a < edges g = edge_of-below (edges g) y ly in
      let y_is : y ≡ 2 * a + 1 = in_is y (r.5.then r.1 (omega arith) r.5.more) in
      let pe : phi g (2 * e) ≡ 2 * a + 1 = ap (phi g) (sym c_is) ∙ step ∙ y_is in
      let nx : next g (2 * e + 1) ≡ 2 * a + 1 = sym (phi-tail g e) ∙ pe in
      let fe : left_face g outer e ≡ f = left_face-same g s t outer st e q.0
      (ap (face g) (sym c_is) ∙ sym (face-same g s t outer st d c ld (orbit-trans (phi g) d r.0 c r.4 (r.1 - 1, refl)))) ∙ q.2 in
      let hw : (high (left_face g outer e) ≡ head g e) × (0 < length (right_path (left_face g outer e))) × (last (right_path (left_face g outer e)) ≡ e) =
      high_is g s t outer st outs ins low high left_path right_path sides e le (ap is_out pe ∙ is_out-head a) in
      let hv : high f ≡ head g e = ap high (sym fe) ∙ hw.0 in
      let bv : high f < g.vertices = omega (arith, hv, (st.ends_in e le).1) in
      let ha : head g a ≡ high f = sym (at-head g a) ∙ ap (at g) (sym nx) ∙ at-next g st.orders (at_st g s t outer st) (2 * e + 1) (omega arith) ∙ at-head g e ∙ sym hv in
      let j : (j : ℕ) × (j < length (ins (high f))) × (get_or (ins (high f)) j 0 ≡ a) = (sides.ins_are (high f) bv).has.each a la ha in
      let i : (i : ℕ) × (i < length (ins (high f))) × (get_or (ins (high f)) i 0 ≡ e) = (sides.ins_are (high f) bv).has.each e le (sym hv) in
      let inner : face g (2 * e) ≢ face g outer = λ z. omega (arith, left_face-outer g s t outer st e z, fe) in
      let fl : face g (2 * e) ≡ face g (2 * a + 1) = face-left g s t outer st e le ∙ ap (face g) nx in
      let rl : (right_face g outer a ≡ left_face g outer e) × (0 < left_face g outer e) × (right_face g outer a < faces g) = right-left g s t outer st a e la (sym fl) inner in
      let i0 : (i : ℕ) × (i < length (left_path f)) × (get_or (left_path f) i 0 ≡ a) = (sides.left_is f pos (omega arith)).has.each a la (rl.0 ∙ fe) in
      let fa : last (left_path f) ≡ a = ends_walk (low f) (high f) (left_path f) i0.0 (sides.left_is f pos (omega arith)).walk i0.1 (ap (head g) i0.2 ∙ ha) ∙ i0.2 in
      let fe' : last (right_path f) ≡ e = ap (λ h. last (right_path h)) (sym fe) ∙ hw.2 in
      elim (in_after g s t outer st outs ins low high left_path right_path sides (high f) j.0 (2 * e + 1) bv j.1 (omega arith) (nx ∙ ap (λ z. 2 * z + 1) (sym j.2))) [
        | inl z ↦
            let end : get_or (ins (high f)) (length (ins (high f)) - 1) 0 ≡ a = ap (λ k. get_or (ins (high f)) k 0) (let z' : length (ins (high f)) - 1 ≡ j.0 = omega arith in z') ∙ j.2 in
            absurd (elim (cases_eq (high f) t) [
              | inl et ↦ inner (fl ∙ ap (λ k. face g (2 * k + 1)) (sym end) ∙ (sides.ins_are (high f) bv).ends_t et (omega (arith, j.1)))
              | inr nt ↦ elim (cases_eq i.0 0) [
                | inl i_is ↦
                    let e0 : get_or (ins (high f)) 0 0 ≡ e = ap (λ k. get_or (ins (high f)) k 0) (sym i_is) ∙ i.2 in
                    both_ways (is_out (2 * a + 1)) (is_out-head a)
                    (ap is_out (sym nx) ∙ ap (λ k. is_out (next g (2 * k + 1))) (sym e0) ∙ (sides.ins_are (high f) bv).begins nt (omega (arith, j.1)))
                | inr i_not ↦
                    let k : ℕ = i.0 - 1 in
                    let back : k + 1 ≡ i.0 = omega arith in
                    let ek : get_or (ins (high f)) (k + 1) 0 ≡ e = ap (λ m. get_or (ins (high f)) m 0) back ∙ i.2 in
                    let fk : next g (2 * get_or (ins (high f)) (k + 1) 0 + 1) ≡ 2 * get_or (ins (high f)) k 0 + 1 = (sides.ins_are (high f) bv).follow k (omega (arith, i.1)) in
                    let gk : next g (2 * e + 1) ≡ 2 * get_or (ins (high f)) k 0 + 1 = ap (λ m. next g (2 * m + 1)) (sym ek) ∙ fk in
                    let same : k ≡ j.0 = one_index (ins (high f)) (sides.ins_are (high f) bv).has.once k j.0 (omega (arith, i.1)) j.1 (omega (arith, gk, nx, j.2)) in
                    omega (arith, i.1)
              ]
            ])
        | inr w ↦ (j.0, w.0, j.2 ∙ sym fa, omega (arith, w.1, fe'))
      ]

  -- Along its left path the face lies on the right end of each inner vertex.
  left_inner : (f i : ℕ) → 0 < f → f ≤ faces g → i + 1 < length (left_path f)
      → AtRightEnd outs ins (head g (get_or (left_path f) i 0)) (get_or (left_path f) i 0) (get_or (left_path f) (i + 1) 0)
  left_inner f i pos lf li =
      let lp : List ℕ = left_path f in
      let path : IsSidePath g (λ e. right_face g outer e ≡ f) (low f) (high f) lp = sides.left_is f pos lf in
      let e : ℕ = get_or lp i 0 in
      let b : ℕ = get_or lp (i + 1) 0 in
      let he : (e < edges g) × (right_face g outer e ≡ f) = path.has.only i (omega arith) in
      let hb : (b < edges g) × (right_face g outer b ≡ f) = path.has.only (i + 1) li in
      let v : ℕ = head g e in
      let lv : v < g.vertices = (st.ends_in e he.0).1 in
      let si : get_or lp (suc i) 0 ≡ b = ap (λ k. get_or lp k 0) (let z : suc i ≡ i + 1 = omega arith in z) in
      let tb : tail g b ≡ v = ap (tail g) (sym si) ∙ walk-joins g (low f) (high f) lp i path.walk (omega arith) in
      let c : ℕ = 2 * b + 1 in
      let lc : c < darts g = omega (arith, hb.0) in
      let z : ℕ = next g (2 * b) in
      let pc : phi g c ≡ z = phi-head g b in
      let zv : (z < darts g) × (at g z ≡ v) = next_at g s t outer st outs ins low high left_path right_path sides (2 * b) v (omega (arith, hb.0)) (at-tail g b ∙ tb) in
      let fz : face g c ≡ face g z = face-right g s t outer st b hb.0 in
      -- the face does not turn up at v, since a walk leads from its lowest vertex to v
      let up_not : is_out z ≡ true → ⊥ = λ o.
      let a : ℕ = edge_of z in
      let la : a < edges g = edge_of-below (edges g) z zv.0 in
      let z_is : z ≡ 2 * a = out_is z o in
      let lw : low (left_face g outer a) ≡ tail g a =
      (low_is g s t outer st outs ins low high left_path right_path sides a c la lc (is_out-head b) (pc ∙ z_is)).0 in
      let ta : tail g a ≡ v = sym (at-tail g a) ∙ ap (at g) (sym z_is) ∙ zv.1 in
      let lowv : low f ≡ v = elim (cases_eq (face g z) (face g outer)) [
        | inl q ↦
            let oc : is_out (phi g c) ≡ true = ap is_out pc ∙ o in
            let ff : f ≡ faces g = sym hb.1 ∙ right_face-outer g s t outer st b (fz ∙ q) in
            ap low ff ∙ sides.low_last ∙ sym (outer_up g s t outer st c c lc lc (fz ∙ q) (fz ∙ q) (is_out-head b) oc (is_out-head b) oc).1 ∙ ap (at g) pc ∙ zv.1
        | inr n ↦
            let rl : right_face g outer b ≡ left_face g outer a =
            (right-left g s t outer st b a hb.0 (fz ∙ ap (face g) z_is) (λ q. n (ap (face g) z_is ∙ q))).0 in
            ap low (sym hb.1 ∙ rl) ∙ lw ∙ ta
      ] in
      no_loop g st.no_cycle v (take (suc i) lp)
      (subst (λ w. IsWalk g w (take (suc i) lp) v) lowv
      (subst (λ w. IsWalk g (low f) (take (suc i) lp) w) (ap (tail g) si ∙ tb) (walk-take g (low f) (high f) lp (suc i) path.walk (omega arith))))
      (omega (arith, length-take (suc i) lp)) in
      let oz : is_out z ≡ false = elim (cases_Bool (is_out z)) [ inl o ↦ absurd (up_not o) | inr o ↦ o ] in
      let a : ℕ = edge_of z in
      let la : a < edges g = edge_of-below (edges g) z zv.0 in
      let z_is : z ≡ 2 * a + 1 = in_is z oz in
      let fa : right_face g outer a ≡ f = right_face-same g s t outer st a b (ap (face g) (sym z_is) ∙ sym fz) ∙ hb.1 in
      let k : (k : ℕ) × (k < length lp) × (get_or lp k 0 ≡ a) = path.has.each a la fa in
      let ha : head g a ≡ v = sym (at-head g a) ∙ ap (at g) (sym z_is) ∙ zv.1 in
      let same : k.0 ≡ i = head_place g s t outer st (low f) (high f) lp k.0 i path.walk k.1 (omega arith) (ap (head g) k.2 ∙ ha) in
      let a_is : a ≡ e = sym k.2 ∙ ap (λ m. get_or lp m 0) same in
      let nx : next g (2 * b) ≡ 2 * e + 1 = z_is ∙ ap (λ m. 2 * m + 1) a_is in
      let j : (j : ℕ) × (j < length (ins v)) × (get_or (ins v) j 0 ≡ e) = (sides.ins_are v lv).has.each e he.0 refl in
      let m : (m : ℕ) × (m < length (outs v)) × (get_or (outs v) m 0 ≡ b) = (sides.outs_are v lv).has.each b hb.0 tb in
      record {
        in_last = elim (in_after g s t outer st outs ins low high left_path right_path sides v j.0 (2 * b) lv j.1 (omega (arith, hb.0)) (nx ∙ ap (λ m. 2 * m + 1) (sym j.2))) [
          | inl w ↦ ap (λ k. get_or (ins v) k 0) (let q : length (ins v) - 1 ≡ j.0 = omega arith in q) ∙ j.2
          | inr w ↦ absurd (omega (arith, w.1))
        ];
        out_last = elim (cases_lt (m.0 + 1) (length (outs v))) [
          | inr w ↦ ap (λ k. get_or (outs v) k 0) (let q : length (outs v) - 1 ≡ m.0 = omega (arith, m.1) in q) ∙ m.2
          | inl w ↦
              let fl : next g (2 * get_or (outs v) m.0 0) ≡ 2 * get_or (outs v) (m.0 + 1) 0 = (sides.outs_are v lv).follow m.0 w in
              let fl' : next g (2 * b) ≡ 2 * get_or (outs v) (m.0 + 1) 0 = ap (λ k. next g (2 * k)) (sym m.2) ∙ fl in
              absurd (omega (arith, fl', nx))
        ];
      }

  -- Along its right path it lies on the left end.
  right_inner : (f i : ℕ) → f < faces g → i + 1 < length (right_path f)
      → AtLeftEnd outs ins (head g (get_or (right_path f) i 0)) (get_or (right_path f) i 0) (get_or (right_path f) (i + 1) 0)
  right_inner f i lf li =
      let rp : List ℕ = right_path f in
      let path : IsSidePath g (λ e. left_face g outer e ≡ f) (low f) (high f) rp = sides.right_is f lf in
      let e : ℕ = get_or rp i 0 in
      let b : ℕ = get_or rp (i + 1) 0 in
      let he : (e < edges g) × (left_face g outer e ≡ f) = path.has.only i (omega arith) in
      let hb : (b < edges g) × (left_face g outer b ≡ f) = path.has.only (i + 1) li in
      let v : ℕ = head g e in
      let lv : v < g.vertices = (st.ends_in e he.0).1 in
      let si : get_or rp (suc i) 0 ≡ b = ap (λ k. get_or rp k 0) (let z : suc i ≡ i + 1 = omega arith in z) in
      let tb : tail g b ≡ v = ap (tail g) (sym si) ∙ walk-joins g (low f) (high f) rp i path.walk (omega arith) in
      let z : ℕ = next g (2 * e + 1) in
      let pc : phi g (2 * e) ≡ z = phi-tail g e in
      let zv : (z < darts g) × (at g z ≡ v) = next_at g s t outer st outs ins low high left_path right_path sides (2 * e + 1) v (omega (arith, he.0)) (at-head g e) in
      -- the face does not turn down at v, since a walk leads from v to its highest vertex
      let oz : is_out z ≡ true = elim (cases_Bool (is_out z)) [
        | inl o ↦ o
        | inr o ↦
            let hw : high (left_face g outer e) ≡ head g e = (high_is g s t outer st outs ins low high left_path right_path sides e he.0 (ap is_out pc ∙ o)).0 in
            let hv : high f ≡ v = ap high (sym he.1) ∙ hw in
            absurd (no_loop g st.no_cycle v (drop (suc i) rp)
            (subst (λ w. IsWalk g v (drop (suc i) rp) w) hv (walk-drop g (low f) (high f) rp i path.walk (omega arith)))
            (omega (arith, length-drop (suc i) rp)))
      ] in
      let a : ℕ = edge_of z in
      let la : a < edges g = edge_of-below (edges g) z zv.0 in
      let z_is : z ≡ 2 * a = out_is z oz in
      let fa : left_face g outer a ≡ f = left_face-same g s t outer st a e (ap (face g) (sym z_is) ∙ sym (face-left g s t outer st e he.0)) ∙ he.1 in
      let k : (k : ℕ) × (k < length rp) × (get_or rp k 0 ≡ a) = path.has.each a la fa in
      let ta : tail g a ≡ v = sym (at-tail g a) ∙ ap (at g) (sym z_is) ∙ zv.1 in
      let same : k.0 ≡ i + 1 = tail_place g s t outer st (low f) (high f) rp k.0 (i + 1) path.walk k.1 li (ap (tail g) k.2 ∙ ta ∙ sym tb) in
      let a_is : a ≡ b = sym k.2 ∙ ap (λ m. get_or rp m 0) same in
      let nx : next g (2 * e + 1) ≡ 2 * b = z_is ∙ ap (λ m. 2 * m) a_is in
      let j : (j : ℕ) × (j < length (ins v)) × (get_or (ins v) j 0 ≡ e) = (sides.ins_are v lv).has.each e he.0 refl in
      let m : (m : ℕ) × (m < length (outs v)) × (get_or (outs v) m 0 ≡ b) = (sides.outs_are v lv).has.each b hb.0 tb in
      record {
        in_first = elim (cases_eq j.0 0) [
          | inl w ↦ ap (λ k. get_or (ins v) k 0) (sym w) ∙ j.2
          | inr w ↦
              let h : ℕ = j.0 - 1 in
              let eh : get_or (ins v) (h + 1) 0 ≡ e = ap (λ m. get_or (ins v) m 0) (let q : h + 1 ≡ j.0 = omega arith in q) ∙ j.2 in
              let fl : next g (2 * get_or (ins v) (h + 1) 0 + 1) ≡ 2 * get_or (ins v) h 0 + 1 = (sides.ins_are v lv).follow h (omega (arith, j.1)) in
              let fl' : next g (2 * e + 1) ≡ 2 * get_or (ins v) h 0 + 1 = ap (λ k. next g (2 * k + 1)) (sym eh) ∙ fl in
              absurd (omega (arith, fl', nx))
        ];
        out_first = elim (out_after g s t outer st outs ins low high left_path right_path sides v m.0 (2 * e + 1) lv m.1 (omega (arith, he.0)) (nx ∙ ap (λ k. 2 * k) (sym m.2))) [
          | inl w ↦ ap (λ k. get_or (outs v) k 0) (sym w) ∙ m.2
          | inr w ↦ absurd (omega (arith, w.3))
        ];
      }

  pub at_faces : AtFaces g outer outs ins low high left_path right_path
  at_faces = record { some_left = some_left; some_right = some_right; lowest = lowest; highest = highest; left_inner = left_inner; right_inner = right_inner }
