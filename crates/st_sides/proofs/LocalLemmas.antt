-- What meets where: the faces round a vertex, the edges at the bottom and at the top of a face, and the edges along
-- its sides. All of it for any sides that are as defined.
use Rattle.std.proofs.Common.{◌≡◌, ◌≢◌, ℕ, zero, suc, ◌+◌, ◌-◌, ◌*◌, ◌<◌, Bool, true, false, not, ◌⊎◌, List, length, get_or, take, drop, refl, sym, ap, ◌∙◌, subst, inl, inr, arith, length-take, length-drop}
use Rattle.std.proofs.lemmas.Bool.{cases_lt, cases_eq, cases_order, cases_Bool, both_ways, and_from}
use Rattle.st_map.specs.Orbits.{iterate, Permutes, SameOrbit}
use Rattle.st_sides.specs.Runs.{TwoRuns}
use Rattle.st_ids.specs.Ends.{is_out, edge_of, twin}
use Rattle.st_map.specs.Embedded.{Embedded, edges, darts, tail, head, at, next, phi, face, faces}
use Rattle.st_sides.specs.GraphWalks.{IsWalk}
use Rattle.st_test.specs.Planar.{IsPlanarSt}
use Rattle.st_sides.specs.Stretches.{forward}
use Rattle.st_sides.specs.Conditions.{IsSidePath, AreSides, left_face, right_face, node}
use Rattle.st_sides.specs.LocalSides.{first, last, Between, AtVertices}
use Rattle.st_map.proofs.Public.{iterate-stays, iterate-add, steps, orbit-trans, orbit-sym, turn_covers, before, is_out-tail, is_out-head, at-tail, at-head, at-out, at-in, out_is, in_is, twin-tail, twin-head, edge_of-below, is_out-twin, twin-below, at-next, at-phi}
use Rattle.st_sides.proofs.FaceRuns.{at_st, perm_st, phi-twin, face_runs, outer_low, outer_high, out_at_s, in_at_t, poles_apart, end_in, end_out, turn_up_once, turn_down_once, forward_walk}
use Rattle.st_sides.proofs.StarLemmas.{face-same, next_st}
use Rattle.st_sides.proofs.NodeLemmas.{same_orbit, node-same, node-positive, node-below, left_face-outer, left_face-inner, right_face-outer, right_face-inner, left_face-0, left_face-at, right_face-last, right_face-at, left_face-below}
use Rattle.st_sides.proofs.WalkPlaces.{walk-first, walk-last, walk-take, walk-drop, no_return}

pub phi-head : (g : Embedded) (e : ℕ) → phi g (2 * e + 1) ≡ next g (2 * e)
phi-head g e = ap (phi g) (sym (twin-tail e)) ∙ phi-twin g (2 * e)

pub phi-tail : (g : Embedded) (e : ℕ) → phi g (2 * e) ≡ next g (2 * e + 1)
phi-tail g e = ap (phi g) (sym (twin-head e)) ∙ phi-twin g (2 * e + 1)

-- a list that has each entry once has equal entries only at one place
pub one_index : (es : List ℕ) → ((i j : ℕ) → i < j → j < length es → get_or es i 0 ≢ get_or es j 0) → (i j : ℕ) → i < length es → j < length es → get_or es i 0 ≡ get_or es j 0 → i ≡ j
one_index es once i j li lj e = elim (cases_order i j) [
  | inl q ↦ q
  | inr o ↦ elim o [ inl a ↦ absurd (once i j a lj e) | inr a ↦ absurd (once j i a li (sym e)) ]
]

module _ (g : Embedded) (s t outer : ℕ) (st : IsPlanarSt g s t outer) where
  -- the face on the right of e goes on with the next end
  pub face-right : (e : ℕ) → e < edges g → face g (2 * e + 1) ≡ face g (next g (2 * e))
  face-right e le = face-same g s t outer st (2 * e + 1) (next g (2 * e)) (omega arith) (1, phi-head g e)

  pub face-left : (e : ℕ) → e < edges g → face g (2 * e) ≡ face g (next g (2 * e + 1))
  face-left e le = face-same g s t outer st (2 * e) (next g (2 * e + 1)) (omega arith) (1, phi-tail g e)

  -- a turn up leads to the begin of the run up, a turn down to its end
  pub turn_up_is : (d x k p c : ℕ) → d < darts g → x < darts g → SameOrbit (phi g) d x → TwoRuns (phi g) is_out x k p
      → c < darts g → face g c ≡ face g d → is_out c ≡ false → is_out (phi g c) ≡ true → phi g c ≡ x
  turn_up_is d x k p c ld lx so r lc fc ic oc =
      let perm : Permutes (darts g) (phi g) = perm_st g s t outer st in
      let b : ℕ = iterate (p - 1) (phi g) x in
      let step : phi g b ≡ x = steps (phi g) x (suc (p - 1)) p (omega (arith, r.more)) ∙ r.back in
      let lb : b < darts g = iterate-stays (darts g) (phi g) perm (p - 1) x lx in
      let cb : SameOrbit (phi g) c b = orbit-trans (phi g) c d b (same_orbit g s t outer st c d lc ld fc) (orbit-trans (phi g) d x b so (p - 1, refl)) in
      ap (phi g) (turn_up_once g s t outer st c b lc lb (and_from (not (is_out c)) (is_out (phi g c)) (ap not ic) oc)
      (and_from (not (is_out b)) (is_out (phi g b)) (ap not (r.then (p - 1) (omega (arith, r.more)) (omega (arith, r.more)))) (ap is_out step ∙ r.first 0 r.some)) cb) ∙ step

  pub turn_down_is : (d x k p c : ℕ) → d < darts g → x < darts g → SameOrbit (phi g) d x → TwoRuns (phi g) is_out x k p
      → c < darts g → face g c ≡ face g d → is_out c ≡ true → is_out (phi g c) ≡ false → phi g c ≡ iterate k (phi g) x
  turn_down_is d x k p c ld lx so r lc fc ic oc =
      let perm : Permutes (darts g) (phi g) = perm_st g s t outer st in
      let b : ℕ = iterate (k - 1) (phi g) x in
      let step : phi g b ≡ iterate k (phi g) x = steps (phi g) x (suc (k - 1)) k (omega (arith, r.some)) in
      let lb : b < darts g = iterate-stays (darts g) (phi g) perm (k - 1) x lx in
      let cb : SameOrbit (phi g) c b = orbit-trans (phi g) c d b (same_orbit g s t outer st c d lc ld fc) (orbit-trans (phi g) d x b so (k - 1, refl)) in
      ap (phi g) (turn_down_once g s t outer st c b lc lb (and_from (is_out c) (not (is_out (phi g c))) ic (ap not oc))
      (and_from (is_out b) (not (is_out (phi g b))) (r.first (k - 1) (omega (arith, r.some))) (ap not (ap is_out step ∙ r.then k (omega arith) r.more))) cb) ∙ step

  -- all turns up of the outer face are one, at s; all turns down are one, at t
  pub outer_up : (c c' : ℕ) → c < darts g → c' < darts g → face g c ≡ face g outer → face g c' ≡ face g outer
      → is_out c ≡ false → is_out (phi g c) ≡ true → is_out c' ≡ false → is_out (phi g c') ≡ true → (phi g c ≡ phi g c') × (at g (phi g c) ≡ s)
  outer_up c c' lc lc' fc fc' ic oc ic' oc' =
      let r : (x : ℕ) × (k : ℕ) × (p : ℕ) × (x < darts g) × SameOrbit (phi g) outer x × TwoRuns (phi g) is_out x k p = face_runs g s t outer st outer st.outer_in in
      let a : phi g c ≡ r.0 = turn_up_is outer r.0 r.1 r.2 c st.outer_in r.3 r.4 r.5 lc fc ic oc in
      let b : phi g c' ≡ r.0 = turn_up_is outer r.0 r.1 r.2 c' st.outer_in r.3 r.4 r.5 lc' fc' ic' oc' in
      (a ∙ sym b, ap (at g) a ∙ outer_low g s t outer st r.0 r.1 r.2 r.3 r.4 r.5)

  pub outer_down : (c c' : ℕ) → c < darts g → c' < darts g → face g c ≡ face g outer → face g c' ≡ face g outer
      → is_out c ≡ true → is_out (phi g c) ≡ false → is_out c' ≡ true → is_out (phi g c') ≡ false → (phi g c ≡ phi g c') × (at g (phi g c) ≡ t)
  outer_down c c' lc lc' fc fc' ic oc ic' oc' =
      let r : (x : ℕ) × (k : ℕ) × (p : ℕ) × (x < darts g) × SameOrbit (phi g) outer x × TwoRuns (phi g) is_out x k p = face_runs g s t outer st outer st.outer_in in
      let a : phi g c ≡ iterate r.1 (phi g) r.0 = turn_down_is outer r.0 r.1 r.2 c st.outer_in r.3 r.4 r.5 lc fc ic oc in
      let b : phi g c' ≡ iterate r.1 (phi g) r.0 = turn_down_is outer r.0 r.1 r.2 c' st.outer_in r.3 r.4 r.5 lc' fc' ic' oc' in
      (a ∙ sym b, ap (at g) a ∙ outer_high g s t outer st r.0 r.1 r.2 r.3 r.4 r.5)

  pub left_face-apart : (e e' : ℕ) → e < edges g → e' < edges g → left_face g outer e ≡ left_face g outer e' → face g (2 * e) ≡ face g (2 * e')
  left_face-apart e e' le le' h = elim (cases_eq (face g (2 * e')) (face g outer)) [
    | inl q ↦ left_face-0 g s t outer st e (h ∙ left_face-outer g s t outer st e' q) ∙ sym q
    | inr n ↦ left_face-at g s t outer st e (2 * e') le (omega arith) n (h ∙ left_face-inner g s t outer st e' n)
  ]

  pub right_face-apart : (e e' : ℕ) → e < edges g → e' < edges g → right_face g outer e ≡ right_face g outer e' → face g (2 * e + 1) ≡ face g (2 * e' + 1)
  right_face-apart e e' le le' h = elim (cases_eq (face g (2 * e' + 1)) (face g outer)) [
    | inl q ↦ right_face-last g s t outer st e le (h ∙ right_face-outer g s t outer st e' q) ∙ sym q
    | inr n ↦ right_face-at g s t outer st e (2 * e' + 1) le (omega arith) n (h ∙ right_face-inner g s t outer st e' n)
  ]

  pub left_face-same : (e e' : ℕ) → face g (2 * e) ≡ face g (2 * e') → left_face g outer e ≡ left_face g outer e'
  left_face-same e e' h = elim (cases_eq (face g (2 * e')) (face g outer)) [
    | inl q ↦ left_face-outer g s t outer st e (h ∙ q) ∙ sym (left_face-outer g s t outer st e' q)
    | inr n ↦ left_face-inner g s t outer st e (λ q. n (sym h ∙ q)) ∙ node-same g s t outer st (2 * e) (2 * e') h ∙ sym (left_face-inner g s t outer st e' n)
  ]

  pub right_face-same : (e e' : ℕ) → face g (2 * e + 1) ≡ face g (2 * e' + 1) → right_face g outer e ≡ right_face g outer e'
  right_face-same e e' h = elim (cases_eq (face g (2 * e' + 1)) (face g outer)) [
    | inl q ↦ right_face-outer g s t outer st e (h ∙ q) ∙ sym (right_face-outer g s t outer st e' q)
    | inr n ↦ right_face-inner g s t outer st e (λ q. n (sym h ∙ q)) ∙ node-same g s t outer st (2 * e + 1) (2 * e' + 1) h ∙ sym (right_face-inner g s t outer st e' n)
  ]

  -- where the right face of e is the left face of e', and not the outer one, they are one inner node
  pub right-left : (e e' : ℕ) → e < edges g → face g (2 * e + 1) ≡ face g (2 * e') → face g (2 * e') ≢ face g outer
      → (right_face g outer e ≡ left_face g outer e') × (0 < left_face g outer e') × (right_face g outer e < faces g)
  right-left e e' le h n =
      let a : right_face g outer e ≡ node g outer (2 * e + 1) = right_face-inner g s t outer st e (λ q. n (sym h ∙ q)) in
      let b : left_face g outer e' ≡ node g outer (2 * e') = left_face-inner g s t outer st e' n in (
        a ∙ node-same g s t outer st (2 * e + 1) (2 * e') h ∙ sym b,
        omega (arith, node-positive g s t outer st (2 * e')),
        omega (arith, node-below g s t outer st (2 * e + 1) (omega arith) (λ q. n (sym h ∙ q))),
      )

module _ (g : Embedded) (s t outer : ℕ) (st : IsPlanarSt g s t outer) (outs ins : ℕ → List ℕ) (low high : ℕ → ℕ) (left_path right_path : ℕ → List ℕ)
    (sides : AreSides g s t outer outs ins low high left_path right_path) where
  -- the place of an end at v in its list
  pub out_place : (v d : ℕ) → v < g.vertices → d < darts g → at g d ≡ v → is_out d ≡ true → (j : ℕ) × (j < length (outs v)) × (2 * get_or (outs v) j 0 ≡ d)
  out_place v d lv ld a o =
      let r : (i : ℕ) × (i < length (outs v)) × (get_or (outs v) i 0 ≡ edge_of d) =
      (sides.outs_are v lv).has.each (edge_of d) (edge_of-below (edges g) d ld) (sym (at-out g d o) ∙ a) in
      (r.0, r.1, ap (λ e. 2 * e) r.2 ∙ sym (out_is d o))

  pub in_place : (v d : ℕ) → v < g.vertices → d < darts g → at g d ≡ v → is_out d ≡ false → (j : ℕ) × (j < length (ins v)) × (2 * get_or (ins v) j 0 + 1 ≡ d)
  in_place v d lv ld a o =
      let r : (i : ℕ) × (i < length (ins v)) × (get_or (ins v) i 0 ≡ edge_of d) =
      (sides.ins_are v lv).has.each (edge_of d) (edge_of-below (edges g) d ld) (sym (at-in g d o) ∙ a) in
      (r.0, r.1, ap (λ e. 2 * e + 1) r.2 ∙ sym (in_is d o))

  pub out_there : (v i : ℕ) → v < g.vertices → i < length (outs v) → (get_or (outs v) i 0 < edges g) × (tail g (get_or (outs v) i 0) ≡ v)
  out_there v i lv li = (sides.outs_are v lv).has.only i li

  pub in_there : (v i : ℕ) → v < g.vertices → i < length (ins v) → (get_or (ins v) i 0 < edges g) × (head g (get_or (ins v) i 0) ≡ v)
  in_there v i lv li = (sides.ins_are v lv).has.only i li

  next_apart : (c d : ℕ) → c < darts g → d < darts g → next g c ≡ next g d → c ≡ d
  next_apart = (next_st g s t outer st).apart

  pub next_at : (d v : ℕ) → d < darts g → at g d ≡ v → (next g d < darts g) × (at g (next g d) ≡ v)
  next_at d v l a = ((next_st g s t outer st).stays d l, at-next g st.orders (at_st g s t outer st) d l ∙ a)

  -- an edge out that the ends of an out follow is the first, or comes after another out
  pub out_after : (v j d : ℕ) → v < g.vertices → j < length (outs v) → d < darts g → next g d ≡ 2 * get_or (outs v) j 0
      → (j ≡ 0) ⊎ ((i : ℕ) × (j ≡ i + 1) × (i < length (outs v)) × (d ≡ 2 * get_or (outs v) i 0))
  out_after v zero d lv lj ld e = inl refl
  out_after v (suc i) d lv lj ld e =
      let f : next g (2 * get_or (outs v) i 0) ≡ 2 * get_or (outs v) (i + 1) 0 = (sides.outs_are v lv).follow i (omega arith) in
      let same : get_or (outs v) (i + 1) 0 ≡ get_or (outs v) (suc i) 0 = ap (λ k. get_or (outs v) k 0) (let z : i + 1 ≡ suc i = omega arith in z) in
      inr (
        i,
        omega arith,
        omega arith,
        next_apart d (2 * get_or (outs v) i 0) ld (omega (arith, (out_there v i lv (omega arith)).0)) (e ∙ ap (λ x. 2 * x) (sym same) ∙ sym f),
      )

  -- an edge in is the last, or comes after the in on its right
  pub in_after : (v j d : ℕ) → v < g.vertices → j < length (ins v) → d < darts g → next g d ≡ 2 * get_or (ins v) j 0 + 1
      → (j + 1 ≡ length (ins v)) ⊎ ((j + 1 < length (ins v)) × (d ≡ 2 * get_or (ins v) (j + 1) 0 + 1))
  in_after v j d lv lj ld e = elim (cases_lt (j + 1) (length (ins v))) [
    | inl m ↦
        let f : next g (2 * get_or (ins v) (j + 1) 0 + 1) ≡ 2 * get_or (ins v) j 0 + 1 = (sides.ins_are v lv).follow j m in
        inr (m, next_apart d (2 * get_or (ins v) (j + 1) 0 + 1) ld (omega (arith, (in_there v (j + 1) lv m).0)) (e ∙ sym f))
    | inr m ↦ inl (omega arith)
  ]

  -- After the last out comes the last in, or where there is none the first out.
  pub after_outs : (v i : ℕ) → v < g.vertices → i + 1 ≡ length (outs v)
      → ((is_out (next g (2 * get_or (outs v) i 0)) ≡ true) × (next g (2 * get_or (outs v) i 0) ≡ 2 * get_or (outs v) 0 0))
      ⊎ ((0 < length (ins v)) × (next g (2 * get_or (outs v) i 0) ≡ 2 * get_or (ins v) (length (ins v) - 1) 0 + 1))
  after_outs v i lv li =
      let e : ℕ = get_or (outs v) i 0 in
      let te : (e < edges g) × (tail g e ≡ v) = out_there v i lv (omega arith) in
      let z : (next g (2 * e) < darts g) × (at g (next g (2 * e)) ≡ v) = next_at (2 * e) v (omega (arith, te.0)) (at-tail g e ∙ te.1) in
      elim (cases_Bool (is_out (next g (2 * e)))) [
        | inl o ↦
            let q : (j : ℕ) × (j < length (outs v)) × (2 * get_or (outs v) j 0 ≡ next g (2 * e)) = out_place v (next g (2 * e)) lv z.0 z.1 o in
            elim (out_after v q.0 (2 * e) lv q.1 (omega (arith, te.0)) (sym q.2)) [
              | inl none ↦ inl (o, sym q.2 ∙ ap (λ k. 2 * get_or (outs v) k 0) none)
              | inr w ↦
                  let same : i ≡ w.0 = one_index (outs v) (sides.outs_are v lv).has.once i w.0 (omega arith) w.2 (omega (arith, w.3)) in
                  absurd (omega (arith, w.1, q.1))
            ]
        | inr o ↦
            let q : (j : ℕ) × (j < length (ins v)) × (2 * get_or (ins v) j 0 + 1 ≡ next g (2 * e)) = in_place v (next g (2 * e)) lv z.0 z.1 o in
            elim (in_after v q.0 (2 * e) lv q.1 (omega (arith, te.0)) (sym q.2)) [
              | inl end ↦ inr (omega (arith, q.1), sym q.2 ∙ ap (λ k. 2 * get_or (ins v) k 0 + 1) (let y : q.0 ≡ length (ins v) - 1 = omega arith in y))
              | inr w ↦ absurd (omega (arith, w.1))
            ]
      ]

  -- After the first in comes the first out, or where there is none the last in.
  pub after_ins : (v : ℕ) → v < g.vertices → 0 < length (ins v)
      → ((0 < length (outs v)) × (next g (2 * get_or (ins v) 0 0 + 1) ≡ 2 * get_or (outs v) 0 0))
      ⊎ ((is_out (next g (2 * get_or (ins v) 0 0 + 1)) ≡ false) × (next g (2 * get_or (ins v) 0 0 + 1) ≡ 2 * get_or (ins v) (length (ins v) - 1) 0 + 1))
  after_ins v lv li =
      let e : ℕ = get_or (ins v) 0 0 in
      let te : (e < edges g) × (head g e ≡ v) = in_there v 0 lv li in
      let z : (next g (2 * e + 1) < darts g) × (at g (next g (2 * e + 1)) ≡ v) = next_at (2 * e + 1) v (omega (arith, te.0)) (at-head g e ∙ te.1) in
      elim (cases_Bool (is_out (next g (2 * e + 1)))) [
        | inl o ↦
            let q : (j : ℕ) × (j < length (outs v)) × (2 * get_or (outs v) j 0 ≡ next g (2 * e + 1)) = out_place v (next g (2 * e + 1)) lv z.0 z.1 o in
            elim (out_after v q.0 (2 * e + 1) lv q.1 (omega (arith, te.0)) (sym q.2)) [
              | inl none ↦ inl (omega (arith, q.1), sym q.2 ∙ ap (λ k. 2 * get_or (outs v) k 0) none)
              | inr w ↦ absurd (omega (arith, w.3))
            ]
        | inr o ↦
            let q : (j : ℕ) × (j < length (ins v)) × (2 * get_or (ins v) j 0 + 1 ≡ next g (2 * e + 1)) = in_place v (next g (2 * e + 1)) lv z.0 z.1 o in
            elim (in_after v q.0 (2 * e + 1) lv q.1 (omega (arith, te.0)) (sym q.2)) [
              | inl end ↦ inr (o, sym q.2 ∙ ap (λ k. 2 * get_or (ins v) k 0 + 1) (let y : q.0 ≡ length (ins v) - 1 = omega arith in y))
              | inr w ↦
                  let same : 0 ≡ q.0 + 1 = one_index (ins v) (sides.ins_are v lv).has.once 0 (q.0 + 1) li w.0 (omega (arith, w.1)) in
                  absurd (omega arith)
            ]
      ]

  -- The face that turns up to 2e has its lowest vertex there, and e is the first edge of its right path.
  pub low_is : (e c : ℕ) → e < edges g → c < darts g → is_out c ≡ false → phi g c ≡ 2 * e
      → (low (left_face g outer e) ≡ tail g e) × (0 < length (right_path (left_face g outer e))) × (first (right_path (left_face g outer e)) ≡ e)
  low_is e c le lc ic pc =
      let perm : Permutes (darts g) (phi g) = perm_st g s t outer st in
      let d : ℕ = 2 * e in
      let ld : d < darts g = omega arith in
      let f : ℕ = left_face g outer e in
      let rp : List ℕ = right_path f in
      let r : (x : ℕ) × (k : ℕ) × (p : ℕ) × (x < darts g) × SameOrbit (phi g) d x × TwoRuns (phi g) is_out x k p = face_runs g s t outer st d ld in
      let x_is : r.0 ≡ d = sym (turn_up_is g s t outer st d r.0 r.1 r.2 c ld r.3 r.4 r.5 lc (face-same g s t outer st c d lc (1, pc)) ic (ap is_out pc ∙ is_out-tail e)) ∙ pc in
      let path : IsSidePath g (λ e'. left_face g outer e' ≡ f) (low f) (high f) rp = sides.right_is f (left_face-below g s t outer st e le) in
      let i : (i : ℕ) × (i < length rp) × (get_or rp i 0 ≡ e) = path.has.each e le refl in
      elim (cases_eq i.0 0) [
        | inl z ↦
            let e0 : get_or rp 0 0 ≡ e = ap (λ k. get_or rp k 0) (sym z) ∙ i.2 in
            (sym (walk-first g (low f) (high f) rp path.walk (omega (arith, i.1))) ∙ ap (tail g) e0, omega (arith, i.1), e0)
        | inr n ↦
            let e0 : ℕ = get_or rp 0 0 in
            let h0 : (e0 < edges g) × (left_face g outer e0 ≡ f) = path.has.only 0 (omega (arith, i.1)) in
            let s0 : SameOrbit (phi g) r.0 (2 * e0) = orbit-trans (phi g) r.0 d (2 * e0) (orbit-sym (darts g) (phi g) perm d r.0 ld r.4)
            (same_orbit g s t outer st d (2 * e0) ld (omega (arith, h0.0)) (sym (left_face-apart g s t outer st e0 e h0.0 le h0.1))) in
            let j : (j : ℕ) × (j < r.2) × (iterate j (phi g) r.0 ≡ 2 * e0) =
            turn_covers (darts g) (phi g) perm r.0 r.2 (2 * e0) (omega (arith, r.5.more)) r.5.back s0 in
            elim (cases_lt j.0 r.1) [
              | inr m ↦ absurd (both_ways (is_out (2 * e0)) (ap is_out (sym j.2) ∙ r.5.then j.0 m j.1) (is_out-tail e0))
              | inl m ↦
                  let up : IsWalk g (at g r.0) (forward j.0 (phi g) r.0) (at g (iterate j.0 (phi g) r.0)) =
                  forward_walk g st.orders st.ends_in j.0 r.0 r.3 (λ i' li'. r.5.first i' (omega arith)) in
                  let from : at g r.0 ≡ tail g e = ap (at g) x_is ∙ at-tail g e in
                  let to : at g (iterate j.0 (phi g) r.0) ≡ low f = ap (at g) j.2 ∙ at-tail g e0 ∙ walk-first g (low f) (high f) rp path.walk (omega (arith, i.1)) in
                  let up' : IsWalk g (tail g e) (forward j.0 (phi g) r.0) (low f) =
                  subst (λ z. IsWalk g z (forward j.0 (phi g) r.0) (low f)) from (subst (λ z. IsWalk g (at g r.0) (forward j.0 (phi g) r.0) z) to up) in
                  let down : IsWalk g (low f) (take i.0 rp) (tail g e) =
                  subst (λ z. IsWalk g (low f) (take i.0 rp) (tail g z)) i.2 (walk-take g (low f) (high f) rp i.0 path.walk i.1) in
                  absurd (no_return g st.no_cycle (low f) (tail g e) (take i.0 rp) (forward j.0 (phi g) r.0) down up' (omega (arith, length-take i.0 rp, i.1)))
            ]
      ]

  -- The face that turns down after 2e has its highest vertex there, and e is the last edge of its right path.
  pub high_is : (e : ℕ) → e < edges g → is_out (phi g (2 * e)) ≡ false
      → (high (left_face g outer e) ≡ head g e) × (0 < length (right_path (left_face g outer e))) × (last (right_path (left_face g outer e)) ≡ e)
  high_is e le oc =
      let perm : Permutes (darts g) (phi g) = perm_st g s t outer st in
      let d : ℕ = 2 * e in
      let ld : d < darts g = omega arith in
      let f : ℕ = left_face g outer e in
      let rp : List ℕ = right_path f in
      let r : (x : ℕ) × (k : ℕ) × (p : ℕ) × (x < darts g) × SameOrbit (phi g) d x × TwoRuns (phi g) is_out x k p = face_runs g s t outer st d ld in
      let y_is : phi g d ≡ iterate r.1 (phi g) r.0 = turn_down_is g s t outer st d r.0 r.1 r.2 d ld r.3 r.4 r.5 ld refl (is_out-tail e) oc in
      let at_y : at g (iterate r.1 (phi g) r.0) ≡ head g e =
      ap (at g) (sym y_is) ∙ at-phi g st.orders (at_st g s t outer st) d ld ∙ ap (at g) (twin-tail e) ∙ at-head g e in
      let path : IsSidePath g (λ e'. left_face g outer e' ≡ f) (low f) (high f) rp = sides.right_is f (left_face-below g s t outer st e le) in
      let i : (i : ℕ) × (i < length rp) × (get_or rp i 0 ≡ e) = path.has.each e le refl in
      elim (cases_lt (suc i.0) (length rp)) [
        | inr m ↦
            let z : suc i.0 ≡ length rp = omega (arith, i.1) in (
              sym (walk-last g (low f) (high f) rp i.0 path.walk z) ∙ ap (head g) i.2,
              omega (arith, i.1),
              ap (λ k. get_or rp k 0) (let q : length rp - 1 ≡ i.0 = omega arith in q) ∙ i.2,
            )
        | inl n ↦
            let e1 : ℕ = get_or rp (length rp - 1) 0 in
            let h1 : (e1 < edges g) × (left_face g outer e1 ≡ f) = path.has.only (length rp - 1) (omega arith) in
            let s1 : SameOrbit (phi g) r.0 (2 * e1) = orbit-trans (phi g) r.0 d (2 * e1) (orbit-sym (darts g) (phi g) perm d r.0 ld r.4)
            (same_orbit g s t outer st d (2 * e1) ld (omega (arith, h1.0)) (sym (left_face-apart g s t outer st e1 e h1.0 le h1.1))) in
            let j : (j : ℕ) × (j < r.2) × (iterate j (phi g) r.0 ≡ 2 * e1) =
            turn_covers (darts g) (phi g) perm r.0 r.2 (2 * e1) (omega (arith, r.5.more)) r.5.back s1 in
            elim (cases_lt j.0 r.1) [
              | inr m ↦ absurd (both_ways (is_out (2 * e1)) (ap is_out (sym j.2) ∙ r.5.then j.0 m j.1) (is_out-tail e1))
              | inl m ↦
                  let z : ℕ = iterate (suc j.0) (phi g) r.0 in
                  let lz : z < darts g = iterate-stays (darts g) (phi g) perm (suc j.0) r.0 r.3 in
                  let at_z : at g z ≡ high f =
                  ap (λ q. at g (phi g q)) j.2 ∙ at-phi g st.orders (at_st g s t outer st) (2 * e1) (omega (arith, h1.0)) ∙ ap (at g) (twin-tail e1) ∙ at-head g e1
                  ∙ walk-last g (low f) (high f) rp (length rp - 1) path.walk (omega arith) in
                  let on : iterate (r.1 - suc j.0) (phi g) z ≡ iterate r.1 (phi g) r.0 =
                  sym (iterate-add (r.1 - suc j.0) (suc j.0) (phi g) r.0) ∙ steps (phi g) r.0 ((r.1 - suc j.0) + suc j.0) r.1 (omega arith) in
                  let up : IsWalk g (at g z) (forward (r.1 - suc j.0) (phi g) z) (at g (iterate (r.1 - suc j.0) (phi g) z)) =
                  forward_walk g st.orders st.ends_in (r.1 - suc j.0) z lz (λ i' li'. ap is_out (sym (iterate-add i' (suc j.0) (phi g) r.0)) ∙ r.5.first (i' + suc j.0) (omega arith)) in
                  let up' : IsWalk g (high f) (forward (r.1 - suc j.0) (phi g) z) (head g e) =
                  subst (λ w. IsWalk g w (forward (r.1 - suc j.0) (phi g) z) (head g e)) at_z
                  (subst (λ w. IsWalk g (at g z) (forward (r.1 - suc j.0) (phi g) z) w) (ap (at g) on ∙ at_y) up) in
                  let down : IsWalk g (head g e) (drop (suc i.0) rp) (high f) =
                  subst (λ w. IsWalk g (head g w) (drop (suc i.0) rp) (high f)) i.2 (walk-drop g (low f) (high f) rp i.0 path.walk i.1) in
                  absurd (no_return g st.no_cycle (head g e) (high f) (drop (suc i.0) rp) (forward (r.1 - suc j.0) (phi g) z) down up' (omega (arith, length-drop (suc i.0) rp)))
            ]
      ]

  vertex_in : (e : ℕ) → e < edges g → (tail g e < g.vertices) × (head g e < g.vertices)
  vertex_in = st.ends_in

  outs_next : (v i : ℕ) → v < g.vertices → i + 1 < length (outs v)
      → Between g outer (get_or (outs v) i 0) (get_or (outs v) (i + 1) 0) × (low (right_face g outer (get_or (outs v) i 0)) ≡ v)
  outs_next v i lv li =
      let perm : Permutes (darts g) (phi g) = perm_st g s t outer st in
      let e : ℕ = get_or (outs v) i 0 in
      let e' : ℕ = get_or (outs v) (i + 1) 0 in
      let he : (e < edges g) × (tail g e ≡ v) = out_there v i lv (omega arith) in
      let he' : (e' < edges g) × (tail g e' ≡ v) = out_there v (i + 1) lv li in
      let nx : next g (2 * e) ≡ 2 * e' = (sides.outs_are v lv).follow i li in
      let c : ℕ = 2 * e + 1 in
      let lc : c < darts g = omega (arith, he.0) in
      let pc : phi g c ≡ 2 * e' = phi-head g e ∙ nx in
      let fr : face g (2 * e + 1) ≡ face g (2 * e') = face-right g s t outer st e he.0 ∙ ap (face g) nx in
      let n : face g (2 * e') ≢ face g outer = λ q.
      let oc : is_out (phi g c) ≡ true = ap is_out pc ∙ is_out-tail e' in
      let vs : v ≡ s = sym he'.1 ∙ sym (at-tail g e') ∙ ap (at g) (sym pc) ∙ (outer_up g s t outer st c c lc lc (fr ∙ q) (fr ∙ q) (is_out-head e) oc (is_out-head e) oc).1 in
      let e0 : ℕ = get_or (outs v) 0 0 in
      let h0 : (e0 < edges g) × (tail g e0 ≡ v) = out_there v 0 lv (omega arith) in
      let f0 : face g (2 * e0) ≡ face g outer = (sides.outs_are v lv).begins_s vs (omega arith) in
      let b : (c : ℕ) × (c < darts g) × (phi g c ≡ 2 * e0) × SameOrbit (phi g) (2 * e0) c = before (darts g) (phi g) perm (2 * e0) (omega (arith, h0.0)) in
      let tw : is_out (twin b.0) ≡ true = out_at_s g s t outer st (twin b.0) (twin-below (edges g) b.0 b.1)
      (sym (at-phi g st.orders (at_st g s t outer st) b.0 b.1) ∙ ap (at g) b.2 ∙ at-tail g e0 ∙ h0.1 ∙ vs) in
      let same : phi g c ≡ phi g b.0 = (outer_up g s t outer st c b.0 lc b.1 (fr ∙ q)
      (sym (face-same g s t outer st (2 * e0) b.0 (omega (arith, h0.0)) b.3) ∙ f0) (is_out-head e) oc
      (not-in (is_out b.0) (sym (is_out-twin b.0) ∙ tw)) (ap is_out b.2 ∙ is_out-tail e0)).0 in
      let index : i + 1 ≡ 0 = one_index (outs v) (sides.outs_are v lv).has.once (i + 1) 0 li (omega arith) (omega (arith, pc, same, b.2)) in
      omega arith in
      let rl : (right_face g outer e ≡ left_face g outer e') × (0 < left_face g outer e') × (right_face g outer e < faces g) = right-left g s t outer st e e' he.0 fr n in (
        record { one = rl.0; positive = omega (arith, rl.0, rl.1); below = rl.2 },
        ap low rl.0 ∙ (low_is e' c he'.0 lc (is_out-head e) pc).0 ∙ he'.1,
      )
    where
      not-in : (b : Bool) → not b ≡ true → b ≡ false
      not-in true h = sym h
      not-in false h = refl

  ins_next : (v i : ℕ) → v < g.vertices → i + 1 < length (ins v)
      → Between g outer (get_or (ins v) i 0) (get_or (ins v) (i + 1) 0) × (high (right_face g outer (get_or (ins v) i 0)) ≡ v)
  ins_next v i lv li =
      let perm : Permutes (darts g) (phi g) = perm_st g s t outer st in
      let a : ℕ = get_or (ins v) i 0 in
      let b : ℕ = get_or (ins v) (i + 1) 0 in
      let ha : (a < edges g) × (head g a ≡ v) = in_there v i lv (omega arith) in
      let hb : (b < edges g) × (head g b ≡ v) = in_there v (i + 1) lv li in
      let nx : next g (2 * b + 1) ≡ 2 * a + 1 = (sides.ins_are v lv).follow i li in
      let c : ℕ = 2 * b in
      let lc : c < darts g = omega (arith, hb.0) in
      let pc : phi g c ≡ 2 * a + 1 = phi-tail g b ∙ nx in
      let fl : face g (2 * b) ≡ face g (2 * a + 1) = face-left g s t outer st b hb.0 ∙ ap (face g) nx in
      let oc : is_out (phi g c) ≡ false = ap is_out pc ∙ is_out-head a in
      let n : face g (2 * b) ≢ face g outer = λ q.
      let vt : v ≡ t = sym ha.1 ∙ sym (at-head g a) ∙ ap (at g) (sym pc) ∙ (outer_down g s t outer st c c lc lc q q (is_out-tail b) oc (is_out-tail b) oc).1 in
      let m : ℕ = length (ins v) - 1 in
      let e0 : ℕ = get_or (ins v) m 0 in
      let h0 : (e0 < edges g) × (head g e0 ≡ v) = in_there v m lv (omega arith) in
      let f0 : face g (2 * e0 + 1) ≡ face g outer = (sides.ins_are v lv).ends_t vt (omega arith) in
      let w : (c : ℕ) × (c < darts g) × (phi g c ≡ 2 * e0 + 1) × SameOrbit (phi g) (2 * e0 + 1) c = before (darts g) (phi g) perm (2 * e0 + 1) (omega (arith, h0.0)) in
      let tw : is_out (twin w.0) ≡ false = in_at_t g s t outer st (twin w.0) (twin-below (edges g) w.0 w.1)
      (sym (at-phi g st.orders (at_st g s t outer st) w.0 w.1) ∙ ap (at g) w.2 ∙ at-head g e0 ∙ h0.1 ∙ vt) in
      let same : phi g c ≡ phi g w.0 = (outer_down g s t outer st c w.0 lc w.1 q
      (sym (face-same g s t outer st (2 * e0 + 1) w.0 (omega (arith, h0.0)) w.3) ∙ f0) (is_out-tail b) oc
      (not-out (is_out w.0) (sym (is_out-twin w.0) ∙ tw)) (ap is_out w.2 ∙ is_out-head e0)).0 in
      let index : i ≡ m = one_index (ins v) (sides.ins_are v lv).has.once i m (omega arith) (omega arith) (omega (arith, pc, same, w.2)) in
      omega arith in
      let rl : (right_face g outer a ≡ left_face g outer b) × (0 < left_face g outer b) × (right_face g outer a < faces g) = right-left g s t outer st a b ha.0 (sym fl) n in (
        record { one = rl.0; positive = omega (arith, rl.0, rl.1); below = rl.2 },
        ap high rl.0 ∙ (high_is b hb.0 oc).0 ∙ hb.1,
      )
    where
      not-out : (b : Bool) → not b ≡ false → b ≡ true
      not-out true h = refl
      not-out false h = sym h

  pub some_out : (v : ℕ) → v < g.vertices → v ≢ t → 0 < length (outs v)
  some_out v lv n =
      let d : (d : ℕ) × (d < darts g) × (at g d ≡ v) × (is_out d ≡ true) = end_out g s t outer st v lv n in
      omega (arith, (out_place v d.0 lv d.1 d.2 d.3).1)

  pub some_in : (v : ℕ) → v < g.vertices → v ≢ s → 0 < length (ins v)
  some_in v lv n =
      let d : (d : ℕ) × (d < darts g) × (at g d ≡ v) × (is_out d ≡ false) = end_in g s t outer st v lv n in
      omega (arith, (in_place v d.0 lv d.1 d.2 d.3).1)

  left_one : (v : ℕ) → v < g.vertices → v ≢ s → v ≢ t → left_face g outer (first (outs v)) ≡ left_face g outer (first (ins v))
  left_one v lv ns nt =
      let h : (get_or (ins v) 0 0 < edges g) × (head g (get_or (ins v) 0 0) ≡ v) = in_there v 0 lv (some_in v lv ns) in
      elim (after_ins v lv (some_in v lv ns)) [
        | inl w ↦ sym (left_face-same g s t outer st (get_or (ins v) 0 0) (get_or (outs v) 0 0) (face-left g s t outer st (get_or (ins v) 0 0) h.0 ∙ ap (face g) w.1))
        | inr w ↦ absurd (both_ways (is_out (next g (2 * get_or (ins v) 0 0 + 1))) w.0 ((sides.ins_are v lv).begins nt (some_in v lv ns)))
      ]

  right_one : (v : ℕ) → v < g.vertices → v ≢ s → v ≢ t → right_face g outer (last (outs v)) ≡ right_face g outer (last (ins v))
  right_one v lv ns nt =
      let pos : 0 < length (outs v) = some_out v lv nt in
      let h : (last (outs v) < edges g) × (tail g (last (outs v)) ≡ v) = out_there v (length (outs v) - 1) lv (omega arith) in
      elim (after_outs v (length (outs v) - 1) lv (omega arith)) [
        | inl w ↦ absurd (both_ways (is_out (2 * last (outs v))) ((sides.outs_are v lv).begins ns pos (2 * last (outs v)) (omega (arith, h.0)) w.1) (is_out-tail (last (outs v))))
        | inr w ↦ right_face-same g s t outer st (last (outs v)) (last (ins v)) (face-right g s t outer st (last (outs v)) h.0 ∙ ap (face g) w.1)
      ]

  pub left_s : left_face g outer (first (outs s)) ≡ 0
  left_s = left_face-outer g s t outer st (first (outs s))
      ((sides.outs_are s st.source.there).begins_s refl (some_out s st.source.there (poles_apart g s t outer st)))

  right_s : right_face g outer (last (outs s)) ≡ faces g
  right_s =
      let ls : s < g.vertices = st.source.there in
      let pos : 0 < length (outs s) = some_out s ls (poles_apart g s t outer st) in
      let h : (last (outs s) < edges g) × (tail g (last (outs s)) ≡ s) = out_there s (length (outs s) - 1) ls (omega arith) in
      elim (after_outs s (length (outs s) - 1) ls (omega arith)) [
        | inl w ↦ right_face-outer g s t outer st (last (outs s))
            (face-right g s t outer st (last (outs s)) h.0 ∙ ap (face g) w.1 ∙ (sides.outs_are s ls).begins_s refl pos)
        | inr w ↦ absurd (let i : (get_or (ins s) 0 0 < edges g) × (head g (get_or (ins s) 0 0) ≡ s) = in_there s 0 ls w.0 in st.source.none_in (get_or (ins s) 0 0) i.0 i.1)
      ]

  pub right_t : right_face g outer (last (ins t)) ≡ faces g
  right_t = right_face-outer g s t outer st (last (ins t))
      ((sides.ins_are t st.sink.there).ends_t refl (some_in t st.sink.there (λ e. poles_apart g s t outer st (sym e))))

  left_t : left_face g outer (first (ins t)) ≡ 0
  left_t =
      let lt : t < g.vertices = st.sink.there in
      let pos : 0 < length (ins t) = some_in t lt (λ e. poles_apart g s t outer st (sym e)) in
      let h : (first (ins t) < edges g) × (head g (first (ins t)) ≡ t) = in_there t 0 lt pos in
      elim (after_ins t lt pos) [
        | inl w ↦ absurd (let i : (get_or (outs t) 0 0 < edges g) × (tail g (get_or (outs t) 0 0) ≡ t) = out_there t 0 lt w.0 in st.sink.none_out (get_or (outs t) 0 0) i.0 i.1)
        | inr w ↦ left_face-outer g s t outer st (first (ins t))
            (face-left g s t outer st (first (ins t)) h.0 ∙ ap (face g) w.1 ∙ (sides.ins_are t lt).ends_t refl pos)
      ]

  pub at_vertices : AtVertices g s t outer outs ins low high
  at_vertices = record {
    outs_next = outs_next;
    ins_next = ins_next;
    some_out = some_out;
    some_in = some_in;
    left_one = left_one;
    right_one = right_one;
    left_s = left_s;
    right_s = right_s;
    left_t = left_t;
    right_t = right_t;
  }
