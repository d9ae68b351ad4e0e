-- A graph whose ends have got other numbers: faces and lists stay.
use Rattle.std.proofs.Common.{◌≡◌, ℕ, zero, suc, ◌+◌, ◌*◌, ◌<◌, ◌≤◌, Bool, true, false, cond, eqb, inl, inr, List, [], ◌∷◌, map, length, get_or, refl, sym, ap, ◌∙◌, subst, arith}
use Rattle.std.specs.List.{range_with_len}
use Rattle.std.proofs.lemmas.List.{length-map, get_or-map, get_or_past}
use Rattle.std.proofs.lemmas.List.FromFn.{get_or-map-range_with_len, length-range_with_len}
use Rattle.std.proofs.lemmas.Bool.{eq-eqb, ne_eqb, cases_eq, cases_lt, cases_Bool, cond-true, cond-false}
use Rattle.st_map.specs.Orbits.{iterate, Permutes}
use Rattle.st_ids.specs.Ends.{edge_of, twin}
use Rattle.st_ids.specs.Graph.{HasEnds, tail_of, head_of}
use Rattle.st_map.specs.Embedded.{Embedded, HasOrders, Touches, after, at, bare, darts, edges, face, faces, head, next, order, phi, tail}
use Rattle.st_map.proofs.Public.{iterate-stays, orbit-trans, even_or_odd, at-tail, at-head, edge_of-tail, edge_of-head, edge_of-twin, twin-twin, twin-tail, twin-head, twin-below, phi-permutes, at_below}
use Rattle.st_bipolar.specs.Orientation.{turned_end, turned, IsTurned}
use Rattle.st_ids.specs.Undirected.{Joins}
use Rattle.st_bipolar.proofs.RootLemmas.{roots, fewer}

-- the ends of g with the numbers that q gives them are the ends of h, and i takes them back
pub record Renumbers (g h : Embedded) (q i : ℕ → ℕ) : Type 0 where
  pub count : edges h ≡ edges g
  pub into : (d : ℕ) → d < darts g → q d < darts g
  pub back_into : (d : ℕ) → d < darts g → i (q d) ≡ d
  pub back_in : (d : ℕ) → d < darts g → i d < darts g
  pub into_back : (d : ℕ) → d < darts g → q (i d) ≡ d
  pub at_same : (d : ℕ) → d < darts g → at h (q d) ≡ at g d
  pub phi_same : (d : ℕ) → d < darts g → phi h (q d) ≡ q (phi g d)

module _ (g h : Embedded) (q i : ℕ → ℕ) (R : Renumbers g h q i) (pg : Permutes (darts g) (phi g)) (ph : Permutes (darts h) (phi h)) where
  n_same : darts h ≡ darts g
  n_same = ap (λ e. 2 * e) R.count

  ph' : Permutes (darts g) (phi h)
  ph' = subst (λ n. Permutes n (phi h)) n_same ph

  phi_back : (d : ℕ) → d < darts g → phi g (i d) ≡ i (phi h d)
  phi_back d l =
      let l' : i d < darts g = R.back_in d l in
      let k : phi g (i d) < darts g = pg.stays (i d) l' in
      sym (R.back_into (phi g (i d)) k) ∙ ap i (sym (R.phi_same (i d) l')) ∙ ap (λ z. i (phi h z)) (R.into_back d l)

  orbit_on : (k d : ℕ) → d < darts g → iterate k (phi h) (q d) ≡ q (iterate k (phi g) d)
  orbit_on zero d l = refl
  orbit_on (suc k) d l = ap (phi h) (orbit_on k d l) ∙ R.phi_same (iterate k (phi g) d) (iterate-stays (darts g) (phi g) pg k d l)

  orbit_back : (k d : ℕ) → d < darts g → iterate k (phi g) (i d) ≡ i (iterate k (phi h) d)
  orbit_back zero d l = refl
  orbit_back (suc k) d l = ap (phi g) (orbit_back k d l) ∙ phi_back (iterate k (phi h) d) (iterate-stays (darts g) (phi h) ph' k d l)

  pub faces_same : faces h ≡ faces g
  unfolding faces face
  faces_same =
      let a : roots (darts g) (phi g) ≤ roots (darts g) (phi h) = fewer (darts g) (darts g) (phi g) (phi h) pg ph' i (record {
        into = R.back_in;
        steps = λ x l. (1, phi_back x l);
        onto = λ y l. (q y, R.into y l, (0, R.back_into y l));
      }) in
      let b : roots (darts g) (phi h) ≤ roots (darts g) (phi g) = fewer (darts g) (darts g) (phi h) (phi g) ph' pg q (record {
        into = R.into;
        steps = λ x l. (1, R.phi_same x l);
        onto = λ y l. (i y, R.back_in y l, (0, R.into_back y l));
      }) in
      let c : roots (darts h) (phi h) ≡ roots (darts g) (phi h) = ap (λ n. roots n (phi h)) n_same in
      omega arith

  pub touches_on : (f v : ℕ) → f < darts g → Touches g f v → Touches h (q f) v
  touches_on f v l T = (
    q T.0,
    (T.1.0, orbit_on T.1.0 f l ∙ ap q T.1.1),
    R.at_same T.0 (Rattle.st_map.proofs.Public.orbit-stays (darts g) (phi g) pg f T.0 l T.1) ∙ T.2,
  )

  pub touches_back : (f v : ℕ) → f < darts g → Touches h (q f) v → Touches g f v
  touches_back f v l T =
      let k : T.0 < darts g = Rattle.st_map.proofs.Public.orbit-stays (darts g) (phi h) ph' (q f) T.0 (R.into f l) T.1 in (
        i T.0,
        (T.1.0, ap (iterate T.1.0 (phi g)) (sym (R.back_into f l)) ∙ orbit_back T.1.0 (q f) (R.into f l) ∙ ap i T.1.1),
        sym (R.at_same (i T.0) (R.back_in T.0 k)) ∙ ap (at h) (R.into_back T.0 k) ∙ T.2,
      )

-- ---- edges turned
-- lists whose entries have got other numbers
pub after-map : (q : ℕ → ℕ) → ((c d : ℕ) → q c ≡ q d → c ≡ d) → (first : ℕ) (l : List ℕ) (d : ℕ) → after (q first) (map q l) (q d) ≡ q (after first l d)
after-map q one first [] d = refl
after-map q one first (x ∷ xs) d = elim (cases_eq x d) [
  | inl e ↦
      cond-true (eqb (q x) (q d)) (get_or (map q xs) 0 (q first)) (after (q first) (map q xs) (q d)) (eq-eqb (q x) (q d) (ap q e))
      ∙ head_of xs
      ∙ ap q (sym (cond-true (eqb x d) (get_or xs 0 first) (after first xs d) (eq-eqb x d e)))
  | inr e ↦
      cond-false (eqb (q x) (q d)) (get_or (map q xs) 0 (q first)) (after (q first) (map q xs) (q d)) (ne_eqb (q x) (q d) (λ z. e (one x d z)))
      ∙ after-map q one first xs d
      ∙ ap q (sym (cond-false (eqb x d) (get_or xs 0 first) (after first xs d) (ne_eqb x d e)))
]
  where
    head_of : (xs : List ℕ) → get_or (map q xs) 0 (q first) ≡ q (get_or xs 0 first)
    head_of [] = refl
    head_of (y ∷ ys) = refl

pub first-map : (q : ℕ → ℕ) (l : List ℕ) (d : ℕ) → get_or (map q l) 0 (q d) ≡ q (get_or l 0 d)
first-map q [] d = refl
first-map q (y ∷ ys) d = refl

pub lists-map : (q : ℕ → ℕ) (os : List (List ℕ)) (v : ℕ) → get_or (map (λ ds. map q ds) os) v [] ≡ map q (get_or os v [])
lists-map q os v = elim (cases_lt v (length os)) [
  | inl l ↦ get_or-map (λ ds. map q ds) os v [] [] l
  | inr l ↦ get_or_past (map (λ ds. map q ds) os) v [] (let e : length (map (λ ds. map q ds) os) ≡ length os = length-map os (λ ds. map q ds) in omega arith) ∙ ap (map q) (sym (get_or_past os v [] l))
]

-- the graph that `turned` makes
pub turned_is : (g : Embedded) (b : ℕ → Bool) → IsTurned g (turned g b) b
unfolding tail_of head_of
turned_is g b =
    let f : ℕ → ℕ × ℕ = λ e. cond (b e) (head g e, tail g e) (tail g e, head g e) in
    let at : (e : ℕ) → e < edges g → get_or (turned g b).ends e (0, 0) ≡ cond (b e) (head g e, tail g e) (tail g e, head g e) =
    λ e l. get_or-map-range_with_len (λ e. cond (b e) (head g e, tail g e) (tail g e, head g e)) 0 (edges g) e e (0, 0) l (omega arith) in
    record {
      vertices = refl;
      count = length-map (range_with_len 0 (edges g)) (λ e. cond (b e) (head g e, tail g e) (tail g e, head g e)) ∙ length-range_with_len 0 (edges g);
      tails = λ e l. ap (λ (p : ℕ × ℕ). p.0) (at e l) ∙ first (b e) (head g e) (tail g e);
      heads = λ e l. ap (λ (p : ℕ × ℕ). p.1) (at e l) ∙ second (b e) (head g e) (tail g e);
      orders = λ v l. lists-map (turned_end b) g.orders v;
    }
  where
    first : (c : Bool) (x y : ℕ) → (cond {A = ℕ × ℕ} c (x, y) (y, x)).0 ≡ cond c x y
    first true x y = refl
    first false x y = refl

    second : (c : Bool) (x y : ℕ) → (cond {A = ℕ × ℕ} c (x, y) (y, x)).1 ≡ cond c y x
    second true x y = refl
    second false x y = refl

module _ (g : Embedded) (b : ℕ → Bool) (h : Embedded) (T : IsTurned g h b) where
  unfoldable pub q : ℕ → ℕ
  q d = turned_end b d

  q_kept : (d : ℕ) → b (edge_of d) ≡ false → q d ≡ d
  unfolding q
  q_kept d e = cond-false (b (edge_of d)) (twin d) d e

  q_turned : (d : ℕ) → b (edge_of d) ≡ true → q d ≡ twin d
  unfolding q
  q_turned d e = cond-true (b (edge_of d)) (twin d) d e

  pub q_edge : (d : ℕ) → edge_of (q d) ≡ edge_of d
  q_edge d = elim (cases_Bool (b (edge_of d))) [
    | inl e ↦ ap edge_of (q_turned d e) ∙ edge_of-twin d
    | inr e ↦ ap edge_of (q_kept d e)
  ]

  pub q_q : (d : ℕ) → q (q d) ≡ d
  q_q d = elim (cases_Bool (b (edge_of d))) [
    | inl e ↦ q_turned (q d) (ap b (q_edge d) ∙ e) ∙ ap twin (q_turned d e) ∙ twin-twin d
    | inr e ↦ q_kept (q d) (ap b (q_edge d) ∙ e) ∙ q_kept d e
  ]

  q_one : (c d : ℕ) → q c ≡ q d → c ≡ d
  q_one c d e = sym (q_q c) ∙ ap q e ∙ q_q d

  q_twin : (d : ℕ) → twin (q d) ≡ q (twin d)
  q_twin d = elim (cases_Bool (b (edge_of d))) [
    | inl e ↦ ap twin (q_turned d e) ∙ sym (q_turned (twin d) (ap b (edge_of-twin d) ∙ e))
    | inr e ↦ ap twin (q_kept d e) ∙ sym (q_kept (twin d) (ap b (edge_of-twin d) ∙ e))
  ]

  pub q_in : (d : ℕ) → d < darts g → q d < darts g
  q_in d l = elim (cases_Bool (b (edge_of d))) [
    | inl e ↦ (let k : q d ≡ twin d = q_turned d e in let m : twin d < 2 * edges g = twin-below (edges g) d l in omega arith)
    | inr e ↦ (let k : q d ≡ d = q_kept d e in omega arith)
  ]

  pub edges_h : edges h ≡ edges g
  edges_h = T.count

  pub turned_ends : (e : ℕ) → e < edges g → b e ≡ true → (tail h e ≡ head g e) × (head h e ≡ tail g e)
  turned_ends e l c = (T.tails e l ∙ cond-true (b e) (head g e) (tail g e) c, T.heads e l ∙ cond-true (b e) (tail g e) (head g e) c)

  pub kept_ends : (e : ℕ) → e < edges g → b e ≡ false → (tail h e ≡ tail g e) × (head h e ≡ head g e)
  kept_ends e l c = (T.tails e l ∙ cond-false (b e) (head g e) (tail g e) c, T.heads e l ∙ cond-false (b e) (tail g e) (head g e) c)

  at_h : (d : ℕ) → d < darts g → at h (q d) ≡ at g d
  at_h d l = elim (even_or_odd d) [
    | inl r ↦
        let k : r.0 < edges g = (let z : d ≡ 2 * r.0 = r.1 in omega arith) in
        let ed : edge_of d ≡ r.0 = ap edge_of r.1 ∙ edge_of-tail r.0 in
        elim (cases_Bool (b r.0)) [
          | inl e ↦ ap (at h) (q_turned d (ap b ed ∙ e) ∙ ap twin r.1 ∙ twin-tail r.0) ∙ at-head h r.0 ∙ (turned_ends r.0 k e).1 ∙ sym (ap (at g) r.1 ∙ at-tail g r.0)
          | inr e ↦ ap (at h) (q_kept d (ap b ed ∙ e) ∙ r.1) ∙ at-tail h r.0 ∙ (kept_ends r.0 k e).0 ∙ sym (ap (at g) r.1 ∙ at-tail g r.0)
        ]
    | inr r ↦
        let k : r.0 < edges g = (let z : d ≡ 2 * r.0 + 1 = r.1 in omega arith) in
        let ed : edge_of d ≡ r.0 = ap edge_of r.1 ∙ edge_of-head r.0 in
        elim (cases_Bool (b r.0)) [
          | inl e ↦ ap (at h) (q_turned d (ap b ed ∙ e) ∙ ap twin r.1 ∙ twin-head r.0) ∙ at-tail h r.0 ∙ (turned_ends r.0 k e).0 ∙ sym (ap (at g) r.1 ∙ at-head g r.0)
          | inr e ↦ ap (at h) (q_kept d (ap b ed ∙ e) ∙ r.1) ∙ at-head h r.0 ∙ (kept_ends r.0 k e).1 ∙ sym (ap (at g) r.1 ∙ at-head g r.0)
        ]
  ]

  order_h : (v : ℕ) → v < g.vertices → order h v ≡ map q (order g v)
  unfolding q
  order_h v l = T.orders v l

  next_h : HasEnds (bare g) → (d : ℕ) → d < darts g → next h (q d) ≡ q (next g d)
  unfolding next
  next_h E d l =
      ap (λ u. after (get_or (order h u) 0 (q d)) (order h u) (q d)) (at_h d l)
      ∙ ap (λ os. after (get_or os 0 (q d)) os (q d)) (order_h (at g d) (at_below g E d l))
      ∙ ap (λ f. after f (map q (order g (at g d))) (q d)) (first-map q (order g (at g d)) d)
      ∙ after-map q q_one (get_or (order g (at g d)) 0 d) (order g (at g d)) d

  phi_h : HasEnds (bare g) → (d : ℕ) → d < darts g → phi h (q d) ≡ q (phi g d)
  unfolding phi
  phi_h E d l = ap (next h) (q_twin d) ∙ next_h E (twin d) (twin-below (edges g) d l)

  pub renumbers : HasEnds (bare g) → Renumbers g h q q
  renumbers E = record {
    count = edges_h;
    into = q_in;
    back_into = λ d l. q_q d;
    back_in = q_in;
    into_back = λ d l. q_q d;
    at_same = at_h;
    phi_same = phi_h E;
  }

  pub ends_in_h : HasEnds (bare g) → HasEnds (bare h)
  ends_in_h E e l =
      let k : e < edges g = (let z : edges h ≡ edges g = edges_h in omega arith) in
      subst (λ n. (tail h e < n) × (head h e < n)) (sym T.vertices) (elim (cases_Bool (b e)) [
        | inl c ↦ (let w = turned_ends e k c in let p = E e k in (subst (λ z. z < g.vertices) (sym w.0) p.1, subst (λ z. z < g.vertices) (sym w.1) p.0))
        | inr c ↦ (let w = kept_ends e k c in let p = E e k in (subst (λ z. z < g.vertices) (sym w.0) p.0, subst (λ z. z < g.vertices) (sym w.1) p.1))
      ])

  place_h : (v j : ℕ) → v < g.vertices → j < length (order g v) → get_or (order h v) j 0 ≡ q (get_or (order g v) j 0)
  place_h v j lv l = ap (λ os. get_or os j 0) (order_h v lv) ∙ get_or-map q (order g v) j 0 0 l

  length_h : (v : ℕ) → v < g.vertices → length (order h v) ≡ length (order g v)
  length_h v lv = ap length (order_h v lv) ∙ length-map (order g v) q

  pub orders_h : HasEnds (bare g) → HasOrders g → HasOrders h
  orders_h E O = record {
    own = λ v j lh l.
        let lv : v < g.vertices = (let z : h.vertices ≡ g.vertices = T.vertices in omega arith) in
        let k : j < length (order g v) = (let z : length (order h v) ≡ length (order g v) = length_h v lv in omega arith) in
        let o : (get_or (order g v) j 0 < darts g) × (at g (get_or (order g v) j 0) ≡ v) = O.own v j lv k in
        let e : get_or (order h v) j 0 ≡ q (get_or (order g v) j 0) = place_h v j lv k in
        let m : q (get_or (order g v) j 0) < darts g = q_in (get_or (order g v) j 0) o.0 in
        let z : edges h ≡ edges g = edges_h in
        (omega arith, ap (at h) e ∙ at_h (get_or (order g v) j 0) o.0 ∙ o.1);
    listed = λ d l.
        let k : d < darts g = (let z : edges h ≡ edges g = edges_h in omega arith) in
        let m : q d < darts g = q_in d k in
        let o : (j : ℕ) × (j < length (order g (at g (q d)))) × (get_or (order g (at g (q d))) j 0 ≡ q d) = O.listed (q d) m in
        let v : at h d ≡ at g (q d) = ap (at h) (sym (q_q d)) ∙ at_h (q d) m in
        let lv : at g (q d) < g.vertices = at_below g E (q d) m in
        let n : length (order h (at h d)) ≡ length (order g (at g (q d))) = ap (λ u. length (order h u)) v ∙ length_h (at g (q d)) lv in
        let j : o.0 < length (order g (at g (q d))) = o.1 in
        (o.0, omega arith, ap (λ u. get_or (order h u) o.0 0) v ∙ place_h (at g (q d)) o.0 lv o.1 ∙ ap q o.2 ∙ q_q d);
    once = λ v j k lh jk l e.
        let lv : v < g.vertices = (let z : h.vertices ≡ g.vertices = T.vertices in omega arith) in
        let z : length (order h v) ≡ length (order g v) = length_h v lv in
        O.once v j k lv jk (omega arith) (q_one (get_or (order g v) j 0) (get_or (order g v) k 0) (sym (place_h v j lv (omega arith)) ∙ e ∙ place_h v k lv (omega arith)));
  }

  -- the turned edge joins the same vertices
  pub joins_h : (e : ℕ) → e < edges g → Joins (bare g) e (tail h e) (head h e)
  joins_h e l = elim (cases_Bool (b e)) [
    | inl c ↦ (let w = turned_ends e l c in record { arc = l; ends = inr (sym w.0, sym w.1) })
    | inr c ↦ (let w = kept_ends e l c in record { arc = l; ends = inl (sym w.0, sym w.1) })
  ]

  module _ (E : HasEnds (bare g)) (O : HasOrders g) where
    perm_g : Permutes (darts g) (phi g)
    perm_g = phi-permutes g O (at_below g E)

    perm_h : Permutes (darts h) (phi h)
    perm_h = phi-permutes h (orders_h E O) (at_below h (ends_in_h E))

    pub turned_faces : faces h ≡ faces g
    turned_faces = faces_same g h q q (renumbers E) perm_g perm_h

    pub turned_touches : (f v : ℕ) → f < darts g → Touches g f v → Touches h (q f) v
    turned_touches = touches_on g h q q (renumbers E) perm_g perm_h

    pub touches_turned : (f v : ℕ) → f < darts g → Touches h (q f) v → Touches g f v
    touches_turned = touches_back g h q q (renumbers E) perm_g perm_h
