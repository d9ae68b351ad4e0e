-- An edge of a planar st-graph, split by a new vertex.
use Rattle.std.proofs.Common.{◌≡◌, ◌≢◌, ℕ, zero, suc, ◌+◌, ◌*◌, ◌<◌, ◌≤◌, cond, eqb, ◌⊎◌, inl, inr, refl, sym, ap, ◌∙◌, subst, arith}
use Rattle.std.proofs.lemmas.Bool.{cases_eq, cases_lt, eq-eqb, ne_eqb, cond-true, cond-false}
use Rattle.st_ids.specs.Ends.{twin}
use Rattle.st_ids.specs.Graph.{HasEnds, arcs_of}
use Rattle.st_ids.specs.Walks.{IsAcyclic}
use Rattle.st_map.specs.Orbits.{iterate, Permutes, SameOrbit}
use Rattle.st_map.specs.Embedded.{Embedded, bare, edges, darts, tail, head, at, next, phi, face, faces, Touches}
use Rattle.st_map.specs.Split.{moved, split, SplitsEdge}
use Rattle.st_map.proofs.Public.{orbit-trans, orbit-sym, orbit-stays, orbit-refl, iterate-stays, even_or_odd, at_below, at-tail, at-head, twin-twin, twin-below, twin-tail, twin-head, phi-permutes, split_law}
use Rattle.st_test.specs.Planar.{IsPlanarSt}
use Rattle.st_test.specs.Poles.{IsOnlySource, IsOnlySink}
use Rattle.st_sides.proofs.Public.{perm_st, phi-twin, euler_bound_law}
use Rattle.st_reduce.specs.Reduced.{KeepsPlanar, PlanarSplitLaw}
use Rattle.st_reduce.proofs.RootLemmas.{roots, Projects, fewer}
use Rattle.st_reduce.proofs.ArcLemmas.{SplitsArc, SplitKeeps, split_keeps}

faces_are : (g : Embedded) → faces g ≡ roots (darts g) (phi g)
unfolding faces face
faces_are g = refl

-- a new number taken back to the one before it
unfoldable pub back : ℕ → ℕ → ℕ → ℕ → ℕ
back n a b x = cond (eqb x n) a (cond (eqb x (suc n)) b x)

pub back_old : (n a b x : ℕ) → x < n → back n a b x ≡ x
unfolding back
back_old n a b x l = cond-false (eqb x n) a (cond (eqb x (suc n)) b x) (ne_eqb x n (λ e. omega arith)) ∙ cond-false (eqb x (suc n)) b x (ne_eqb x (suc n) (λ e. omega arith))

pub back_n : (n a b x : ℕ) → x ≡ n → back n a b x ≡ a
unfolding back
back_n n a b x e = cond-true (eqb x n) a (cond (eqb x (suc n)) b x) (eq-eqb x n e)

pub back_m : (n a b x : ℕ) → x ≡ suc n → back n a b x ≡ b
unfolding back
back_m n a b x e = cond-false (eqb x n) a (cond (eqb x (suc n)) b x) (ne_eqb x n (λ k. omega arith)) ∙ cond-true (eqb x (suc n)) b x (eq-eqb x (suc n) e)

pub which : (n x : ℕ) → x < suc (suc n) → (x < n) ⊎ ((x ≡ n) ⊎ (x ≡ suc n))
which n x l = elim (cases_lt x n) [
  | inl k ↦ inl k
  | inr k ↦ elim (cases_eq x n) [ inl e ↦ inr (inl e) | inr e ↦ inr (inr (omega arith)) ]
]

module _ (g h : Embedded) (s t outer e : ℕ) (st : IsPlanarSt g s t outer) (I : SplitsEdge g h e) where
  darts_h : darts h ≡ suc (suc (darts g))
  darts_h = (let z : edges h ≡ suc (edges g) = I.count in omega arith)

  last : (f : ℕ) → f < edges h → (f < edges g) ⊎ (f ≡ edges g)
  last f l = elim (cases_lt f (edges g)) [ inl k ↦ inl k | inr k ↦ inr (let z : edges h ≡ suc (edges g) = I.count in omega arith) ]

  old_in : (f : ℕ) → f < edges g → f < edges h
  old_in f l = (let z : edges h ≡ suc (edges g) = I.count in omega arith)

  new_in : edges g < edges h
  new_in = (let z : edges h ≡ suc (edges g) = I.count in omega arith)

  in_h : (v : ℕ) → v < g.vertices → v < h.vertices
  in_h v l = (let z : h.vertices ≡ suc g.vertices = I.vertices in omega arith)

  new_vertex : g.vertices < h.vertices
  new_vertex = (let z : h.vertices ≡ suc g.vertices = I.vertices in omega arith)

  ends : HasEnds (bare h)
  ends f l = elim (last f l) [
    | inl k ↦ (
      subst (λ z. z < h.vertices) (sym (I.tail_old f k)) (in_h (tail g f) (st.ends_in f k).0),
      elim (cases_eq f e) [
        | inl q ↦ subst (λ z. z < h.vertices) (sym (ap (head h) q ∙ I.head_split)) new_vertex
        | inr n ↦ subst (λ z. z < h.vertices) (sym (I.head_old f k n)) (in_h (head g f) (st.ends_in f k).1)
      ],
    )
    | inr k ↦ (
      subst (λ z. z < h.vertices) (sym (ap (tail h) k ∙ I.tail_new)) new_vertex,
      subst (λ z. z < h.vertices) (sym (ap (head h) k ∙ I.head_new)) (in_h (head g e) (st.ends_in e I.there).1),
    )
  ]

  pg : Permutes (darts g) (phi g)
  pg = perm_st g s t outer st

  ph : Permutes (suc (suc (darts g))) (phi h)
  ph = subst (λ n. Permutes n (phi h)) darts_h (phi-permutes h I.orders (at_below h ends))

  phi_is : (d : ℕ) → phi h d ≡ next h (twin d)
  phi_is d = ap (phi h) (sym (twin-twin d)) ∙ phi-twin h (twin d)

  phi_g : (d : ℕ) → phi g d ≡ next g (twin d)
  phi_g d = ap (phi g) (sym (twin-twin d)) ∙ phi-twin g (twin d)

  n : ℕ
  n = darts g

  in_e : 2 * e + 1 < darts g
  in_e = (let k : e < edges g = I.there in omega arith)

  moved_kept : (d : ℕ) → d ≢ 2 * e + 1 → moved g e d ≡ d
  moved_kept d k = cond-false (eqb d (2 * e + 1)) (suc (darts g)) d (ne_eqb d (2 * e + 1) k)

  moved_end : moved g e (2 * e + 1) ≡ suc (darts g)
  moved_end = cond-true (eqb (2 * e + 1) (2 * e + 1)) (suc (darts g)) (2 * e + 1) (eq-eqb (2 * e + 1) (2 * e + 1) refl)

  B : ℕ → ℕ
  B x = back (darts g) (2 * e) (2 * e + 1) x

  back_moved : (d : ℕ) → d < darts g → back (darts g) (2 * e) (2 * e + 1) (moved g e d) ≡ d
  back_moved d l = elim (cases_eq d (2 * e + 1)) [
    | inl q ↦ ap (λ z. back (darts g) (2 * e) (2 * e + 1) (moved g e z)) q ∙ back_m (darts g) (2 * e) (2 * e + 1) (moved g e (2 * e + 1)) moved_end ∙ sym q
    | inr k ↦ ap (back (darts g) (2 * e) (2 * e + 1)) (moved_kept d k) ∙ back_old (darts g) (2 * e) (2 * e + 1) d l
  ]

  -- what phi is after
  phi_split : phi h (2 * e) ≡ darts g
  phi_split = phi_is (2 * e) ∙ ap (next h) (twin-tail e) ∙ I.next_in

  phi_old : (x : ℕ) → x < darts g → x ≢ 2 * e → phi h x ≡ moved g e (phi g x)
  phi_old x l k =
      let m : twin x ≢ 2 * e + 1 = λ q. k (sym (twin-twin x) ∙ ap twin q ∙ twin-head e) in
      phi_is x ∙ ap (next h) (sym (moved_kept (twin x) m)) ∙ I.next_old (twin x) (twin-below (edges g) x l) ∙ ap (moved g e) (sym (phi_g x))

  phi_new : phi h (darts g) ≡ moved g e (phi g (2 * e))
  phi_new =
      phi_is (darts g) ∙ ap (next h) (twin-tail (edges g) ∙ (let z : 2 * edges g + 1 ≡ suc (darts g) = omega arith in z) ∙ sym moved_end)
      ∙ I.next_old (2 * e + 1) in_e ∙ ap (λ z. moved g e (next g z)) (sym (twin-tail e)) ∙ ap (moved g e) (sym (phi_g (2 * e)))

  phi_last : phi h (suc (darts g)) ≡ 2 * e + 1
  phi_last = phi_is (suc (darts g)) ∙ ap (λ z. next h (twin z)) (let z : suc (darts g) ≡ 2 * edges g + 1 = omega arith in z) ∙ ap (next h) (twin-head (edges g)) ∙ I.next_out

  stays_g : (x : ℕ) → x < darts g → phi g x < darts g
  stays_g x l = pg.stays x l

  projects : Projects (darts g) (suc (suc (darts g))) (phi g) (phi h) (back (darts g) (2 * e) (2 * e + 1))
  projects = record {
    into = λ x l. elim (which (darts g) x l) [
      | inl k ↦ (let z : back (darts g) (2 * e) (2 * e + 1) x ≡ x = back_old (darts g) (2 * e) (2 * e + 1) x k in omega arith)
      | inr w ↦ elim w [
        | inl q ↦ (let z : back (darts g) (2 * e) (2 * e + 1) x ≡ 2 * e = back_n (darts g) (2 * e) (2 * e + 1) x q in let k : 2 * e + 1 < darts g = in_e in omega arith)
        | inr q ↦ (let z : back (darts g) (2 * e) (2 * e + 1) x ≡ 2 * e + 1 = back_m (darts g) (2 * e) (2 * e + 1) x q in let k : 2 * e + 1 < darts g = in_e in omega arith)
      ]
    ];
    steps = λ x l. elim (which (darts g) x l) [
      | inl k ↦ elim (cases_eq x (2 * e)) [
        | inl q ↦ (0, back_old (darts g) (2 * e) (2 * e + 1) x k ∙ q ∙ sym (back_n (darts g) (2 * e) (2 * e + 1) (phi h x) (ap (phi h) q ∙ phi_split)))
        | inr d ↦ (1, ap (phi g) (back_old (darts g) (2 * e) (2 * e + 1) x k) ∙ sym (back_moved (phi g x) (stays_g x k)) ∙ ap (back (darts g) (2 * e) (2 * e + 1)) (sym (phi_old x k d)))
      ]
      | inr w ↦ elim w [
        | inl q ↦ (1, ap (phi g) (back_n (darts g) (2 * e) (2 * e + 1) x q) ∙ sym (back_moved (phi g (2 * e)) (stays_g (2 * e) (let k : 2 * e + 1 < darts g = in_e in omega arith))) ∙ ap (back (darts g) (2 * e) (2 * e + 1)) (sym (ap (phi h) q ∙ phi_new)))
        | inr q ↦ (0, back_m (darts g) (2 * e) (2 * e + 1) x q ∙ sym (back_old (darts g) (2 * e) (2 * e + 1) (2 * e + 1) in_e) ∙ ap (back (darts g) (2 * e) (2 * e + 1)) (sym (ap (phi h) q ∙ phi_last)))
      ]
    ];
    onto = λ y l. (y, omega arith, (0, back_old (darts g) (2 * e) (2 * e + 1) y l));
  }

  -- old ends of one face stay together
  pub from_moved : (d : ℕ) → SameOrbit (phi h) (moved g e d) d
  from_moved d = elim (cases_eq d (2 * e + 1)) [
    | inl q ↦ (1, ap (λ z. phi h (moved g e z)) q ∙ ap (phi h) moved_end ∙ phi_last ∙ sym q)
    | inr k ↦ (0, moved_kept d k)
  ]

  step_up : (x : ℕ) → x < darts g → SameOrbit (phi h) x (phi g x)
  step_up x l = elim (cases_eq x (2 * e)) [
    | inl q ↦ orbit-trans (phi h) x (moved g e (phi g x)) (phi g x) (2, ap (λ z. phi h (phi h z)) q ∙ ap (phi h) phi_split ∙ phi_new ∙ ap (λ z. moved g e (phi g z)) (sym q)) (from_moved (phi g x))
    | inr d ↦ orbit-trans (phi h) x (moved g e (phi g x)) (phi g x) (1, phi_old x l d) (from_moved (phi g x))
  ]

  pub orbit_up : (x y : ℕ) → x < darts g → SameOrbit (phi g) x y → SameOrbit (phi h) x y
  orbit_up x y l r = subst (λ z. SameOrbit (phi h) x z) r.1 (go r.0)
    where
      go : (k : ℕ) → SameOrbit (phi h) x (iterate k (phi g) x)
      go zero = orbit-refl (phi h) x
      go (suc k) = orbit-trans (phi h) x (iterate k (phi g) x) (phi g (iterate k (phi g) x)) (go k) (step_up (iterate k (phi g) x) (iterate-stays (darts g) (phi g) pg k x l))

  -- ---- reaching
  digraph_split : SplitsArc (arcs_of (bare g)) (arcs_of (bare h)) g.vertices e
  digraph_split = record {
    there = I.there;
    from_in = λ a l. (st.ends_in a l).0;
    to_in = λ a l. (st.ends_in a l).1;
    arcs = I.count;
    from_old = I.tail_old;
    to_old = I.head_old;
    to_split = I.head_split;
    from_new = I.tail_new;
    to_new = I.head_new;
  }

  pub digraph_law : SplitKeeps (arcs_of (bare g)) (arcs_of (bare h)) g.vertices e
  digraph_law = split_keeps (arcs_of (bare g)) (arcs_of (bare h)) g.vertices e digraph_split

  no_cycle : IsAcyclic (arcs_of (bare h))
  no_cycle = digraph_law.acyclic st.no_cycle

  source : IsOnlySource (bare h) s
  source = record {
    there = in_h s st.source.there;
    none_in = λ f l z. elim (last f l) [
      | inl k ↦ elim (cases_eq f e) [
        | inl q ↦ (let a : g.vertices ≡ s = sym I.head_split ∙ ap (head h) (sym q) ∙ z in let b : s < g.vertices = st.source.there in omega arith)
        | inr d ↦ st.source.none_in f k (sym (I.head_old f k d) ∙ z)
      ]
      | inr k ↦ st.source.none_in e I.there (sym I.head_new ∙ ap (head h) (sym k) ∙ z)
    ];
    only = λ v l none. elim (cases_lt v g.vertices) [
      | inl k ↦ st.source.only v k (λ f m z. elim (cases_eq f e) [
        | inl q ↦ none (edges g) new_in (I.head_new ∙ ap (head g) (sym q) ∙ z)
        | inr d ↦ none f (old_in f m) (I.head_old f m d ∙ z)
      ])
      | inr k ↦ (let a : v ≡ g.vertices = (let z : h.vertices ≡ suc g.vertices = I.vertices in omega arith) in absurd (none e (old_in e I.there) (I.head_split ∙ sym a)))
    ];
  }

  sink : IsOnlySink (bare h) t
  sink = record {
    there = in_h t st.sink.there;
    none_out = λ f l z. elim (last f l) [
      | inl k ↦ st.sink.none_out f k (sym (I.tail_old f k) ∙ z)
      | inr k ↦ (let a : g.vertices ≡ t = sym I.tail_new ∙ ap (tail h) (sym k) ∙ z in let b : t < g.vertices = st.sink.there in omega arith)
    ];
    only = λ v l none. elim (cases_lt v g.vertices) [
      | inl k ↦ st.sink.only v k (λ f m z. none f (old_in f m) (I.tail_old f m ∙ z))
      | inr k ↦ (let a : v ≡ g.vertices = (let z : h.vertices ≡ suc g.vertices = I.vertices in omega arith) in absurd (none (edges g) new_in (I.tail_new ∙ sym a)))
    ];
  }

  touch_s : Touches h outer s
  touch_s =
      let T : Touches g outer s = st.outer_s in
      let d : ℕ = T.0 in
      let l : d < darts g = orbit-stays (darts g) (phi g) pg outer d st.outer_in T.1 in
      elim (even_or_odd d) [
        | inl r ↦ (let k : r.0 < edges g = (let z : d ≡ 2 * r.0 = r.1 in omega arith) in
            (d, orbit_up outer d st.outer_in T.1, ap (at h) r.1 ∙ at-tail h r.0 ∙ I.tail_old r.0 k ∙ sym (at-tail g r.0) ∙ ap (at g) (sym r.1) ∙ T.2))
        | inr r ↦ (let k : r.0 < edges g = (let z : d ≡ 2 * r.0 + 1 = r.1 in omega arith) in
            absurd (st.source.none_in r.0 k (sym (at-head g r.0) ∙ ap (at g) (sym r.1) ∙ T.2)))
      ]

  touch_t : Touches h outer t
  touch_t =
      let T : Touches g outer t = st.outer_t in
      let d : ℕ = T.0 in
      let l : d < darts g = orbit-stays (darts g) (phi g) pg outer d st.outer_in T.1 in
      elim (even_or_odd d) [
        | inl r ↦ (let k : r.0 < edges g = (let z : d ≡ 2 * r.0 = r.1 in omega arith) in
            absurd (st.sink.none_out r.0 k (sym (at-tail g r.0) ∙ ap (at g) (sym r.1) ∙ T.2)))
        | inr r ↦
            let k : r.0 < edges g = (let z : d ≡ 2 * r.0 + 1 = r.1 in omega arith) in
            elim (cases_eq r.0 e) [
              | inr m ↦ (d, orbit_up outer d st.outer_in T.1, ap (at h) r.1 ∙ at-head h r.0 ∙ I.head_old r.0 k m ∙ sym (at-head g r.0) ∙ ap (at g) (sym r.1) ∙ T.2)
              | inl m ↦
                  let q : d ≡ 2 * e + 1 = r.1 ∙ ap (λ z. 2 * z + 1) m in
                  let a : SameOrbit (phi h) (suc (darts g)) d = (1, phi_last ∙ sym q) in
                  let b : SameOrbit (phi h) d (suc (darts g)) = orbit-sym (suc (suc (darts g))) (phi h) ph (suc (darts g)) d (omega arith) a in (
                    suc (darts g),
                    orbit-trans (phi h) outer d (suc (darts g)) (orbit_up outer d st.outer_in T.1) b,
                    ap (at h) (let z : suc (darts g) ≡ 2 * edges g + 1 = omega arith in z) ∙ at-head h (edges g) ∙ I.head_new ∙ ap (head g) (sym m) ∙ sym (at-head g r.0) ∙ ap (at g) (sym r.1) ∙ T.2,
                  )
            ]
      ]

  pub split_is : KeepsPlanar g h s t outer
  split_is =
      let m : roots (darts g) (phi g) ≤ roots (suc (suc (darts g))) (phi h) = fewer (darts g) (suc (suc (darts g))) (phi g) (phi h) pg ph (back (darts g) (2 * e) (2 * e + 1)) projects in
      let fg : faces g ≡ roots (darts g) (phi g) = faces_are g in
      let fh : faces h ≡ roots (suc (suc (darts g))) (phi h) = faces_are h ∙ ap (λ n. roots n (phi h)) darts_h in
      let eg : g.vertices + faces g ≡ edges g + 2 = st.euler in
      let b : h.vertices + faces h ≤ edges h + 2 = euler_bound_law h s t (record { ends_in = ends; no_cycle = no_cycle; source = source; sink = sink; orders = I.orders }) in
      let v : h.vertices ≡ suc g.vertices = I.vertices in
      let c : edges h ≡ suc (edges g) = I.count in
      let lo : outer < darts g = st.outer_in in
      let tw : 2 ≤ g.vertices = st.two in
      record {
        planar = record {
          ends_in = ends;
          two = omega arith;
          no_cycle = no_cycle;
          source = source;
          sink = sink;
          orders = I.orders;
          euler = omega arith;
          outer_in = omega arith;
          outer_s = touch_s;
          outer_t = touch_t;
        };
        reaches = digraph_law.reaches;
      }

pub split_planar : PlanarSplitLaw
split_planar g s t outer e st l = split_is g (split g e) s t outer e st (split_law g e (record { ends = st.ends_in; orders = st.orders }) l).0
