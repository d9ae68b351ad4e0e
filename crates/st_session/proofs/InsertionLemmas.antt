-- A new edge between two corners.
use Rattle.std.proofs.Common.{◌≡◌, ◌≢◌, ℕ, suc, ◌+◌, ◌*◌, ◌<◌, ◌≤◌, List, ◌⊎◌, inl, inr, sym, ap, ◌∙◌, subst, arith}
use Rattle.std.proofs.lemmas.Bool.{cases_eq, cases_lt}
use Rattle.std.specs.Prelude.{◌↔◌}
use Rattle.st_ids.specs.Ends.{twin}
use Rattle.st_ids.specs.Graph.{HasEnds, arcs_of}
use Rattle.st_ids.specs.Walks.{Walk, stay, step, Reaches, IsAcyclic}
use Rattle.st_ids.proofs.Public.{reach_arc, reach_refl, reach_trans, walk_from}
use Rattle.st_map.specs.Orbits.{Permutes, SameOrbit, least_within}
use Rattle.st_map.specs.Embedded.{Embedded, bare, edges, darts, tail, head, at, next, phi, faces, Touches}
use Rattle.st_map.specs.Insert.{insert, InsertsEdge, InsertLaw}
use Rattle.st_map.proofs.Public.{at_below, next-permutes, orbit-stays, orbit-sym, orbit-trans, phi-permutes, root-same, same-from_root, twin-apart, twin-below, twin-head, twin-tail, twin-twin}
use Rattle.st_test.specs.Planar.{IsPlanarSt}
use Rattle.st_test.specs.Poles.{IsOnlySource, IsOnlySink}
use Rattle.st_sides.proofs.Public.{euler_bound_law, perm_st, phi-twin}
use Rattle.st_session.proofs.RootLemmas.{roots}
use Rattle.st_session.specs.Editing.{CornersMeet, IsOuterCorner, IsSomePlanarSt, InsertionLaw}
use Rattle.st_session.proofs.JointLemmas.{Joint, off, no_more, one_more_face}
use Rattle.st_session.proofs.CommonLemmas.{faces_are, at_kept, from_source, to_sink}

module _ (g h : Embedded) (s t outer p q : ℕ) (st : IsPlanarSt g s t outer) (I : InsertsEdge g h p q) where
  darts_h : darts h ≡ suc (suc (darts g))
  darts_h = (let e : edges h ≡ suc (edges g) = I.count in omega arith)

  at_same : (d : ℕ) → d < darts g → at h d ≡ at g d
  at_same = at_kept g h I.tail_old I.head_old

  last : (e : ℕ) → e < edges h → (e < edges g) ⊎ (e ≡ edges g)
  last e l = elim (cases_lt e (edges g)) [ inl k ↦ inl k | inr k ↦ inr (let z : edges h ≡ suc (edges g) = I.count in omega arith) ]

  old_in : (e : ℕ) → e < edges g → e < edges h
  old_in e l = (let z : edges h ≡ suc (edges g) = I.count in omega arith)

  new_in : edges g < edges h
  new_in = (let z : edges h ≡ suc (edges g) = I.count in omega arith)

  in_h : (v : ℕ) → v < g.vertices → v < h.vertices
  in_h v l = subst (λ z. v < z) (sym I.vertices) l

  ends : HasEnds (bare h)
  ends e l = elim (last e l) [
    | inl k ↦ (subst (λ z. z < h.vertices) (sym (I.tail_old e k)) (in_h (tail g e) (st.ends_in e k).0), subst (λ z. z < h.vertices) (sym (I.head_old e k)) (in_h (head g e) (st.ends_in e k).1))
    | inr k ↦ (
      subst (λ z. z < h.vertices) (sym (ap (tail h) k ∙ I.tail_new)) (in_h (at g p) (at_below g st.ends_in p I.p_in)),
      subst (λ z. z < h.vertices) (sym (ap (head h) k ∙ I.head_new)) (in_h (at g q) (at_below g st.ends_in q I.q_in)),
    )
  ]

  pg : Permutes (darts g) (phi g)
  pg = perm_st g s t outer st

  ph : Permutes (suc (suc (darts g))) (phi h)
  ph = subst (λ n. Permutes n (phi h)) darts_h (phi-permutes h I.orders (at_below h ends))

  phi_is : (d : ℕ) → phi h d ≡ next h (twin d)
  phi_is d = ap (phi h) (sym (twin-twin d)) ∙ phi-twin h (twin d)

  phi_g : (d : ℕ) → phi g d ≡ next g (twin d)
  phi_g d = ap (phi g) (sym (twin-twin d)) ∙ phi-twin g (twin d)

  joint : p ≢ q → Joint (darts g) (phi g) (phi h) (twin p) (twin q)
  joint d = record {
    a_in = twin-below (edges g) p I.p_in;
    b_in = twin-below (edges g) q I.q_in;
    differ = λ e. d (twin-apart p q e);
    from_a = phi-twin h p ∙ I.next_p;
    from_n = phi_is (darts g) ∙ ap (next h) (twin-tail (edges g) ∙ (let e : 2 * edges g + 1 ≡ suc (darts g) = omega arith in e)) ∙ I.next_head ∙ sym (phi-twin g q);
    from_b = phi-twin h q ∙ I.next_q;
    from_m = phi_is (suc (darts g)) ∙ ap (λ z. next h (twin z)) (let e : suc (darts g) ≡ 2 * edges g + 1 = omega arith in e) ∙ ap (next h) (twin-head (edges g)) ∙ I.next_tail ∙ sym (phi-twin g p);
    rest = λ x l na nb. phi_is x ∙ I.next_old (twin x) (twin-below (edges g) x l) (λ e. na (sym (twin-twin x) ∙ ap twin e)) (λ e. nb (sym (twin-twin x) ∙ ap twin e)) ∙ sym (phi_g x);
  }

  -- ---- walks
  walk_up : {u v : ℕ} {es : List ℕ} → Walk (arcs_of (bare g)) u es v → Walk (arcs_of (bare h)) u es v
  walk_up (stay z) = stay z
  walk_up (step {e = e} i f w) = step (old_in e i) (I.tail_old e i ∙ f) (walk_from (sym (I.head_old e i)) (walk_up w))

  -- a walk without the new edge, or over it
  cut : {u v : ℕ} {es : List ℕ} → Walk (arcs_of (bare h)) u es v → Walk (arcs_of (bare g)) u es v ⊎ (Reaches (arcs_of (bare g)) u (at g p) × Reaches (arcs_of (bare g)) (at g q) v)
  cut (stay z) = inl (stay z)
  cut {u} {v} (step {e = e} {es = es} i f w) = elim (last e i) [
    | inl k ↦ elim (cut w) [
      | inl r ↦ inl (step k (sym (I.tail_old e k) ∙ f) (walk_from (I.head_old e k) r))
      | inr r ↦ inr (reach_trans (reach_refl (sym f ∙ I.tail_old e k)) (reach_trans (reach_arc e k) (reach_trans (reach_refl (sym (I.head_old e k))) r.0)), r.1)
    ]
    | inr k ↦
        let start : Reaches (arcs_of (bare g)) u (at g p) = reach_refl (sym f ∙ ap (tail h) k ∙ I.tail_new) in
        elim (cut w) [
          | inl r ↦ inr (start, record { way = es; walk = walk_from (ap (head h) k ∙ I.head_new) r })
          | inr r ↦ inr (start, r.1)
        ]
  ]

  -- ---- it is refused
  cycle : Reaches (arcs_of (bare g)) (at g q) (at g p) → (s' t' o : ℕ) → IsPlanarSt h s' t' o → ⊥
  cycle r s' t' o st' = st'.no_cycle (at g p) (edges g) r.way (step new_in I.tail_new (walk_from (sym I.head_new) (walk_up r.walk)))

  to_next : (d : ℕ) → SameOrbit (phi g) (twin d) (next g d)
  to_next d = (1, phi-twin g d)

  two_faces : (SameOrbit (phi g) (next g p) (next g q) → ⊥) → (s' t' o : ℕ) → IsPlanarSt h s' t' o → ⊥
  two_faces n s' t' o st' =
      let d : p ≢ q = λ e. n (0, ap (next g) e) in
      let ia : twin p < darts g = twin-below (edges g) p I.p_in in
      let apart : SameOrbit (phi g) (twin p) (twin q) → ⊥ = λ z. n (orbit-trans (phi g) (next g p) (twin p) (next g q) (orbit-sym (darts g) (phi g) pg (twin p) (next g p) ia (to_next p)) (orbit-trans (phi g) (twin p) (twin q) (next g q) z (to_next q))) in
      let k : roots (suc (suc (darts g))) (phi h) ≤ roots (darts g) (phi g) = no_more (darts g) (phi g) (phi h) (twin p) (twin q) pg ph (joint d) apart in
      let fg : faces g ≡ roots (darts g) (phi g) = faces_are g in
      let fh : faces h ≡ roots (suc (suc (darts g))) (phi h) = faces_are h ∙ ap (λ n. roots n (phi h)) darts_h in
      let eg : g.vertices + faces g ≡ edges g + 2 = st.euler in
      let eh : h.vertices + faces h ≡ edges h + 2 = st'.euler in
      let v : h.vertices ≡ g.vertices = I.vertices in
      let c : edges h ≡ suc (edges g) = I.count in
      omega arith

  -- ---- it is accepted
  accepted : SameOrbit (phi g) (next g p) (next g q) → (SameOrbit (phi g) outer (next g p) → ⊥) → (Reaches (arcs_of (bare g)) (at g q) (at g p) → ⊥) → IsPlanarSt h s t outer
  accepted one inner open_ =
      let d : p ≢ q = λ e. open_ (reach_refl (sym (ap (at g) e))) in
      let ia : twin p < darts g = twin-below (edges g) p I.p_in in
      let ib : twin q < darts g = twin-below (edges g) q I.q_in in
      let J = joint d in
      let same : SameOrbit (phi g) (twin p) (twin q) =
      orbit-trans (phi g) (twin p) (next g p) (twin q) (to_next p) (orbit-trans (phi g) (next g p) (next g q) (twin q) one (orbit-sym (darts g) (phi g) pg (twin q) (next g q) ib (to_next q))) in
      let no_cycle : IsAcyclic (arcs_of (bare h)) = λ u e es w. elim (cut w) [
        | inl r ↦ st.no_cycle u e es r
        | inr r ↦ open_ (reach_trans r.1 r.0)
      ] in
      let source : IsOnlySource (bare h) s = record {
        there = in_h s st.source.there;
        none_in = λ e l z. elim (last e l) [
          | inl k ↦ st.source.none_in e k (sym (I.head_old e k) ∙ z)
          | inr k ↦
              open_ (reach_trans (reach_refl (sym I.head_new ∙ ap (head h) (sym k) ∙ z)) (from_source g s t outer st (at g p) (at_below g st.ends_in p I.p_in)))
        ];
        only = λ v l none. st.source.only v (subst (λ z. v < z) I.vertices l) (λ e k z. none e (old_in e k) (I.head_old e k ∙ z));
      } in
      let sink : IsOnlySink (bare h) t = record {
        there = in_h t st.sink.there;
        none_out = λ e l z. elim (last e l) [
          | inl k ↦ st.sink.none_out e k (sym (I.tail_old e k) ∙ z)
          | inr k ↦
              open_ (reach_trans (to_sink g s t outer st (at g q) (at_below g st.ends_in q I.q_in)) (reach_refl (sym z ∙ ap (tail h) k ∙ I.tail_new)))
        ];
        only = λ v l none. st.sink.only v (subst (λ z. v < z) I.vertices l) (λ e k z. none e (old_in e k) (I.tail_old e k ∙ z));
      } in
      let m : roots (darts g) (phi g) + 1 ≤ roots (suc (suc (darts g))) (phi h) = one_more_face (darts g) (phi g) (phi h) (twin p) (twin q) pg ph J same in
      let fg : faces g ≡ roots (darts g) (phi g) = faces_are g in
      let fh : faces h ≡ roots (suc (suc (darts g))) (phi h) = faces_are h ∙ ap (λ n. roots n (phi h)) darts_h in
      let eg : g.vertices + faces g ≡ edges g + 2 = st.euler in
      let b : h.vertices + faces h ≤ edges h + 2 = euler_bound_law h s t (record { ends_in = ends; no_cycle = no_cycle; source = source; sink = sink; orders = I.orders }) in
      let v : h.vertices ≡ g.vertices = I.vertices in
      let c : edges h ≡ suc (edges g) = I.count in
      let euler : h.vertices + faces h ≡ edges h + 2 = omega arith in
      let lo : outer < darts g = st.outer_in in
      let na : (z : ℕ) → SameOrbit (phi g) outer z → z ≢ twin p = λ z r e. inner (orbit-trans (phi g) outer (twin p) (next g p) (subst (λ w. SameOrbit (phi g) outer w) e r) (to_next p)) in
      let nb : (z : ℕ) → SameOrbit (phi g) outer z → z ≢ twin q = λ z r e. inner (orbit-trans (phi g) outer (twin q) (next g p) (subst (λ w. SameOrbit (phi g) outer w) e r) (orbit-trans (phi g) (twin q) (twin p) (next g p) (orbit-sym (darts g) (phi g) pg (twin p) (twin q) ia same) (to_next p))) in
      let touch : (v : ℕ) → Touches g outer v → Touches h outer v = λ v T. (
        T.0,
        off (darts g) (phi g) (phi h) (twin p) (twin q) pg ph J outer st.outer_in na nb T.0 T.1,
        at_same T.0 (orbit-stays (darts g) (phi g) pg outer T.0 st.outer_in T.1) ∙ T.2,
      ) in
      record {
        ends_in = ends;
        two = subst (λ z. 2 ≤ z) (sym I.vertices) st.two;
        no_cycle = no_cycle;
        source = source;
        sink = sink;
        orders = I.orders;
        euler = euler;
        outer_in = (let z : darts h ≡ suc (suc (darts g)) = darts_h in omega arith);
        outer_s = touch s st.outer_s;
        outer_t = touch t st.outer_t;
      }

  next_in : (d : ℕ) → d < darts g → next g d < darts g
  next_in d l = (next-permutes g st.orders (at_below g st.ends_in)).stays d l

  one_face : (SameOrbit (phi g) (next g p) (next g q) → ⊥) ⊎ SameOrbit (phi g) (next g p) (next g q)
  one_face = elim (cases_eq (least_within (darts g) (phi g) (next g p)) (least_within (darts g) (phi g) (next g q))) [
    | inl e ↦ inr (same-from_root (darts g) (phi g) pg (next g p) (next g q) (next_in p I.p_in) (next_in q I.q_in) e)
    | inr d ↦ inl (λ r. d (root-same (darts g) (phi g) pg (next g p) (next g q) (next_in p I.p_in) r))
  ]

  exact : (IsOuterCorner g outer p → ⊥) → IsSomePlanarSt h ↔ (CornersMeet g p q × (Reaches (arcs_of (bare g)) (at g q) (at g p) → ⊥))
  exact inner = (
    (λ w. (elim one_face [ inl n ↦ absurd (two_faces n w.0 w.1 w.2 w.3) | inr r ↦ r ], (λ r. cycle r w.0 w.1 w.2 w.3))),
    (λ w. (s, t, outer, accepted w.0 inner w.1)),
  )

pub insertion_law : InsertLaw → InsertionLaw
insertion_law insert_law g s t outer p q st lp lq d =
    let I : InsertsEdge g (insert g p q) p q = (insert_law g p q (record { ends = st.ends_in; orders = st.orders }) lp lq (λ e. d (ap (at g) e))).0 in
    record {
      accepted = accepted g (insert g p q) s t outer p q st I;
      cycle = λ r w. cycle g (insert g p q) s t outer p q st I r w.0 w.1 w.2 w.3;
      two_faces = λ n w. two_faces g (insert g p q) s t outer p q st I n w.0 w.1 w.2 w.3;
      exact = exact g (insert g p q) s t outer p q st I;
    }
