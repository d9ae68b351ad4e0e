-- An edge taken out, the last one taking its number.
use Rattle.std.proofs.Common.{◌≡◌, ◌≢◌, ℕ, zero, suc, ◌+◌, ◌-◌, ◌*◌, ◌<◌, ◌≤◌, cond, eqb, List, [], map, ◌⊎◌, inl, inr, refl, sym, ap, ◌∙◌, subst, arith}
use Rattle.std.proofs.lemmas.Bool.{cases_eq, eq-eqb, ne_eqb, cond-true, cond-false}
use Rattle.std.specs.Prelude.{◌↔◌}
use Rattle.st_ids.specs.Ends.{edge_of, twin}
use Rattle.st_ids.specs.Graph.{HasEnds, arcs_of}
use Rattle.st_ids.specs.Walks.{Walk, stay, step, IsAcyclic}
use Rattle.st_ids.proofs.Public.{IsDecided, some_below, walk_from}
use Rattle.st_map.specs.Orbits.{iterate, Permutes, SameOrbit}
use Rattle.st_map.specs.Embedded.{Embedded, bare, edges, darts, tail, head, at, next, phi, faces, Touches}
use Rattle.st_map.specs.Remove.{old_edge, exchanged, removed, RemovesEdge, RemoveLaw}
use Rattle.st_map.proofs.Public.{at-head, at-phi, at-tail, at_below, before, edge_of-head, edge_of-tail, even_or_odd, orbit-stays, orbit-step, orbit-sym, orbit-trans, phi-permutes, same_vertex, twin-below, twin-head, twin-tail, twin-twin}
use Rattle.st_session.proofs.ExchangeLemmas as exchange
use Rattle.st_test.specs.Planar.{IsPlanarSt}
use Rattle.st_test.specs.Poles.{IsOnlySource, IsOnlySink}
use Rattle.st_sides.proofs.Public.{euler_bound_law, perm_st, phi-twin}
use Rattle.st_session.proofs.RootLemmas.{roots, Projects, orbit_down, fewer, back, back_old, back_n, back_m}
use Rattle.st_session.specs.Editing.{OthersIn, OthersOut, IsSomePlanarSt, outer_after, RemovalLaw}
use Rattle.st_session.proofs.JointLemmas.{Joint, projects, one_more_at_most, same_from_count}
use Rattle.st_session.proofs.CommonLemmas.{faces_are}

end_of : (e d : ℕ) → edge_of d ≡ e → (d ≡ 2 * e) ⊎ (d ≡ 2 * e + 1)
end_of e d q = elim (even_or_odd d) [
  | inl r ↦ inl (r.1 ∙ ap (λ k. 2 * k) (sym (edge_of-tail r.0) ∙ ap edge_of (sym r.1) ∙ q))
  | inr r ↦ inr (r.1 ∙ ap (λ k. 2 * k + 1) (sym (edge_of-head r.0) ∙ ap edge_of (sym r.1) ∙ q))
]

-- what doesn't move stays
fixed : (f : ℕ → ℕ) (d : ℕ) → f d ≡ d → (k : ℕ) → iterate k f d ≡ d
fixed f d e zero = refl
fixed f d e (suc k) = ap f (fixed f d e k) ∙ e

module _ (g h : Embedded) (s t outer e : ℕ) (st : IsPlanarSt g s t outer) (I : RemovesEdge g h e) where
  e_in : e < suc (edges h)
  e_in = (let a : e < edges g = I.there in let b : edges g ≡ suc (edges h) = I.count in omega arith)

  abbrev X : ℕ → ℕ
  X d = exchange.X (edges h) e d

  abbrev ex : ℕ → ℕ
  ex k = exchange.ex (edges h) e k

  ex_ex : (k : ℕ) → ex (ex k) ≡ k
  ex_ex k = exchange.ex_ex (edges h) e k

  ex_not : (k : ℕ) → k < edges h → ex k ≢ e
  ex_not k l q = exchange.ex_not (edges h) e k l q

  old_is : (k : ℕ) → k < edges h → old_edge (edges h) e k ≡ ex k
  old_is k l = exchange.old_is (edges h) e k l

  X_tail : (k : ℕ) → X (2 * k) ≡ 2 * ex k
  X_tail k = exchange.X_tail (edges h) e k

  X_head : (k : ℕ) → X (2 * k + 1) ≡ 2 * ex k + 1
  X_head k = exchange.X_head (edges h) e k

  X_X : (d : ℕ) → X (X d) ≡ d
  X_X d = exchange.X_X (edges h) e d

  X_twin : (d : ℕ) → twin (X d) ≡ X (twin d)
  X_twin d = exchange.X_twin (edges h) e d

  X_edge : (d : ℕ) → edge_of (X d) ≡ ex (edge_of d)
  X_edge d = exchange.X_edge (edges h) e d

  X_e : X (2 * e) ≡ darts h
  X_e = exchange.X_e (edges h) e

  X_e' : X (2 * e + 1) ≡ suc (darts h)
  X_e' = exchange.X_e' (edges h) e

  X_n : X (darts h) ≡ 2 * e
  X_n = exchange.X_n (edges h) e

  X_m : X (suc (darts h)) ≡ 2 * e + 1
  X_m = exchange.X_m (edges h) e

  ex_in : (k : ℕ) → k < suc (edges h) → ex k < suc (edges h)
  ex_in k l = exchange.ex_in (edges h) e e_in k l

  ex_below : (k : ℕ) → k < suc (edges h) → k ≢ e → ex k < edges h
  ex_below k l n = exchange.ex_below (edges h) e e_in k l n

  X_in : (d : ℕ) → d < suc (suc (darts h)) → X d < suc (suc (darts h))
  X_in d l = exchange.X_in (edges h) e e_in d l

  X_below : (d : ℕ) → d < suc (suc (darts h)) → edge_of d ≢ e → X d < darts h
  X_below d l n = exchange.X_below (edges h) e e_in d l n

  m_is : darts g ≡ suc (suc (darts h))
  m_is = (let z : edges g ≡ suc (edges h) = I.count in omega arith)

  tail_ex : (k : ℕ) → k < edges h → tail h k ≡ tail g (ex k)
  tail_ex k l = I.tail_old k l ∙ ap (tail g) (old_is k l)

  head_ex : (k : ℕ) → k < edges h → head h k ≡ head g (ex k)
  head_ex k l = I.head_old k l ∙ ap (head g) (old_is k l)

  at_X : (d : ℕ) → d < darts h → at h d ≡ at g (X d)
  at_X d l = elim (even_or_odd d) [
    | inl r ↦ (let z : d ≡ 2 * r.0 = r.1 in ap (at h) r.1 ∙ at-tail h r.0 ∙ tail_ex r.0 (omega arith) ∙ sym (at-tail g (ex r.0)) ∙ ap (at g) (sym (ap X r.1 ∙ X_tail r.0)))
    | inr r ↦ (let z : d ≡ 2 * r.0 + 1 = r.1 in ap (at h) r.1 ∙ at-head h r.0 ∙ head_ex r.0 (omega arith) ∙ sym (at-head g (ex r.0)) ∙ ap (at g) (sym (ap X r.1 ∙ X_head r.0)))
  ]

  in_g : (k : ℕ) → k < edges h → ex k < edges g
  in_g k l = (let a : ex k < suc (edges h) = ex_in k (omega arith) in let b : edges g ≡ suc (edges h) = I.count in omega arith)

  ends : HasEnds (bare h)
  ends k l = (
    subst (λ z. z < h.vertices) (sym (tail_ex k l)) (subst (λ z. tail g (ex k) < z) (sym I.vertices) (st.ends_in (ex k) (in_g k l)).0),
    subst (λ z. z < h.vertices) (sym (head_ex k l)) (subst (λ z. head g (ex k) < z) (sym I.vertices) (st.ends_in (ex k) (in_g k l)).1),
  )

  pg : Permutes (suc (suc (darts h))) (phi g)
  pg = subst (λ n. Permutes n (phi g)) m_is (perm_st g s t outer st)

  ph : Permutes (darts h) (phi h)
  ph = phi-permutes h I.orders (at_below h ends)

  phi_h : (d : ℕ) → phi h d ≡ next h (twin d)
  phi_h d = ap (phi h) (sym (twin-twin d)) ∙ phi-twin h (twin d)

  phi_g : (d : ℕ) → phi g d ≡ next g (twin d)
  phi_g d = ap (phi g) (sym (twin-twin d)) ∙ phi-twin g (twin d)

  -- phi of g, the ends of e having the last numbers
  unfoldable H : ℕ → ℕ
  H x = X (phi g (X x))

  H_is : (x : ℕ) → H x ≡ X (phi g (X x))
  unfolding H
  H_is x = refl

  X_one : (c d : ℕ) → X c ≡ X d → c ≡ d
  X_one c d q = sym (X_X c) ∙ ap X q ∙ X_X d

  pH : Permutes (suc (suc (darts h))) H
  unfolding H
  pH = record {
    stays = λ d l. X_in (phi g (X d)) (pg.stays (X d) (X_in d l));
    apart = λ c d lc ld q. X_one c d (pg.apart (X c) (X d) (X_in c lc) (X_in d ld) (X_one (phi g (X c)) (phi g (X d)) q));
  }

  to_H : Projects (suc (suc (darts h))) (suc (suc (darts h))) H (phi g) X
  to_H = record {
    into = X_in;
    steps = λ x l. (1, H_is (X x) ∙ ap (λ z. X (phi g z)) (X_X x));
    onto = λ y l. (X y, X_in y l, (0, X_X y));
  }

  from_H : Projects (suc (suc (darts h))) (suc (suc (darts h))) (phi g) H X
  from_H = record {
    into = X_in;
    steps = λ x l. (1, sym (ap X (H_is x) ∙ X_X (phi g (X x))));
    onto = λ y l. (X y, X_in y l, (0, X_X y));
  }

  roots_H : roots (suc (suc (darts h))) H ≡ faces g
  roots_H =
      let a : roots (suc (suc (darts h))) H ≤ roots (suc (suc (darts h))) (phi g) = fewer (suc (suc (darts h))) (suc (suc (darts h))) H (phi g) pH pg X to_H in
      let b : roots (suc (suc (darts h))) (phi g) ≤ roots (suc (suc (darts h))) H = fewer (suc (suc (darts h))) (suc (suc (darts h))) (phi g) H pg pH X from_H in
      let c : faces g ≡ roots (suc (suc (darts h))) (phi g) = faces_are g ∙ ap (λ n. roots n (phi g)) m_is in
      omega arith

  in_m : (d : ℕ) → d < darts g → d < suc (suc (darts h))
  in_m d l = subst (λ z. d < z) m_is l

  in_g' : (d : ℕ) → d < suc (suc (darts h)) → d < darts g
  in_g' d l = subst (λ z. d < z) (sym m_is) l

  at_phi : (d : ℕ) → d < suc (suc (darts h)) → at g (phi g d) ≡ at g (twin d)
  at_phi d l = at-phi g st.orders (at_below g st.ends_in) d (in_g' d l)

  no_loop : tail g e ≢ head g e
  no_loop q = st.no_cycle (tail g e) e [] (step I.there refl (stay (sym q)))

  in_e : 2 * e < suc (suc (darts h))
  in_e = (let a : e < suc (edges h) = e_in in omega arith)

  in_e' : 2 * e + 1 < suc (suc (darts h))
  in_e' = (let a : e < suc (edges h) = e_in in omega arith)

  -- the edges of h are those of g
  no_cycle : IsAcyclic (arcs_of (bare h))
  no_cycle u f fs (step i k w) = st.no_cycle u (ex f) (map ex fs) (step (in_g f i) (sym (tail_ex f i) ∙ k) (walk_from (head_ex f i) (go w)))
    where
      go : {u v : ℕ} {es : List ℕ} → Walk (arcs_of (bare h)) u es v → Walk (arcs_of (bare g)) u (map ex es) v
      go (stay z) = stay z
      go (step {e = f} i k w) = step (in_g f i) (sym (tail_ex f i) ∙ k) (walk_from (head_ex f i) (go w))

  kept : (f : ℕ) → f < edges g → f ≢ e → ex f < edges h
  kept f l n = ex_below f (let b : edges g ≡ suc (edges h) = I.count in omega arith) n

  -- ---- it is refused
  source_refused : ((i : ℕ) → i < edges g → i ≢ e → head g i ≢ head g e) → (s' t' o : ℕ) → IsPlanarSt h s' t' o → ⊥
  source_refused none s' t' o st' =
      let v : ℕ = head g e in
      let a : v ≡ s' = st'.source.only v (subst (λ z. v < z) (sym I.vertices) (st.ends_in e I.there).1) (λ f l q. none (ex f) (in_g f l) (ex_not f l) (sym (head_ex f l) ∙ q)) in
      let b : s ≡ s' = st'.source.only s (subst (λ z. s < z) (sym I.vertices) st.source.there) (λ f l q. st.source.none_in (ex f) (in_g f l) (sym (head_ex f l) ∙ q)) in
      st.source.none_in e I.there (a ∙ sym b)

  sink_refused : ((i : ℕ) → i < edges g → i ≢ e → tail g i ≢ tail g e) → (s' t' o : ℕ) → IsPlanarSt h s' t' o → ⊥
  sink_refused none s' t' o st' =
      let v : ℕ = tail g e in
      let a : v ≡ t' = st'.sink.only v (subst (λ z. v < z) (sym I.vertices) (st.ends_in e I.there).0) (λ f l q. none (ex f) (in_g f l) (ex_not f l) (sym (tail_ex f l) ∙ q)) in
      let b : t ≡ t' = st'.sink.only t (subst (λ z. t < z) (sym I.vertices) st.sink.there) (λ f l q. st.sink.none_out (ex f) (in_g f l) (sym (tail_ex f l) ∙ q)) in
      st.sink.none_out e I.there (a ∙ sym b)

  -- ---- it is accepted
  module _ (i o : ℕ) (li : i < edges g) (ni : i ≢ e) (hi : head g i ≡ head g e) (lo : o < edges g) (no : o ≢ e) (ho : tail g o ≡ tail g e) where
    source : IsOnlySource (bare h) s
    source = record {
      there = subst (λ z. s < z) (sym I.vertices) st.source.there;
      none_in = λ f l q. st.source.none_in (ex f) (in_g f l) (sym (head_ex f l) ∙ q);
      only = λ v l none. st.source.only v (subst (λ z. v < z) I.vertices l) (λ f lf q. elim (cases_eq f e) [
        | inl z ↦ none (ex i) (kept i li ni) (head_ex (ex i) (kept i li ni) ∙ ap (head g) (ex_ex i) ∙ hi ∙ ap (head g) (sym z) ∙ q)
        | inr n ↦ none (ex f) (kept f lf n) (head_ex (ex f) (kept f lf n) ∙ ap (head g) (ex_ex f) ∙ q)
      ]);
    }

    sink : IsOnlySink (bare h) t
    sink = record {
      there = subst (λ z. t < z) (sym I.vertices) st.sink.there;
      none_out = λ f l q. st.sink.none_out (ex f) (in_g f l) (sym (tail_ex f l) ∙ q);
      only = λ v l none. st.sink.only v (subst (λ z. v < z) I.vertices l) (λ f lf q. elim (cases_eq f e) [
        | inl z ↦ none (ex o) (kept o lo no) (tail_ex (ex o) (kept o lo no) ∙ ap (tail g) (ex_ex o) ∙ ho ∙ ap (tail g) (sym z) ∙ q)
        | inr n ↦ none (ex f) (kept f lf n) (tail_ex (ex f) (kept f lf n) ∙ ap (tail g) (ex_ex f) ∙ q)
      ]);
    }

    -- another end stands at each end of e
    not_alone : next g (2 * e) ≢ 2 * e
    not_alone q =
        let r : SameOrbit (next g) (2 * e) (2 * o) = same_vertex g st.orders (at_below g st.ends_in) (2 * e) (2 * o) (in_g' (2 * e) in_e) (omega arith) (at-tail g e ∙ sym ho ∙ sym (at-tail g o)) in
        let z : 2 * e ≡ 2 * o = sym (fixed (next g) (2 * e) q r.0) ∙ r.1 in
        no (omega arith)

    not_alone' : next g (2 * e + 1) ≢ 2 * e + 1
    not_alone' q =
        let r : SameOrbit (next g) (2 * e + 1) (2 * i + 1) = same_vertex g st.orders (at_below g st.ends_in) (2 * e + 1) (2 * i + 1) (in_g' (2 * e + 1) in_e') (omega arith) (at-head g e ∙ sym hi ∙ sym (at-head g i)) in
        let z : 2 * e + 1 ≡ 2 * i + 1 = sym (fixed (next g) (2 * e + 1) q r.0) ∙ r.1 in
        ni (omega arith)

    C : (c : ℕ) × (c < suc (suc (darts h))) × (phi g c ≡ 2 * e) × SameOrbit (phi g) (2 * e) c
    C = before (suc (suc (darts h))) (phi g) pg (2 * e) in_e

    C' : (c : ℕ) × (c < suc (suc (darts h))) × (phi g c ≡ 2 * e + 1) × SameOrbit (phi g) (2 * e + 1) c
    C' = before (suc (suc (darts h))) (phi g) pg (2 * e + 1) in_e'

    c_other : edge_of C.0 ≢ e
    c_other q = elim (end_of e C.0 q) [
      | inl z ↦ no_loop (sym (at-tail g e) ∙ ap (at g) (sym C.2) ∙ at_phi C.0 C.1 ∙ ap (λ d. at g (twin d)) z ∙ ap (at g) (twin-tail e) ∙ at-head g e)
      | inr z ↦ not_alone (ap (next g) (sym (ap twin z ∙ twin-head e)) ∙ sym (phi_g C.0) ∙ C.2)
    ]

    c'_other : edge_of C'.0 ≢ e
    c'_other q = elim (end_of e C'.0 q) [
      | inr z ↦ no_loop (sym (at-tail g e) ∙ ap (at g) (sym (ap twin z ∙ twin-head e)) ∙ sym (at_phi C'.0 C'.1) ∙ ap (at g) C'.2 ∙ at-head g e)
      | inl z ↦ not_alone' (ap (next g) (sym (ap twin z ∙ twin-tail e)) ∙ sym (phi_g C'.0) ∙ C'.2)
    ]

    A : ℕ
    A = X C.0

    B : ℕ
    B = X C'.0

    A_is : A ≡ X C.0
    unfolding A
    A_is = refl

    B_is : B ≡ X C'.0
    unfolding B
    B_is = refl

    A_in : A < darts h
    unfolding A
    A_in = X_below C.0 C.1 c_other

    B_in : B < darts h
    unfolding B
    B_in = X_below C'.0 C'.1 c'_other

    -- the clockwise next in h
    passes : (d : ℕ) → d < darts h → edge_of (phi g (X d)) ≡ e → X (phi h d) ≡ next g (phi g (X d))
    unfolding exchange.X
    passes d l q =
        let z : next g (X (twin d)) ≡ phi g (X d) = ap (next g) (sym (X_twin d)) ∙ sym (phi_g (X d)) in
        ap X (phi_h d) ∙ I.next_old (twin d) (twin-below (edges h) d l)
        ∙ cond-true (eqb (edge_of (next g (X (twin d)))) e) (next g (next g (X (twin d)))) (next g (X (twin d))) (eq-eqb (edge_of (next g (X (twin d)))) e (ap edge_of z ∙ q))
        ∙ ap (next g) z

    keeps : (d : ℕ) → d < darts h → edge_of (phi g (X d)) ≢ e → X (phi h d) ≡ phi g (X d)
    unfolding exchange.X
    keeps d l q =
        let z : next g (X (twin d)) ≡ phi g (X d) = ap (next g) (sym (X_twin d)) ∙ sym (phi_g (X d)) in
        ap X (phi_h d) ∙ I.next_old (twin d) (twin-below (edges h) d l)
        ∙ cond-false (eqb (edge_of (next g (X (twin d)))) e) (next g (next g (X (twin d)))) (next g (X (twin d))) (ne_eqb (edge_of (next g (X (twin d)))) e (λ w. q (ap edge_of (sym z) ∙ w)))
        ∙ z

    XA : X A ≡ C.0
    XA = ap X A_is ∙ X_X C.0

    XB : X B ≡ C'.0
    XB = ap X B_is ∙ X_X C'.0

    phi_A : phi g (X A) ≡ 2 * e
    phi_A = ap (phi g) XA ∙ C.2

    phi_B : phi g (X B) ≡ 2 * e + 1
    phi_B = ap (phi g) XB ∙ C'.2

    joint : Joint (darts h) (phi h) H A B
    joint = record {
      a_in = A_in;
      b_in = B_in;
      differ = λ q. (let z : 2 * e ≡ 2 * e + 1 = sym phi_A ∙ ap (λ w. phi g (X w)) q ∙ phi_B in absurd (omega arith));
      from_a = H_is A ∙ ap X phi_A ∙ X_e;
      from_n = H_is (darts h) ∙ ap (λ z. X (phi g z)) X_n ∙ ap X (phi_g (2 * e) ∙ ap (next g) (twin-tail e) ∙ ap (next g) (sym phi_B) ∙ sym (passes B B_in (ap edge_of phi_B ∙ edge_of-head e))) ∙ X_X (phi h B);
      from_b = H_is B ∙ ap X phi_B ∙ X_e';
      from_m = H_is (suc (darts h)) ∙ ap (λ z. X (phi g z)) X_m ∙ ap X (phi_g (2 * e + 1) ∙ ap (next g) (twin-head e) ∙ ap (next g) (sym phi_A) ∙ sym (passes A A_in (ap edge_of phi_A ∙ edge_of-tail e))) ∙ X_X (phi h A);
      rest = λ d l na nb.
          let ld : X d < suc (suc (darts h)) = X_in d (omega arith) in
          let other : edge_of (phi g (X d)) ≢ e = λ q. elim (end_of e (phi g (X d)) q) [
            | inl z ↦ na (sym (X_X d) ∙ ap X (pg.apart (X d) C.0 ld C.1 (z ∙ sym C.2)) ∙ sym A_is)
            | inr z ↦ nb (sym (X_X d) ∙ ap X (pg.apart (X d) C'.0 ld C'.1 (z ∙ sym C'.2)) ∙ sym B_is)
          ] in
          H_is d ∙ ap X (sym (keeps d l other)) ∙ X_X (phi h d);
    }

    faces_h : faces h ≡ roots (darts h) (phi h)
    faces_h = faces_are h

    h_bound : h.vertices + faces h ≤ edges h + 2
    h_bound = euler_bound_law h s t (record { ends_in = ends; no_cycle = no_cycle; source = source; sink = sink; orders = I.orders })

    at_most : faces g ≤ faces h + 1
    at_most =
        let k : roots (suc (suc (darts h))) H ≤ roots (darts h) (phi h) + 1 = one_more_at_most (darts h) (phi h) H A B ph pH joint in
        let a : roots (suc (suc (darts h))) H ≡ faces g = roots_H in
        let b : faces h ≡ roots (darts h) (phi h) = faces_h in
        omega arith

    euler : h.vertices + faces h ≡ edges h + 2
    euler =
        let k : faces g ≤ faces h + 1 = at_most in
        let b : h.vertices + faces h ≤ edges h + 2 = h_bound in
        let eg : g.vertices + faces g ≡ edges g + 2 = st.euler in
        let v : h.vertices ≡ g.vertices = I.vertices in
        let c : edges g ≡ suc (edges h) = I.count in
        omega arith

    same : SameOrbit (phi h) A B
    same = same_from_count (darts h) (phi h) H A B ph pH joint (
        let a : roots (suc (suc (darts h))) H ≡ faces g = roots_H in
        let b : faces h ≡ roots (darts h) (phi h) = faces_h in
        let eg : g.vertices + faces g ≡ edges g + 2 = st.euler in
        let eh : h.vertices + faces h ≡ edges h + 2 = euler in
        let v : h.vertices ≡ g.vertices = I.vertices in
        let c : edges g ≡ suc (edges h) = I.count in
        omega arith)

    down : ℕ → ℕ
    down x = back (darts h) A B x

    -- what is of one face in g is of one face in h
    come_down : (x y : ℕ) → x < darts g → SameOrbit (phi g) x y → SameOrbit (phi h) (back (darts h) A B (X x)) (back (darts h) A B (X y))
    come_down x y l r =
        let a : SameOrbit H (X x) (X y) = orbit_down (suc (suc (darts h))) (suc (suc (darts h))) H (phi g) pH pg X to_H x y (in_m x l) r in
        orbit_down (darts h) (suc (suc (darts h))) (phi h) H ph pH (back (darts h) A B) (projects (darts h) (phi h) H A B ph pH joint same) (X x) (X y) (X_in x (in_m x l)) a

    -- the outer end
    new_outer : ℕ
    new_outer = outer_after g e outer

    last_is : edges g - 1 ≡ edges h
    last_is = (let c : edges g ≡ suc (edges h) = I.count in omega arith)

    new_outer_is : new_outer ≡ cond (eqb (edge_of outer) e) (exchanged (edges h) e (phi g outer)) (exchanged (edges h) e outer)
    unfolding new_outer
    new_outer_is = ap (λ z. cond (eqb (edge_of outer) e) (exchanged z e (phi g outer)) (exchanged z e outer)) last_is

    outer_is : (edge_of outer ≢ e) → new_outer ≡ X outer
    unfolding exchange.X
    outer_is n = new_outer_is ∙ cond-false (eqb (edge_of outer) e) (exchanged (edges h) e (phi g outer)) (exchanged (edges h) e outer) (ne_eqb (edge_of outer) e n)

    outer_was : (edge_of outer ≡ e) → new_outer ≡ X (phi g outer)
    unfolding exchange.X
    outer_was n = new_outer_is ∙ cond-true (eqb (edge_of outer) e) (exchanged (edges h) e (phi g outer)) (exchanged (edges h) e outer) (eq-eqb (edge_of outer) e n)

    -- it is an end of h, of the face that the old one has come to
    outer_there : (new_outer < darts h) × SameOrbit (phi h) new_outer (back (darts h) A B (X outer))
    outer_there = elim (cases_eq (edge_of outer) e) [
      | inr n ↦
          let l : X outer < darts h = X_below outer (in_m outer st.outer_in) n in
          (subst (λ z. z < darts h) (sym (outer_is n)) l, (0, outer_is n ∙ sym (back_old (darts h) A B (X outer) l)))
      | inl q ↦ elim (end_of e outer q) [
        | inl z ↦
            let w : new_outer ≡ phi h B = outer_was q ∙ ap (λ k. X (phi g k)) (z ∙ sym X_n) ∙ sym (H_is (darts h)) ∙ joint.from_n in
            let d : back (darts h) A B (X outer) ≡ A = back_n (darts h) A B (X outer) (ap X z ∙ X_e) in
            let r : SameOrbit (phi h) A (phi h B) = orbit-trans (phi h) A B (phi h B) same (orbit-step (phi h) B) in
            let r' : SameOrbit (phi h) (phi h B) A = orbit-sym (darts h) (phi h) ph A (phi h B) A_in r in
            (subst (λ k. k < darts h) (sym w) (ph.stays B B_in), (r'.0, ap (iterate r'.0 (phi h)) w ∙ r'.1 ∙ sym d))
        | inr z ↦
            let w : new_outer ≡ phi h A = outer_was q ∙ ap (λ k. X (phi g k)) (z ∙ sym X_m) ∙ sym (H_is (suc (darts h))) ∙ joint.from_m in
            let d : back (darts h) A B (X outer) ≡ B = back_m (darts h) A B (X outer) (ap X z ∙ X_e') in
            let r : SameOrbit (phi h) (phi h A) B = orbit-trans (phi h) (phi h A) A B (orbit-sym (darts h) (phi h) ph A (phi h A) A_in (orbit-step (phi h) A)) same in
            (subst (λ k. k < darts h) (sym w) (ph.stays A A_in), (r.0, ap (iterate r.0 (phi h)) w ∙ r.1 ∙ sym d))
      ]
    ]

    at_phi_h : (d : ℕ) → d < darts h → at h (phi h d) ≡ at g (phi g (X d))
    at_phi_h d l =
        at-phi h I.orders (at_below h ends) d l ∙ at_X (twin d) (twin-below (edges h) d l) ∙ ap (at g) (sym (X_twin d)) ∙ sym (at_phi (X d) (X_in d (omega arith)))

    touch : (v : ℕ) → Touches g outer v → Touches h new_outer v
    touch v T =
        let d : ℕ = T.0 in
        let ld : d < darts g = orbit-stays (darts g) (phi g) (perm_st g s t outer st) outer d st.outer_in T.1 in
        let O = outer_there in
        let r : SameOrbit (phi h) new_outer (back (darts h) A B (X d)) = orbit-trans (phi h) new_outer (back (darts h) A B (X outer)) (back (darts h) A B (X d)) O.1 (come_down outer d st.outer_in T.1) in
        elim (cases_eq (edge_of d) e) [
          | inr n ↦
              let l : X d < darts h = X_below d (in_m d ld) n in
              (X d, subst (λ z. SameOrbit (phi h) new_outer z) (back_old (darts h) A B (X d) l) r, at_X (X d) l ∙ ap (at g) (X_X d) ∙ T.2)
          | inl q ↦ elim (end_of e d q) [
            | inl z ↦
                let b : back (darts h) A B (X d) ≡ A = back_n (darts h) A B (X d) (ap X z ∙ X_e) in (
                  phi h A,
                  orbit-trans (phi h) new_outer A (phi h A) (subst (λ w. SameOrbit (phi h) new_outer w) b r) (orbit-step (phi h) A),
                  at_phi_h A A_in ∙ ap (at g) (phi_A ∙ sym z) ∙ T.2,
                )
            | inr z ↦
                let b : back (darts h) A B (X d) ≡ B = back_m (darts h) A B (X d) (ap X z ∙ X_e') in (
                  phi h B,
                  orbit-trans (phi h) new_outer B (phi h B) (subst (λ w. SameOrbit (phi h) new_outer w) b r) (orbit-step (phi h) B),
                  at_phi_h B B_in ∙ ap (at g) (phi_B ∙ sym z) ∙ T.2,
                )
          ]
        ]

    accepted : IsPlanarSt h s t (outer_after g e outer)
    unfolding new_outer
    accepted = record {
      ends_in = ends;
      two = subst (λ z. 2 ≤ z) (sym I.vertices) st.two;
      no_cycle = no_cycle;
      source = source;
      sink = sink;
      orders = I.orders;
      euler = euler;
      outer_in = outer_there.0;
      outer_s = touch s st.outer_s;
      outer_t = touch t st.outer_t;
    }

  other_dec : (f : ℕ → ℕ) → IsDecided (λ i. (i ≢ e) × (f i ≡ f e))
  other_dec f i = elim (cases_eq i e) [
    | inl q ↦ inr (λ h. h.0 q)
    | inr n ↦ elim (cases_eq (f i) (f e)) [ inl q ↦ inl (n, q) | inr m ↦ inr (λ h. m h.1) ]
  ]

  by_others : OthersIn g e → OthersOut g e → IsPlanarSt h s t (outer_after g e outer)
  by_others a b = accepted a.0 b.0 a.1 a.2 a.3 b.1 b.2 b.3

  no_source : (OthersIn g e → ⊥) → IsSomePlanarSt h → ⊥
  no_source n w = source_refused (λ i l d q. n (i, l, d, q)) w.0 w.1 w.2 w.3

  no_sink : (OthersOut g e → ⊥) → IsSomePlanarSt h → ⊥
  no_sink n w = sink_refused (λ i l d q. n (i, l, d, q)) w.0 w.1 w.2 w.3

  exact : IsSomePlanarSt h ↔ (OthersIn g e × OthersOut g e)
  exact = (
    (λ w. (
      elim (some_below (λ i. (i ≢ e) × (head g i ≡ head g e)) (other_dec (head g)) (edges g)) [
        | inl r ↦ (r.0, r.1, r.2.0, r.2.1)
        | inr none ↦ absurd (no_source (λ a. none a.0 a.1 (a.2, a.3)) w)
      ],
      elim (some_below (λ i. (i ≢ e) × (tail g i ≡ tail g e)) (other_dec (tail g)) (edges g)) [
        | inl r ↦ (r.0, r.1, r.2.0, r.2.1)
        | inr none ↦ absurd (no_sink (λ a. none a.0 a.1 (a.2, a.3)) w)
      ],
    )),
    (λ w. (s, t, outer_after g e outer, by_others w.0 w.1)),
  )

pub removal_law : RemoveLaw → RemovalLaw
removal_law remove_law g s t outer e st l =
    let n : tail g e ≢ head g e = λ q. st.no_cycle (tail g e) e [] (step l refl (stay (sym q))) in
    let I : RemovesEdge g (removed g e) e = (remove_law g e (record { ends = st.ends_in; orders = st.orders }) l n).0 in
    record {
      accepted = by_others g (removed g e) s t outer e st I;
      source = no_source g (removed g e) s t outer e st I;
      sink = no_sink g (removed g e) s t outer e st I;
      exact = exact g (removed g e) s t outer e st I;
    }
