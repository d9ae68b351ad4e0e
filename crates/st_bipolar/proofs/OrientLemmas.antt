-- Orientations by numbers of the vertices, and what an orientation shows.
use Rattle.std.proofs.Common.{◌≡◌, ◌≢◌, ℕ, ◌+◌, ◌<◌, ◌≤◌, Bool, eqb, ◌⊎◌, inl, inr, List, [], ◌∷◌, refl, sym, ap, ◌∙◌, subst, arith}
use Rattle.std.proofs.lemmas.Bool.{eqb-true, eqb-false, cases_eq, cases_Bool, ltb-true, ltb-false}
use Rattle.st_ids.specs.Graph.{Graph, arcs_of}
use Rattle.st_ids.specs.Walks.{Walk, stay, step, Reaches, IsAcyclic}
use Rattle.st_ids.proofs.Public.{reach_refl, reach_trans, reach_arc, no_loop, IsWithin, down, up, turn}
use Rattle.st_map.specs.Embedded.{Embedded, HasOrders, Touches, bare, darts, edges, face, faces, head, order, tail}
use Rattle.st_map.proofs.Public.{count-le, some_or_none, edge_of-below}
use Rattle.st_test.specs.Planar.{IsPlanarSt}
use Rattle.st_ids.specs.Undirected.{Joins, UndirectedWalk, rest, pass, IsJoined, IsConnected}
use Rattle.st_bipolar.specs.Cuts.{CutsOff, IsStNumbering}
use Rattle.st_bipolar.specs.Orientation.{IsOrientation, IsPlane, IsTurned, OrientLaw, falls, turned_end}
use Rattle.st_bipolar.specs.Turning.{AreTurnedEnds, with_lists}
use Rattle.std.specs.Prelude.{slice_index, cond}
use Rattle.st_ids.specs.Ends.{edge_of, twin}
use Rattle.st_map.specs.Orders.{IsEdgeAt}
use Rattle.st_bipolar.specs.declared.orienting.OrientFault.{OrientFault}
use Rattle.st_bipolar.specs.declared.orienting.OrientFault.TheVariants.{Apart, BadFaces, Outer, Cut, NoMemory}
use Rattle.st_bipolar.specs.OrientFault.{IsOrientFault}
use Rattle.st_bipolar.proofs.RebuildLemmas.{map_same}
use Rattle.st_bipolar.proofs.VisitedLemmas.{flip, last_edge, trail_ok}
use Rattle.st_bipolar.proofs.TurnLemmas.{turned_is, q, q_in, edges_h, turned_ends, kept_ends, ends_in_h, orders_h, joins_h, turned_faces, turned_touches, touches_turned}

-- ---- reaching in a planar st-graph
module _ (g : Embedded) (s t outer : ℕ) (st : IsPlanarSt g s t outer) where
  pub st_acyclic : IsAcyclic (arcs_of (bare g))
  st_acyclic = st.no_cycle

  pub st_within : IsWithin (arcs_of (bare g)) g.vertices
  st_within = record { from_in = λ e l. (st.ends_in e l).0; to_in = λ e l. (st.ends_in e l).1 }

  pub st_from_source : (v : ℕ) → v < g.vertices → Reaches (arcs_of (bare g)) s v
  st_from_source = down (arcs_of (bare g)) g.vertices st_acyclic st_within (λ v. Reaches (arcs_of (bare g)) s v) (λ v i ih. elim (cases_eq v s) [
    | inl q ↦ reach_refl (sym q)
    | inr n ↦ elim (some_or_none (λ e. eqb (head g e) v) (edges g)) [
      | inl r ↦ (let e : head g r.0 ≡ v = eqb-true (head g r.0) v r.2 in reach_trans (ih r.0 r.1 e) (reach_trans (reach_arc r.0 r.1) (reach_refl e)))
      | inr none ↦ absurd (n (st.source.only v i (λ e l. eqb-false (head g e) v (none e l))))
    ]
  ])

  pub st_to_sink : (v : ℕ) → v < g.vertices → Reaches (arcs_of (bare g)) v t
  st_to_sink = up (arcs_of (bare g)) g.vertices st_acyclic st_within (λ v. Reaches (arcs_of (bare g)) v t) (λ v i ih. elim (cases_eq v t) [
    | inl q ↦ reach_refl q
    | inr n ↦ elim (some_or_none (λ e. eqb (tail g e) v) (edges g)) [
      | inl r ↦ (let e : tail g r.0 ≡ v = eqb-true (tail g r.0) v r.2 in reach_trans (reach_refl (sym e)) (reach_trans (reach_arc r.0 r.1) (ih r.0 r.1 e)))
      | inr none ↦ absurd (n (st.sink.only v i (λ e l. eqb-false (tail g e) v (none e l))))
    ]
  ])

  pub st_one_way : (u v : ℕ) → Reaches (arcs_of (bare g)) u v → Reaches (arcs_of (bare g)) v u → u ≡ v
  st_one_way u v h k = go h.way h.walk
    where
      go : (es : List ℕ) → Walk (arcs_of (bare g)) u es v → u ≡ v
      go es (stay q) = q
      go es (step {e = e} {es = ds} a f w) = absurd (no_loop st_acyclic e a (reach_trans (record { way = ds; walk = w }) (reach_trans k (reach_refl (sym f)))))

-- ---- undirected walks
trail_turn : {g : Graph} {Ok : ℕ → Type 0} {u v w : ℕ} (es acc : List ℕ) → UndirectedWalk g Ok u es v → UndirectedWalk g Ok u acc w → UndirectedWalk g Ok v (turn es acc) w
trail_turn {g} {Ok} {u} {v} {w} [] acc (rest o q) k = subst (λ z. UndirectedWalk g Ok z acc w) q k
trail_turn (e ∷ es) acc (pass o j r) k = trail_turn es (e ∷ acc) r (pass (trail_ok r) (flip j) k)

joined_back : {g : Graph} {Ok : ℕ → Type 0} {u v : ℕ} → IsJoined g Ok u v → IsJoined g Ok v u
joined_back J = record { way = turn J.way []; trail = trail_turn J.way [] J.trail (rest (trail_ok J.trail) refl) }

joins_two : {g : Graph} {e a b v w : ℕ} → Joins g e a b → Joins g e v w → ((a ≡ v) × (b ≡ w)) ⊎ ((a ≡ w) × (b ≡ v))
joins_two j k = elim j.ends [
  | inl p ↦ elim k.ends [ inl r ↦ inl (sym p.0 ∙ r.0, sym p.1 ∙ r.1) | inr r ↦ inr (sym p.0 ∙ r.1, sym p.1 ∙ r.0) ]
  | inr p ↦ elim k.ends [ inl r ↦ inr (sym p.0 ∙ r.1, sym p.1 ∙ r.0) | inr r ↦ inl (sym p.0 ∙ r.0, sym p.1 ∙ r.1) ]
]

module _ (g : Embedded) (s t outer : ℕ) (P : IsPlane g s t outer) where
  -- ---- by numbers
  module _ (r : ℕ → ℕ) (N : IsStNumbering (bare g) s t r) (h : Embedded) (T : IsTurned g h (falls g r)) where
    rises : (e : ℕ) → e < edges g → r (tail h e) < r (head h e)
    rises e l = elim (cases_Bool ((falls g r) e)) [
      | inl c ↦
          let w = turned_ends g (falls g r) h T e l c in
          let k : r (head g e) < r (tail g e) = ltb-true (r (head g e)) (r (tail g e)) c in
          let a : r (tail h e) ≡ r (head g e) = ap r w.0 in
          let b : r (head h e) ≡ r (tail g e) = ap r w.1 in
          omega arith
      | inr c ↦
          let w = kept_ends g (falls g r) h T e l c in
          let k : r (tail g e) ≤ r (head g e) = ltb-false (r (head g e)) (r (tail g e)) c in
          let d : r (tail g e) ≢ r (head g e) = N.apart e l in
          let a : r (tail h e) ≡ r (tail g e) = ap r w.0 in
          let b : r (head h e) ≡ r (head g e) = ap r w.1 in
          omega arith
    ]

    in_g : (e : ℕ) → e < edges h → e < edges g
    in_g e l = (let z : edges h ≡ edges g = edges_h g (falls g r) h T in omega arith)

    in_h : (e : ℕ) → e < edges g → e < edges h
    in_h e l = (let z : edges h ≡ edges g = edges_h g (falls g r) h T in omega arith)

    walk_rises : (u v : ℕ) (es : List ℕ) → Walk (arcs_of (bare h)) u es v → r u ≤ r v
    walk_rises u v es (stay w) = (let e : r u ≡ r v = ap r w in omega arith)
    walk_rises u v (e ∷ es) (step l f w) =
        let k : r (tail h e) < r (head h e) = rises e (in_g e l) in
        let m : r (head h e) ≤ r v = walk_rises (head h e) v es w in
        let q : r (tail h e) ≡ r u = ap r f in
        omega arith

    -- no walk leads back
    no_return : (u e : ℕ) (es : List ℕ) → Walk (arcs_of (bare h)) u (e ∷ es) u → ⊥
    no_return u e es (step l f w) =
        let k : r (tail h e) < r (head h e) = rises e (in_g e l) in
        let m : r (head h e) ≤ r u = walk_rises (head h e) u es w in
        let q : r (tail h e) ≡ r u = ap r f in
        omega arith

    -- the turned edge enters the end with the greater number
    enters : (e v w : ℕ) → Joins (bare g) e v w → r w < r v → (tail h e ≡ w) × (head h e ≡ v)
    enters e v w j l = elim (joins_two (joins_h g (falls g r) h T e j.arc) j) [
      | inr p ↦ p
      | inl p ↦
          let k : r (tail h e) < r (head h e) = rises e j.arc in
          let a : r (tail h e) ≡ r v = ap r p.0 in
          let b : r (head h e) ≡ r w = ap r p.1 in
          absurd (omega arith)
    ]

    by_numbers : g.vertices + faces g ≡ edges g + 2 → Touches g outer s → Touches g outer t → IsOrientation g s t outer (falls g r) h
    unfolding q
    by_numbers euler ts tt' = record {
      turned = T;
      planar = record {
        ends_in = ends_in_h g (falls g r) h T P.ends_in;
        two = (let a : s < g.vertices = P.source_in in let b : t < g.vertices = P.sink_in in let c : s ≢ t = P.poles in let n : h.vertices ≡ g.vertices = T.vertices in omega arith);
        no_cycle = no_return;
        source = record {
          there = subst (λ n. s < n) (sym T.vertices) P.source_in;
          none_in = λ e l q.
              let k : r (tail h e) < r (head h e) = rises e (in_g e l) in
              let m : r s < r (tail h e) = N.least e (tail h e) (subst (λ z. Joins (bare g) e z (tail h e)) q (flip (joins_h g (falls g r) h T e (in_g e l)))) in
              let q' : r (head h e) ≡ r s = ap r q in
              omega arith;
          only = λ v l none. elim (cases_eq v s) [
            | inl q ↦ q
            | inr n ↦ (let b = N.below v (subst (λ n. v < n) T.vertices l) n in absurd (none b.0 (in_h b.0 b.2.arc) (enters b.0 v b.1 b.2 b.3).1))
          ];
        };
        sink = record {
          there = subst (λ n. t < n) (sym T.vertices) P.sink_in;
          none_out = λ e l q.
              let k : r (tail h e) < r (head h e) = rises e (in_g e l) in
              let m : r (head h e) < r t = N.greatest e (head h e) (subst (λ z. Joins (bare g) e z (head h e)) q (joins_h g (falls g r) h T e (in_g e l))) in
              let q' : r (tail h e) ≡ r t = ap r q in
              omega arith;
          only = λ v l none. elim (cases_eq v t) [
            | inl q ↦ q
            | inr n ↦ (let b = N.above v (subst (λ n. v < n) T.vertices l) n in absurd (none b.0 (in_h b.0 b.2.arc) (enters b.0 b.1 v (flip b.2) b.3).0))
          ];
        };
        orders = orders_h g (falls g r) h T P.ends_in P.orders;
        euler = ap (λ n. n + faces h) T.vertices ∙ ap (λ f. g.vertices + f) (turned_faces g (falls g r) h T P.ends_in P.orders) ∙ euler ∙ ap (λ n. n + 2) (sym (edges_h g (falls g r) h T));
        outer_in = (let k : q g (falls g r) h T outer < darts g = q_in g (falls g r) h T outer P.outer_in in let z : edges h ≡ edges g = edges_h g (falls g r) h T in omega arith);
        outer_s = turned_touches g (falls g r) h T P.ends_in P.orders outer s P.outer_in ts;
        outer_t = turned_touches g (falls g r) h T P.ends_in P.orders outer t P.outer_in tt';
      };
    }

  -- ---- from an orientation
  module _ (b : ℕ → Bool) (h : Embedded) (O : IsOrientation g s t outer b h) where
    T : IsTurned g h b
    T = O.turned

    st : IsPlanarSt h s t (turned_end b outer)
    st = O.planar

    joins : (e : ℕ) → e < edges h → Joins (bare g) e (tail h e) (head h e)
    joins e l = joins_h g b h T e (let z : edges h ≡ edges g = edges_h g b h T in omega arith)

    trail_of : {u v : ℕ} {es : List ℕ} → Walk (arcs_of (bare h)) u es v → UndirectedWalk (bare g) (λ _. Unit {0}) u es v
    trail_of (stay e) = rest tt e
    trail_of (step {e = e} l f w) = pass tt (subst (λ z. Joins (bare g) e z (head h e)) f (joins e l)) (trail_of w)

    avoids : (c : ℕ) {u v : ℕ} {es : List ℕ} → Walk (arcs_of (bare h)) u es v → IsJoined (bare g) (λ x. x ≢ c) u v ⊎ (Reaches (arcs_of (bare h)) u c × Reaches (arcs_of (bare h)) c v)
    avoids c {u} {v} (stay e) = elim (cases_eq u c) [
      | inl q ↦ inr (reach_refl q, reach_refl (sym q ∙ e))
      | inr n ↦ inl (record { way = []; trail = rest n e })
    ]
    avoids c {u} {v} (step {e = e} {es = es} l f w) = elim (cases_eq u c) [
      | inl q ↦ inr (reach_refl q, reach_trans (reach_refl (sym q)) (record { way = e ∷ es; walk = step l f w }))
      | inr n ↦ elim (avoids c w) [
        | inl J ↦ inl (record { way = e ∷ J.way; trail = pass n (subst (λ z. Joins (bare g) e z (head h e)) f (joins e l)) J.trail })
        | inr p ↦ inr (reach_trans (reach_refl (sym f)) (reach_trans (reach_arc e l) p.0), p.1)
      ]
    ]

    vertices_in : (v : ℕ) → v < g.vertices → v < h.vertices
    vertices_in v l = subst (λ n. v < n) (sym O.turned.vertices) l

    is_connected : IsConnected (bare g) s
    is_connected v l = (let w = st_from_source h s t (turned_end b outer) st v (vertices_in v l) in joined_back (record { way = w.way; trail = trail_of w.walk }))

    way_out : (c v : ℕ) → v < g.vertices → v ≢ c → IsJoined (bare g) (λ x. x ≢ c) v s ⊎ IsJoined (bare g) (λ x. x ≢ c) v t
    way_out c v lv n =
        let w = st_from_source h s t (turned_end b outer) st v (vertices_in v lv) in
        let z = st_to_sink h s t (turned_end b outer) st v (vertices_in v lv) in
        elim (avoids c z.walk) [
          | inl J ↦ inr J
          | inr p ↦ elim (avoids c w.walk) [
            | inl J ↦ inl (joined_back J)
            | inr r ↦ absurd (n (st_one_way h s t (turned_end b outer) st v c p.0 r.1))
          ]
        ]

    has_no_cut : (c v : ℕ) → CutsOff (bare g) s t c v → ⊥
    has_no_cut c v C = elim (way_out c v C.apart_in C.not_cut) [ inl J ↦ C.no_s J | inr J ↦ C.no_t J ]

    has_euler : g.vertices + faces g ≡ edges g + 2
    has_euler = ap (λ f. g.vertices + f) (sym (turned_faces g b h T P.ends_in P.orders)) ∙ ap (λ n. n + faces h) (sym O.turned.vertices) ∙ O.planar.euler ∙ ap (λ n. n + 2) (edges_h g b h T)

    touches_s : Touches g outer s
    unfolding q
    touches_s = touches_turned g b h T P.ends_in P.orders outer s P.outer_in O.planar.outer_s

    touches_t : Touches g outer t
    unfolding q
    touches_t = touches_turned g b h T P.ends_in P.orders outer t P.outer_in O.planar.outer_t

  pub orient_law : OrientLaw g s t outer
  orient_law = record {
    some = λ b. turned_is g b;
    by_numbers = λ r N e a b h T. by_numbers r N h T e a b;
    connected = λ b h O. is_connected b h O;
    euler = λ b h O. has_euler b h O;
    outer_s = λ b h O. touches_s b h O;
    outer_t = λ b h O. touches_t b h O;
    no_cut = λ b h O. has_no_cut b h O;
  }

-- ---- what the program uses
-- an edge at the first pole
joins_at : (g : Graph) (s e w : ℕ) → Joins g e s w → IsEdgeAt g.ends s e
joins_at g s e w j = (j.arc, elim j.ends [ inl p ↦ inl p.0 | inr p ↦ inr p.0 ])

pub pole_edge : (g : Graph) (s t : ℕ) → t < g.vertices → t ≢ s → IsConnected g s → (e : ℕ) × IsEdgeAt g.ends s e
pole_edge g s t l d C =
    let J = C t l in
    let r = last_edge t s J.way J.trail d in
    (r.0, joins_at g s r.0 r.1 r.2)

-- turned by tests that agree
pub turned_agree : (g h : Embedded) (b c : ℕ → Bool) → HasOrders g → ((e : ℕ) → e < edges g → b e ≡ c e) → IsTurned g h b → IsTurned g h c
turned_agree g h b c O same T = record {
  vertices = T.vertices;
  count = T.count;
  tails = λ e l. T.tails e l ∙ ap (λ z. cond z (head g e) (tail g e)) (same e l);
  heads = λ e l. T.heads e l ∙ ap (λ z. cond z (tail g e) (head g e)) (same e l);
  orders = λ v l. T.orders v l ∙ map_same (turned_end b) (turned_end c) (order g v) (λ i li.
      let d : ℕ = slice_index (order g v) i in
      ap (λ z. cond z (twin d) d) (same (edge_of d) (edge_of-below (edges g) d (O.own v i l li).0)));
}

pub oriented_by : (g : Embedded) (s t outer : ℕ) → IsPlane g s t outer → (r : ℕ → ℕ) → IsStNumbering (bare g) s t r → g.vertices + faces g ≡ edges g + 2 → Touches g outer s → Touches g outer t
    → (b : ℕ → Bool) → ((e : ℕ) → e < edges g → b e ≡ falls g r e) → (h : Embedded) → IsTurned g h b → IsOrientation g s t outer b h
oriented_by g s t outer P r N e ts tt' b same h T =
    let O = by_numbers g s t outer P r N h (turned_agree g h b (falls g r) P.orders same T) e ts tt' in
    record {
      turned = T;
      planar = subst (IsPlanarSt h s t) (ap (λ z. cond z (twin outer) outer) (sym (same (edge_of outer) (edge_of-below (edges g) outer P.outer_in)))) O.planar;
    }

-- the turned edges with the lists of the map
pub turned_with : (g : Embedded) (b : ℕ → Bool) (f : Graph) → AreTurnedEnds g b (edges g) f → IsTurned g (with_lists g b f) b
turned_with g b f E = record { vertices = E.vertices; count = E.count; tails = E.tails; heads = E.heads; orders = (turned_is g b).orders }

-- ---- a fault forbids every orientation
pub fault_forbids : (g : Embedded) (s t outer : ℕ) → IsPlane g s t outer → (f : OrientFault) → f ≢ NoMemory → IsOrientFault g s t outer f → (b : ℕ → Bool) (h : Embedded) → IsOrientation g s t outer b h → ⊥
fault_forbids g s t outer P (Apart v) d F b h O = F.apart (is_connected g s t outer P b h O v.0 F.within)
fault_forbids g s t outer P (BadFaces v e f) d F b h O = F.4 (has_euler g s t outer P b h O)
fault_forbids g s t outer P (Outer x y) d F b h O = elim F.4 [
  | inl z ↦ (F.2).0 z (touches_s g s t outer P b h O)
  | inr z ↦ (F.3).0 z (touches_t g s t outer P b h O)
]
fault_forbids g s t outer P (Cut c v) d F b h O = has_no_cut g s t outer P b h O c.0 v.0 F.4.cuts
fault_forbids g s t outer P NoMemory d F b h O = d refl

pub faces_small : (g : Embedded) → faces g ≤ darts g
unfolding faces
faces_small g = count-le (darts g) (λ d. eqb (face g d) d)
