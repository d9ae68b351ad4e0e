-- What an orientation shows of the map whose edges were turned: turned once more, it is the map again.
use Rattle.std.proofs.Common.{◌≡◌, ◌≢◌, ℕ, ◌<◌, ◌≤◌, inl, inr, Bool, List, [], ◌∷◌, map, refl, sym, ap, ◌∙◌, subst, arith}
use Rattle.std.proofs.lemmas.Bool.{cases_Bool, cases_eq, cond-true, cond-false}
use Rattle.st_ids.specs.Graph.{arcs_of}
use Rattle.st_ids.specs.Walks.{Walk, Reaches, stay, step}
use Rattle.st_map.specs.Embedded.{Embedded, bare, darts, edges, head, order, tail}
use Rattle.st_map.specs.Orders.{HasNoLoop}
use Rattle.st_test.specs.Planar.{AcyclicIsLoopless, IsPlanarSt}
use Rattle.st_bipolar.specs.Orientation.{IsOrientation, IsPlane, IsTurned, turned_end}
use Rattle.st_bipolar.proofs.Public.{st_from_source, map_map, q, q_q, q_in, turned_ends, kept_ends, ends_in_h, orders_h}

module _ (m h : Embedded) (b : ℕ → Bool) (T : IsTurned m h b) where
  twice : (d : ℕ) → turned_end b (turned_end b d) ≡ d
  unfolding q
  twice d = q_q m b h T d

  all_twice : (xs : List ℕ) → map (λ d. turned_end b (turned_end b d)) xs ≡ xs
  all_twice [] = refl
  all_twice (x ∷ xs) = ap (λ z. z ∷ map (λ d. turned_end b (turned_end b d)) xs) (twice x) ∙ ap (λ zs. x ∷ zs) (all_twice xs)

  turned_back : IsTurned h m b
  turned_back = record {
    vertices = sym T.vertices;
    count = sym T.count;
    tails = λ e l.
        let k : e < edges m = (let z : edges h ≡ edges m = T.count in omega arith) in
        elim (cases_Bool (b e)) [
          | inl c ↦ sym (turned_ends m b h T e k c).1 ∙ sym (cond-true (b e) (head h e) (tail h e) c)
          | inr c ↦ sym (kept_ends m b h T e k c).0 ∙ sym (cond-false (b e) (head h e) (tail h e) c)
        ];
    heads = λ e l.
        let k : e < edges m = (let z : edges h ≡ edges m = T.count in omega arith) in
        elim (cases_Bool (b e)) [
          | inl c ↦ sym (turned_ends m b h T e k c).0 ∙ sym (cond-true (b e) (tail h e) (head h e) c)
          | inr c ↦ sym (kept_ends m b h T e k c).1 ∙ sym (cond-false (b e) (tail h e) (head h e) c)
        ];
    orders = λ v l.
        let k : v < m.vertices = (let z : h.vertices ≡ m.vertices = T.vertices in omega arith) in
        sym (ap (λ ds. map (turned_end b) ds) (T.orders v k) ∙ map_map (turned_end b) (turned_end b) (order m v) ∙ all_twice (order m v));
  }

  -- an end that is there after the turning was there before
  end_before : (d : ℕ) → turned_end b d < darts h → d < darts m
  unfolding q
  end_before d l =
      let k : turned_end b (turned_end b d) < darts h = q_in h b m turned_back (turned_end b d) l in
      let e : turned_end b (turned_end b d) ≡ d = twice d in
      let z : edges h ≡ edges m = T.count in
      omega arith

  loopless_before : HasNoLoop (bare h) → HasNoLoop (bare m)
  loopless_before none e l same =
      let k : e < edges h = (let z : edges h ≡ edges m = T.count in omega arith) in
      elim (cases_Bool (b e)) [
        | inl c ↦ none e k ((turned_ends m b h T e l c).0 ∙ sym same ∙ sym (turned_ends m b h T e l c).1)
        | inr c ↦ none e k ((kept_ends m b h T e l c).0 ∙ same ∙ sym (kept_ends m b h T e l c).1)
      ]

-- a vertex other than this one
other : (n s : ℕ) → 2 ≤ n → (w : ℕ) × (w < n) × (w ≢ s)
other n s two = elim (cases_eq s 0) [
  | inl e ↦ (1, omega (arith, two), λ q. omega (arith, e, q))
  | inr differs ↦ (0, omega (arith, two), λ q. differs (sym q))
]

-- the poles of a planar st-graph differ: the source reaches another vertex
poles_differ : (h : Embedded) (s t outer : ℕ) → IsPlanarSt h s t outer → s ≢ t
poles_differ h s t outer P same =
    let w = other h.vertices s P.two in
    let r : Reaches (arcs_of (bare h)) s w.0 = st_from_source h s t outer P w.0 w.1 in
    none r.way w.0 r.walk w.2
  where
    none : (es : List ℕ) (w : ℕ) → Walk (arcs_of (bare h)) s es w → w ≢ s → ⊥
    none es w (stay q) n = n (sym q)
    none es w (step {e = e} a f r) n = P.sink.none_out e a (f ∙ same)

-- the map of an orientation is a plane graph of undirected edges with two poles
pub plane_before : AcyclicIsLoopless → (m : Embedded) (s t outer : ℕ) (b : ℕ → Bool) (h : Embedded) → IsOrientation m s t outer b h → IsPlane m s t outer
plane_before loopless m s t outer b h O =
    let T : IsTurned m h b = O.turned in
    let P : IsPlanarSt h s t (turned_end b outer) = O.planar in
    let n : h.vertices ≡ m.vertices = T.vertices in
    record {
      ends_in = ends_in_h h b m (turned_back m h b T) P.ends_in;
      orders = orders_h h b m (turned_back m h b T) P.ends_in P.orders;
      no_loop = loopless_before m h b T (loopless (bare h) P.no_cycle);
      source_in = subst (λ z. s < z) n P.source.there;
      sink_in = subst (λ z. t < z) n P.sink.there;
      poles = poles_differ h s t (turned_end b outer) P;
      outer_in = end_before m h b T outer P.outer_in;
    }
