-- The vertices that are left are those at which long walks end.
use Rattle.std.proofs.Common.{◌≡◌, ◌≢◌, ℕ, zero, suc, ◌+◌, ◌^◌, ◌<◌, ◌≤◌, inl, inr, Bool, true, List, [], ◌∷◌, length, get_or, refl, sym, ◌∙◌, subst, arith}
use Rattle.std.proofs.lemmas.Bool.{cases_Bool}
use Rattle.st_ids.specs.Graph.{tail_of, head_of, AreWithin, arcs_of}
use Rattle.st_test.specs.Poles.{graph_of}
use Rattle.st_ids.specs.Walks.{Walk, stay, step, IsAcyclic}
use Rattle.st_test.specs.Stripping.{IsStripped}
use Rattle.st_test.proofs.StripSteps.{short}
use Rattle.st_test.specs.Cycle.{EndsLong}
use Rattle.st_test.specs.BackTables.{is_left, AreLeft, ComesIn, AreBacks, IsClosed, AllListed}

module _ (n : ℕ) (ends : List (ℕ × ℕ)) (order es : List ℕ) (within : AreWithin n ends) (st : IsStripped n ends order es) where
  -- a walk to the vertex at place k begins at a place that is so much earlier
  pub walk_places : (ws : List ℕ) (u v k : ℕ) → Walk (arcs_of (graph_of n ends)) u ws v → k < length order → get_or order k 0 ≡ v
      → (j : ℕ) × (j + length ws ≤ k) × (get_or order j 0 ≡ u)
  walk_places [] u v k (stay q) l at = (k, omega arith, at ∙ sym q)
  walk_places (e ∷ ws) u v k (step i f w) l at =
      let r : (j : ℕ) × (j + length ws ≤ k) × (get_or order j 0 ≡ head_of ends e) = walk_places ws (head_of ends e) v k w l at in
      let b : (i : ℕ) × (i < r.0) × (get_or order i 0 ≡ tail_of ends e) = st.before r.0 e (omega (arith, r.1)) i (sym r.2) in
      (b.0, omega (arith, r.1, b.1), b.2 ∙ f)

  pub short_order : length order ≤ n
  short_order = short n order st.vertices st.apart

  pub not_long : (v k : ℕ) → k < length order → get_or order k 0 ≡ v → EndsLong (graph_of n ends) v → ⊥
  not_long v k l at w =
      let r : (j : ℕ) × (j + length w.1 ≤ k) × (get_or order j 0 ≡ w.0) = walk_places w.1 w.0 v k w.2 l at in
      omega (arith, r.1, w.3, short_order)

  pub long_to : (m v z : ℕ) (ws : List ℕ) → v < n → ((k : ℕ) → k < length order → get_or order k 0 ≢ v) → Walk (arcs_of (graph_of n ends)) v ws z
      → (u : ℕ) × (vs : List ℕ) × Walk (arcs_of (graph_of n ends)) u vs z × (length vs ≡ m + length ws)
  long_to zero v z ws l out w = (v, ws, w, omega arith)
  long_to (suc m) v z ws l out w =
      let r : (e : ℕ) × (e < length ends) × (head_of ends e ≡ v) × ((k : ℕ) → k < length order → get_or order k 0 ≢ tail_of ends e) = st.rest v l out in
      let more : Walk (arcs_of (graph_of n ends)) (tail_of ends r.0) (r.0 ∷ ws) z = step r.1 refl (subst (λ x. Walk (arcs_of (graph_of n ends)) x ws z) (sym r.2) w) in
      let a : (u : ℕ) × (vs : List ℕ) × Walk (arcs_of (graph_of n ends)) u vs z × (length vs ≡ m + length (r.0 ∷ ws)) =
      long_to m (tail_of ends r.0) z (r.0 ∷ ws) (within r.0 r.1).0 r.3 more in
      (a.0, a.1, a.2, omega (arith, a.3))

  pub ends_long : (v : ℕ) → v < n → ((k : ℕ) → k < length order → get_or order k 0 ≢ v) → EndsLong (graph_of n ends) v
  ends_long v l out =
      let a : (u : ℕ) × (vs : List ℕ) × Walk (arcs_of (graph_of n ends)) u vs v × (length vs ≡ n + 0) = long_to n v v [] l out (stay refl) in
      (a.0, a.1, a.2, omega (arith, a.3))

  pub acyclic : AllListed n order → IsAcyclic (arcs_of (graph_of n ends))
  acyclic all u e ws (step i f w) =
      let lu : u < n = (let l : tail_of ends e < n = (within e i).0 in let q : tail_of ends e ≡ u = f in omega arith) in
      let p : (k : ℕ) × (k < length order) × (get_or order k 0 ≡ u) = all u lu in
      let r : (j : ℕ) × (j + length (e ∷ ws) ≤ p.0) × (get_or order j 0 ≡ u) = walk_places (e ∷ ws) u u p.0 (step i f w) p.1 p.2 in
      st.apart r.0 p.0 (omega (arith, r.1)) p.1 (r.2 ∙ sym p.2)

  module _ (left : List Bool) (lf : AreLeft n order left) where
    pub left_long : (v : ℕ) → v < n → is_left left v ≡ true → EndsLong (graph_of n ends) v
    left_long v l y = ends_long v l (λ k lk. lf.out v k l y lk)

    pub long_left : (v : ℕ) → v < n → EndsLong (graph_of n ends) v → is_left left v ≡ true
    long_left v l w = elim (cases_Bool (is_left left v)) [
      | inl y ↦ y
      | inr f ↦ (let p : (k : ℕ) × (k < length order) × (get_or order k 0 ≡ v) = lf.listed v l f in absurd (not_long v p.0 p.1 p.2 w))
    ]

    left_edge : (v : ℕ) → v < n → is_left left v ≡ true → (e : ℕ) × (e < length ends) × ComesIn ends left v e
    left_edge v l y =
        let r : (e : ℕ) × (e < length ends) × (head_of ends e ≡ v) × ((k : ℕ) → k < length order → get_or order k 0 ≢ tail_of ends e) = st.rest v l (λ k lk. lf.out v k l y lk) in (
          r.0,
          r.1,
          record {
            into = r.2;
            from = elim (cases_Bool (is_left left (tail_of ends r.0))) [
              | inl t ↦ t
              | inr f ↦ (let p : (k : ℕ) × (k < length order) × (get_or order k 0 ≡ tail_of ends r.0) = lf.listed (tail_of ends r.0) (within r.0 r.1).0 f in absurd (r.3 p.0 p.1 p.2))
            ];
          },
        )

    module _ (back : List ℕ) (small : length ends < 2 ^ 30) (bk : AreBacks n ends left (length ends) back) where
      pub back_edge : (v : ℕ) → v < n → is_left left v ≡ true → get_or back v 0 < length ends
      back_edge v l y = elim (bk.mark v l) [
        | inl a ↦ a
        | inr q ↦
            let r : (e : ℕ) × (e < length ends) × ComesIn ends left v e = left_edge v l y in
            absurd (bk.first v r.0 l r.1 (omega (arith, r.1)) r.2)
      ]

      pub closed : IsClosed n ends left back
      closed = record {
        size = bk.size;
        edge = back_edge;
        vertex = λ v l y. (within (get_or back v 0) (back_edge v l y)).0;
        stays = λ v l y. (bk.found v l (back_edge v l y)).from;
      }
