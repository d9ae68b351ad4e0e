-- An orientation keeps each vertex's list of edges.
use Rattle.std.proofs.Common.{◌≡◌, ℕ, ◌+◌, ◌*◌, ◌<◌, Bool, true, false, cond, eqb, List, [], ◌∷◌, map, length, refl, sym, ap, ◌∙◌, subst, arith}
use Rattle.std.proofs.lemmas.List.FromFn.{get_or-map-range_with_len}
use Rattle.std.specs.Prelude.{slice_index}
use Rattle.st_ids.specs.Ends.{edge_of}
use Rattle.st_ids.specs.Graph.{Graph, tail_of}
use Rattle.st_map.specs.Embedded.{Embedded, IsRotation, Touches, bare, darts, edges, faces, order}
use Rattle.st_map.specs.Orders.{HasNoLoop, embed, end_at, ends_at, order_at}
use Rattle.st_map.proofs.Public.{edge_of-tail, edge_of-head}
use Rattle.st_test.specs.Planar.{IsPlanarSt}
use Rattle.st_bipolar.specs.Kept.{KeepsLists, OrientationKeepsLists}
use Rattle.st_bipolar.specs.Orientation.{IsOrientation, IsTurned, turned_end}
use Rattle.st_bipolar.specs.Turning.{AreEdgeLists, AreTurnedEnds, edges_at}
use Rattle.st_bipolar.proofs.RebuildLemmas.{map_map, map_same, rebuilt, rebuilt_order}
use Rattle.st_bipolar.proofs.TurnLemmas.{q, q_edge, q_in, q_q, orders_h, turned_faces, turned_touches, touches_turned}

edge_of-end_at : (ends : List (ℕ × ℕ)) (v e : ℕ) → edge_of (end_at ends v e) ≡ e
edge_of-end_at ends v e = by (eqb (tail_of ends e) v)
  where
    by : (c : Bool) → edge_of (cond c (2 * e) (2 * e + 1)) ≡ e
    by true = edge_of-tail e
    by false = edge_of-head e

edges_back : (ends : List (ℕ × ℕ)) (v : ℕ) (es : List ℕ) → map edge_of (map (end_at ends v) es) ≡ es
edges_back ends v [] = refl
edges_back ends v (e ∷ es) = ap (λ x. x ∷ map edge_of (map (end_at ends v) es)) (edge_of-end_at ends v e) ∙ ap (λ (xs : List ℕ). e ∷ xs) (edges_back ends v es)

-- the edges of a vertex are those of the list that its ends were made from
edges_at-embed : (f : Graph) (lists : List (List ℕ)) (v : ℕ) → v < f.vertices → edges_at (embed f lists) v ≡ order_at lists v
edges_at-embed f lists v l = ap (map edge_of) (get_or-map-range_with_len (ends_at f.ends lists) 0 f.vertices v v [] l (omega arith)) ∙ edges_back f.ends v (order_at lists v)

edges_at-turned : (g h : Embedded) (b : ℕ → Bool) → IsTurned g h b → (v : ℕ) → v < g.vertices → edges_at h v ≡ edges_at g v
unfolding q
edges_at-turned g h b T v l =
    ap (map edge_of) (T.orders v l) ∙ map_map edge_of (turned_end b) (order g v)
    ∙ map_same (λ d. edge_of (turned_end b d)) edge_of (order g v) (λ i li. q_edge g b h T (slice_index (order g v) i))

module _ (f : Graph) (lists : List (List ℕ)) (s t outer : ℕ) (b : ℕ → Bool) (h : Embedded) (size : length lists ≡ f.vertices) (R : IsRotation (embed f lists)) (D : HasNoLoop f) (O : IsOrientation (embed f lists) s t outer b h) where
  T : IsTurned (embed f lists) h b
  T = O.turned

  ends : AreTurnedEnds (embed f lists) b (edges (embed f lists)) (bare h)
  ends = record { vertices = T.vertices; count = T.count; tails = T.tails; heads = T.heads }

  old_lists : AreEdgeLists (embed f lists) f.vertices lists
  old_lists = record { size = size; each = λ v l. sym (edges_at-embed f lists v l) }

  again : IsTurned (embed f lists) (embed (bare h) lists) b
  again = rebuilt (embed f lists) R D b (bare h) lists ends old_lists

  outer_in : outer < darts (embed f lists)
  unfolding q
  outer_in =
      let l : turned_end b outer < darts h = O.planar.outer_in in
      let m : edges h ≡ edges (embed f lists) = T.count in
      let k : turned_end b (turned_end b outer) < darts (embed f lists) = q_in (embed f lists) b h T (turned_end b outer) (omega arith) in
      subst (λ d. d < darts (embed f lists)) (q_q (embed f lists) b h T outer) k

  touches_again : (v : ℕ) → Touches h (turned_end b outer) v → Touches (embed (bare h) lists) (turned_end b outer) v
  unfolding q
  touches_again v p =
      let g = embed f lists in
      turned_touches g b (embed (bare h) lists) again R.ends R.orders outer v outer_in (touches_turned g b h T R.ends R.orders outer v outer_in p)

  planar : IsPlanarSt (embed (bare h) lists) s t (turned_end b outer)
  planar =
      let g = embed f lists in
      let S : IsPlanarSt h s t (turned_end b outer) = O.planar in
      let same : faces (embed (bare h) lists) ≡ faces h = turned_faces g b (embed (bare h) lists) again R.ends R.orders ∙ sym (turned_faces g b h T R.ends R.orders) in
      record {
        ends_in = S.ends_in;
        two = S.two;
        no_cycle = S.no_cycle;
        source = S.source;
        sink = S.sink;
        orders = orders_h g b (embed (bare h) lists) again R.ends R.orders;
        euler = ap (λ n. h.vertices + n) same ∙ S.euler;
        outer_in = S.outer_in;
        outer_s = touches_again s S.outer_s;
        outer_t = touches_again t S.outer_t;
      }

  kept : KeepsLists f lists s t outer b h
  kept = record {
    lists_are = λ v l. edges_at-turned (embed f lists) h b T v l ∙ edges_at-embed f lists v l;
    poles = record { two = O.planar.two; no_cycle = O.planar.no_cycle; source = O.planar.source; sink = O.planar.sink };
    lawful = rebuilt_order (embed f lists) R D b (bare h) lists ends old_lists;
    read_again = record { turned = again; planar = planar };
  }

pub lists_kept : OrientationKeepsLists
lists_kept f lists s t outer b h size R D O = kept f lists s t outer b h size R D O
