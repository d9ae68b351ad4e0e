-- The definition of a planar st-graph is met by a graph with an inner face.
use Rattle.std.proofs.Common.{◌≡◌, ◌≢◌, ℕ, zero, suc, ◌<◌, ◌≤◌, List, [], ◌∷◌, length, get_or, refl, sym, ap, arith}
use Rattle.st_ids.specs.Ends.{twin, is_out, edge_of}
use Rattle.st_ids.specs.Graph.{tail_of, head_of}
use Rattle.st_map.specs.Embedded.{Embedded, edges, darts, tail, head, order, at, next, phi, face, faces}
use Rattle.st_sides.specs.GraphWalks.{IsWalk}
use Rattle.st_ids.specs.Walks.{stay, step}
use Rattle.st_sides.specs.GraphWalks.{HasNoCycle}
use Rattle.st_test.specs.Planar.{IsPlanarSt}
use Rattle.st_sides.specs.Example.{two_edges}

-- a graph whose edges go up in some numbering has no cycle
walk_rises : (g : Embedded) (y : ℕ → ℕ) → ((e : ℕ) → e < edges g → y (tail g e) < y (head g e)) → (u v : ℕ) (es : List ℕ) → IsWalk g u es v → y u ≤ y v
walk_rises g y h u v [] (stay q) = let e : y u ≡ y v = ap y q in omega arith
walk_rises g y h u v (e ∷ es) (step a f w) =
    let here : y (tail g e) < y (head g e) = h e a in
    let from : y (tail g e) ≡ y u = ap y f in
    omega (arith, walk_rises g y h (head g e) v es w)

pub no_cycle-from_heights : (g : Embedded) (y : ℕ → ℕ) → ((e : ℕ) → e < edges g → y (tail g e) < y (head g e)) → HasNoCycle g
no_cycle-from_heights g y h u e es (step a f w) =
    let here : y (tail g e) < y (head g e) = h e a in
    let from : y (tail g e) ≡ y u = ap y f in
    omega (arith, walk_rises g y h (head g e) u es w)

up : (e : ℕ) → e < edges two_edges → (tail two_edges e ≡ 0) × (head two_edges e ≡ 1)
unfolding tail_of head_of
up zero l = (refl, refl)
up (suc zero) l = (refl, refl)
up (suc (suc e)) l = absurd (omega arith)

own : (v i : ℕ) → v < 2 → i < length (order two_edges v) → (get_or (order two_edges v) i 0 < darts two_edges) × (at two_edges (get_or (order two_edges v) i 0) ≡ v)
unfolding at is_out edge_of tail_of head_of
own zero zero lv li = (omega arith, refl)
own zero (suc zero) lv li = (omega arith, refl)
own zero (suc (suc i)) lv li = absurd (omega arith)
own (suc zero) zero lv li = (omega arith, refl)
own (suc zero) (suc zero) lv li = (omega arith, refl)
own (suc zero) (suc (suc i)) lv li = absurd (omega arith)
own (suc (suc v)) i lv li = absurd (omega arith)

listed : (d : ℕ) → d < darts two_edges → (i : ℕ) × (i < length (order two_edges (at two_edges d))) × (get_or (order two_edges (at two_edges d)) i 0 ≡ d)
unfolding at is_out edge_of tail_of head_of
listed zero l = (0, omega arith, refl)
listed (suc zero) l = (1, omega arith, refl)
listed (suc (suc zero)) l = (1, omega arith, refl)
listed (suc (suc (suc zero))) l = (0, omega arith, refl)
listed (suc (suc (suc (suc d)))) l = absurd (omega arith)

once : (v i j : ℕ) → v < 2 → i < j → j < length (order two_edges v) → get_or (order two_edges v) i 0 ≢ get_or (order two_edges v) j 0
once zero zero (suc zero) lv ij lj e = omega arith
once zero zero (suc (suc j)) lv ij lj e = omega arith
once zero zero zero lv ij lj e = omega arith
once zero (suc i) j lv ij lj e = omega arith
once (suc zero) zero (suc zero) lv ij lj e = omega arith
once (suc zero) zero (suc (suc j)) lv ij lj e = omega arith
once (suc zero) zero zero lv ij lj e = omega arith
once (suc zero) (suc i) j lv ij lj e = omega arith
once (suc (suc v)) i j lv ij lj e = omega arith

pub two_edges_planar : IsPlanarSt two_edges 0 1 0
unfolding at twin is_out edge_of tail_of head_of next phi face faces
two_edges_planar = record {
  ends_in = λ e l. omega (arith, (up e l).0, (up e l).1);
  two = omega arith;
  no_cycle = no_cycle-from_heights two_edges (λ v. v) (λ e l. omega (arith, (up e l).0, (up e l).1));
  source = record { there = omega arith; none_in = λ e l h. omega (arith, (up e l).1); only = λ v l n. (let k : v ≢ 1 = λ q. n 0 (omega arith) (sym q) in omega arith) };
  sink = record { there = omega arith; none_out = λ e l h. omega (arith, (up e l).0); only = λ v l n. (let k : v ≢ 0 = λ q. n 0 (omega arith) (sym q) in omega arith) };
  orders = record { own = own; listed = listed; once = once };
  euler = refl;
  outer_in = omega arith;
  outer_s = (0, (0, refl), refl);
  outer_t = (3, (1, refl), refl);
}
