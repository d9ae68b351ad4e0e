-- Heights are the least numbers that rise along each edge by its weight.
use Rattle.std.proofs.Common.{ℕ, ◌≡◌, ◌<◌, ◌≤◌, ◌+◌, List, ap, arith}
use Rattle.st_ids.specs.Walks.{Arcs, Walk, stay, step}
use Rattle.st_sides.specs.Sides.{SidesValue, edge_tail, edge_head, primal, IsSides}
use Rattle.st_sides.proofs.Public.{within}
use Rattle.st_number.specs.Greatest.{weigh, IsGreatest}
use Rattle.st_number.specs.Least.{LeastLaw}
use Rattle.st_number.proofs.GreatestLemmas.{heights_law}

-- numbers that rise along each arc by its weight rise along each walk by the sum of them
rises_along : (D : Arcs) (w h : ℕ → ℕ) → ((e : ℕ) → e < D.count → h (D.from e) + w e ≤ h (D.to e)) → {u v : ℕ} {es : List ℕ} → Walk D u es v → h u + weigh w es ≤ h v
rises_along D w h R (stay q) = let p = ap h q in omega arith
rises_along D w h R (step {e = e} i t r) =
    let k = rises_along D w h R r in
    let l : h (D.from e) + w e ≤ h (D.to e) = R e i in
    let p = ap h t in
    omega arith

pub least_law : (g : SidesValue) → IsSides g → LeastLaw g
least_law g S = record {
  rises = λ w y H e l.
      let inside = within g S in
      ((heights_law g S).heights w).grows e l (y (edge_tail g e)) (y (edge_head g e)) (H (edge_tail g e) (inside.from_in e l)) (H (edge_head g e) (inside.to_in e l));
  least = λ w y h H R v l.
      let G : IsGreatest (primal g) w g.source v (y v) = H v l in
      let k : h g.source + weigh w G.way ≤ h v = rises_along (primal g) w h R G.walk in
      let q : weigh w G.way ≡ y v = G.weighs in
      omega arith;
}
