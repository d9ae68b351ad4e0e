-- Sides are those of the graph that they tell.
use Rattle.std.proofs.Common.{◌≡◌, ◌≢◌, ℕ, ◌-◌, ◌*◌, ◌<◌, List, map, length, sym, ap, ◌∙◌, subst, arith}
use Rattle.std.specs.List.{range_with_len}
use Rattle.st_map.specs.Embedded.{Embedded, faces}
use Rattle.st_map.specs.Embedded.{edges as edges_of}
use Rattle.st_test.specs.Planar.{IsPlanarSt}
use Rattle.st_sides.specs.Conditions.{AreSides, left_face, right_face}
use Rattle.st_sides.specs.LocalSides.{first, last}
use Rattle.st_sides.specs.Normal.{clockwise, normal}
use Rattle.st_sides.proofs.LocalLemmas.{some_out, out_there}
use Rattle.st_sides.proofs.NormalLemmas.{normal_law}
use Rattle.st_sides.specs.Sides.{SidesValue, outs, ins, low, high, left_path, right_path}
use Rattle.st_sides.specs.SidesOf.{IsSidesOf, told_graph, OwnLaw}

-- what holds of a graph and two poles holds of equal ones
moved : (P : Embedded → ℕ → ℕ → Type 0) (g h : Embedded) (s s' t t' : ℕ) → g ≡ h → s ≡ s' → t ≡ t' → P g s t → P h s' t'
moved P g h s s' t t' p q r w = subst (λ z. P h s' z) r (subst (λ z. P h z t) q (subst (λ z. P z s t) p w))

graph-same : (x : SidesValue) (n m : ℕ) (es fs : List (ℕ × ℕ)) → n ≡ m → es ≡ fs
    → let L : ℕ → List (List ℕ) = λ k. map (λ v. clockwise (outs x v) (ins x v)) (range_with_len 0 k) in
    let a : Embedded = record { vertices = n; ends = es; orders = L n } in
    let b : Embedded = record { vertices = m; ends = fs; orders = L m } in a ≡ b
graph-same x n m es fs p q =
    let L : ℕ → List (List ℕ) = λ k. map (λ v. clockwise (outs x v) (ins x v)) (range_with_len 0 k) in
    let F : ℕ → List (ℕ × ℕ) → Embedded = λ k zs. record { vertices = k; ends = zs; orders = L k } in
    ap (λ k. F k es) p ∙ ap (λ zs. F m zs) q

pub own_law : OwnLaw
own_law g s t outer x st of =
    let o : ℕ → ℕ = λ z. 2 * first (outs x z) in
    let h : Embedded = normal g (outs x) (ins x) in
    let w : IsPlanarSt h s t (o s)
    × AreSides h s t (o s) (outs x) (ins x) (low x) (high x) (left_path x) (right_path x)
    × ((e : ℕ) → e < edges_of g → (left_face h (o s) e ≡ left_face g outer e) × (right_face h (o s) e ≡ right_face g outer e))
    × (faces h ≡ faces g) = normal_law g s t outer st (outs x) (ins x) (low x) (high x) (left_path x) (right_path x) of.are in
    let so : IsSidesOf h s t (o s) x = record {
      vertices = of.vertices;
      ends = of.ends;
      source = of.source;
      sink = of.sink;
      nodes = of.nodes ∙ sym w.3;
      left_of_edge = λ e l. of.left_of_edge e l ∙ sym (w.2 e l).0;
      right_of_edge = λ e l. of.right_of_edge e l ∙ sym (w.2 e l).1;
      are = w.1;
      left_of_inner = λ v l ns nt. of.left_of_inner v l ns nt
          ∙ sym (w.2 (first (outs x v)) (out_in v l nt).0).0;
      right_of_inner = λ v l ns nt. of.right_of_inner v l ns nt
          ∙ sym (w.2 (last (outs x v)) (out_in v l nt).1).1;
      left_of_s = of.left_of_s;
      left_of_t = of.left_of_t;
      right_of_s = of.right_of_s ∙ sym w.3;
      right_of_t = of.right_of_t ∙ sym w.3;
    } in
    let same : h ≡ told_graph x = graph-same x g.vertices x.vertices g.ends x.ends (sym of.vertices) (sym of.ends) in
    record {
      planar = moved (λ k a b. IsPlanarSt k a b (o a)) h (told_graph x) s x.source t x.sink same (sym of.source) (sym of.sink) w.0;
      sides = moved (λ k a b. IsSidesOf k a b (o a) x) h (told_graph x) s x.source t x.sink same (sym of.source) (sym of.sink) so;
    }
  where
    out_in : (v : ℕ) → v < g.vertices → v ≢ t → (first (outs x v) < edges_of g) × (last (outs x v) < edges_of g)
    out_in v l nt =
        let p : 0 < length (outs x v) = some_out g s t outer st (outs x) (ins x) (low x) (high x) (left_path x) (right_path x) of.are v l nt in (
          (out_there g s t outer st (outs x) (ins x) (low x) (high x) (left_path x) (right_path x) of.are v 0 l p).0,
          (out_there g s t outer st (outs x) (ins x) (low x) (high x) (left_path x) (right_path x) of.are v (length (outs x v) - 1) l (omega arith)).0,
        )
