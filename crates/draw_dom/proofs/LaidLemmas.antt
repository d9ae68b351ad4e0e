-- From a planar st-graph and its reduced graph to the picture and the points.
--   number_lists        the two numbers of each vertex, as lists that have every number once
--   laid_of             the compact points for them
--   few_vertices        how many vertices the reduced graph has
--   reduced_sides       the sides of the reduced graph
--   enough, dots, drawn, dominance_of, reaching_by   what holds of the points and the picture
use Rattle.std.proofs.Common.{ℕ, zero, suc, List, ◌≡◌, ◌<◌, ◌≤◌, ◌+◌, ◌↔◌, sym, ap, ◌∙◌, subst, arith, ◌∷◌, [], length, length-append, slice_get, Option}
use Rattle.std.proofs.Math.ListN.{set}
use Rattle.std.proofs.lemmas.List.{length-set}
use Rattle.st_ids.specs.declared.ids.VertexId.{VertexId}
use Rattle.st_ids.specs.declared.limits.TheConstants.{MOST_COORDINATE}
use Rattle.st_ids.specs.declared.names.Names.{Names}
use Rattle.st_ids.specs.Graph.{arcs_of}
use Rattle.st_ids.specs.Walks.{Arcs, Reaches}
use Rattle.st_ids.proofs.Public.{reach_refl, reach_trans}
use Rattle.st_map.specs.Embedded.{Embedded, bare, edges, faces, head, tail}
use Rattle.st_map.specs.Split.{split}
use Rattle.st_test.specs.Planar.{IsPlanarSt}
use Rattle.st_shape.specs.declared.point.Point.{Point}
use Rattle.st_shape.specs.Inside.{IsInside}
use Rattle.st_shape.specs.Rules.{Drawing, IsFrame}
use Rattle.st_sides.specs.Sides.{SidesValue, edge_count, edge_tail, edge_head, primal, IsSides}
use Rattle.st_sides.specs.Held.{HasSizes}
use Rattle.st_sides.specs.SidesOf.{ExistLaw, IsSidesOf}
use Rattle.st_sides.proofs.Public.{to_sink, meaning_law}
use Rattle.st_order.specs.declared.table.Labels.{Labels}
use Rattle.st_order.specs.Labels.{AreLabels}
use Rattle.st_order.specs.Laws.{IsNumbering}
use Rattle.st_order.specs.Numbers.{AreNumberings}
use Rattle.st_order.specs.Orders.{IsX, IsY}
use Rattle.st_order.proofs.Public.{numberings_law}
use Rattle.st_picture.specs.Drawn.{IsDrawn}
use Rattle.st_picture.specs.Items.{grid_point}
use Rattle.st_picture.specs.Naming.{AreNames}
use Rattle.st_picture.proofs.Public.{inside, pos_most, sink_in}
use Rattle.st_reduce.specs.Dummies.{AreDummies, SplitsTo}
use Rattle.st_reduce.specs.Marks.{dummy_numbers}
use Rattle.st_reduce.specs.Reduced.{IsReduced, IsTransitiveEdge, ReducedIs, Splits, begin, keep, cut, dummy_at}
use Rattle.st_reduce.specs.ReducedSides.{IsReducedSides, last_of}
use Rattle.st_reduce.specs.Transitive.{IsTransitive}
use Rattle.st_reduce.proofs.Public.{length-dummy_numbers, reduced_law, reduced_sides_law}
use Rattle.draw_dom.specs.Compact.{steps, point_x, point_y}
use Rattle.draw_dom.specs.Dominance.{CompactDominance, HasNoTransitive}
use Rattle.draw_dom.specs.Pictures.{IsAtMost, compact_point, points_and_lines}
use Rattle.draw_dom.specs.Points.{vertex_number, IsNumberList, AreNumberLists, ArePoints, IsPointAtMost, AreCompactPoints, vertex_point}
use Rattle.draw_dom.specs.Shown.{AreDots, IsDominanceOf, IsCompactLayout}
use Rattle.draw_dom.specs.Splitting.{IsSplitLayout, IsSplitSides}
use Rattle.draw_dom.proofs.AlongLemmas.{growth-le, most_pos, point_is}
use Rattle.draw_dom.proofs.DominanceLemmas.{compact_dominance_law}
use Rattle.draw_dom.proofs.DotLemmas.{dominance_drawn}
use Rattle.draw_dom.proofs.PictureLemmas.{one_dots}
use Rattle.draw_dom.proofs.TrimLemmas.{HasHeldSides, held}

-- ---- the arcs of a graph are those of its sides
arcs_same : (h : Embedded) (s t outer : ℕ) (r : SidesValue) → IsSidesOf h s t outer r → primal r ≡ arcs_of (bare h)
unfolding edge_count edge_tail edge_head
arcs_same h s t outer r of = ap (λ (es : List (ℕ × ℕ)). arcs_of (record { vertices = 0; ends = es })) of.ends

edges_same : (h : Embedded) (s t outer : ℕ) (r : SidesValue) → IsSidesOf h s t outer r → edge_count r ≡ edges h
unfolding edge_count
edges_same h s t outer r of = ap (λ (es : List (ℕ × ℕ)). length es) of.ends

pub none_there : (h : Embedded) (s t outer : ℕ) (r : SidesValue) → IsSidesOf h s t outer r → ((e : ℕ) → e < edges h → IsTransitiveEdge h e → ⊥) → HasNoTransitive r
none_there h s t outer r of none e l T = none e (let q = edges_same h s t outer r of in omega arith) (subst (λ (D : Arcs). IsTransitive D e) (arcs_same h s t outer r of) T)

-- ---- numbers
number_list : (n : ℕ) (F : ℕ → ℕ → Type 0) → IsNumbering n F → (xs : List ℕ) → length xs ≡ n → ((v : ℕ) → v < n → F v (vertex_number xs v)) → IsNumberList xs
number_list n F N xs size each = record {
  below = λ v l. (let k : vertex_number xs v < n = N.below v (vertex_number xs v) (omega arith) (each v (omega arith)) in omega arith);
  different = λ u v i j q. N.different u v (vertex_number xs u) (omega arith) (omega arith) (each u (omega arith)) (subst (F v) (sym q) (each v (omega arith)));
  onto = λ k l. (let h = N.onto k (omega arith) in let m : h.0 < n = h.1 in (h.0, omega arith, N.one h.0 (vertex_number xs h.0) k (each h.0 m) h.2));
}

pub number_lists : (g : SidesValue) → IsSides g → (l : Labels) → AreLabels g l → AreNumberLists l.x l.y
number_lists g S l A = record {
  same = A.x.size ∙ sym A.y.size;
  x = number_list g.vertices (IsX g) (numberings_law g S).x_numbers l.x A.x.size A.x.each;
  y = number_list g.vertices (IsY g) (numberings_law g S).y_numbers l.y A.y.size A.y.each;
}

pub laid_of : (h : Embedded) (s t outer : ℕ) (g : SidesValue) → IsSidesOf h s t outer g → HasSizes g → (l : Labels) → AreLabels g l → (points : List Point) → AreCompactPoints l.x l.y points → IsCompactLayout h s t outer points
laid_of h s t outer g of z l A points P = record {
  sides = g;
  are_sides = of;
  sizes = z;
  x = vertex_number l.x;
  y = vertex_number l.y;
  at_x = P.at_x;
  at_y = P.at_y;
  numbers = record {
    numberings = subst (λ n. AreNumberings n (vertex_number l.x) (vertex_number l.y) P.at_x P.at_y) A.x.size P.numberings;
    x = A.x.each;
    y = A.y.each;
  };
  are = subst (λ n. ArePoints (point_x (vertex_number l.x) (vertex_number l.y) P.at_x) (point_y (vertex_number l.x) (vertex_number l.y) P.at_y) n points) A.x.size P.are;
}

-- ---- sizes
pub few_vertices : (g : Embedded) (k : ℕ) (ds : List (Option ℕ)) (h : Embedded) → Splits g k ds h → h.vertices ≤ g.vertices + k
few_vertices g zero ds h (begin) = omega arith
few_vertices g (suc k) ds h (keep {ds = cs} S n) = (let m = few_vertices g k cs h S in omega arith)
few_vertices g (suc k) ds h (cut {ds = cs} {h = b} S y) = (let m = few_vertices g k cs b S in omega arith)

few_edges : (g : Embedded) (k : ℕ) (ds : List (Option ℕ)) (h : Embedded) → Splits g k ds h → edges h ≤ edges g + k
few_edges g zero ds h (begin) = omega arith
few_edges g (suc k) ds h (keep {ds = cs} S n) = (let m = few_edges g k cs h S in omega arith)
few_edges g (suc k) ds h (cut {ds = cs} {h = b} S y) =
    let m = few_edges g k cs b S in
    let a : edges (split b k) ≡ length (set b.ends k (tail b k, b.vertices)) + 1 = length-append (set b.ends k (tail b k, b.vertices)) ((b.vertices, head b k) ∷ []) in
    let c : length (set b.ends k (tail b k, b.vertices)) ≡ edges b = length-set b.ends k (tail b k, b.vertices) in
    omega arith

-- ---- the sides of the reduced graph
-- the reduced graph has sides, which are those of the graph with the split edges
pub record HasReducedSides (g : Embedded) (s t outer : ℕ) (x : SidesValue) (ds : List (Option ℕ)) (n : ℕ) : Type 0 where
  pub reduced : Embedded
  pub is_reduced : IsReduced g ds reduced
  pub sides : SidesValue
  pub are_sides : IsSidesOf reduced s t outer sides
  pub sizes : HasSizes sides
  pub split : IsSplitSides x ds n sides

pub reduced_sides : ExistLaw → (g : Embedded) (s t outer : ℕ) → IsPlanarSt g s t outer → (x : SidesValue) → IsSidesOf g s t outer x → x.vertices + edge_count x ≤ MOST_COORDINATE
    → (ds : List (Option ℕ)) (n : ℕ) → AreDummies x ds n → HasReducedSides g s t outer x ds n
reduced_sides exist g s t outer st x of few ds n D =
    let S : SplitsTo g (edge_count x) ds n = D g s t outer st of in
    let red : IsReduced g ds S.graph = subst (λ k. Splits g k ds S.graph) (edges_same g s t outer x of) S.splits in
    let law : ReducedIs g s t outer ds S.graph = (reduced_law g s t outer st).1 ds S.graph red in
    let planar : IsPlanarSt S.graph s t outer = law.keeps.planar in
    let own : HasHeldSides S.graph s t outer = held S.graph s t outer (exist S.graph s t outer planar).0 planar (exist S.graph s t outer planar).1
    (let a = few_edges g (edges g) ds S.graph red in
    let b : edge_count x ≡ edges g = edges_same g s t outer x of in
    let c : S.graph.vertices + faces S.graph ≡ edges S.graph + 2 = planar.euler in
    let d : 2 ≤ S.graph.vertices = planar.two in
    omega arith) in
    record {
      reduced = S.graph;
      is_reduced = red;
      sides = own.sides;
      are_sides = own.are_sides;
      sizes = own.sizes;
      split = record {
        size = law.size ∙ sym (edges_same g s t outer x of);
        vertices = own.are_sides.vertices ∙ S.vertices;
        sides = meaning_law S.graph s t outer own.sides planar own.are_sides;
        last = last_of g ds;
        are = reduced_sides_law g S.graph s t outer ds x own.sides st red of own.are_sides;
      };
    }

steps-le : (a : ℕ → ℕ) (k : ℕ) → steps a k ≤ k
steps-le a zero = omega arith
steps-le a (suc k) = (let h = steps-le a k in let l = growth-le (a k) (a (suc k)) in omega arith)

-- ---- the picture
module _ (g : Embedded) (s t outer : ℕ) (st : IsPlanarSt g s t outer) (x : SidesValue) (of : IsSidesOf g s t outer x) (S : IsSides x) (ds : List (Option VertexId)) (points : List Point) (K : IsSplitLayout g s t outer (dummy_numbers ds) points) where
  abbrev h : Embedded
  h = K.reduced

  abbrev L : IsCompactLayout K.reduced s t outer points
  L = K.layout

  red : IsReduced g (dummy_numbers ds) h
  red = K.is_reduced

  law : ReducedIs g s t outer (dummy_numbers ds) h
  law = (reduced_law g s t outer st).1 (dummy_numbers ds) h red

  abbrev r : SidesValue
  r = L.sides

  abbrev dummy : ℕ → Option ℕ
  dummy = dummy_at (dummy_numbers ds)

  abbrev px : ℕ → ℕ
  px = point_x L.x L.y L.at_x

  abbrev py : ℕ → ℕ
  py = point_y L.x L.y L.at_y

  R : IsSides r
  R = meaning_law h s t outer r law.keeps.planar L.are_sides

  Q : IsReducedSides x r dummy (last_of g (dummy_numbers ds))
  Q = reduced_sides_law g h s t outer (dummy_numbers ds) x r st red of L.are_sides

  none : HasNoTransitive r
  none = none_there h s t outer r L.are_sides law.none

  C : CompactDominance r px py
  C = compact_dominance_law r R L.x L.y L.at_x L.at_y L.numbers

  is : (v : ℕ) → v < r.vertices → vertex_point points v ≡ grid_point (px v) (py v)
  is v i = point_is px py r.vertices points L.are v i

  sink_there : x.sink < r.vertices
  sink_there = (let i = sink_in x S in let m = Q.vertices in omega arith)

  most : (v : ℕ) → v < r.vertices → (px v ≤ px x.sink) × (py v ≤ py x.sink)
  most v i = C.points.up v x.sink i sink_there (reach_trans (to_sink r R v i) (reach_refl Q.sink))

  -- there is a point for each vertex of the graph
  pub enough : x.vertices ≤ length points
  enough = (let n : length points ≡ r.vertices = L.are.size in let m = Q.vertices in omega arith)

  pub dots : x.vertices + edge_count x ≤ MOST_COORDINATE → AreDots x ds points
  dots few =
      let n : r.vertices ≤ MOST_COORDINATE =
      (let a = few_vertices g (edges g) (dummy_numbers ds) h red in
      let b : r.vertices ≡ h.vertices = L.are_sides.vertices in
      let c : x.vertices ≡ g.vertices = of.vertices in
      let d : edge_count x ≡ edges g = edges_same g s t outer x of in
      omega arith) in
      let size : length points ≡ r.vertices = L.are.size in
      let mx : px x.sink ≤ L.x x.sink = steps-le (λ i. L.y (L.at_x i)) (L.x x.sink) in
      let my : py x.sink ≤ L.y x.sink = steps-le (λ i. L.x (L.at_y i)) (L.y x.sink) in
      let lx : L.x x.sink < r.vertices = L.numbers.numberings.x_in x.sink sink_there in
      let ly : L.y x.sink < r.vertices = L.numbers.numberings.y_in x.sink sink_there in
      record {
        vertices = enough;
        size = sym (length-dummy_numbers ds) ∙ law.size ∙ sym (edges_same g s t outer x of);
        dummies_in = λ e w a q. (let m : w < r.vertices = (Q.new_vertex e w a q).1 in omega arith);
        inside = λ v i.
            let j : v < r.vertices = omega arith in
            let k = most v j in
            subst (λ p. IsInside p (vertex_point points v)) (sym (is x.sink sink_there)) (subst (IsInside (grid_point (px x.sink) (py x.sink))) (sym (is v j)) (inside (px x.sink) (py x.sink) (px v) (py v) k.0 k.1));
        grid = subst IsFrame (sym (is x.sink sink_there)) (inside MOST_COORDINATE MOST_COORDINATE (px x.sink) (py x.sink) (omega arith) (omega arith));
      }

  module _ (N : Names) (d : Drawing) (q : d ≡ points_and_lines x N dummy (vertex_point points)) where
    picture : d ≡ points_and_lines x N dummy (compact_point L.x L.y L.at_x L.at_y)
    picture = q ∙ one_dots x r S R dummy (last_of g (dummy_numbers ds)) Q N (vertex_point points) (compact_point L.x L.y L.at_x L.at_y) is

    pub drawn : AreNames x N → IsDrawn x d
    drawn A = dominance_drawn x r S R dummy (last_of g (dummy_numbers ds)) Q none N A d (record { x = L.x; y = L.y; at_x = L.at_x; at_y = L.at_y; numbers = L.numbers; is = picture })

    pub dominance_of : (ps : List Point) → length ps ≡ x.vertices → ((v : ℕ) → v < x.vertices → slice_get ps v ≡ slice_get points v) → IsDominanceOf g s t outer x N d ps
    dominance_of ps size each = record {
      dummies = dummy_numbers ds;
      reduced = h;
      is_reduced = red;
      sides = r;
      are_sides = L.are_sides;
      sizes = L.sizes;
      x = L.x;
      y = L.y;
      at_x = L.at_x;
      at_y = L.at_y;
      numbers = L.numbers;
      picture = picture;
      points_are = record {
        size = size ∙ of.vertices;
        each = λ v i.
            let a : x.vertices ≡ g.vertices = of.vertices in
            let m = Q.vertices in
            each v (omega arith) ∙ L.are.each v (omega arith);
      };
    }

  pub reaching_by : (ps : List Point) → length ps ≡ x.vertices → ((v : ℕ) → v < x.vertices → slice_get ps v ≡ slice_get points v)
      → (u v : ℕ) → u < g.vertices → v < g.vertices → Reaches (arcs_of (bare g)) u v ↔ IsPointAtMost ps u v
  reaching_by ps size each u v i j =
      let a : x.vertices ≡ g.vertices = of.vertices in
      let m = Q.vertices in
      let iu : u < r.vertices = omega arith in
      let iv : v < r.vertices = omega arith in
      let own : ArePoints px py x.vertices ps = record { size = size; each = λ w k. each w k ∙ L.are.each w (omega arith) } in
      let pu : vertex_point ps u ≡ grid_point (px u) (py u) = point_is px py x.vertices ps own u (omega arith) in
      let pv : vertex_point ps v ≡ grid_point (px v) (py v) = point_is px py x.vertices ps own v (omega arith) in
      let same : primal r ≡ arcs_of (bare h) = arcs_same h s t outer r L.are_sides in (
        (λ w.
            let k = C.points.up u v iu iv (subst (λ (D : Arcs). Reaches D u v) (sym same) ((law.keeps.reaches u v i j).0 w)) in
            subst (λ p. IsAtMost p (vertex_point ps v)) (sym pu) (subst (IsAtMost (grid_point (px u) (py u))) (sym pv) (pos_most (px u) (px v) k.0, pos_most (py u) (py v) k.1))),
        (λ w.
            let k : IsAtMost (grid_point (px u) (py u)) (grid_point (px v) (py v)) = subst (λ p. IsAtMost p (grid_point (px v) (py v))) pu (subst (IsAtMost (vertex_point ps u)) pv w) in
            (law.keeps.reaches u v i j).1 (subst (λ (D : Arcs). Reaches D u v) same (C.points.back u v iu iv (most_pos (px u) (px v) k.0) (most_pos (py u) (py v) k.1)))),
      )
