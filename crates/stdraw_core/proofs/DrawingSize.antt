-- What is drawn of a graph within the limits is short enough to be checked.
--   few_items    a picture has at most twice as many items as the graph has vertices and edges
--   short_out    so its text keeps the limit of bytes
use Rattle.std.proofs.Common.{ℕ, zero, suc, ◌≡◌, ◌+◌, ◌-◌, ◌*◌, ◌≤◌, ◌++◌, [], ◌∷◌, List, length, Option, Some, None, ℤ, ap, sym, subst, arith, length-append}
use Rattle.eps_core.specs.Size.{HasShortText}
use Rattle.st_ids.specs.declared.limits.TheConstants.{MOST_DRAWING_BYTES, MOST_EDGES, MOST_VERTICES}
use Rattle.st_ids.specs.declared.names.Names.{Names}
use Rattle.st_input.specs.InputGraph.{InputGraph}
use Rattle.st_map.specs.Embedded.{Embedded, edges}
use Rattle.st_picture.specs.Bars.{bar, bar_start, bars, upright}
use Rattle.st_picture.specs.Items.{grid_point, drawing, items_by, label_items, labels, line}
use Rattle.st_picture.specs.Naming.{vertex_name, label_text}
use Rattle.st_shape.specs.declared.item.Item.{Item}
use Rattle.st_shape.specs.declared.picture.Form.{Form}
use Rattle.st_shape.specs.declared.picture.Form.TheVariants as shape
use Rattle.st_shape.specs.declared.point.Point.{Point}
use Rattle.st_shape.specs.Rules.{Drawing}
use Rattle.st_sides.specs.Sides.{SidesValue, edge_count}
use Rattle.st_test.specs.Planar.{IsPlanarSt, StValue}
use Rattle.st_reduce.specs.Reduced.{dummy_at}
use Rattle.draw_align.specs.Constrained.{path_column}
use Rattle.draw_dom.specs.Pictures.{compact_point, dummied, points_and_lines}
use Rattle.draw_dom.specs.Pictures.{point_dot}
use Rattle.draw_poly.specs.Polyline.{bent, corner_of, dot, dot_place, polylines}
use Rattle.draw_vis.specs.Tessellation.{box, boxes, full_bar, post}
use Rattle.draw_vis.specs.Visibility.{in_left_column}
use Rattle.st_words.specs.declared.words.DrawForm.{DrawForm}
use Rattle.st_words.specs.declared.words.DrawForm.TheVariants.{Visibility, Tessellation, Constrained, Polyline, Dominance}
use Rattle.stdraw_core.specs.Drawing.{Depicts, IsPictureOf, ShowsFile, file_names}

-- ---- items
length-each : (f : ℕ → Item) (n : ℕ) → length (items_by f n) ≡ n
length-each f zero = omega arith
length-each f (suc n) = omega (arith, length-append (items_by f n) (f n ∷ []), length-each f n)

one_label : (name : ℤ) (p : Point) (text : Option (List ℕ)) → length (label_items name p text) ≤ 1
one_label name p None = omega arith
one_label name p (Some text) = omega arith

few_labels : (N : Names) (place : ℕ → Point) (n : ℕ) → length (labels N place n) ≤ n
few_labels N place zero = omega arith
few_labels N place (suc n) = omega (arith, length-append (labels N place n) (label_items (vertex_name N n) (place n) (label_text N n)), few_labels N place n, one_label (vertex_name N n) (place n) (label_text N n))

three_parts : (a b c xs : List Item) → xs ≡ a ++ (b ++ c) → length xs ≡ length a + length b + length c
three_parts a b c xs q = let is : length xs ≡ length (a ++ (b ++ c)) = ap length q in omega (arith, is, length-append a (b ++ c), length-append b c)

-- figures, lines and labels
in_drawing : (x : SidesValue) (N : Names) (form : Form) (frame : Point) (figure : ℕ → Item) (points : ℕ → List Point) (place : ℕ → Point) (d : Drawing)
    → d ≡ drawing x N form frame figure points place → length d.items ≤ 2 * x.vertices + edge_count x
in_drawing x N form frame figure points place d q =
    omega (
      arith,
      three_parts (items_by figure x.vertices) (items_by (line x N points) (edge_count x)) (labels N place x.vertices) d.items (ap (λ (z : Drawing). z.items) q),
      length-each figure x.vertices,
      length-each (line x N points) (edge_count x),
      few_labels N place x.vertices,
    )

-- bars, boxes, upright lines and labels
in_boxes : (x : SidesValue) (N : Names) (y c : ℕ → ℕ) (d : Drawing) → d ≡ boxes x N y c → length d.items ≤ 2 * x.vertices + edge_count x + (x.t_star + 1)
in_boxes x N y c d q =
    omega (
      arith,
      three_parts (items_by (full_bar x N y c) x.vertices) (items_by (box x N y c) (edge_count x)) (items_by (post x y c) (x.t_star + 1) ++ labels N (bar_start x y c) x.vertices) d.items (ap (λ (z : Drawing). z.items) q),
      length-append (items_by (post x y c) (x.t_star + 1)) (labels N (bar_start x y c) x.vertices),
      length-each (full_bar x N y c) x.vertices,
      length-each (box x N y c) (edge_count x),
      length-each (post x y c) (x.t_star + 1),
      few_labels N (bar_start x y c) x.vertices,
    )

-- bars, lines and labels
in_bars : (x : SidesValue) (N : Names) (form : Form) (y c k : ℕ → ℕ) (d : Drawing) → d ≡ bars x N form y c k → length d.items ≤ 2 * x.vertices + edge_count x
in_bars x N form y c k d q = in_drawing x N form (grid_point (c x.t_star - 1) (y x.sink)) (bar x N y c) (upright x y k) (bar_start x y c) d q

in_dots : (x : SidesValue) (N : Names) (dummy : ℕ → Option ℕ) (place : ℕ → Point) (d : Drawing) → d ≡ points_and_lines x N dummy place → length d.items ≤ 2 * x.vertices + edge_count x
in_dots x N dummy place d q = in_drawing x N shape.Dominance (place x.sink) (point_dot N place) (dummied x dummy place) place d q

in_bends : (x : SidesValue) (N : Names) (y c p : ℕ → ℕ) (d : Drawing) → d ≡ polylines x N y c p → length d.items ≤ 2 * x.vertices + edge_count x
in_bends x N y c p d q = in_drawing x N shape.Polyline (corner_of x y c) (dot N p y) (bent x y c p) (dot_place p y) d q

in_form : (form : DrawForm) (g : InputGraph) (st : StValue) (x : SidesValue) (N : Names) (d : Drawing) → IsPictureOf form g st x N d → length d.items ≤ 2 * x.vertices + edge_count x + (x.t_star + 1)
in_form Visibility g st x N d h = omega (arith, in_bars x N shape.Visibility h.y h.c (in_left_column x h.c) d h.is)
in_form Tessellation g st x N d h = in_boxes x N h.y h.c d h.is
in_form Constrained g st x N d h = omega (arith, in_bars x N shape.Constrained h.is.y h.is.x (path_column x h.is.paths h.is.x) d h.is.is)
in_form (Polyline spot) g st x N d h = omega (arith, in_bends x N h.picture.y h.picture.c h.column d h.picture.is)
in_form Dominance g st x N d h = omega (arith, in_dots x N (dummy_at h.is.dummies) (compact_point h.is.x h.is.y h.is.at_x h.is.at_y) d h.is.picture)

-- by Euler's formula there are no more faces than edges
pub few_items : (form : DrawForm) (g : InputGraph) (st : StValue) (d : Drawing) → IsPlanarSt st.map.graph st.source st.sink st.outer → Depicts form g st d
    → length d.items ≤ 2 * st.map.graph.vertices + 2 * edges st.map.graph + 1
unfolding edge_count
few_items form g st d planar h =
    let S = h.are.sides in
    let some : length d.items ≤ 2 * h.sides.vertices + edge_count h.sides + (h.sides.t_star + 1) = in_form form g st h.sides (file_names g) d h.is in
    let ends : length h.sides.ends ≡ length st.map.graph.ends = ap length S.ends in
    omega (arith, some, ends, S.vertices, S.nodes, planar.euler, planar.two)

-- ---- the text
pub short_out : HasShortText → (form : DrawForm) (g : InputGraph) (st : StValue) (out : List ℕ) → IsPlanarSt st.map.graph st.source st.sink st.outer
    → st.map.graph.vertices ≤ MOST_VERTICES → edges st.map.graph ≤ MOST_EDGES → ShowsFile form g st out → length out ≤ MOST_DRAWING_BYTES
short_out short form g st out planar high wide shows =
    let size : length out ≤ 256 * (length shows.drawn.picture.items + 7) = subst (λ (z : List ℕ). length z ≤ 256 * (length shows.drawn.picture.items + 7)) (sym shows.drawn.told) (short shows.drawn.picture shows.drawn.depicts.rules) in
    let few : length shows.drawn.picture.items ≤ 2 * st.map.graph.vertices + 2 * edges st.map.graph + 1 = few_items form g st shows.drawn.picture planar shows.drawn.depicts in
    omega (arith, size, few, high, wide)
