-- Figures, lines and labels, put behind one another: what a drawing that pushes them in this order has built.
-- Letters: g sides, N names; a, b, d pictures.
--   start, figures, second     the empty picture, that of the figures alone, that of figures and lines
--   first_is, second_is, first_by, second_by   what pushing the figures, and then the lines, gives
--   count_first, count_second  how many items these have
--   figures_first              the first items are figures, so push_labels may be called
--   drawing_is                 with the labels it is the picture
--   drawing_same, bars_same    figures, lines and places that agree give one picture
use Rattle.std.proofs.Common.{ℕ, [], ◌∷◌, ◌++◌, ◌≡◌, ◌<◌, ◌≤◌, ◌+◌, ◌-◌, sym, ap, ◌∙◌, subst, arith, append_assoc, length, List, Some, slice_get, pos}
use Rattle.std.proofs.lemmas.List.{length-append}
use Rattle.st_ids.specs.declared.names.Names.{Names}
use Rattle.st_shape.specs.declared.item.Item.{Item}
use Rattle.st_shape.specs.declared.item.Item.TheVariants.{Bar, Line}
use Rattle.st_shape.specs.declared.picture.Form.{Form}
use Rattle.st_shape.specs.declared.point.Point.{Point}
use Rattle.st_shape.specs.Rules.{Drawing}
use Rattle.st_sides.specs.Objects.{vertex}
use Rattle.st_sides.specs.Sides.{SidesValue, edge_count, edge_tail, edge_head, left_of, right_of, IsSides}
use Rattle.st_sides.proofs.Public.{left_below}
use Rattle.st_picture.specs.Bars.{bar, bar_start, bars, upright}
use Rattle.st_picture.specs.Items.{HasFigures, IsFigure, IsFigureAt, grid_point, drawing, items_by, labels, line, place_at, item_place}
use Rattle.st_picture.specs.Naming.{edge_name, vertex_name}
use Rattle.st_picture.proofs.LabelLemmas.{place_is}
use Rattle.st_picture.proofs.PlaceLemmas.{each_same, first_place, labels_same}
use Rattle.st_picture.proofs.PushLemmas.{length-items_by}
use Rattle.st_picture.proofs.SpanLemmas.{right_in, sink_in}

module _ (g : SidesValue) (N : Names) (form : Form) (frame : Point) (figure : ℕ → Item) (points : ℕ → List Point) where
  abbrev pub start : Drawing
  start = record { form = form; frame = frame; items = [] }

  abbrev pub figures : Drawing
  figures = record start { items = items_by figure g.vertices }

  abbrev pub second : Drawing
  second = record start { items = items_by figure g.vertices ++ items_by (line g N points) (edge_count g) }

  pub first_is : (a b : Drawing) → a ≡ start → b ≡ record a { items = a.items ++ items_by figure g.vertices } → b ≡ figures
  first_is a b p q = q ∙ ap (λ z. let t : Drawing = record z { items = z.items ++ items_by figure g.vertices } in t) p

  pub second_is : (a b : Drawing) → a ≡ figures → b ≡ record a { items = a.items ++ items_by (line g N points) (edge_count g) } → b ≡ second
  second_is a b p q = q ∙ ap (λ z. let t : Drawing = record z { items = z.items ++ items_by (line g N points) (edge_count g) } in t) p

  -- the same where code counts vertices and edges
  pub first_by : (a b : Drawing) (n : ℕ) → a ≡ start → n ≡ g.vertices → b ≡ record a { items = a.items ++ items_by figure n } → b ≡ figures
  first_by a b n p m q = first_is a b p (q ∙ ap (λ z. let t : Drawing = record a { items = a.items ++ items_by figure z } in t) m)

  pub second_by : (a b : Drawing) (n : ℕ) → a ≡ figures → n ≡ edge_count g → b ≡ record a { items = a.items ++ items_by (line g N points) n } → b ≡ second
  second_by a b n p m q = second_is a b p (q ∙ ap (λ z. let t : Drawing = record a { items = a.items ++ items_by (line g N points) z } in t) m)

  pub count_first : (d : Drawing) → d ≡ figures → length d.items ≡ g.vertices
  count_first d p = ap (λ z. length z.items) p ∙ length-items_by figure g.vertices

  pub count_second : (d : Drawing) → d ≡ second → length d.items ≡ g.vertices + edge_count g
  count_second d p =
      let q : length d.items ≡ length (items_by figure g.vertices ++ items_by (line g N points) (edge_count g)) = ap (λ z. length z.items) p in
      let l = length-append (items_by figure g.vertices) (items_by (line g N points) (edge_count g)) in
      let a = length-items_by figure g.vertices in
      let b = length-items_by (line g N points) (edge_count g) in
      omega arith

  figure_there : (v : ℕ) → v < g.vertices → slice_get second.items v ≡ Some (figure v)
  figure_there v l = first_place figure g.vertices (items_by (line g N points) (edge_count g)) v l

  pub figures_first : ((v : ℕ) → v < g.vertices → IsFigure (figure v)) → (d : Drawing) (n : ℕ) → d ≡ second → n ≡ g.vertices → HasFigures d.items n
  figures_first kind d n p q v l = subst (λ z. IsFigureAt z.items v) (sym p) (record { figure = figure v; is = figure_there v (omega arith); kind = kind v (omega arith) })

  pub drawing_is : (place : ℕ → Point) → ((v : ℕ) → v < g.vertices → item_place (figure v) ≡ place v) → (d e : Drawing) (n : ℕ) → d ≡ second → n ≡ g.vertices
      → e ≡ record d { items = d.items ++ labels N (place_at d.items) n } → e ≡ drawing g N form frame figure points place
  drawing_is place places d e n p q r =
      r ∙ ap (λ z. let t : Drawing = record z { items = z.items ++ labels N (place_at z.items) n } in t) p
      ∙ ap (λ z. let t : Drawing = record second { items = second.items ++ labels N (place_at second.items) z } in t) q
      ∙ ap (λ z. let t : Drawing = record second { items = second.items ++ z } in t) (labels_same N (place_at second.items) place g.vertices (λ v l. place_is second.items v (figure v) (figure_there v l) ∙ places v l))
      ∙ ap (λ z. let t : Drawing = record second { items = z } in t) (append_assoc (items_by figure g.vertices) (items_by (line g N points) (edge_count g)) (labels N place g.vertices))

-- ---- pictures that agree
line_same : (g : SidesValue) (N : Names) (ps qs : ℕ → List Point) (e : ℕ) → ps e ≡ qs e → line g N ps e ≡ line g N qs e
line_same g N ps qs e q = ap (λ z. Line (edge_name N e) (vertex_name N (edge_tail g e)) (vertex_name N (edge_head g e)) z) q

pub drawing_same : (g : SidesValue) (N : Names) (form : Form) (a b : Point) (f h : ℕ → Item) (ps qs : ℕ → List Point) (p q : ℕ → Point)
    → a ≡ b → ((v : ℕ) → v < g.vertices → f v ≡ h v) → ((e : ℕ) → e < edge_count g → ps e ≡ qs e) → ((v : ℕ) → v < g.vertices → p v ≡ q v)
    → drawing g N form a f ps p ≡ drawing g N form b h qs q
drawing_same g N form a b f h ps qs p q r s t u =
    ap (λ z. drawing g N form z f ps p) r
    ∙ ap (λ z. let d : Drawing = record { form = form; frame = b; items = z ++ (items_by (line g N ps) (edge_count g) ++ labels N p g.vertices) } in d) (each_same f h g.vertices s)
    ∙ ap (λ z. let d : Drawing = record { form = form; frame = b; items = items_by h g.vertices ++ (z ++ labels N p g.vertices) } in d) (each_same (line g N ps) (line g N qs) (edge_count g) (λ e l. line_same g N ps qs e (t e l)))
    ∙ ap (λ z. let d : Drawing = record { form = form; frame = b; items = items_by h g.vertices ++ (items_by (line g N qs) (edge_count g) ++ z) } in d) (labels_same N p q g.vertices u)

module _ (g : SidesValue) (S : IsSides g) (N : Names) (form : Form) (y c k y' c' k' : ℕ → ℕ)
    (yy : (v : ℕ) → v < g.vertices → y v ≡ y' v) (cc' : (f : ℕ) → f ≤ g.t_star → c f ≡ c' f) (kk : (e : ℕ) → e < edge_count g → k e ≡ k' e) where
  at_left : (v : ℕ) → v < g.vertices → c (left_of g v) ≡ c' (left_of g v)
  at_left v l = (let m : left_of g v < g.t_star = left_below g S (vertex v) l in cc' (left_of g v) (omega arith))

  at_right : (v : ℕ) → v < g.vertices → c (right_of g v) ≡ c' (right_of g v)
  at_right v l = cc' (right_of g v) (right_in g S v l)

  pub bars_same : bars g N form y c k ≡ bars g N form y' c' k'
  bars_same = drawing_same g N form (grid_point (c g.t_star - 1) (y g.sink)) (grid_point (c' g.t_star - 1) (y' g.sink)) (bar g N y c) (bar g N y' c') (upright g y k) (upright g y' k') (bar_start g y c) (bar_start g y' c')
      (ap (λ z. grid_point (z - 1) (y g.sink)) (cc' g.t_star (omega arith)) ∙ ap (grid_point (c' g.t_star - 1)) (yy g.sink (sink_in g S)))
      (λ v l.
      ap (λ z. Bar (vertex_name N v) (pos z) (pos (c (left_of g v))) (pos (c (right_of g v) - 1))) (yy v l)
      ∙ ap (λ z. Bar (vertex_name N v) (pos (y' v)) (pos z) (pos (c (right_of g v) - 1))) (at_left v l)
      ∙ ap (λ z. Bar (vertex_name N v) (pos (y' v)) (pos (c' (left_of g v))) (pos (z - 1))) (at_right v l))
      (λ e l.
      ap (λ z. grid_point z (y (edge_tail g e)) ∷ grid_point z (y (edge_head g e)) ∷ []) (kk e l)
      ∙ ap (λ z. grid_point (k' e) z ∷ grid_point (k' e) (y (edge_head g e)) ∷ []) (yy (edge_tail g e) (S.tail_in e l))
      ∙ ap (λ z. grid_point (k' e) (y' (edge_tail g e)) ∷ grid_point (k' e) z ∷ []) (yy (edge_head g e) (S.head_in e l)))
      (λ v l. ap (λ z. grid_point z (y v)) (at_left v l) ∙ ap (grid_point (c' (left_of g v))) (yy v l))
