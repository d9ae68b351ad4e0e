use Rattle.std.proofs.Common.{◌≡◌, ◌+◌, ◌-◌, length, [], arith, ap, ◌∙◌}
use Rattle.std.proofs.lemmas.Result.{IfOk-weaker}
use Rattle.st_sides.specs.Sides.{edge_count, high}
use Rattle.st_picture.specs.Bars.{number_at}
use Rattle.st_picture.specs.Items.{grid_point}
use Rattle.draw_vis.specs.Tables.{frame_of}
use Rattle.draw_vis.specs.Tessellation.{full_bar, box, post, boxes}
use Rattle.st_picture.proofs.Public.{has_labels, each_count}
use Rattle.draw_vis.proofs.BuildLemmas.{counts, tiles, whole, figures, finished}
use Rattle.draw_vis.proofs.tiles.boxes.Goals as goal

pub push_bars-requires-clause-room : goal.push_bars-requires-clause-room
push_bars-requires-clause-room c =
    let z : length c.new-picture.result.items ≡ 0 = ap (λ z. length z.items) c.new-picture.ensures in
    let t = counts c.args.sides.now c.facts.ensures in
    omega (arith, z, t, c.requires.few, c.local.ensures.has_t)

pub push_boxes-requires-clause-room : goal.push_boxes-requires-clause-room
push_boxes-requires-clause-room c =
    let a = each_count c.new-picture.result (full_bar c.args.sides.now c.args.names.now (number_at c.args.grid.now.heights) (number_at c.args.grid.now.columns)) c.args.sides.now.vertices c.push_bars.new.picture c.in_ok-push_bars.ensures in
    let z : length c.new-picture.result.items ≡ 0 = ap (λ z. length z.items) c.new-picture.ensures in
    let t = counts c.args.sides.now c.facts.ensures in
    omega (arith, a, z, t, c.requires.few, c.local.ensures.has_t)

pub push_posts-requires-clause-room : goal.push_posts-requires-clause-room
push_posts-requires-clause-room c =
    let y = number_at c.args.grid.now.heights in
    let k = number_at c.args.grid.now.columns in
    let a = each_count c.new-picture.result (full_bar c.args.sides.now c.args.names.now y k) c.args.sides.now.vertices c.push_bars.new.picture c.in_ok-push_bars.ensures in
    let b = each_count c.push_bars.new.picture (box c.args.sides.now c.args.names.now y k) (edge_count c.args.sides.now) c.push_boxes.new.picture c.in_ok-push_boxes.ensures in
    let z : length c.new-picture.result.items ≡ 0 = ap (λ z. length z.items) c.new-picture.ensures in
    let t = counts c.args.sides.now c.facts.ensures in
    omega (arith, a, b, z, t, c.requires.few, c.local.ensures.has_t)

pub push_labels-requires-clause-names : goal.push_labels-requires-clause-names
push_labels-requires-clause-names c = has_labels c.args.sides.now c.args.names.now c.requires.names

pub push_labels-requires-clause-figures : goal.push_labels-requires-clause-figures
push_labels-requires-clause-figures c =
    let g = c.args.sides.now in
    let y = number_at c.args.grid.now.heights in
    let k = number_at c.args.grid.now.columns in
    let l : c.faces.result - 1 ≡ g.t_star = omega (arith, c.faces.ensures.value) in
    let top : c.high.result.0 ≡ g.sink = c.high.ensures.value ∙ ap (high g) l ∙ c.local.ensures.high_t in
    let f : c.point-corner.result ≡ frame_of g y k = c.point-corner.ensures ∙ ap (λ z. grid_point (k z) (y c.high.result.0)) l ∙ ap (λ z. grid_point (k g.t_star) (y z)) top in
    figures g c.args.names.now c.requires.names y k c.push_posts.new.picture
    (whole g c.args.names.now c.requires.names y k c.new-picture.result c.push_bars.new.picture c.push_boxes.new.picture c.push_posts.new.picture
    (c.new-picture.ensures ∙ ap (λ z. tiles z []) f) c.in_ok-push_bars.ensures c.in_ok-push_boxes.ensures c.in_ok-push_posts.ensures)

pub push_labels-requires-clause-room : goal.push_labels-requires-clause-room
push_labels-requires-clause-room c =
    let y = number_at c.args.grid.now.heights in
    let k = number_at c.args.grid.now.columns in
    let a = each_count c.new-picture.result (full_bar c.args.sides.now c.args.names.now y k) c.args.sides.now.vertices c.push_bars.new.picture c.in_ok-push_bars.ensures in
    let b = each_count c.push_bars.new.picture (box c.args.sides.now c.args.names.now y k) (edge_count c.args.sides.now) c.push_boxes.new.picture c.in_ok-push_boxes.ensures in
    let d = each_count c.push_boxes.new.picture (post c.args.sides.now y k) (c.args.sides.now.t_star + 1) c.push_posts.new.picture c.in_ok-push_posts.ensures in
    let z : length c.new-picture.result.items ≡ 0 = ap (λ z. length z.items) c.new-picture.ensures in
    let t = counts c.args.sides.now c.facts.ensures in
    omega (arith, a, b, d, z, t, c.requires.few, c.local.ensures.has_t, c.requires.names.labels)

pub returns : goal.returns
returns c =
    let g = c.args.sides.now in
    let y = number_at c.args.grid.now.heights in
    let k = number_at c.args.grid.now.columns in
    let l : c.faces.result - 1 ≡ g.t_star = omega (arith, c.faces.ensures.value) in
    let top : c.high.result.0 ≡ g.sink = c.high.ensures.value ∙ ap (high g) l ∙ c.local.ensures.high_t in
    let f : c.point-corner.result ≡ frame_of g y k = c.point-corner.ensures ∙ ap (λ z. grid_point (k z) (y c.high.result.0)) l ∙ ap (λ z. grid_point (k g.t_star) (y z)) top in
    let w = whole g c.args.names.now c.requires.names y k c.new-picture.result c.push_bars.new.picture c.push_boxes.new.picture c.push_posts.new.picture
    (c.new-picture.ensures ∙ ap (λ z. tiles z []) f) c.in_ok-push_bars.ensures c.in_ok-push_boxes.ensures c.in_ok-push_posts.ensures in
    IfOk-weaker c.push_labels.result _ (λ d. d ≡ boxes g c.args.names.now y k) (finished g c.args.names.now c.requires.names y k c.push_posts.new.picture w) c.push_labels.ensures
