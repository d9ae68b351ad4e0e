use Rattle.std.proofs.Common.{◌≡◌, ◌<◌, ◌^◌, pos, ap, ap₂, subst, length, get_or, vec_len, ◌∙◌, arith, rules}
use Rattle.std.proofs.lemmas.List.{get_or_read_under}
use Rattle.st_shape.specs.declared.point.Point.{Point}
use Rattle.st_picture.specs.Items.{grid_point}
use Rattle.draw_dom.specs.Points.{AreCompactPlaces}
use Rattle.draw_dom.proofs.AlongLemmas.{compact_points, more_points, read_back}
use Rattle.draw_dom.proofs.compaction.points.Goals as goal

pub loop-v-preserved : goal.loop-v-preserved
loop-v-preserved c =
    let v = c.loop-v.v in
    let column =
    get_or_read_under c.in_ok-columns.columns.items v (vec_len c.in_ok-columns.columns) _ 0 c.index.ensures (search rules) c.in_ok-columns.columns.ok.0 in
    let row =
    get_or_read_under c.in_ok-rows.rows.items v (vec_len c.in_ok-rows.rows) _ 0 c.index-in-loop-v.ensures (search rules) c.in_ok-rows.rows.ok.0 in
    let column_small : c.index.result.now < 2 ^ 32 = search rules in
    let row_small : c.index-in-loop-v.result.now < 2 ^ 32 = search rules in
    record {
      len = search rules;
      items = λ u h.
          rw c.in_ok-push.ensures.items
          (more_points (λ w. grid_point (get_or c.in_ok-columns.columns.items w 0) (get_or c.in_ok-rows.rows.items w 0)) c.loop-v.points.items v _ (search rules)
          (ap₂ (λ a b. let p : Point = record { x = a; y = b } in p) (read_back c.from.result _ c.from.ensures column_small ∙ ap pos column) (read_back c.from-in-loop-v.result _ c.from-in-loop-v.ensures row_small ∙ ap pos row)) c.loop-v.invariant.items u h);
    }

pub places-requires-clause-few : goal.places-requires-clause-few
places-requires-clause-few c =
    let small : c.len-n.result < 2 ^ 32 = search rules in
    let n : c.len-n.result ≡ length c.args.xs.now = c.len-n.ensures in
    let e : length c.items.result.now ≡ length c.args.xs.now = ap length c.items.ensures in
    omega arith

pub places-requires-2-clause-few : goal.places-requires-2-clause-few
places-requires-2-clause-few c =
    let small : c.len-n.result < 2 ^ 32 = search rules in
    let n : c.len-n.result ≡ length c.args.xs.now = c.len-n.ensures in
    let e : length c.items-3.result.now ≡ length c.args.ys.now = ap length c.items-3.ensures in
    let s : length c.args.xs.now ≡ length c.args.ys.now = c.requires.numbers.same in
    omega arith

pub returns : goal.returns
returns c =
    let P = c.in_ok-columns.columns.items in
    let Q = c.in_ok-rows.rows.items in
    compact_points c.args.xs.now c.args.ys.now c.requires.numbers P Q c.loop-v.points.items
    (subst (λ z. AreCompactPlaces z c.args.ys.now P) c.items.ensures (subst (λ z. AreCompactPlaces c.items.result.now z P) c.items-2.ensures c.in_ok-columns.ensures))
    (subst (λ z. AreCompactPlaces z c.args.xs.now Q) c.items-3.ensures (subst (λ z. AreCompactPlaces c.items-3.result.now z Q) c.items-4.ensures c.in_ok-rows.ensures))
    (search rules) (search rules)
