use Rattle.std.proofs.Common.{◌≡◌, ◌≤◌, ◌∙◌, length, arith}
use Rattle.draw_dom.proofs.LaidLemmas.{dots, drawn, dominance_of, enough, reaching_by}
use Rattle.draw_dom.proofs.drawing.dominance.Goals as goal

pub points_and_lines-requires-clause-dots : goal.points_and_lines-requires-clause-dots
points_and_lines-requires-clause-dots c =
    let a = c.args.graph in
    let l = c.in_ok-layout.layout in
    dots a.map.graph a.source a.sink a.outer c.planar_st.ensures c.args.sides.now c.requires.sides c.local.ensures l.dummies.of_edges l.points c.in_ok-layout.ensures c.requires.few

pub returns-clause-picture : goal.returns-clause-picture
returns-clause-picture c =
    let a = c.args.graph in
    let l = c.in_ok-layout.layout in
    let x = c.args.sides.now in
    let n : c.vertices.result ≡ x.vertices = c.vertices.ensures.value in
    dominance_of a.map.graph a.source a.sink a.outer c.planar_st.ensures x c.requires.sides c.local.ensures l.dummies.of_edges l.points c.in_ok-layout.ensures
    c.args.names.now c.in_ok-picture.picture c.in_ok-picture.ensures c.in_ok-points.points (c.in_ok-points.ensures.size ∙ n) (λ v l. c.in_ok-points.ensures.each v (omega arith))

pub returns-clause-drawn : goal.returns-clause-drawn
returns-clause-drawn c =
    let a = c.args.graph in
    let l = c.in_ok-layout.layout in
    drawn a.map.graph a.source a.sink a.outer c.planar_st.ensures c.args.sides.now c.requires.sides c.local.ensures l.dummies.of_edges l.points c.in_ok-layout.ensures
    c.args.names.now c.in_ok-picture.picture c.in_ok-picture.ensures c.requires.names

pub returns-clause-reaching : goal.returns-clause-reaching
returns-clause-reaching c =
    let a = c.args.graph in
    let l = c.in_ok-layout.layout in
    let x = c.args.sides.now in
    let n : c.vertices.result ≡ x.vertices = c.vertices.ensures.value in
    reaching_by a.map.graph a.source a.sink a.outer c.planar_st.ensures x c.requires.sides c.local.ensures l.dummies.of_edges l.points c.in_ok-layout.ensures
    c.in_ok-points.points (c.in_ok-points.ensures.size ∙ n) (λ v l. c.in_ok-points.ensures.each v (omega arith))

pub first_points-requires-clause-there : goal.first_points-requires-clause-there
first_points-requires-clause-there c =
    let a = c.args.graph in
    let l = c.in_ok-layout.layout in
    let x = c.args.sides.now in
    let m : x.vertices ≤ length l.points = enough a.map.graph a.source a.sink a.outer c.planar_st.ensures x c.requires.sides c.local.ensures l.dummies.of_edges l.points c.in_ok-layout.ensures in
    omega (arith, c.vertices.ensures.value)
