use Rattle.std.proofs.Common.{◌≡◌, ◌≤◌, ◌∙◌, length, refl, arith}
use Rattle.st_reduce.specs.Marks.{dummy_numbers}
use Rattle.st_reduce.specs.Reduced.{dummy_at}
use Rattle.draw_dom.specs.Pictures.{points_and_lines}
use Rattle.draw_dom.specs.Points.{vertex_point}
use Rattle.draw_dom.proofs.LaidLemmas.{dominance_of, enough, reaching_by}
use Rattle.draw_dom.proofs.drawing.dominance_points.Goals as goal

pub returns-clause-points : goal.returns-clause-points
returns-clause-points c = λ N.
    let a = c.args.graph in
    let l = c.in_ok-layout.layout in
    let x = c.args.sides.now in
    let n : c.vertices.result ≡ x.vertices = c.vertices.ensures.value in
    let d = points_and_lines x N (dummy_at (dummy_numbers l.dummies.of_edges)) (vertex_point l.points) in (
      d,
      dominance_of a.map.graph a.source a.sink a.outer c.planar_st.ensures x c.requires.sides c.local.ensures l.dummies.of_edges l.points c.in_ok-layout.ensures
          N d refl c.in_ok-points.points (c.in_ok-points.ensures.size ∙ n) (λ v l. c.in_ok-points.ensures.each v (omega arith)),
    )

pub returns-clause-size : goal.returns-clause-size
returns-clause-size c = c.in_ok-points.ensures.size ∙ c.vertices.ensures.value ∙ c.requires.sides.vertices

pub returns-clause-reaching : goal.returns-clause-reaching
returns-clause-reaching c =
    let a = c.args.graph in
    let l = c.in_ok-layout.layout in
    let x = c.args.sides.now in
    let n : c.vertices.result ≡ x.vertices = c.vertices.ensures.value in
    reaching_by a.map.graph a.source a.sink a.outer c.planar_st.ensures x c.requires.sides c.local.ensures l.dummies.of_edges l.points c.in_ok-layout.ensures
    c.in_ok-points.points (c.in_ok-points.ensures.size ∙ n) (λ v l. c.in_ok-points.ensures.each v (omega arith))

pub first_points-requires-clause-there : goal.first_points-requires-clause-there
first_points-requires-clause-there c =
    let a = c.args.graph in
    let l = c.in_ok-layout.layout in
    let x = c.args.sides.now in
    let m : x.vertices ≤ length l.points = enough a.map.graph a.source a.sink a.outer c.planar_st.ensures x c.requires.sides c.local.ensures l.dummies.of_edges l.points c.in_ok-layout.ensures in
    omega (arith, c.vertices.ensures.value)
