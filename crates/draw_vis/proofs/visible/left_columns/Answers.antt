use Rattle.std.proofs.Common.{◌≡◌, arith, subst}
use Rattle.st_sides.specs.Sides.{edge_count, face_left}
use Rattle.st_picture.specs.Bars.{number_at}
use Rattle.st_picture.proofs.Public.{Has}
use Rattle.draw_vis.proofs.LaidLemmas.{left_columns}
use Rattle.draw_vis.proofs.visible.left_columns.Goals as goal

pub returns : goal.returns
returns c =
    let g = c.args.sides.now in
    let q : c.edges-e-end.result ≡ edge_count g = c.edges-e-end.ensures.value in
    let e : c.loop-e.e ≡ edge_count g = omega (arith, c.loop-e-test.false, c.loop-e.invariant.in_range, q) in
    left_columns g c.args.grid.now.columns c.loop-e.lines (subst (λ z. Has c.loop-e.lines z (λ e. number_at c.args.grid.now.columns (face_left g e))) e c.loop-e.invariant.has)
