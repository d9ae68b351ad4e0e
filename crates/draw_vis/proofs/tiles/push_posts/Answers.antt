use Rattle.std.proofs.Common.{rules, ◌≡◌, ◌+◌, ◌<◌, arith, sym, subst}
use Rattle.st_shape.specs.declared.point.Point.{Point}
use Rattle.st_shape.specs.Rules.{FitsFrame}
use Rattle.st_picture.specs.Bars.{number_at}
use Rattle.draw_vis.specs.Tables.{frame_of}
use Rattle.draw_vis.specs.Tessellation.{post}
use Rattle.draw_vis.proofs.TileLemmas.{post_fits}
use Rattle.draw_vis.proofs.tiles.push_posts.Goals as goal

pub push_each-requires-clause-fits : goal.push_each-requires-clause-fits
push_each-requires-clause-fits c =
    let g = c.args.sides.now in
    let y = number_at c.args.grid.now.heights in
    let x = number_at c.args.grid.now.columns in
    λ k item l p.
    let is : item ≡ post g y x k = search rules in
    let there : k < g.t_star + 1 = omega (arith, l, c.faces.ensures.value) in
    subst (λ (z : Point). FitsFrame z item) (sym c.requires.frame)
    (subst (FitsFrame (frame_of g y x)) (sym is) (post_fits g c.local.ensures y x c.requires.tables.up c.requires.tables.rightward k there))
