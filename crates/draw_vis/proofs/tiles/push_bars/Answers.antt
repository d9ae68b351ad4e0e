use Rattle.std.proofs.Common.{rules, ◌≡◌, ◌<◌, arith, sym, subst}
use Rattle.st_shape.specs.declared.point.Point.{Point}
use Rattle.st_shape.specs.Rules.{FitsFrame}
use Rattle.st_picture.specs.Bars.{number_at}
use Rattle.draw_vis.specs.Tables.{frame_of}
use Rattle.draw_vis.specs.Tessellation.{full_bar}
use Rattle.draw_vis.proofs.TileLemmas.{bar_fits}
use Rattle.draw_vis.proofs.tiles.push_bars.Goals as goal

pub push_each-requires-clause-fits : goal.push_each-requires-clause-fits
push_each-requires-clause-fits c =
    let g = c.args.sides.now in
    let y = number_at c.args.grid.now.heights in
    let x = number_at c.args.grid.now.columns in
    λ k item l p.
    let is : item ≡ full_bar g c.args.names.now y x k = search rules in
    let there : k < g.vertices = omega (arith, l, c.vertices.ensures.value) in
    subst (λ (z : Point). FitsFrame z item) (sym c.requires.frame)
    (subst (FitsFrame (frame_of g y x)) (sym is) (bar_fits g c.local.ensures y x c.requires.tables.up c.requires.tables.rightward c.args.names.now k there))
