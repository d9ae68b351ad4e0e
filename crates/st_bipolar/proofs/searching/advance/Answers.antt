use Rattle.std.proofs.Common.{◌<◌, sym, ap, ◌∙◌, subst}
use Rattle.st_map.specs.Embedded.{at, darts, edges}
use Rattle.st_ids.specs.Ends.{twin}
use Rattle.std.specs.Prelude.{slice_index, slice_set, ◌-◌}
use Rattle.st_map.proofs.Public.{twin-below}
use Rattle.st_bipolar.specs.SearchTables.{AreCursors}
use Rattle.st_bipolar.proofs.TableLemmas.{cursor_end, cursor_below, cursors_more}
use Rattle.st_bipolar.proofs.searching.advance.Goals as goal

pub next_cw-requires : goal.next_cw-requires
next_cw-requires c = cursor_below c.args.map.now.graph c.requires.rotation c.args.left.now c.args.next.now c.requires.cursors c.args.v c.requires.there c.requires.some c.requires.fits

pub vertex_of-requires : goal.vertex_of-requires
vertex_of-requires c =
    let g = c.args.map.now.graph in
    subst (λ z. z < darts g) (sym c.twin.ensures.value) (twin-below (edges g) (slice_index c.args.next.now c.args.v) (cursor_below c.args.map.now.graph c.requires.rotation c.args.left.now c.args.next.now c.requires.cursors c.args.v c.requires.there c.requires.some c.requires.fits))

pub returns-clause-value : goal.returns-clause-value
returns-clause-value c =
    let g = c.args.map.now.graph in
    c.vertex_of.ensures.value ∙ ap (at g) c.twin.ensures.value ∙ ap (λ z. at g (twin z)) (cursor_end c.args.map.now.graph c.requires.rotation c.args.left.now c.args.next.now c.requires.cursors c.args.v c.requires.there c.requires.some c.requires.fits)

pub returns-clause-cursors : goal.returns-clause-cursors
returns-clause-cursors c = subst (λ z. AreCursors c.args.map.now.graph (slice_set c.args.left.now c.args.v (slice_index c.args.left.now c.args.v - 1)) (slice_set c.args.next.now c.args.v z)) (sym c.next_cw.ensures.value)
    (cursors_more c.args.map.now.graph c.requires.rotation c.args.left.now c.args.next.now c.requires.cursors c.args.v c.requires.there c.requires.some c.requires.fits)
