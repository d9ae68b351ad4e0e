use Rattle.st_reduce.specs.Marks.{dummy_numbers}
use Rattle.draw_dom.proofs.LaidLemmas.{laid_of, number_lists, reduced_sides}
use Rattle.draw_dom.proofs.drawing.laid.Goals as goal

pub split_labels-requires-clause-some : goal.split_labels-requires-clause-some
split_labels-requires-clause-some c =
    let a = c.args.graph in
    let D = c.in_ok-dummies.dummies in
    let S =
    reduced_sides c.value_exists.ensures a.map.graph a.source a.sink a.outer c.planar_st.ensures c.args.sides.now c.requires.sides c.requires.few (dummy_numbers D.of_edges) D.vertices c.in_ok-dummies.ensures.dummies in
    record { split = S.sides; are = S.split }

pub compact-requires : goal.compact-requires
compact-requires c =
    let a = c.args.graph in
    let D = c.in_ok-dummies.dummies in
    let S =
    reduced_sides c.value_exists.ensures a.map.graph a.source a.sink a.outer c.planar_st.ensures c.args.sides.now c.requires.sides c.requires.few (dummy_numbers D.of_edges) D.vertices c.in_ok-dummies.ensures.dummies in
    record { numbers = number_lists S.sides S.split.sides c.in_ok-labels.labels (c.in_ok-labels.ensures S.sides S.split) }

pub returns : goal.returns
returns c =
    let a = c.args.graph in
    let D = c.in_ok-dummies.dummies in
    let S =
    reduced_sides c.value_exists.ensures a.map.graph a.source a.sink a.outer c.planar_st.ensures c.args.sides.now c.requires.sides c.requires.few (dummy_numbers D.of_edges) D.vertices c.in_ok-dummies.ensures.dummies in
    record {
      reduced = S.reduced;
      is_reduced = S.is_reduced;
      layout = laid_of S.reduced a.source a.sink a.outer S.sides S.are_sides S.sizes c.in_ok-labels.labels (c.in_ok-labels.ensures S.sides S.split) c.in_ok-points.points c.in_ok-points.ensures.points;
    }
