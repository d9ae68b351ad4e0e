use Rattle.std.proofs.Common.{◌≡◌, ◌∙◌, ap, option_map, Some, None}
use Rattle.st_ids.specs.declared.ids.VertexId.{VertexId}
use Rattle.st_reduce.specs.Marks.{dummy_numbers}
use Rattle.st_reduce.specs.Reduced.{dummy_at}
use Rattle.draw_dom.proofs.BuildLemmas.{dummy_is, dummied_some, dummied_none}
use Rattle.draw_dom.proofs.items.dummied.Goals as goal

pub place-mid-requires : goal.place-mid-requires
place-mid-requires c =
    let q : dummy_at (dummy_numbers c.args.dummies.now) c.args.e.0 ≡ Some c.in-Some.w.0 =
    dummy_is c.args.dummies.now c.args.e.0 c.get.result.now c.get.ensures.value ∙ ap (option_map (λ (w : VertexId). w.0)) c.in-Some.is in
    c.requires.dots.dummies_in c.args.e.0 c.in-Some.w.0 c.requires.there q

pub returns-in-Some : goal.returns-in-Some
returns-in-Some c =
    let q : dummy_at (dummy_numbers c.args.dummies.now) c.args.e.0 ≡ Some c.in-Some.w.0 =
    dummy_is c.args.dummies.now c.args.e.0 c.get.result.now c.get.ensures.value ∙ ap (option_map (λ (w : VertexId). w.0)) c.in-Some.is in
    dummied_some c.args.sides.now c.args.dummies.now c.args.points.now c.args.e.0 c.tail-tail.result.0 c.head-head.result.0 c.in-Some.w.0 c.place-low.result c.place-high.result c.place-mid.result c.three.result
    c.tail-tail.ensures.value c.head-head.ensures.value q c.place-low.ensures c.place-high.ensures c.place-mid.ensures c.three.ensures

pub returns-in-None : goal.returns-in-None
returns-in-None c =
    let q : dummy_at (dummy_numbers c.args.dummies.now) c.args.e.0 ≡ None =
    dummy_is c.args.dummies.now c.args.e.0 c.get.result.now c.get.ensures.value ∙ ap (option_map (λ (w : VertexId). w.0)) c.in-None.is in
    dummied_none c.args.sides.now c.args.dummies.now c.args.points.now c.args.e.0 c.tail-tail.result.0 c.head-head.result.0 c.place-low.result c.place-high.result c.two.result
    c.tail-tail.ensures.value c.head-head.ensures.value q c.place-low.ensures c.place-high.ensures c.two.ensures
