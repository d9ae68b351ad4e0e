use Rattle.std.proofs.Common.{rules, w64, ◌≡◌, ◌<◌, ◌+◌, arith}
use Rattle.std.specs.Prelude.{FitsSigned}
use Rattle.std.proofs.lemmas.Int.{to_z-of_z}
use Rattle.st_picture.specs.Bars.{number_at}
use Rattle.draw_poly.proofs.TableLemmas.{one_more}
use Rattle.draw_poly.proofs.places.places.Goals as goal

pub loop-v-preserved : goal.loop-v-preserved
loop-v-preserved g c =
    let q : c.vertices-v-end.result ≡ c.args.sides.now.vertices = c.vertices-v-end.ensures.value in
    let l : c.loop-v.v < c.vertices-v-end.result = c.loop-v-test.true in
    let fit : FitsSigned w64 c.place.result = search rules in
    record {
      in_range = omega arith;
      places_are = one_more (goal.G-post g c.args.placer.now.closure) c.args.sides.now (number_at c.args.columns.now) c.loop-v.v (c.loop-v.v + 1) c.loop-v.places c.push.new.self c.place.result _ (omega arith) c.loop-v.invariant.places_are c.place.ensures c.in_ok-push.ensures.ok (to_z-of_z w64 c.place.result fit);
    }
