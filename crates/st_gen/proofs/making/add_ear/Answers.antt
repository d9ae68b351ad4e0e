use Rattle.std.proofs.Common.{◌≡◌, ◌+◌, ◌∷◌, [], ◌++◌, length, ap, ◌∙◌, arith, length-append}
use Rattle.st_gen.specs.Made.{ear_edges}
use Rattle.st_gen.proofs.Ears.{ear_more}
use Rattle.st_gen.proofs.making.add_ear.Goals as goal

pub loop-v-preserved : goal.loop-v-preserved
loop-v-preserved c =
    let q : c.add_edge.new.self.ends ≡ c.loop-v.graph.ends ++ (c.loop-v.last, c.loop-v.v) ∷ [] = ap (λ z. z.ends) c.in_ok-add_edge.ensures.ok in
    let n : length c.add_edge.new.self.ends ≡ length c.loop-v.graph.ends + 1 = ap (λ z. length z) q ∙ length-append c.loop-v.graph.ends ((c.loop-v.last, c.loop-v.v) ∷ []) in
    record {
      vertices = ap (λ z. z.vertices) c.in_ok-add_edge.ensures.ok ∙ c.loop-v.invariant.vertices;
      last = omega arith;
      few = omega (arith, c.loop-v.invariant.few);
      edges = ear_more c.loop-v.graph.ends c.add_edge.new.self.ends c.loop-v.last c.loop-v.v (c.args.first + c.args.many) c.args.to
          (c.args.graph.now.ends ++ ear_edges c.args.from c.args.first c.args.many c.args.to) q c.loop-v-test.true c.loop-v.invariant.edges;
    }
