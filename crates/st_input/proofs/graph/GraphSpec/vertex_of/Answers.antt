use Rattle.std.proofs.Common.{◌≡◌, ◌<◌, ◌^◌, ℤ, List, length, ap, arith}
use Rattle.st_input.proofs.graph.GraphSpec.vertex_of.Goals as goal

pub find-requires : goal.find-requires
find-requires c =
    let same : length c.self.inside.by_name ≡ length c.self.inside.names.vertex = ap (λ (l : List ℤ). length l) c.self.invariant.index in
    let size : length c.self.inside.names.vertex ≡ c.self.inside.graph.vertices = c.self.invariant.consistent.vertex_names in
    let few : c.self.inside.graph.vertices < 2 ^ 30 = c.self.invariant.consistent.few_vertices in
    omega arith
