-- The tables of a graph fit together over other ends of its edges.
use Rattle.std.proofs.Common.{◌≡◌, ◌<◌, ◌*◌, ◌^◌, ℕ, length, sym, subst, ◌∙◌, arith}
use Rattle.st_ids.specs.Graph.{Graph}
use Rattle.st_input.specs.InputGraph.{InputGraph, IsConsistent}
use Rattle.st_input.specs.WithEnds.{with_ends}

pub ends_fit : (g : InputGraph) (h : Graph) (d : ℕ) → IsConsistent g → h.vertices ≡ g.graph.vertices → length h.ends ≡ length g.graph.ends → d < 2 * length h.ends → IsConsistent (with_ends g h d)
ends_fit g h d I n m lt = record {
  few_vertices = subst (λ k. k < 2 ^ 30) (sym n) I.few_vertices;
  few_edges = subst (λ k. k < 2 ^ 30) (sym m) I.few_edges;
  vertex_names = I.vertex_names ∙ sym n;
  edge_names = I.edge_names ∙ sym m;
  lengths = I.lengths ∙ sym m;
  rows = I.rows;
  labels = I.labels ∙ sym n;
  orders = I.orders ∙ sym n;
  different = I.different;
  edges_different = I.edges_different;
  shown = I.shown;
  listed = λ v e l i. omega (arith, m, I.listed v e (omega (arith, l, n)) i);
  outer = lt;
}
