use Rattle.std.proofs.Common.{◌≡◌, ℕ, ◌<◌, List, [], ◌∷◌, ◌++◌, length, take, get_or, sym, ap, ◌∙◌, arith}
use Rattle.std.proofs.lemmas.Grind.{take_at_read}
use Rattle.st_ids.specs.Graph.{tail_of, head_of}
use Rattle.st_map.proofs.map.Map.digraph.Goals as goal

abbrev pair : ℕ → ℕ → ℕ × ℕ
pair a b = (a, b)

pair_is : (ends : List (ℕ × ℕ)) (e a b : ℕ) → a ≡ tail_of ends e → b ≡ head_of ends e → pair a b ≡ get_or ends e (0, 0)
unfolding tail_of head_of
pair_is ends e a b p q = ap (λ z. pair z b) p ∙ ap (λ z. pair (get_or ends e (0, 0)).0 z) q

pub loop-e-preserved : goal.loop-e-preserved
loop-e-preserved c =
    let es : List (ℕ × ℕ) = c.args.self.now.graph.ends in
    let l : c.loop-e.e < length es = omega (arith, c.edges-e-end.ensures.value, c.loop-e-test.true) in
    record {
      vertices = ap (λ z. z.vertices) c.in_ok-add_edge.ensures.ok ∙ c.loop-e.invariant.vertices;
      ends = ap (λ z. z.ends) c.in_ok-add_edge.ensures.ok ∙ ap (λ (z : List (ℕ × ℕ)). z ++ pair c.tail-tail.result.0 c.head-head.result.0 ∷ []) c.loop-e.invariant.ends
          ∙ ap (λ (z : ℕ × ℕ). take c.loop-e.e es ++ z ∷ []) (pair_is es c.loop-e.e c.tail-tail.result.0 c.head-head.result.0 c.tail-tail.ensures.value c.head-head.ensures.value)
          ∙ sym (take_at_read es c.loop-e.e (0, 0) l).1;
    }
