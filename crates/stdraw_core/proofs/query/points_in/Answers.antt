use Rattle.std.proofs.Common.{◌≡◌, ◌≤◌, ◌∙◌, ℕ, List, subst, arith}
use Rattle.st_ids.specs.declared.limits.TheConstants.{MOST_EDGES}
use Rattle.st_sides.specs.Sides.{edge_count}
use Rattle.stdraw_core.specs.Drawing.{file_names}
use Rattle.stdraw_core.specs.Query.{DecideReaching}
use Rattle.stdraw_core.proofs.DrawingLemmas.{if_ok, edges_within}
use Rattle.stdraw_core.proofs.query.points_in.Goals as goal

pub dominance_points-requires-clause-few : goal.dominance_points-requires-clause-few
dominance_points-requires-clause-few c =
    let wide : edge_count c.in_ok-sides.sides ≤ MOST_EDGES = edges_within c.args.spec.now c.args.graph c.in_ok-sides.sides c.requires.found c.in_ok-sides.ensures MOST_EDGES c.requires.wide in
    let high : c.in_ok-sides.sides.vertices ≡ c.args.spec.now.graph.vertices = c.in_ok-sides.ensures.vertices ∙ c.requires.found.vertices in
    omega (arith, wide, high, c.requires.high)

pub returns-clause-points : goal.returns-clause-points
returns-clause-points c =
    if_ok c.dominance_points.result c.dominance_points.ensures.points
    (λ points h. record {
      sides = c.in_ok-sides.sides;
      are = record { sides = c.in_ok-sides.ensures; sizes = c.facts.ensures.sizes };
      picture = (h (file_names c.args.spec.now)).0;
      drawn = (h (file_names c.args.spec.now)).1;
    })

pub returns-clause-size : goal.returns-clause-size
returns-clause-size c =
    if_ok c.dominance_points.result c.dominance_points.ensures.size (λ points h. h ∙ c.requires.found.vertices)

pub returns-clause-reaching : goal.returns-clause-reaching
returns-clause-reaching c =
    if_ok c.dominance_points.result c.dominance_points.ensures.reaching
    (λ points h.
    subst (λ (es : List (ℕ × ℕ)). DecideReaching (record { vertices = c.args.spec.now.graph.vertices; ends = es }) points) c.requires.found.ends
    (subst (λ (n : ℕ). DecideReaching (record { vertices = n; ends = c.args.graph.map.graph.ends }) points) c.requires.found.vertices h))
