use Rattle.std.proofs.Common.{◌≡◌, ℕ, ◌-◌, ◌<◌, List, [], length, get_or, sym, ap, ◌∙◌, arith}
use Rattle.st_map.specs.Embedded.{edges}
use Rattle.st_sides.specs.Beside.{end_of}
use Rattle.st_sides.proofs.BesideLemmas.{edge_there, none_edge}
use Rattle.st_sides.proofs.beside.end_edge.Goals as goal

pub overflow_sub-result : goal.overflow_sub-result
overflow_sub-result c =
    let w : (0 < length c.path-list.result.now) × (length c.path-list.result.now ≡ length (get_or c.args.outs.now c.args.v.0 [])) × ((i : ℕ) → i < length c.path-list.result.now
    → ((get_or c.path-list.result.now i none_edge).0 ≡ get_or (get_or c.args.outs.now c.args.v.0 []) i 0) × ((get_or c.path-list.result.now i none_edge).0 < edges c.args.graph.now.map.graph)) =
    edge_there c.args.graph.now.map.graph c.args.graph.now.source c.args.graph.now.sink c.args.graph.now.outer c.map.ensures.planar c.args.outs.now c.requires.outs c.args.v.0 c.requires.there c.requires.inner c.path-list.result.now c.path-list.ensures in
    omega (arith, w.0)

pub bounds-list-list : goal.bounds-list-list
bounds-list-list c =
    let w : 0 < length c.path-list.result.now =
    (edge_there c.args.graph.now.map.graph c.args.graph.now.source c.args.graph.now.sink c.args.graph.now.outer c.map.ensures.planar c.args.outs.now c.requires.outs c.args.v.0 c.requires.there c.requires.inner c.path-list.result.now c.path-list.ensures).0 in
    omega (arith, w)

pub bounds-list-0 : goal.bounds-list-0
bounds-list-0 c =
    (edge_there c.args.graph.now.map.graph c.args.graph.now.source c.args.graph.now.sink c.args.graph.now.outer c.map.ensures.planar c.args.outs.now c.requires.outs c.args.v.0 c.requires.there c.requires.inner c.path-list.result.now c.path-list.ensures).0

pub returns-then-right-clause-value : goal.returns-then-right-clause-value
returns-then-right-clause-value c =
    let es : List ℕ = get_or c.args.outs.now c.args.v.0 [] in
    let n : ℕ = length c.path-list.result.now in
    let w : (0 < length c.path-list.result.now) × (length c.path-list.result.now ≡ length (get_or c.args.outs.now c.args.v.0 [])) × ((i : ℕ) → i < length c.path-list.result.now
    → ((get_or c.path-list.result.now i none_edge).0 ≡ get_or (get_or c.args.outs.now c.args.v.0 []) i 0) × ((get_or c.path-list.result.now i none_edge).0 < edges c.args.graph.now.map.graph)) =
    edge_there c.args.graph.now.map.graph c.args.graph.now.source c.args.graph.now.sink c.args.graph.now.outer c.map.ensures.planar c.args.outs.now c.requires.outs c.args.v.0 c.requires.there c.requires.inner c.path-list.result.now c.path-list.ensures in
    (w.2 (n - 1) (omega (arith, w.0))).0 ∙ ap (λ z. get_or es (z - 1) 0) w.1 ∙ ap (λ b. end_of b es) (sym c.if-right.true)

pub returns-then-right-clause-within : goal.returns-then-right-clause-within
returns-then-right-clause-within c =
    let n : ℕ = length c.path-list.result.now in
    let w : (0 < length c.path-list.result.now) × (length c.path-list.result.now ≡ length (get_or c.args.outs.now c.args.v.0 [])) × ((i : ℕ) → i < length c.path-list.result.now
    → ((get_or c.path-list.result.now i none_edge).0 ≡ get_or (get_or c.args.outs.now c.args.v.0 []) i 0) × ((get_or c.path-list.result.now i none_edge).0 < edges c.args.graph.now.map.graph)) =
    edge_there c.args.graph.now.map.graph c.args.graph.now.source c.args.graph.now.sink c.args.graph.now.outer c.map.ensures.planar c.args.outs.now c.requires.outs c.args.v.0 c.requires.there c.requires.inner c.path-list.result.now c.path-list.ensures in
    (w.2 (n - 1) (omega (arith, w.0))).1

pub returns-else-right-clause-value : goal.returns-else-right-clause-value
returns-else-right-clause-value c =
    let es : List ℕ = get_or c.args.outs.now c.args.v.0 [] in
    let w : (0 < length c.path-list.result.now) × (length c.path-list.result.now ≡ length (get_or c.args.outs.now c.args.v.0 [])) × ((i : ℕ) → i < length c.path-list.result.now
    → ((get_or c.path-list.result.now i none_edge).0 ≡ get_or (get_or c.args.outs.now c.args.v.0 []) i 0) × ((get_or c.path-list.result.now i none_edge).0 < edges c.args.graph.now.map.graph)) =
    edge_there c.args.graph.now.map.graph c.args.graph.now.source c.args.graph.now.sink c.args.graph.now.outer c.map.ensures.planar c.args.outs.now c.requires.outs c.args.v.0 c.requires.there c.requires.inner c.path-list.result.now c.path-list.ensures in
    (w.2 0 w.0).0 ∙ ap (λ b. end_of b es) (sym c.if-right.false)

pub returns-else-right-clause-within : goal.returns-else-right-clause-within
returns-else-right-clause-within c =
    let w : (0 < length c.path-list.result.now) × (length c.path-list.result.now ≡ length (get_or c.args.outs.now c.args.v.0 [])) × ((i : ℕ) → i < length c.path-list.result.now
    → ((get_or c.path-list.result.now i none_edge).0 ≡ get_or (get_or c.args.outs.now c.args.v.0 []) i 0) × ((get_or c.path-list.result.now i none_edge).0 < edges c.args.graph.now.map.graph)) =
    edge_there c.args.graph.now.map.graph c.args.graph.now.source c.args.graph.now.sink c.args.graph.now.outer c.map.ensures.planar c.args.outs.now c.requires.outs c.args.v.0 c.requires.there c.requires.inner c.path-list.result.now c.path-list.ensures in
    (w.2 0 w.0).1
