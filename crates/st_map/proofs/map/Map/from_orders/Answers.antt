use Rattle.std.proofs.Common.{◌≡◌, ℕ, ◌<◌, ◌^◌, List, ap, ◌∙◌, sym, subst, arith}
use Rattle.st_ids.specs.Graph.{Graph, HasEnds}
use Rattle.st_map.specs.Embedded.{Embedded, MapValue}
use Rattle.st_map.specs.Orders.{HasNoLoop, embed, order_at}
use Rattle.st_map.specs.Tables.{AreEdges, IsLawful, IsMap, rotation_of, tables}
use Rattle.st_map.proofs.OrderLemmas.{lawful_of}
use Rattle.st_map.proofs.TableLemmas.{is_map, listed_edges, rotation_is, same_graph}
use Rattle.st_map.proofs.SplitTables.{no_spare}
use Rattle.st_map.proofs.map.Map.from_orders.Goals as goal

pub check_orders-requires-clause-edges : goal.check_orders-requires-clause-edges
check_orders-requires-clause-edges c =
    let h : Graph = record { vertices = c.vertices-n.result; ends = c.ends-ends.result.now } in
    let eq : c.args.graph.now ≡ record { vertices = c.vertices-n.result; ends = c.ends-ends.result.now } = same_graph c.args.graph.now c.vertices-n.result c.ends-ends.result.now c.vertices-n.ensures.value c.ends-ends.ensures.value in
    let listed : (v : ℕ) → v < c.vertices-n.result → AreEdges c.ends-ends.result.now (order_at c.args.orders.now v) = listed_edges c.args.graph.now h c.args.orders.now eq c.requires.lists c.requires.edges in
    listed

pub from_lists-requires-clause-no_loop : goal.from_lists-requires-clause-no_loop
from_lists-requires-clause-no_loop c =
    let h : Graph = record { vertices = c.vertices-n.result; ends = c.ends-ends.result.now } in
    let eq : c.args.graph.now ≡ record { vertices = c.vertices-n.result; ends = c.ends-ends.result.now } = same_graph c.args.graph.now c.vertices-n.result c.ends-ends.result.now c.vertices-n.ensures.value c.ends-ends.ensures.value in
    let no_loop : HasNoLoop h = subst HasNoLoop eq c.requires.no_loop in
    no_loop

pub from_lists-requires-clause-edges : goal.from_lists-requires-clause-edges
from_lists-requires-clause-edges c =
    let h : Graph = record { vertices = c.vertices-n.result; ends = c.ends-ends.result.now } in
    let eq : c.args.graph.now ≡ record { vertices = c.vertices-n.result; ends = c.ends-ends.result.now } = same_graph c.args.graph.now c.vertices-n.result c.ends-ends.result.now c.vertices-n.ensures.value c.ends-ends.ensures.value in
    let listed : (v : ℕ) → v < c.vertices-n.result → AreEdges c.ends-ends.result.now (order_at c.args.orders.now v) = listed_edges c.args.graph.now h c.args.orders.now eq c.requires.lists c.requires.edges in
    listed

pub from_lists-requires-clause-lawful : goal.from_lists-requires-clause-lawful
from_lists-requires-clause-lawful c = λ v l. lawful_of c.ends-ends.result.now v (order_at c.args.orders.now v) (c.in_ok-check_orders.ensures v l)

pub invariant_of-result : goal.invariant_of-result
invariant_of-result c =
    let h : Graph = record { vertices = c.vertices-n.result; ends = c.ends-ends.result.now } in
    let eq : c.args.graph.now ≡ record { vertices = c.vertices-n.result; ends = c.ends-ends.result.now } = same_graph c.args.graph.now c.vertices-n.result c.ends-ends.result.now c.vertices-n.ensures.value c.ends-ends.ensures.value in
    let listed : (v : ℕ) → v < c.vertices-n.result → AreEdges c.ends-ends.result.now (order_at c.args.orders.now v) = listed_edges c.args.graph.now h c.args.orders.now eq c.requires.lists c.requires.edges in
    let within : HasEnds h = subst HasEnds eq c.ends-ends.ensures.within in
    let no_loop : HasNoLoop h = subst HasNoLoop eq c.requires.no_loop in
    let lawful : (v : ℕ) → v < c.vertices-n.result → IsLawful c.ends-ends.result.now v (order_at c.args.orders.now v) =
    λ v l. lawful_of c.ends-ends.result.now v (order_at c.args.orders.now v) (c.in_ok-check_orders.ensures v l) in
    let same : tables c.vertices-n.result c.in_ok-ends.ends.items c.in_ok-links.links.first c.in_ok-degree.degree.items c.in_ok-links.links.cw c.in_ok-links.links.ccw ≡ tables c.vertices-n.result c.ends-ends.result.now c.in_ok-links.links.first c.in_ok-degree.degree.items c.in_ok-links.links.cw c.in_ok-links.links.ccw =
    ap (λ (z : List (ℕ × ℕ)). tables c.vertices-n.result z c.in_ok-links.links.first c.in_ok-degree.degree.items c.in_ok-links.links.cw c.in_ok-links.links.ccw) c.in_ok-ends.ensures in
    let few : c.vertices-n.result < 2 ^ 30 = omega (arith, c.vertices-n.ensures.value, c.vertices-n.ensures.few) in
    let m : IsMap (tables c.vertices-n.result c.in_ok-ends.ends.items c.in_ok-links.links.first c.in_ok-degree.degree.items c.in_ok-links.links.cw c.in_ok-links.links.ccw) =
    subst IsMap (sym same)
    (is_map h c.args.orders.now within no_loop listed lawful c.in_ok-links.links.first c.in_ok-degree.degree.items c.in_ok-links.links.cw c.in_ok-links.links.ccw c.in_ok-links.ensures.first c.in_ok-degree.ensures c.in_ok-links.ensures.cw c.in_ok-links.ensures.ccw few c.ends-ends.ensures.few) in
    (m, no_spare m.vertices_few m.edges_few)

pub returns-clause-map : goal.returns-clause-map
returns-clause-map c =
    let h : Graph = record { vertices = c.vertices-n.result; ends = c.ends-ends.result.now } in
    let eq : c.args.graph.now ≡ record { vertices = c.vertices-n.result; ends = c.ends-ends.result.now } = same_graph c.args.graph.now c.vertices-n.result c.ends-ends.result.now c.vertices-n.ensures.value c.ends-ends.ensures.value in
    let listed : (v : ℕ) → v < c.vertices-n.result → AreEdges c.ends-ends.result.now (order_at c.args.orders.now v) = listed_edges c.args.graph.now h c.args.orders.now eq c.requires.lists c.requires.edges in
    let within : HasEnds h = subst HasEnds eq c.ends-ends.ensures.within in
    let no_loop : HasNoLoop h = subst HasNoLoop eq c.requires.no_loop in
    let lawful : (v : ℕ) → v < c.vertices-n.result → IsLawful c.ends-ends.result.now v (order_at c.args.orders.now v) =
    λ v l. lawful_of c.ends-ends.result.now v (order_at c.args.orders.now v) (c.in_ok-check_orders.ensures v l) in
    let same : tables c.vertices-n.result c.in_ok-ends.ends.items c.in_ok-links.links.first c.in_ok-degree.degree.items c.in_ok-links.links.cw c.in_ok-links.links.ccw ≡ tables c.vertices-n.result c.ends-ends.result.now c.in_ok-links.links.first c.in_ok-degree.degree.items c.in_ok-links.links.cw c.in_ok-links.links.ccw =
    ap (λ (z : List (ℕ × ℕ)). tables c.vertices-n.result z c.in_ok-links.links.first c.in_ok-degree.degree.items c.in_ok-links.links.cw c.in_ok-links.links.ccw) c.in_ok-ends.ensures in
    let eq_rotation : rotation_of (tables c.vertices-n.result c.in_ok-ends.ends.items c.in_ok-links.links.first c.in_ok-degree.degree.items c.in_ok-links.links.cw c.in_ok-links.links.ccw) ≡ embed c.args.graph.now c.args.orders.now =
    ap rotation_of same
    ∙ rotation_is h c.args.orders.now within no_loop listed lawful c.in_ok-links.links.first c.in_ok-degree.degree.items c.in_ok-links.links.cw c.in_ok-links.links.ccw c.in_ok-links.ensures.first c.in_ok-degree.ensures c.in_ok-links.ensures.cw
    ∙ ap (λ (z : Graph). embed z c.args.orders.now) (sym eq) in
    ap (λ (z : Embedded). let r : MapValue = record { graph = z; spare = 0 } in r) eq_rotation
