-- A graph that is made, as a plain graph: it has its default orders, and passes the tests.
use Rattle.std.proofs.Common.{[], ◌≡◌, sym, ap, ◌∙◌, subst, arith, Result, Ok, Err, IfOk}
use Rattle.std.proofs.lemmas.List.FromFn.{get_or-map-range_with_len}
use Rattle.st_ids.specs.Graph.{Graph}
use Rattle.st_ids.specs.declared.ids.NoMemory.{NoMemory}
use Rattle.st_input.specs.InputGraph.{InputGraph}
use Rattle.st_input.specs.Orders.{AreAt, default_order}
use Rattle.st_input.specs.Plain.{default_orders, plain_graph}
use Rattle.st_gen.specs.Accepted.{AcceptedLaw, PlainAcceptedLaw, PassesTests}

-- each vertex has its default order
orders_at : (g : Graph) → AreAt g.vertices (default_orders g) (default_order g.ends)
unfolding default_orders
orders_at g v l = get_or-map-range_with_len (default_order g.ends) 0 g.vertices v v [] l (omega arith)

pub plain_accepted : AcceptedLaw → PlainAcceptedLaw
plain_accepted law n seed g l e m q =
    subst (λ z. PassesTests g.graph z 0 1) (sym (ap (λ z. z.orders) q))
    (subst (λ z. PassesTests (record { vertices = z; ends = g.graph.ends }) (default_orders g.graph) 0 1) (sym e)
    (law n seed g.graph.ends (default_orders g.graph) l m (subst (λ z. AreAt z (default_orders g.graph) (default_order g.graph.ends)) e (orders_at g.graph))))

pub plain_same : (g : Graph) (s : InputGraph) → s ≡ plain_graph g → s ≡ plain_graph s.graph
plain_same g s q = q ∙ ap (λ z. plain_graph z) (sym (ap (λ z. z.graph) q))

-- what holds of the plain graph holds of the answer that is it
pub of_plain : (r : Result InputGraph NoMemory) (g : Graph) (P : InputGraph → Type 0) → IfOk r (λ s. s ≡ plain_graph g) → ((s : InputGraph) → s ≡ plain_graph g → P s) → IfOk r P
of_plain (Ok s) g P q f = f s q
of_plain (Err e) g P q f = tt
