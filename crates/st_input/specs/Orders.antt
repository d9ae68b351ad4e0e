-- The edges at each vertex, clockwise.
--   file_outs v e ends         the edges out of v in file order
--   file_ins v e ends          the edges into v in the reverse of file order
--   default_order ends v       the edges out and then the edges in
--   full_orders names ends ns  the list of each vertex: the one that its node writes, else the default
--   Filled free old new more   each list of new is that of old, with more behind it where the vertex is free
-- Letters: v vertex, e edge. In outs and ins, e is the number of the first edge of the list of ends.
-- With all edges going up, a clockwise list has the edges out from left to right and then the edges in from right to
-- left: so by default both go from left to right in file order.
use Rattle.std.specs.Prelude.{◌≡◌, ℕ, ℤ, ◌+◌, ◌<◌, ◌==◌, Bool, false, List, [], ◌∷◌, ◌++◌, length, Option, None, Some, if◌then◌else◌, slice_index_or, is_none}
use Rattle.st_parts.specs.declared.parts.Node.{Node}
use Rattle.st_parts.specs.declared.parts.Mention.{Mention}
use Rattle.st_input.specs.Faults.{edges_in}

-- the edges out of v in file order
unfoldable pub file_outs : ℕ → ℕ → List (ℕ × ℕ) → List ℕ
file_outs v e [] = []
file_outs v e (a ∷ ends) = (if a.0 == v then e ∷ [] else []) ++ file_outs v (e + 1) ends

-- the edges into v in the reverse of file order
unfoldable pub file_ins : ℕ → ℕ → List (ℕ × ℕ) → List ℕ
file_ins v e [] = []
file_ins v e (a ∷ ends) = file_ins v (e + 1) ends ++ (if a.1 == v then e ∷ [] else [])

abbrev pub default_order : List (ℕ × ℕ) → ℕ → List ℕ
default_order ends v = file_outs v 0 ends ++ file_ins v 0 ends

-- the order of vertex v: the one that its node writes, else the default
abbrev pub order_from : List ℤ → List (ℕ × ℕ) → ℕ → Option (List Mention) → List ℕ
order_from names ends v None = default_order ends v
order_from names ends v (Some ms) = edges_in names ms

-- the order of each vertex; the first node is vertex v
abbrev pub orders_from : List ℤ → List (ℕ × ℕ) → ℕ → List Node → List (List ℕ)
orders_from names ends v [] = []
orders_from names ends v (n ∷ ns) = order_from names ends v n.order ∷ orders_from names ends (v + 1) ns

-- the order of each vertex, in file order
unfoldable pub full_orders : List ℤ → List (ℕ × ℕ) → List Node → List (List ℕ)
full_orders names ends ns = orders_from names ends 0 ns

-- both ends of an edge are among n vertices
abbrev pub HasEndsBelow : ℕ → ℕ × ℕ → Type 0
HasEndsBelow n a = (a.0 < n) × (a.1 < n)

-- ---- how the lists are filled
-- no order is written
abbrev pub is_free : Node → Bool
is_free n = is_none n.order

-- each vertex below n has at its number what f says
abbrev pub AreAt : ℕ → List (List ℕ) → (ℕ → List ℕ) → Type 0
AreAt n orders f = (v : ℕ) → v < n → slice_index_or orders v [] ≡ f v

-- the list of v, with more behind it where v is free
abbrev pub extended : List Bool → List (List ℕ) → (ℕ → List ℕ) → ℕ → List ℕ
extended free old more v = slice_index_or old v [] ++ (if slice_index_or free v false then more v else [])

-- e at vertex t, and nothing elsewhere
abbrev pub one : ℕ → ℕ → ℕ → List ℕ
one t e v = if t == v then e ∷ [] else []

abbrev pub outs_from : ℕ → List (ℕ × ℕ) → ℕ → List ℕ
outs_from e ends v = file_outs v e ends

abbrev pub ins_from : ℕ → List (ℕ × ℕ) → ℕ → List ℕ
ins_from e ends v = file_ins v e ends

-- each list of new is that of old, with more behind it where the vertex is free
pub record Filled (free : List Bool) (old new : List (List ℕ)) (more : ℕ → List ℕ) : Type 0 where
  pub size : length new ≡ length free
  pub lists : AreAt (length free) new (extended free old more)
