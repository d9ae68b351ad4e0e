-- What may be wrong with the nodes, edges and orders of a graph.
--   or_else a b                   the one fault, or else the other
--   first_fault fault before xs   the fault of the first item that has one; what is wrong with an item may depend on those
--                                 before it
--   FailsBy fault result          an error of the call, but for want of memory, is this fault
--   node_fault, edge_fault, id_fault   what is wrong with a node, with the ends or the length of an edge, with its name
--   edge_names es                 the names of the edges: the ids where each edge has one, else the positions
--   orders_fault names ns         the first name in a written order that is no edge's
--   ends_in vertices es           the tail and the head of each edge, by number
--   lengths_in es                 the length of each edge: the written one, else 1
use Rattle.std.specs.Prelude.{◌≡◌, ◌≢◌, ℕ, ℤ, pos, Bool, true, false, List, [], ◌∷◌, ◌++◌, map, length, Option, None, Some, Result, IfErr, if◌then◌else◌, is_some, ◌&&◌, int_le, nat_abs}
use Rattle.std.specs.Option.{unwrap_or, option_and_then}
use Rattle.st_ids.specs.declared.limits.TheConstants.{MOST_LENGTH}
use Rattle.st_input.specs.Names.{is_among, number_of, positions}
use Rattle.st_parts.specs.declared.parts.Mention.{Mention}
use Rattle.st_parts.specs.declared.parts.Node.{Node}
use Rattle.st_parts.specs.declared.parts.Minlen.{Minlen}
use Rattle.st_parts.specs.declared.parts.Edge.{Edge}
use Rattle.st_input.specs.declared.fault.ShapeFault.{ShapeFault}
use Rattle.st_input.specs.declared.fault.ShapeFault.TheVariants.{NoId, SameId, NoEnd, UnknownEnd, BadLength, SameEdgeId, UnknownEdge, NoMemory}

-- the one, or else the other
abbrev pub or_else : {A : Type 0} → Option A → Option A → Option A
or_else None b = b
or_else (Some x) b = Some x

-- the fault of the first item that has one; before are the items that were looked at
abbrev pub first_fault : {A : Type 0} → (List A → A → Option ShapeFault) → List A → List A → Option ShapeFault
first_fault fault before [] = None
first_fault fault before (x ∷ xs) = or_else (fault before x) (first_fault fault (before ++ x ∷ []) xs)

-- an error of the call, but for want of memory, is this fault
abbrev pub FailsBy : {T : Type 0} → Option ShapeFault → Result T ShapeFault → Type 0
FailsBy fault result = IfErr result (λ f. f ≢ NoMemory → fault ≡ Some f)

-- ---- nodes
abbrev pub node_name : Node → ℤ
node_name n = unwrap_or n.id (pos 0)

abbrev pub node_names : List Node → List ℤ
node_names ns = map node_name ns

-- a node without a name, or with one that an earlier node has
abbrev pub name_fault : List ℤ → ℕ → Option ℤ → Option ShapeFault
name_fault before at None = Some (NoId at)
name_fault before at (Some name) = if is_among before name then Some (SameId name) else None

abbrev pub node_fault : List Node → Node → Option ShapeFault
node_fault before n = name_fault (node_names before) n.at n.id

-- ---- the ends and the lengths of edges
-- the source or the target of edge i names no vertex
abbrev pub unknown_end_fault : List ℤ → ℕ → ℤ → Option ShapeFault
unknown_end_fault vertices i name = if is_some (number_of vertices name) then None else Some (UnknownEnd i name)

-- an end is missing, or else the source names no vertex, or else the target
abbrev pub ends_fault : List ℤ → ℕ → Option ℤ → Option ℤ → Option ShapeFault
ends_fault vertices i (Some s) (Some t) = or_else (unknown_end_fault vertices i s) (unknown_end_fault vertices i t)
ends_fault vertices i s t = Some (NoEnd i)

-- from 1 to the greatest least length
abbrev pub is_length : ℤ → Bool
is_length rows = int_le (pos 1) rows && int_le rows (pos MOST_LENGTH)

abbrev pub length_fault : Option Minlen → Option ShapeFault
length_fault None = None
length_fault (Some m) = if is_length m.rows then None else Some (BadLength m.at)

-- edge i has a fault of its ends, or else of its length
abbrev pub arc_fault : List ℤ → ℕ → Edge → Option ShapeFault
arc_fault vertices i e = or_else (ends_fault vertices i e.source e.target) (length_fault e.minlen)

abbrev pub edge_fault : List ℤ → List Edge → Edge → Option ShapeFault
edge_fault vertices before e = arc_fault vertices (length before) e

-- the number of the vertex with a name
abbrev pub vertex_in : List ℤ → Option ℤ → ℕ
vertex_in vertices name = unwrap_or (option_and_then (number_of vertices) name) 0

abbrev pub pair_in : List ℤ → Edge → ℕ × ℕ
pair_in vertices e = (vertex_in vertices e.source, vertex_in vertices e.target)

abbrev pub ends_in : List ℤ → List Edge → List (ℕ × ℕ)
ends_in vertices es = map (pair_in vertices) es

-- the written length, else 1
abbrev pub rows_of : Option Minlen → ℕ
rows_of None = 1
rows_of (Some m) = nat_abs m.rows

abbrev pub length_in : Edge → ℕ
length_in e = rows_of e.minlen

abbrev pub lengths_in : List Edge → List ℕ
lengths_in es = map length_in es

-- ---- the names of edges
abbrev pub edge_id : Edge → ℤ
edge_id e = unwrap_or e.id (pos 0)

abbrev pub edge_ids : List Edge → List ℤ
edge_ids es = map edge_id es

-- every edge has an id
abbrev pub all_named : List Edge → Bool
all_named [] = true
all_named (e ∷ es) = if is_some e.id then all_named es else false

-- the names of the edges: the ids where each edge has one, else the positions
unfoldable pub edge_names : List Edge → List ℤ
edge_names es = if all_named es then edge_ids es else positions (length es)

-- an edge with the id of an earlier one
abbrev pub same_fault : List ℤ → ℤ → Option ShapeFault
same_fault before name = if is_among before name then Some (SameEdgeId name) else None

abbrev pub id_fault : List Edge → Edge → Option ShapeFault
id_fault before e = same_fault (edge_ids before) (edge_id e)

-- where an edge has no id, the ids are no names, and may repeat
abbrev pub ids_fault : List Edge → Option ShapeFault
ids_fault es = if all_named es then first_fault id_fault [] es else None

-- ---- written orders
abbrev pub mention_fault : List ℤ → Mention → Option ShapeFault
mention_fault names m = if is_some (number_of names m.name) then None else Some (UnknownEdge m.at)

abbrev pub order_fault : List ℤ → List Mention → Option ShapeFault
order_fault names [] = None
order_fault names (m ∷ ms) = or_else (mention_fault names m) (order_fault names ms)

abbrev pub written_fault : List ℤ → Option (List Mention) → Option ShapeFault
written_fault names None = None
written_fault names (Some ms) = order_fault names ms

-- the first name in a written order that is no edge's
abbrev pub orders_fault : List ℤ → List Node → Option ShapeFault
orders_fault names [] = None
orders_fault names (n ∷ ns) = or_else (written_fault names n.order) (orders_fault names ns)

-- the edge that is named
abbrev pub edge_number : List ℤ → Mention → ℕ
edge_number names m = unwrap_or (number_of names m.name) 0

abbrev pub edges_in : List ℤ → List Mention → List ℕ
edges_in names ms = map (edge_number names) ms

abbrev pub written : List ℤ → Option (List Mention) → List ℕ
written names None = []
written names (Some ms) = edges_in names ms

abbrev pub written_in : List ℤ → Node → List ℕ
written_in names n = written names n.order
