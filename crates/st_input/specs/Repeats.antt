-- Names that stand twice, by their places, and the faults of nodes and edges that come of them.
--   IsEarlier xs i x       a place before i holds x
--   AreNew xs n            no place before n holds what an earlier one holds
--   IsFirstRepeat xs i x   i is the first place that holds what an earlier one holds, and this is x
--   HaveNames ids n        every place before n holds a name
--   NodesHave ns fault     the first fault of the names of nodes
--   EdgesHave es fault     the first fault of the names of edges
-- An item without a name has the id `None`.
use Rattle.std.specs.Prelude.{◌≡◌, ◌≢◌, ◌<◌, ◌⊎◌, ℕ, ℤ, List, map, length, slice_get, Option, None, Some}
use Rattle.st_parts.specs.declared.parts.Node.{Node}
use Rattle.st_parts.specs.declared.parts.Edge.{Edge}
use Rattle.st_input.specs.declared.fault.ShapeFault.{ShapeFault}
use Rattle.st_input.specs.declared.fault.ShapeFault.TheVariants.{NoId, SameId, SameEdgeId}

-- a place before i holds x
abbrev pub IsEarlier : {A : Type 0} → List A → ℕ → A → Type 0
IsEarlier xs i x = (j : ℕ) × (j < i) × (slice_get xs j ≡ Some x)

-- no place before n holds what an earlier one holds
abbrev pub AreNew : {A : Type 0} → List A → ℕ → Type 0
AreNew {A} xs n = (i : ℕ) (x : A) → i < n → slice_get xs i ≡ Some x → IsEarlier xs i x → ⊥

-- i is the first place that holds what an earlier one holds, and this is x
pub record IsFirstRepeat {A : Type 0} (xs : List A) (i : ℕ) (x : A) : Type 0 where
  pub here : slice_get xs i ≡ Some x
  pub earlier : IsEarlier xs i x
  pub first : AreNew xs i

-- every place before n holds a name
abbrev pub HaveNames : List (Option ℤ) → ℕ → Type 0
HaveNames ids n = (i : ℕ) → i < n → slice_get ids i ≢ Some None

-- ---- nodes
abbrev pub id_of_node : Node → Option ℤ
id_of_node n = n.id

abbrev pub ids_of_nodes : List Node → List (Option ℤ)
ids_of_nodes ns = map id_of_node ns

-- node i has no name and stands at a place of the text; those before it have different names
pub record IsFirstUnnamed (ns : List Node) (i : ℕ) (n : Node) (at : ℕ) : Type 0 where
  pub here : slice_get ns i ≡ Some n
  pub unnamed : n.id ≡ None
  pub place : n.at ≡ at
  pub named : HaveNames (ids_of_nodes ns) i
  pub different : AreNew (ids_of_nodes ns) i

-- none: all have names, and different ones; else the first node without a name, or with one that an earlier node has
abbrev pub NodesHave : List Node → Option ShapeFault → Type 0
NodesHave ns None = HaveNames (ids_of_nodes ns) (length ns) × AreNew (ids_of_nodes ns) (length ns)
NodesHave ns (Some (NoId at)) = (i : ℕ) × (n : Node) × IsFirstUnnamed ns i n at
NodesHave ns (Some (SameId name)) =
    (i : ℕ) × IsFirstRepeat (ids_of_nodes ns) i (Some name) × HaveNames (ids_of_nodes ns) i
NodesHave ns (Some f) = ⊥

-- ---- edges
abbrev pub id_of_edge : Edge → Option ℤ
id_of_edge e = e.id

abbrev pub ids_of_edges : List Edge → List (Option ℤ)
ids_of_edges es = map id_of_edge es

-- none: some edge has no id, or the ids differ; else all have ids, and one is the first that an earlier edge has
abbrev pub EdgesHave : List Edge → Option ShapeFault → Type 0
EdgesHave es None = ((i : ℕ) × (slice_get (ids_of_edges es) i ≡ Some None)) ⊎ AreNew (ids_of_edges es) (length es)
EdgesHave es (Some (SameEdgeId name)) =
    HaveNames (ids_of_edges es) (length es) × (i : ℕ) × IsFirstRepeat (ids_of_edges es) i (Some name)
EdgesHave es (Some f) = ⊥
