-- The used pairs and the kind that the value of each has to have, by the rows of the format.
--   Sort                 what a list of pairs is
--   Kind                 what a value has to be
--   Times                whether the first pair with a key is used, or each
--   Row s t key k        in a list of sort s these pairs with the key are used, and their values have to be of kind k
--   IsTaken t key es e   e is one of these pairs with the key in es
--   IsUsed k e s es      in es, which is of sort s, or in a list inside it, e is used and its value has to be of kind k
--   HasKind k d          the value is of the kind
--   IsWrongAt s es p     a pair with the place p that is used in es has a value of another kind than it has to have
--   IsEarliest P o       o is the least place with the property, or nothing where no place has it
-- A new key is a row of the table. A `label` may have a value of any kind, so it has no row.
-- Letters: s and r sort, k kind, t times, e and d pair, es and ds list of pairs, p and q place.
use Rattle.std.specs.Prelude.{◌≡◌, ◌≢◌, ◌<◌, ◌≤◌, ℕ, ℤ, List, Option, None, Some, codes, slice_get}
use Rattle.gml_core.specs.Trees.{int, Datum, atom, list, Entry, Entries, listed}
use Rattle.st_parts.specs.Used.{key_text, place_of, datum_of}

-- what a list of pairs is: the whole text, the list of a pair with this key, or names of edges
pub data Sort : Type 0 where
  text : Sort
  graph : Sort
  node : Sort
  edge : Sort
  outer : Sort
  names : Sort

-- what a value has to be
pub data Kind : Type 0 where
  integer : Kind
  pairs : Sort → Kind

-- which pairs with a key are used: the first in its list, or each
pub data Times : Type 0 where
  once : Times
  each_time : Times

-- the table of the format
pub data Row : Sort → Times → List ℕ → Kind → Type 0 where
  text_graph : Row text once (codes "graph") (pairs graph)
  graph_node : Row graph each_time (codes "node") (pairs node)
  graph_edge : Row graph each_time (codes "edge") (pairs edge)
  graph_outer : Row graph once (codes "outer") (pairs outer)
  graph_path : Row graph each_time (codes "path") (pairs names)
  node_id : Row node once (codes "id") integer
  node_order : Row node once (codes "order") (pairs names)
  edge_id : Row edge once (codes "id") integer
  edge_source : Row edge once (codes "source") integer
  edge_target : Row edge once (codes "target") integer
  edge_minlen : Row edge once (codes "minlen") integer
  name : Row names each_time (codes "e") integer
  outer_edge : Row outer once (codes "edge") integer
  outer_side : Row outer once (codes "side") integer

-- e stands in es and has the key; where the key is used once, no pair before it has the key
pub record IsTaken (t : Times) (key : List ℕ) (es : List Entry) (e : Entry) : Type 0 where
  pub index : ℕ
  pub there : slice_get es index ≡ Some e
  pub keyed : key_text e ≡ key
  pub first : t ≡ once → (i : ℕ) (d : Entry) → i < index → slice_get es i ≡ Some d → key_text d ≢ key

-- a row takes e in es, or it takes a pair of es with a list in which e is used
pub data IsUsed (k : Kind) (e : Entry) : Sort → List Entry → Type 0 where
  here : {s : Sort} {es : List Entry} (t : Times) (key : List ℕ) → Row s t key k → IsTaken t key es e → IsUsed k e s es
  deeper : {s : Sort} {es : List Entry} (t : Times) (key : List ℕ) (r : Sort) (d : Entry) (ds : Entries)
      → Row s t key (pairs r) → IsTaken t key es d → datum_of d ≡ list ds → IsUsed k e r (listed ds) → IsUsed k e s es

-- the value is of the kind
abbrev pub HasKind : Kind → Datum → Type 0
HasKind integer d = (n : ℤ) × (d ≡ atom (int n))
HasKind (pairs s) d = (ds : Entries) × (d ≡ list ds)

-- a used pair whose key begins at p has a value of another kind than it has to have
pub record IsWrongAt (s : Sort) (es : List Entry) (p : ℕ) : Type 0 where
  pub kind : Kind
  pub pair : Entry
  pub used : IsUsed kind pair s es
  pub at : place_of pair ≡ p
  pub wrong : HasKind kind (datum_of pair) → ⊥

-- o is the least place with the property, or nothing where no place has it
abbrev pub IsEarliest : (ℕ → Type 0) → Option ℕ → Type 0
IsEarliest P None = (p : ℕ) → P p → ⊥
IsEarliest P (Some p) = P p × ((q : ℕ) → P q → p ≤ q)
