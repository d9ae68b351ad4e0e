-- Edits of a session: what each does, and which fault of it is the first.
-- Letters: x and y values of a session before and after, w the names of an insert, e edge, u and v vertices, a and b edges,
-- p and q ends.
--   split_state, insert_state, remove_state    the state afterwards
--   with_state x s                  the session with another state, and its limits
--   SplitsEdgeTo x N A B y              the split of edge N by a vertex A, with a new edge B, is carried out
--   IsSplitFault x N A B f          f is the first fault of such a split
--   AreInsertNamed x w u a v b           the new edge w.edge is none yet, and the other names are those of u, a, v and b
--   AreJoined x w u a v b          besides u and v are two, and both edges have an end there
--   AreInsertEnds x w p q, AreInner x w p q   p and q are these ends; besides their corners are not of the outer face
--   InsertsEdgeTo x w y, IsInsertFault x w f       likewise
--   RemovesEdgeTo x N y, IsRemoveFault x N f       likewise
-- A fault's condition has before it that no earlier fault of its list holds. So it holds of one fault at most, and of none
-- where the edit is carried out. Want of memory has no condition, and no removal meets it.
use Rattle.std.specs.Prelude.{ℕ, ℤ, pos, suc, ◌≡◌, ◌≢◌, ◌⊎◌, ◌<◌, ◌≤◌, [], ◌∷◌, ◌++◌}
use Rattle.std.specs.List.{swap_remove}
use Rattle.st_ids.specs.Graph.{arcs_of}
use Rattle.st_ids.specs.Walks.{Reaches}
use Rattle.st_map.specs.Embedded.{at, bare, edges, head, tail}
use Rattle.st_map.specs.Insert.{insert}
use Rattle.st_map.specs.Orders.{IsEdgeAt, end_at}
use Rattle.st_map.specs.Remove.{removed}
use Rattle.st_map.specs.Split.{split}
use Rattle.st_session.specs.Editing.{CornersMeet, IsOuterCorner, OthersIn, OthersOut, outer_after}
use Rattle.st_session.specs.States.{HasName, IsNameAt, LacksName, SessionValue, SessionState}
use Rattle.st_session.specs.declared.insertion.InsertNames.{InsertNames}
use Rattle.st_session.specs.declared.faults.EditFault.{EditFault}
use Rattle.st_session.specs.declared.faults.EditFault.TheVariants.{UsedVertex, UsedEdge, UnknownVertex, UnknownEdge, Loop, NotAt, TooManyVertices, TooManyEdges, OuterCorner, Cycle, OtherFace, Source, Sink, NoMemory}

-- edge e is split by a new vertex, and the new vertex and the new edge have the given names
abbrev pub split_state : SessionState → ℕ → ℤ → ℤ → SessionState
split_state x e vertex new_edge = record {
  graph = split x.graph e;
  vertex_names = x.vertex_names ++ vertex ∷ [];
  edge_names = x.edge_names ++ new_edge ∷ [];
  outer = x.outer;
}

-- a new edge with the given name leads from the vertex of p to that of q, and its ends stand clockwise next after p and q
abbrev pub insert_state : SessionState → ℕ → ℕ → ℤ → SessionState
insert_state x p q edge = record {
  graph = insert x.graph p q;
  vertex_names = x.vertex_names;
  edge_names = x.edge_names ++ edge ∷ [];
  outer = x.outer;
}

-- edge e is taken out, and the last edge has its number
abbrev pub remove_state : SessionState → ℕ → SessionState
remove_state x e = record {
  graph = removed x.graph e;
  vertex_names = x.vertex_names;
  edge_names = swap_remove x.edge_names e (pos 0);
  outer = outer_after x.graph e x.outer;
}

abbrev pub with_state : SessionValue → SessionState → SessionValue
with_state x s = record { state = s; max_vertices = x.max_vertices; max_edges = x.max_edges }

-- ---- split
-- edge e has the name of the edge to be split, and no vertex and no edge has one of the new names
pub record IsSplitNamed (x : SessionState) (edge vertex new_edge : ℤ) (e : ℕ) : Type 0 where
  pub edge_is : IsNameAt x.edge_names e edge
  pub vertex_is_new : LacksName x.vertex_names vertex
  pub edge_is_new : LacksName x.edge_names new_edge

pub record SplitsEdgeTo (x : SessionValue) (edge vertex new_edge : ℤ) (y : SessionValue) : Type 0 where
  pub e : ℕ
  pub named : IsSplitNamed x.state edge vertex new_edge e
  pub vertices : suc x.state.graph.vertices ≤ x.max_vertices
  pub edges : suc (edges x.state.graph) ≤ x.max_edges
  pub is : y ≡ with_state x (split_state x.state e vertex new_edge)

abbrev pub IsSplitFault : SessionValue → ℤ → ℤ → ℤ → EditFault → Type 0
IsSplitFault x edge vertex new_edge (UsedVertex n) = (n ≡ vertex) × HasName x.state.edge_names edge × HasName x.state.vertex_names vertex
IsSplitFault x edge vertex new_edge (UsedEdge n) = (n ≡ new_edge) × HasName x.state.edge_names edge × LacksName x.state.vertex_names vertex × HasName x.state.edge_names new_edge
IsSplitFault x edge vertex new_edge (UnknownVertex n) = ⊥
IsSplitFault x edge vertex new_edge (UnknownEdge n) = (n ≡ edge) × LacksName x.state.edge_names edge
IsSplitFault x edge vertex new_edge Loop = ⊥
IsSplitFault x edge vertex new_edge (NotAt e v) = ⊥
IsSplitFault x edge vertex new_edge (TooManyVertices n) = (n ≡ suc x.state.graph.vertices) × (x.max_vertices < n) × (e : ℕ) × IsSplitNamed x.state edge vertex new_edge e
IsSplitFault x edge vertex new_edge (TooManyEdges m) = (m ≡ suc (edges x.state.graph)) × (x.max_edges < m) × (suc x.state.graph.vertices ≤ x.max_vertices) × (e : ℕ) × IsSplitNamed x.state edge vertex new_edge e
IsSplitFault x edge vertex new_edge OuterCorner = ⊥
IsSplitFault x edge vertex new_edge (Cycle t h) = ⊥
IsSplitFault x edge vertex new_edge OtherFace = ⊥
IsSplitFault x edge vertex new_edge (Source v) = ⊥
IsSplitFault x edge vertex new_edge (Sink v) = ⊥
IsSplitFault x edge vertex new_edge NoMemory = Unit {0}

-- ---- insert
-- no edge has the new name, and the others are those of the vertices u and v and of the edges a and b
pub record AreInsertNamed (x : SessionState) (w : InsertNames) (u a v b : ℕ) : Type 0 where
  pub new_edge : LacksName x.edge_names w.edge
  pub tail_is : IsNameAt x.vertex_names u w.tail
  pub head_is : IsNameAt x.vertex_names v w.head
  pub tail_after_is : IsNameAt x.edge_names a w.tail_after
  pub head_after_is : IsNameAt x.edge_names b w.head_after

-- u and v are two vertices, and a has an end at u, b one at v
pub record AreJoined (x : SessionState) (w : InsertNames) (u a v b : ℕ) : Type 0 where
  pub named : AreInsertNamed x w u a v b
  pub apart : u ≢ v
  pub tail_at : IsEdgeAt x.graph.ends u a
  pub head_at : IsEdgeAt x.graph.ends v b

-- p and q are the named ends, and there is room for an edge
pub record AreInsertEnds (x : SessionValue) (w : InsertNames) (p q : ℕ) : Type 0 where
  pub u : ℕ
  pub a : ℕ
  pub v : ℕ
  pub b : ℕ
  pub joined : AreJoined x.state w u a v b
  pub p_is : p ≡ end_at x.state.graph.ends u a
  pub q_is : q ≡ end_at x.state.graph.ends v b
  pub room : suc (edges x.state.graph) ≤ x.max_edges

-- besides the clockwise nexts of p and q are not of the outer face
pub record AreInner (x : SessionValue) (w : InsertNames) (p q : ℕ) : Type 0 where
  pub ends : AreInsertEnds x w p q
  pub tail_inner : IsOuterCorner x.state.graph x.state.outer p → ⊥
  pub head_inner : IsOuterCorner x.state.graph x.state.outer q → ⊥

-- the head reaches the tail
abbrev pub ClosesCycle : SessionState → ℕ → ℕ → Type 0
ClosesCycle x p q = Reaches (arcs_of (bare x.graph)) (at x.graph q) (at x.graph p)

pub record InsertsEdgeTo (x : SessionValue) (w : InsertNames) (y : SessionValue) : Type 0 where
  pub p : ℕ
  pub q : ℕ
  pub inner : AreInner x w p q
  pub acyclic : ClosesCycle x.state p q → ⊥
  pub one_face : CornersMeet x.state.graph p q
  pub is : y ≡ with_state x (insert_state x.state p q w.edge)

-- the tail's name is unknown, or the head's alone
abbrev pub IsUnknownVertex : SessionState → InsertNames → ℤ → Type 0
IsUnknownVertex x w n = ((n ≡ w.tail) × LacksName x.vertex_names w.tail) ⊎ ((n ≡ w.head) × HasName x.vertex_names w.tail × LacksName x.vertex_names w.head)

-- likewise for the two edges
abbrev pub IsUnknownEdge : SessionState → InsertNames → ℤ → Type 0
IsUnknownEdge x w n = ((n ≡ w.tail_after) × LacksName x.edge_names w.tail_after) ⊎ ((n ≡ w.head_after) × HasName x.edge_names w.tail_after × LacksName x.edge_names w.head_after)

-- the tail's edge has no end at the tail, or the head's alone none at the head
abbrev pub IsNotAt : SessionState → InsertNames → ℕ → ℕ → ℕ → ℕ → ℤ → ℤ → Type 0
IsNotAt x w u a v b e n = ((e ≡ w.tail_after) × (n ≡ w.tail) × (IsEdgeAt x.graph.ends u a → ⊥)) ⊎ ((e ≡ w.head_after) × (n ≡ w.head) × IsEdgeAt x.graph.ends u a × (IsEdgeAt x.graph.ends v b → ⊥))

-- the four known names are those of u, a, v and b, and this holds of them
abbrev pub SomeNamed : SessionState → InsertNames → (ℕ → ℕ → ℕ → ℕ → Type 0) → Type 0
SomeNamed x w P = (u : ℕ) × (a : ℕ) × (v : ℕ) × (b : ℕ) × AreInsertNamed x w u a v b × P u a v b

abbrev pub IsInsertFault : SessionValue → InsertNames → EditFault → Type 0
IsInsertFault x w (UsedVertex n) = ⊥
IsInsertFault x w (UsedEdge n) = (n ≡ w.edge) × HasName x.state.edge_names w.edge
IsInsertFault x w (UnknownVertex n) = LacksName x.state.edge_names w.edge × IsUnknownVertex x.state w n
IsInsertFault x w (UnknownEdge n) = LacksName x.state.edge_names w.edge × HasName x.state.vertex_names w.tail × HasName x.state.vertex_names w.head × IsUnknownEdge x.state w n
IsInsertFault x w Loop = SomeNamed x.state w (λ u a v b. u ≡ v)
IsInsertFault x w (NotAt e n) = SomeNamed x.state w (λ u a v b. (u ≢ v) × IsNotAt x.state w u a v b e n)
IsInsertFault x w (TooManyVertices n) = ⊥
IsInsertFault x w (TooManyEdges m) = (m ≡ suc (edges x.state.graph)) × (x.max_edges < m) × SomeNamed x.state w (λ u a v b. AreJoined x.state w u a v b)
IsInsertFault x w OuterCorner = (p : ℕ) × (q : ℕ) × AreInsertEnds x w p q × (IsOuterCorner x.state.graph x.state.outer p ⊎ IsOuterCorner x.state.graph x.state.outer q)
IsInsertFault x w (Cycle t h) = (t ≡ w.tail) × (h ≡ w.head) × (p : ℕ) × (q : ℕ) × AreInner x w p q × ClosesCycle x.state p q
IsInsertFault x w OtherFace = (p : ℕ) × (q : ℕ) × AreInner x w p q × (ClosesCycle x.state p q → ⊥) × (CornersMeet x.state.graph p q → ⊥)
IsInsertFault x w (Source v) = ⊥
IsInsertFault x w (Sink v) = ⊥
IsInsertFault x w NoMemory = Unit {0}

-- ---- remove
pub record RemovesEdgeTo (x : SessionValue) (edge : ℤ) (y : SessionValue) : Type 0 where
  pub e : ℕ
  pub edge_is : IsNameAt x.state.edge_names e edge
  pub others_in : OthersIn x.state.graph e
  pub others_out : OthersOut x.state.graph e
  pub is : y ≡ with_state x (remove_state x.state e)

abbrev pub IsRemoveFault : SessionValue → ℤ → EditFault → Type 0
IsRemoveFault x edge (UsedVertex n) = ⊥
IsRemoveFault x edge (UsedEdge n) = ⊥
IsRemoveFault x edge (UnknownVertex n) = ⊥
IsRemoveFault x edge (UnknownEdge n) = (n ≡ edge) × LacksName x.state.edge_names edge
IsRemoveFault x edge Loop = ⊥
IsRemoveFault x edge (NotAt e v) = ⊥
IsRemoveFault x edge (TooManyVertices n) = ⊥
IsRemoveFault x edge (TooManyEdges m) = ⊥
IsRemoveFault x edge OuterCorner = ⊥
IsRemoveFault x edge (Cycle t h) = ⊥
IsRemoveFault x edge OtherFace = ⊥
IsRemoveFault x edge (Source n) = (e : ℕ) × IsNameAt x.state.edge_names e edge × (OthersIn x.state.graph e → ⊥) × IsNameAt x.state.vertex_names (head x.state.graph e) n
IsRemoveFault x edge (Sink n) = (e : ℕ) × IsNameAt x.state.edge_names e edge × OthersIn x.state.graph e × (OthersOut x.state.graph e → ⊥) × IsNameAt x.state.vertex_names (tail x.state.graph e) n
IsRemoveFault x edge NoMemory = ⊥
