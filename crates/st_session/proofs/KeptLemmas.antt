-- What a session keeps after an edit.
use Rattle.std.proofs.Common.{◌≡◌, ◌≢◌, ◌<◌, ◌≤◌, ◌-◌, ◌+◌, ℕ, suc, ℤ, pos, List, [], ◌∷◌, ◌++◌, length, Option, None, refl, sym, ◌∙◌, subst, arith}
use Rattle.std.proofs.lemmas.List.{length-map, length_push}
use Rattle.std.proofs.lemmas.List.FromFn.{length-range_with_len}
use Rattle.std.specs.List.{range_with_len, swap_remove}
use Rattle.st_map.specs.Embedded.{Embedded, IsRotation, at, darts, edges, head, tail}
use Rattle.st_map.specs.Insert.{insert}
use Rattle.st_map.specs.Remove.{old_edge, removed}
use Rattle.st_map.specs.Split.{split}
use Rattle.st_map.proofs.Public.{split_law}
use Rattle.st_order.specs.declared.table.Labels.{Labels}
use Rattle.st_reduce.specs.Reduced.{PlanarSplitLaw}
use Rattle.st_test.specs.Planar.{IsPlanarSt}
use Rattle.st_ids.specs.Walks.{stay, step}
use Rattle.st_session.specs.Editing.{CornersMeet, InsertionLaw, IsOuterCorner, OthersIn, OthersOut, RemovalLaw}
use Rattle.st_session.specs.Edits.{ClosesCycle, insert_state, remove_state, split_state, with_state}
use Rattle.st_session.specs.Kept.{IsKeptSession, session_value}
use Rattle.st_session.specs.States.{SessionValue}
use Rattle.st_session.proofs.NameLemmas.{length_swap_remove}

pub rotation : (g : Embedded) (s t outer : ℕ) → IsPlanarSt g s t outer → IsRotation g
rotation g s t outer st = record { ends = st.ends_in; orders = st.orders }

pub loopless : (g : Embedded) (s t outer e : ℕ) → IsPlanarSt g s t outer → e < edges g → tail g e ≢ head g e
loopless g s t outer e st l q = st.no_cycle (tail g e) e [] (step l refl (stay (sym q)))

-- the numbers of vertices and edges after an edit
pub edges-split : (g : Embedded) (s t outer e : ℕ) → IsPlanarSt g s t outer → e < edges g → edges (split g e) ≡ suc (edges g)
edges-split g s t outer e st l = (split_law g e (rotation g s t outer st) l).0.count

pub edges-insert : (g : Embedded) (s t outer p q : ℕ) → IsPlanarSt g s t outer → p < darts g → q < darts g → at g p ≢ at g q → edges (insert g p q) ≡ suc (edges g)
edges-insert g s t outer p q st lp lq d = (let z : length (g.ends ++ (at g p, at g q) ∷ []) ≡ length g.ends + 1 = length_push g.ends (at g p, at g q) in z ∙ (let w : length g.ends + 1 ≡ suc (edges g) = omega arith in w))

pub edges-removed : (g : Embedded) (s t outer e : ℕ) → IsPlanarSt g s t outer → e < edges g → edges g ≡ suc (edges (removed g e))
edges-removed g s t outer e st l =
    let left : edges (removed g e) ≡ edges g - 1 =
    length-map (range_with_len 0 (edges g - 1)) (λ f. (tail g (old_edge (edges g - 1) e f), head g (old_edge (edges g - 1) e f))) ∙ length-range_with_len 0 (edges g - 1) in
    omega arith

pub length_more : (xs : List ℤ) (x : ℤ) (n : ℕ) → length xs ≡ n → length (xs ++ x ∷ []) ≡ suc n
length_more xs x n e = (let z : length (xs ++ x ∷ []) ≡ length xs + 1 = length_push xs x in omega arith)

module _ (law : PlanarSplitLaw) (x : SessionValue) (s t : ℕ) (labels : Option Labels) (K : IsKeptSession x s t labels) where
  pub kept_split : (e : ℕ) (vertex new_edge : ℤ) → e < edges x.state.graph → suc x.state.graph.vertices ≤ x.max_vertices → suc (edges x.state.graph) ≤ x.max_edges
      → IsKeptSession (with_state x (split_state x.state e vertex new_edge)) s t None
  kept_split e vertex new_edge l lv le =
      let c : edges (split x.state.graph e) ≡ suc (edges x.state.graph) = edges-split x.state.graph s t x.state.outer e K.planar l in
      record {
        planar = (law x.state.graph s t x.state.outer e K.planar l).planar;
        vertex_names = length_more x.state.vertex_names vertex x.state.graph.vertices K.vertex_names;
        edge_names = length_more x.state.edge_names new_edge (edges x.state.graph) K.edge_names ∙ sym c;
        few_vertices = K.few_vertices;
        few_edges = K.few_edges;
        vertices = lv;
        edges = subst (λ z. z ≤ x.max_edges) (sym c) le;
        labels = tt;
      }

module _ (law : InsertionLaw) (x : SessionValue) (s t : ℕ) (labels : Option Labels) (K : IsKeptSession x s t labels) where
  pub kept_insert : (p q : ℕ) (edge : ℤ) → p < darts x.state.graph → q < darts x.state.graph → at x.state.graph p ≢ at x.state.graph q → suc (edges x.state.graph) ≤ x.max_edges
      → (IsOuterCorner x.state.graph x.state.outer p → ⊥) → (ClosesCycle x.state p q → ⊥) → CornersMeet x.state.graph p q
      → IsKeptSession (with_state x (insert_state x.state p q edge)) s t None
  kept_insert p q edge lp lq d le inner acyclic one =
      let c : edges (insert x.state.graph p q) ≡ suc (edges x.state.graph) = edges-insert x.state.graph s t x.state.outer p q K.planar lp lq d in
      record {
        planar = (law x.state.graph s t x.state.outer p q K.planar lp lq d).accepted one inner acyclic;
        vertex_names = K.vertex_names;
        edge_names = length_more x.state.edge_names edge (edges x.state.graph) K.edge_names ∙ sym c;
        few_vertices = K.few_vertices;
        few_edges = K.few_edges;
        vertices = K.vertices;
        edges = subst (λ z. z ≤ x.max_edges) (sym c) le;
        labels = tt;
      }

module _ (law : RemovalLaw) (x : SessionValue) (s t : ℕ) (labels : Option Labels) (K : IsKeptSession x s t labels) where
  pub kept_remove : (e : ℕ) → e < edges x.state.graph → OthersIn x.state.graph e → OthersOut x.state.graph e → IsKeptSession (with_state x (remove_state x.state e)) s t None
  kept_remove e l i o =
      let c : edges x.state.graph ≡ suc (edges (removed x.state.graph e)) = edges-removed x.state.graph s t x.state.outer e K.planar l in
      let m : length x.state.edge_names ≡ edges x.state.graph = K.edge_names in
      let k : edges x.state.graph ≤ x.max_edges = K.edges in
      let n : length (swap_remove x.state.edge_names e (pos 0)) ≡ length x.state.edge_names - 1 = length_swap_remove x.state.edge_names e (omega arith) in
      record {
        planar = (law x.state.graph s t x.state.outer e K.planar l).accepted i o;
        vertex_names = K.vertex_names;
        edge_names = omega arith;
        few_vertices = K.few_vertices;
        few_edges = K.few_edges;
        vertices = K.vertices;
        edges = omega arith;
        labels = tt;
      }

-- the same, of a graph and names that are equal
pub kept_at : (g g' : Embedded) (vs vs' es es' : List ℤ) (outer outer' max_vertices max_edges s t : ℕ) (labels : Option Labels) → g' ≡ g → vs' ≡ vs → es' ≡ es → outer' ≡ outer
    → IsKeptSession (session_value g vs es outer max_vertices max_edges) s t labels → IsKeptSession (session_value g' vs' es' outer' max_vertices max_edges) s t labels
kept_at g g' vs vs' es es' outer outer' max_vertices max_edges s t labels p q r o K =
    subst (λ (z : Embedded). IsKeptSession (session_value z vs' es' outer' max_vertices max_edges) s t labels) (sym p)
    (subst (λ (z : List ℤ). IsKeptSession (session_value g z es' outer' max_vertices max_edges) s t labels) (sym q)
    (subst (λ (z : List ℤ). IsKeptSession (session_value g vs z outer' max_vertices max_edges) s t labels) (sym r) (subst (λ z. IsKeptSession (session_value g vs es z max_vertices max_edges) s t labels) (sym o) K)))
