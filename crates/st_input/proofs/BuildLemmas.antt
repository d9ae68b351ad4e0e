-- The tables that are built are those of the graph.
use Rattle.std.proofs.Common.{◌≡◌, ℕ, ℤ, List, length, map, refl, ap, subst, ◌∙◌, Option, option_map}
use Rattle.st_ids.specs.Graph.{Graph}
use Rattle.st_ids.specs.declared.ends.Dart.{Dart}
use Rattle.st_input.specs.Faults.{node_name, node_names, edge_names, ends_in, lengths_in}
use Rattle.st_input.specs.Found.{IsFoundInParts, tabled}
use Rattle.st_input.specs.InputGraph.{InputGraph}
use Rattle.st_input.specs.Embedding.{embedded_in, outer_end}
use Rattle.st_input.specs.Orders.{AreAt, extended, is_free, default_order}
use Rattle.st_input.specs.declared.graph.Found.{Found}
use Rattle.st_parts.specs.declared.parts.Node.{Node}
use Rattle.st_parts.specs.declared.parts.Edge.{Edge}
use Rattle.st_parts.specs.declared.parts.Parts.{Parts}
use Rattle.st_input.proofs.Fills.{full_is}

abbrev pub made : Graph → List ℤ → List ℤ → List ℕ → List (Option (List ℕ)) → List (List ℕ) → Option ℕ → List (List ℤ) → InputGraph
made g vs es ns ls os o ps = record { graph = g; vertex_names = vs; edge_names = es; lengths = ns; labels = ls; orders = os; outer = o; paths = ps }

same_made : (g h : Graph) (vs ws es fs : List ℤ) (ns ms : List ℕ) (ls : List (Option (List ℕ))) (os rs : List (List ℕ)) (o q : Option ℕ) (ps : List (List ℤ)) → g ≡ h → vs ≡ ws → es ≡ fs → ns ≡ ms → os ≡ rs → o ≡ q → made g vs es ns ls os o ps ≡ made h ws fs ms ls rs q ps
same_made g h vs ws es fs ns ms ls os rs o q ps e0 e1 e2 e3 e4 e5 = rw (e0, e1, e2, e3, e4, e5) refl

same_graph : (g : Graph) (n m : ℕ) (es fs : List (ℕ × ℕ)) → g ≡ record { vertices = n; ends = es } → n ≡ m → es ≡ fs → g ≡ record { vertices = m; ends = fs }
same_graph g n m es fs is e0 e1 = is ∙ rw (e0, e1) refl

-- the tables, from what each call made
pub built : (p : Parts) (f : Found) (g : Graph) (n : ℕ) (s1 s2 : List Node) (s3 : List Edge) (t : List (ℕ × ℕ)) (os : List (List ℕ)) (vs es : List ℤ) → IsFoundInParts p f → g ≡ record { vertices = n; ends = f.ends } → n ≡ length p.nodes → s1 ≡ p.nodes → t ≡ g.ends → length os ≡ length s1 → AreAt (length s1) os (extended (map is_free s1) f.orders (default_order t)) → s2 ≡ p.nodes → vs ≡ map node_name s2 → s3 ≡ p.edges → es ≡ edge_names s3 → tabled g (record { vertex = vs; edge = es; label = p.labels }) f.lengths os f.outer p.paths ≡ embedded_in p
built p f g n s1 s2 s3 t os vs es found graph count nodes1 ends size are nodes2 vertices edges names =
    let pairs : t ≡ ends_in (node_names p.nodes) p.edges = ends ∙ ap (λ (h : Graph). h.ends) graph ∙ found.ends in
    let at_nodes = subst (λ (l : List Node). AreAt (length l) os (extended (map is_free l) f.orders (default_order t))) nodes1 are in
    let at_ends = subst (λ (l : List (ℕ × ℕ)). AreAt (length p.nodes) os (extended (map is_free p.nodes) f.orders (default_order l))) pairs at_nodes in
    let full = full_is (edge_names p.edges) p.nodes (ends_in (node_names p.nodes) p.edges) f.orders os found.orders (size ∙ ap (λ (l : List Node). length l) nodes1) at_ends in
    same_made g (embedded_in p).graph vs (node_names p.nodes) es (edge_names p.edges) f.lengths (lengths_in p.edges) p.labels os (embedded_in p).orders (option_map (λ (d : Dart). d.0) f.outer) (outer_end (edge_names p.edges) p.outer) p.paths (same_graph g n (length p.nodes) f.ends (ends_in (node_names p.nodes) p.edges) graph count found.ends) (vertices ∙ ap (λ (l : List Node). map node_name l) nodes2) (names ∙ ap (λ (l : List Edge). edge_names l) edges) found.lengths full found.outer
