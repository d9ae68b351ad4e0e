-- The file of a plain graph is read again, whatever the places of its pairs.
use Rattle.std.proofs.Common.{◌≡◌, ◌≢◌, ◌<◌, ◌≤◌, ◌+◌, ℕ, zero, suc, ℤ, pos, false, List, [], ◌∷◌, ◌++◌, length, map, get_or, slice_get, refl, ap, sym, subst, ◌∙◌, append_assoc, arith, codes, Option, Some, None, All}
use Rattle.std.specs.Prelude.{replicate}
use Rattle.std.specs.List.{range_with_len}
use Rattle.std.specs.Ordering.{int_eq}
use Rattle.std.proofs.lemmas.Bool.Decides.{nat_tests, Decides-int_eq}
use Rattle.std.proofs.lemmas.List.{length-map}
use Rattle.std.proofs.lemmas.List.Folds.{list_any_none}
use Rattle.std.proofs.lemmas.Option.{slice_get-get_or}
use Rattle.st_ids.specs.Graph.{Graph, HasEnds}
use Rattle.gml_core.specs.Trees.{int, atom, list, Entry, entry, Entries, none, more, listed}
use Rattle.gml_core.specs.Views.{entries_of}
use Rattle.gml_core.specs.Printing.{at_zero, entry_at_zero}
use Rattle.st_parts.specs.Used.{first_with, each}
use Rattle.st_parts.specs.Kinds.{earliest, part_wrong, graph_wrong}
use Rattle.st_parts.specs.Parts.{parts_say, node_in, label_in, edge_in, path_in}
use Rattle.st_input.specs.Names.{number_of, is_among, AreDifferent, positions}
use Rattle.st_input.specs.Faults.{or_else, first_fault, node_fault, node_name, node_names, edge_fault, ends_fault, unknown_end_fault, length_fault, lengths_in, ids_fault, edge_names, ends_in, pair_in, orders_fault}
use Rattle.st_input.specs.Orders.{HasEndsBelow, default_order, orders_from, full_orders}
use Rattle.st_input.specs.InputGraph.{InputGraph}
use Rattle.st_input.specs.Embedding.{embedded_in, embedded_graph}
use Rattle.st_input.specs.FirstFault.{limits_fault, text_fault, parts_fault, shape_fault}
use Rattle.st_input.specs.Plain.{counted, default_orders, plain_graph}
use Rattle.st_writer.specs.Plain.{int_pair, node_pair, edge_pair, graph_pairs, plain_entries}
use Rattle.st_parts.specs.declared.parts.Node.{Node}
use Rattle.st_parts.specs.declared.parts.Edge.{Edge}
use Rattle.st_parts.specs.declared.parts.Parts.{Parts}
use Rattle.st_input.proofs.Public.{made}
use Rattle.st_input.proofs.Public.{number_in, decided_false, other_pos}
use Rattle.st_input.proofs.Public.{names_push}
use Rattle.st_input.proofs.Public.{counted_length, counted_get, counted_differ, ends_within}

-- ---- what the pairs say
-- nodes with these names, and without orders
abbrev AreNodes : List ℤ → List Node → Type 0
AreNodes [] [] = Unit {0}
AreNodes [] (n ∷ ns) = ⊥
AreNodes (z ∷ zs) [] = ⊥
AreNodes (z ∷ zs) (n ∷ ns) = (n.id ≡ Some z) × (n.order ≡ None) × AreNodes zs ns

-- an edge with the names of its ends
abbrev plain_edge : List ℤ → ℕ × ℕ → Edge
plain_edge names a = record { id = None; source = Some (get_or names a.0 (pos 0)); target = Some (get_or names a.1 (pos 0)); minlen = None }

record IsPlain (names table : List ℤ) (ends : List (ℕ × ℕ)) (xs : List Entry) : Type 0 where
  nodes : AreNodes names (each (codes "node") node_in xs)
  labels : each (codes "node") label_in xs ≡ replicate (length names) None
  edges : each (codes "edge") edge_in xs ≡ map (plain_edge table) ends
  outer : first_with (codes "outer") xs ≡ None
  paths : each (codes "path") path_in xs ≡ []
  kinds : earliest part_wrong xs ≡ None

plain_none : (table : List ℤ) → IsPlain [] table [] []
plain_none table = record { nodes = tt; labels = refl; edges = refl; outer = refl; paths = refl; kinds = refl }

abbrev int_at : List ℕ → ℕ → ℤ → Entry
int_at key at n = entry key at (atom (int n))

abbrev edge_at : ℤ → ℤ → ℕ → ℕ → ℕ → Entry
edge_at s t i j k = entry (codes "edge") i (list (more (int_at (codes "source") j s) (more (int_at (codes "target") k t) none)))

abbrev node_at : ℤ → ℕ → ℕ → Entry
node_at z i j = entry (codes "node") i (list (more (int_at (codes "id") j z) none))

edge_step : (table : List ℤ) (a : ℕ × ℕ) (ends : List (ℕ × ℕ)) (xs : List Entry) (i j k : ℕ) → IsPlain [] table ends xs → IsPlain [] table (a ∷ ends) (edge_at (get_or table a.0 (pos 0)) (get_or table a.1 (pos 0)) i j k ∷ xs)
edge_step table a ends xs i j k p = record { nodes = p.nodes; labels = p.labels; edges = ap (λ (l : List Edge). plain_edge table a ∷ l) p.edges; outer = p.outer; paths = p.paths; kinds = p.kinds }

node_step : (z : ℤ) (names table : List ℤ) (ends : List (ℕ × ℕ)) (xs : List Entry) (i j : ℕ) → IsPlain names table ends xs → IsPlain (z ∷ names) table ends (node_at z i j ∷ xs)
node_step z names table ends xs i j p = record { nodes = (refl, refl, p.nodes); labels = ap (λ (l : List (Option (List ℕ))). None ∷ l) p.labels; edges = p.edges; outer = p.outer; paths = p.paths; kinds = p.kinds }

directed_step : (names table : List ℤ) (ends : List (ℕ × ℕ)) (xs : List Entry) (i : ℕ) → IsPlain names table ends xs → IsPlain names table ends (int_at (codes "directed") i (pos 1) ∷ xs)
directed_step names table ends xs i p = record { nodes = p.nodes; labels = p.labels; edges = p.edges; outer = p.outer; paths = p.paths; kinds = p.kinds }

-- ---- pairs that are known apart from their places
edge_inv : (P : Entry → Type 0) (s t : ℤ) → ((i j k : ℕ) → P (edge_at s t i j k)) → (e : Entry) → entry_at_zero e ≡ edge_at s t 0 0 0 → P e
edge_inv P s t f (entry key i (atom a)) e = absurd (cc)
edge_inv P s t f (entry key i (list none)) e = absurd (cc)
edge_inv P s t f (entry key i (list (more (entry k1 j (list l)) es))) e = absurd (cc)
edge_inv P s t f (entry key i (list (more (entry k1 j (atom a)) none))) e = absurd (cc)
edge_inv P s t f (entry key i (list (more (entry k1 j (atom a)) (more (entry k2 k (list l)) es)))) e = absurd (cc)
edge_inv P s t f (entry key i (list (more (entry k1 j (atom a)) (more (entry k2 k (atom b)) (more d es))))) e = absurd (cc)
edge_inv P s t f (entry key i (list (more (entry k1 j (atom a)) (more (entry k2 k (atom b)) none)))) e =
    let same : edge_at s t i j k ≡ entry key i (list (more (entry k1 j (atom a)) (more (entry k2 k (atom b)) none))) = cc in
    subst P same (f i j k)

node_inv : (P : Entry → Type 0) (z : ℤ) → ((i j : ℕ) → P (node_at z i j)) → (e : Entry) → entry_at_zero e ≡ node_at z 0 0 → P e
node_inv P z f (entry key i (atom a)) e = absurd (cc)
node_inv P z f (entry key i (list none)) e = absurd (cc)
node_inv P z f (entry key i (list (more (entry k1 j (list l)) es))) e = absurd (cc)
node_inv P z f (entry key i (list (more (entry k1 j (atom a)) (more d es)))) e = absurd (cc)
node_inv P z f (entry key i (list (more (entry k1 j (atom a)) none))) e =
    let same : node_at z i j ≡ entry key i (list (more (entry k1 j (atom a)) none)) = cc in
    subst P same (f i j)

directed_inv : (P : Entry → Type 0) → ((i : ℕ) → P (int_at (codes "directed") i (pos 1))) → (e : Entry) → entry_at_zero e ≡ int_at (codes "directed") 0 (pos 1) → P e
directed_inv P f (entry key i (list l)) e = absurd (cc)
directed_inv P f (entry key i (atom a)) e =
    let same : int_at (codes "directed") i (pos 1) ≡ entry key i (atom a) = cc in
    subst P same (f i)

pub graph_inv : (P : Entries → Type 0) (inner : Entries) → ((i : ℕ) (es : Entries) → at_zero es ≡ inner → P (more (entry (codes "graph") i (list es)) none)) → (text : Entries) → at_zero text ≡ more (entry (codes "graph") 0 (list inner)) none → P text
graph_inv P inner f none e = absurd (cc)
graph_inv P inner f (more (entry key i (atom a)) es) e = absurd (cc)
graph_inv P inner f (more (entry key i (list l)) (more d es)) e = absurd (cc)
graph_inv P inner f (more (entry key i (list l)) none) e =
    let is : at_zero l ≡ inner = cc in
    let key_is : codes "graph" ≡ key = cc in
    subst (λ (k : List ℕ). P (more (entry k i (list l)) none)) key_is (f i l is)

edges_plain : (table : List ℤ) (ends : List (ℕ × ℕ)) (es : Entries) → at_zero es ≡ entries_of (map (edge_pair table) ends) → IsPlain [] table ends (listed es)
edges_plain table [] none e = plain_none table
edges_plain table [] (more d es) e = absurd (cc)
edges_plain table (a ∷ ends) none e = absurd (cc)
edges_plain table (a ∷ ends) (more d es) e =
    let head : entry_at_zero d ≡ edge_pair table a = cc in
    let tail : at_zero es ≡ entries_of (map (edge_pair table) ends) = cc in
    let rest = edges_plain table ends es tail in
    edge_inv (λ (x : Entry). IsPlain [] table (a ∷ ends) (x ∷ listed es)) (get_or table a.0 (pos 0)) (get_or table a.1 (pos 0)) (λ i j k. edge_step table a ends (listed es) i j k rest) d head

nodes_plain : (names table : List ℤ) (ends : List (ℕ × ℕ)) (es : Entries) → at_zero es ≡ entries_of (map node_pair names ++ map (edge_pair table) ends) → IsPlain names table ends (listed es)
nodes_plain [] table ends es e = edges_plain table ends es e
nodes_plain (z ∷ names) table ends none e = absurd (cc)
nodes_plain (z ∷ names) table ends (more d es) e =
    let head : entry_at_zero d ≡ node_pair z = cc in
    let tail : at_zero es ≡ entries_of (map node_pair names ++ map (edge_pair table) ends) = cc in
    let rest = nodes_plain names table ends es tail in
    node_inv (λ (x : Entry). IsPlain (z ∷ names) table ends (x ∷ listed es)) z (λ i j. node_step z names table ends (listed es) i j rest) d head

pairs_plain : (g : InputGraph) (es : Entries) → at_zero es ≡ entries_of (graph_pairs g) → IsPlain g.vertex_names g.vertex_names g.graph.ends (listed es)
unfolding graph_pairs
pairs_plain g none e = absurd (cc)
pairs_plain g (more d es) e =
    let head : entry_at_zero d ≡ int_pair (codes "directed") (pos 1) = cc in
    let tail : at_zero es ≡ entries_of (map node_pair g.vertex_names ++ map (edge_pair g.vertex_names) g.graph.ends) = cc in
    let rest = nodes_plain g.vertex_names g.vertex_names g.graph.ends es tail in
    directed_inv (λ (x : Entry). IsPlain g.vertex_names g.vertex_names g.graph.ends (x ∷ listed es)) (λ i. directed_step g.vertex_names g.vertex_names g.graph.ends (listed es) i rest) d head

-- the places of a plain graph are 0
zero_edges : (table : List ℤ) (ends : List (ℕ × ℕ)) → at_zero (entries_of (map (edge_pair table) ends)) ≡ entries_of (map (edge_pair table) ends)
zero_edges table [] = refl
zero_edges table (a ∷ ends) = ap (λ (l : Entries). more (edge_pair table a) l) (zero_edges table ends)

zero_nodes : (names table : List ℤ) (ends : List (ℕ × ℕ)) → at_zero (entries_of (map node_pair names ++ map (edge_pair table) ends)) ≡ entries_of (map node_pair names ++ map (edge_pair table) ends)
zero_nodes [] table ends = zero_edges table ends
zero_nodes (z ∷ names) table ends = ap (λ (l : Entries). more (node_pair z) l) (zero_nodes names table ends)

zero_pairs : (g : InputGraph) → at_zero (entries_of (graph_pairs g)) ≡ entries_of (graph_pairs g)
unfolding graph_pairs
zero_pairs g = ap (λ (l : Entries). more (int_pair (codes "directed") (pos 1)) l) (zero_nodes g.vertex_names g.vertex_names g.graph.ends)

-- ---- no fault
pub none_or : {A : Type 0} (a b : Option A) → a ≡ None → b ≡ None → or_else a b ≡ None
none_or a b e f = rw (e, f) refl

nodes_count : (zs : List ℤ) (ns : List Node) → AreNodes zs ns → length ns ≡ length zs
nodes_count [] [] p = refl
nodes_count [] (n ∷ ns) p = absurd p
nodes_count (z ∷ zs) [] p = absurd p
nodes_count (z ∷ zs) (n ∷ ns) p = ap suc (nodes_count zs ns p.2)

names_are : (zs : List ℤ) (ns : List Node) → AreNodes zs ns → node_names ns ≡ zs
names_are [] [] p = refl
names_are [] (n ∷ ns) p = absurd p
names_are (z ∷ zs) [] p = absurd p
names_are (z ∷ zs) (n ∷ ns) p =
    let name : node_name n ≡ z = rw (p.0) refl in
    let rest = names_are zs ns p.2 in
    cc

orders_clear : (names zs : List ℤ) (ns : List Node) → AreNodes zs ns → orders_fault names ns ≡ None
orders_clear names [] [] p = refl
orders_clear names [] (n ∷ ns) p = absurd p
orders_clear names (z ∷ zs) [] p = absurd p
orders_clear names (z ∷ zs) (n ∷ ns) p = rw (p.1) (orders_clear names zs ns p.2)

orders_default : (names zs : List ℤ) (ends : List (ℕ × ℕ)) (k : ℕ) (ns : List Node) → AreNodes zs ns → orders_from names ends k ns ≡ map (default_order ends) (range_with_len k (length zs))
orders_default names [] ends k [] p = refl
orders_default names [] ends k (n ∷ ns) p = absurd p
orders_default names (z ∷ zs) ends k [] p = absurd p
orders_default names (z ∷ zs) ends k (n ∷ ns) p =
    let rest = orders_default names zs ends (k + 1) ns p.2 in
    rw (p.1) (ap (λ (l : List (List ℕ)). default_order ends k ∷ l) rest)

pub get_left : (xs ys : List ℤ) (k : ℕ) → k < length xs → slice_get (xs ++ ys) k ≡ slice_get xs k
get_left [] ys k lt = absurd (omega arith)
get_left (x ∷ xs) ys zero lt = refl
get_left (x ∷ xs) ys (suc k) lt = get_left xs ys k (omega arith)

get_next : (xs : List ℤ) (z : ℤ) (zs : List ℤ) → slice_get (xs ++ z ∷ zs) (length xs) ≡ Some z
get_next [] z zs = refl
get_next (x ∷ xs) z zs = get_next xs z zs

-- where names differ, each is new
pub fresh_next : (xs : List ℤ) (z : ℤ) (zs : List ℤ) → AreDifferent (xs ++ z ∷ zs) → is_among xs z ≡ false
unfolding is_among
fresh_next xs z zs differ = list_any_none (int_eq z) xs (λ k d lt. decided_false (int_eq z (get_or xs k d)) (z ≡ get_or xs k d) (Decides-int_eq z (get_or xs k d)) (λ e. other k d lt e))
  where
    other : (k : ℕ) (d : ℤ) → k < length xs → z ≡ get_or xs k d → ⊥
    other k d lt e =
        let here : slice_get (xs ++ z ∷ zs) k ≡ Some z = get_left xs (z ∷ zs) k lt ∙ slice_get-get_or xs k d lt ∙ ap (λ (y : ℤ). Some y) (sym e) in
        let same : k ≡ length xs = differ k (length xs) z here (get_next xs z zs) in
        omega arith

no_node : (before : List Node) (zs : List ℤ) (ns : List Node) → AreNodes zs ns → AreDifferent (node_names before ++ zs) → first_fault node_fault before ns ≡ None
no_node before [] [] p differ = refl
no_node before [] (n ∷ ns) p differ = absurd p
no_node before (z ∷ zs) [] p differ = absurd p
no_node before (z ∷ zs) (n ∷ ns) p differ =
    let name : node_name n ≡ z = rw (p.0) refl in
    let fresh : is_among (node_names before) z ≡ false = fresh_next (node_names before) z zs differ in
    let clear : node_fault before n ≡ None = rw (p.0, fresh) refl in
    let same : node_names before ++ z ∷ zs ≡ node_names (before ++ n ∷ []) ++ zs = sym (append_assoc (node_names before) (z ∷ []) zs) ∙ ap (λ (l : List ℤ). l ++ zs) (ap (λ (y : ℤ). node_names before ++ y ∷ []) (sym name) ∙ sym (names_push before n)) in
    none_or (node_fault before n) (first_fault node_fault (before ++ n ∷ []) ns) clear (no_node (before ++ n ∷ []) zs ns p.2 (subst AreDifferent same differ))

number_counted : (n v : ℕ) → v < n → number_of (counted n) (get_or (counted n) v (pos 0)) ≡ Some v
number_counted n v lt =
    let name = get_or (counted n) v (pos 0) in
    let within : v < length (counted n) = omega (arith, counted_length n) in
    number_in (counted n) name v within before ((Decides-int_eq name name).1 refl)
  where
    before : (k : ℕ) → k < v → int_eq (get_or (counted n) v (pos 0)) (get_or (counted n) k (pos 0)) ≡ false
    before k l =
        let small : k < n = omega arith in
        let differ : v + 1 ≢ k + 1 = omega arith in
        rw (counted_get n v (pos 0) lt, counted_get n k (pos 0) small) (other_pos (v + 1) (k + 1) differ)

end_found : (n i v : ℕ) → v < n → unknown_end_fault (counted n) i (get_or (counted n) v (pos 0)) ≡ None
end_found n i v lt = rw (number_counted n v lt) refl

ends_clear : (n : ℕ) (before : List Edge) (ends : List (ℕ × ℕ)) → All (HasEndsBelow n) ends → first_fault (edge_fault (counted n)) before (map (plain_edge (counted n)) ends) ≡ None
ends_clear n before [] all = refl
ends_clear n before (a ∷ ends) all =
    let here : HasEndsBelow n a = all 0 a (omega arith) in
    let tail = end_found n (length before) a.0 here.0 in
    let head = end_found n (length before) a.1 here.1 in
    none_or (edge_fault (counted n) before (plain_edge (counted n) a)) (first_fault (edge_fault (counted n)) (before ++ plain_edge (counted n) a ∷ []) (map (plain_edge (counted n)) ends)) (none_or (ends_fault (counted n) (length before) (plain_edge (counted n) a).source (plain_edge (counted n) a).target) (length_fault None) (none_or (unknown_end_fault (counted n) (length before) (get_or (counted n) a.0 (pos 0))) (unknown_end_fault (counted n) (length before) (get_or (counted n) a.1 (pos 0))) tail head) refl) (ends_clear n (before ++ plain_edge (counted n) a ∷ []) ends (λ k d lt. all (suc k) d (omega arith)))

ends_are : (n : ℕ) (ends : List (ℕ × ℕ)) → All (HasEndsBelow n) ends → ends_in (counted n) (map (plain_edge (counted n)) ends) ≡ ends
ends_are n [] all = refl
ends_are n (a ∷ ends) all =
    let here : HasEndsBelow n a = all 0 a (omega arith) in
    let pair : pair_in (counted n) (plain_edge (counted n) a) ≡ a = rw (number_counted n a.0 here.0, number_counted n a.1 here.1) refl in
    let rest = ends_are n ends (λ k d lt. all (suc k) d (omega arith)) in
    ap (λ (x : ℕ × ℕ). x ∷ ends_in (counted n) (map (plain_edge (counted n)) ends)) pair ∙ ap (λ (l : List (ℕ × ℕ)). a ∷ l) rest

rows_are : (table : List ℤ) (ends : List (ℕ × ℕ)) → lengths_in (map (plain_edge table) ends) ≡ replicate (length ends) 1
rows_are table [] = refl
rows_are table (a ∷ ends) = ap (λ (l : List ℕ). 1 ∷ l) (rows_are table ends)

ids_clear : (table : List ℤ) (ends : List (ℕ × ℕ)) → ids_fault (map (plain_edge table) ends) ≡ None
ids_clear table [] = refl
ids_clear table (a ∷ ends) = refl

names_positions : (table : List ℤ) (ends : List (ℕ × ℕ)) → edge_names (map (plain_edge table) ends) ≡ positions (length ends)
unfolding edge_names positions
names_positions table [] = refl
names_positions table (a ∷ ends) = ap (λ (m : ℕ). positions (suc m)) (length-map ends (plain_edge table))

pub limits_clear : (a b x y : ℕ) → a ≤ x → b ≤ y → limits_fault a b x y ≡ None
limits_clear a b x y p q = grind (arith, nat_tests)

graph_right : (xs : List Entry) → first_with (codes "outer") xs ≡ None → earliest part_wrong xs ≡ None → graph_wrong xs ≡ None
graph_right xs e f = rw (e, f) refl

-- what the pair `graph` of a plain graph says
abbrev plain_parts : Graph → List Node → Parts
plain_parts g ns = record { nodes = ns; labels = replicate g.vertices None; edges = map (plain_edge (counted g.vertices)) g.ends; outer = None; paths = [] }

parts_are : (g : Graph) (xs : List Entry) → IsPlain (counted g.vertices) (counted g.vertices) g.ends xs → parts_say xs ≡ plain_parts g (each (codes "node") node_in xs)
parts_are g xs p =
    let labels : each (codes "node") label_in xs ≡ replicate g.vertices None = p.labels ∙ ap (λ (k : ℕ). replicate k None) (counted_length g.vertices) in
    rw (labels, p.edges, p.outer, p.paths) refl

parts_clear : (g : Graph) (ns : List Node) (max_n max_m : ℕ) → All (HasEndsBelow g.vertices) g.ends → AreNodes (counted g.vertices) ns → g.vertices ≤ max_n → length g.ends ≤ max_m → parts_fault (plain_parts g ns) max_n max_m ≡ None
parts_clear g ns max_n max_m all p few_n few_m =
    let n = g.vertices in
    let es = map (plain_edge (counted n)) g.ends in
    let count : length ns ≡ n = nodes_count (counted n) ns p ∙ counted_length n in
    let size : length es ≡ length g.ends = length-map g.ends (plain_edge (counted n)) in
    let nodes : first_fault node_fault [] ns ≡ None = no_node [] (counted n) ns p (counted_differ n) in
    let edges : first_fault (edge_fault (node_names ns)) [] es ≡ None = rw (names_are (counted n) ns p) (ends_clear n [] g.ends all) in
    let few_nodes : length ns ≤ max_n = omega arith in
    let few_edges : length es ≤ max_m = omega arith in
    let limits = limits_clear (length ns) (length es) max_n max_m few_nodes few_edges in
    none_or _ _ nodes (none_or _ _ edges (none_or _ _ (ids_clear (counted n) g.ends) (none_or _ _ (orders_clear (edge_names es) (counted n) ns p) (none_or _ _ refl limits))))

orders_are : (g : Graph) (names : List ℤ) (ends : List (ℕ × ℕ)) (ns : List Node) → AreNodes (counted g.vertices) ns → ends ≡ g.ends → full_orders names ends ns ≡ default_orders g
unfolding full_orders default_orders
orders_are g names ends ns p is = orders_default names (counted g.vertices) ends 0 ns p ∙ rw (is, counted_length g.vertices) refl

same_parts : (a b : ℕ) (e f : List (ℕ × ℕ)) (vs ws es fs : List ℤ) (ns ms : List ℕ) (ls : List (Option (List ℕ))) (os rs : List (List ℕ)) → a ≡ b → e ≡ f → vs ≡ ws → es ≡ fs → ns ≡ ms → os ≡ rs → made (record { vertices = a; ends = e }) vs es ns ls os None [] ≡ made (record { vertices = b; ends = f }) ws fs ms ls rs None []
same_parts a b e f vs ws es fs ns ms ls os rs e0 e1 e2 e3 e4 e5 = rw (e0, e1, e2, e3, e4, e5) refl

parts_graph : (g : Graph) (ns : List Node) → All (HasEndsBelow g.vertices) g.ends → AreNodes (counted g.vertices) ns → embedded_in (plain_parts g ns) ≡ plain_graph g
parts_graph g ns all p =
    let n = g.vertices in
    let es = map (plain_edge (counted n)) g.ends in
    let count : length ns ≡ n = nodes_count (counted n) ns p ∙ counted_length n in
    let names : node_names ns ≡ counted n = names_are (counted n) ns p in
    let ends : ends_in (node_names ns) es ≡ g.ends = rw names (ends_are n g.ends all) in
    same_parts (length ns) n (ends_in (node_names ns) es) g.ends (node_names ns) (counted n) (edge_names es) (positions (length g.ends)) (lengths_in es) (replicate (length g.ends) 1) (replicate n None) (full_orders (edge_names es) (ends_in (node_names ns) es) ns) (default_orders g) count ends names (names_positions (counted n) g.ends) (rows_are (counted n) g.ends) (orders_are g (edge_names es) (ends_in (node_names ns) es) ns p ends)

inner_back : (g : Graph) (at max_n max_m : ℕ) (es : Entries) → All (HasEndsBelow g.vertices) g.ends → g.vertices ≤ max_n → length g.ends ≤ max_m → IsPlain (counted g.vertices) (counted g.vertices) g.ends (listed es) → (shape_fault (more (entry (codes "graph") at (list es)) none) max_n max_m ≡ None) × (embedded_graph (more (entry (codes "graph") at (list es)) none) ≡ Some (plain_graph g))
unfolding shape_fault embedded_graph
inner_back g at max_n max_m es all few_n few_m p =
    let ns = each (codes "node") node_in (listed es) in
    let right = graph_right (listed es) p.outer p.kinds in
    let kinds : text_fault (entry (codes "graph") at (list es) ∷ []) ≡ None = rw right refl in
    let are = parts_are g (listed es) p in
    let parts : parts_fault (parts_say (listed es)) max_n max_m ≡ None = ap (λ (q : Parts). parts_fault q max_n max_m) are ∙ parts_clear g ns max_n max_m all p.nodes few_n few_m in
    (none_or (text_fault (entry (codes "graph") at (list es) ∷ [])) (parts_fault (parts_say (listed es)) max_n max_m) kinds parts, ap (λ (q : Parts). Some (embedded_in q)) are ∙ ap (λ (h : InputGraph). Some h) (parts_graph g ns all p.nodes))

pub reads_back : (g : Graph) (text : Entries) (max_n max_m : ℕ) → HasEnds g → g.vertices ≤ max_n → length g.ends ≤ max_m → at_zero text ≡ at_zero (plain_entries (plain_graph g)) → (shape_fault text max_n max_m ≡ None) × (embedded_graph text ≡ Some (plain_graph g))
unfolding plain_entries
reads_back g text max_n max_m ends few_n few_m e =
    let all = ends_within g.vertices g.ends ends in
    graph_inv (λ (t : Entries). (shape_fault t max_n max_m ≡ None) × (embedded_graph t ≡ Some (plain_graph g))) (at_zero (entries_of (graph_pairs (plain_graph g)))) (λ at es is. inner_back g at max_n max_m es all few_n few_m (pairs_plain (plain_graph g) es (is ∙ zero_pairs (plain_graph g)))) text e
