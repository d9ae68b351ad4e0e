-- The file of a graph with all that it has but written paths is read again as the graph, whatever the places of its pairs.
-- Letters: g graph, v vertex, e edge, xs pairs, k key, b whether a test holds.
use Rattle.std.proofs.Common.{◌≡◌, ◌≢◌, ◌<◌, ◌≤◌, ◌+◌, ◌*◌, ◌%◌, ℕ, zero, suc, ℤ, pos, Bool, true, false, cond, List, [], ◌∷◌, ◌++◌, length, map, take, get_or, slice_get, eqb, refl, ap, sym, subst, ◌∙◌, append_assoc, arith, codes, Option, None, Some, All}
use Rattle.std.specs.Prelude.{IfSome}
use Rattle.std.specs.Option.{option_map}
use Rattle.std.specs.List.{range_with_len}
use Rattle.std.specs.Ordering.{int_eq}
use Rattle.std.proofs.lemmas.Bool.{eqb-true, eqb-false, ne_eqb}
use Rattle.std.proofs.lemmas.Bool.Decides.{nat_tests, Decides-int_eq}
use Rattle.std.proofs.lemmas.List.FromFn.{fill_by_all, length-map-range_with_len}
use Rattle.std.proofs.lemmas.Option.{slice_get-get_or}
use Rattle.st_ids.specs.Ends.{edge_of, is_out}
use Rattle.st_ids.specs.Graph.{HasEnds, tail_of, head_of}
use Rattle.st_ids.specs.Lists.{In, here, there}
use Rattle.gml_core.specs.Trees.{list, Entry, entry, Entries, none, more, listed}
use Rattle.gml_core.specs.Views.{entries_of}
use Rattle.gml_core.specs.Printing.{at_zero, entry_at_zero}
use Rattle.st_parts.specs.Used.{has_key, first_with, each}
use Rattle.st_parts.specs.Kinds.{earliest, name_wrong_of, names_wrong, node_wrong, edge_wrong, outer_wrong, inside_of, part_wrong, graph_wrong}
use Rattle.st_parts.specs.Parts.{shown_byte, shown, mention_in, mentions_in, node_says, label_says, edge_says, outer_in, parts_say, node_in, label_in, edge_in, path_in}
use Rattle.st_parts.specs.declared.parts.Mention.{Mention}
use Rattle.st_parts.specs.declared.parts.Node.{Node}
use Rattle.st_parts.specs.declared.parts.Minlen.{Minlen}
use Rattle.st_parts.specs.declared.parts.Edge.{Edge}
use Rattle.st_parts.specs.declared.parts.Outer.{Outer}
use Rattle.st_parts.specs.declared.parts.Parts.{Parts}
use Rattle.st_input.specs.Names.{number_of, is_among, AreDifferent}
use Rattle.st_input.specs.Faults.{first_fault, node_fault, node_names, edge_fault, ends_fault, unknown_end_fault, is_length, length_fault, rows_of, length_in, lengths_in, ids_fault, id_fault, all_named, edge_id, edge_ids, edge_names, ends_in, pair_in, order_fault, mention_fault, orders_fault, edges_in}
use Rattle.st_input.specs.Faults.{edge_number}
use Rattle.st_input.specs.Orders.{orders_from, full_orders}
use Rattle.st_ids.specs.Lengths.{IsLength}
use Rattle.st_input.specs.InputGraph.{InputGraph, IsConsistent, IsShownByte, IsLabel}
use Rattle.st_input.specs.Embedding.{embedded_in, embedded_graph, outer_end}
use Rattle.st_input.specs.FirstFault.{outer_fault, text_fault, parts_fault, shape_fault}
use Rattle.st_writer.specs.Plain.{int_pair}
use Rattle.st_writer.specs.Written.{name_of, name_pair, order_pair, label_pairs, node_pairs, written_node, length_of, length_pairs, edge_pairs, written_edge, side_of, end_pairs, outer_pairs, written_pairs, written_entries}
use Rattle.st_input.proofs.Public.{number_in, decided_false}
use Rattle.st_input.proofs.Public.{made}
use Rattle.st_input.proofs.Public.{names_push}
use Rattle.st_writer.proofs.ReadBack.{none_or, fresh_next, limits_clear, graph_inv}
use Rattle.st_writer.proofs.ZeroPlaces.{none_of, zero_listed, zero_parts, zero_parts_say, zero_kinds, zero_faults, zero_graph}

-- ---- lists of pairs
pub listed_of : (xs : List Entry) → listed (entries_of xs) ≡ xs
listed_of [] = refl
listed_of (x ∷ xs) = ap (λ (l : List Entry). x ∷ l) (listed_of xs)

each_append : {A : Type 0} (k : List ℕ) (says : Entry → A) (xs ys : List Entry) → each k says (xs ++ ys) ≡ each k says xs ++ each k says ys
each_append k says [] ys = refl
each_append {A} k says (x ∷ xs) ys = by (has_key k x) (each_append k says xs ys)
  where
    by : (b : Bool) → each k says (xs ++ ys) ≡ each k says xs ++ each k says ys → cond b (says x ∷ each k says (xs ++ ys)) (each k says (xs ++ ys)) ≡ cond b (says x ∷ each k says xs) (each k says xs) ++ each k says ys
    by true rest = ap (λ (l : List A). says x ∷ l) rest
    by false rest = rest

each_these : {A : Type 0} (k : List ℕ) (says : Entry → A) (f : ℕ → Entry) → ((v : ℕ) → has_key k (f v) ≡ true) → (l : List ℕ) → each k says (map f l) ≡ map (λ v. says (f v)) l
each_these k says f same [] = refl
each_these {A} k says f same (v ∷ l) = ap (λ (b : Bool). cond b (says (f v) ∷ each k says (map f l)) (each k says (map f l))) (same v) ∙ ap (λ (r : List A). says (f v) ∷ r) (each_these k says f same l)

each_other : {A : Type 0} (k : List ℕ) (says : Entry → A) (f : ℕ → Entry) → ((v : ℕ) → has_key k (f v) ≡ false) → (l : List ℕ) → each k says (map f l) ≡ []
each_other k says f other [] = refl
each_other {A} k says f other (v ∷ l) = ap (λ (b : Bool). cond b (says (f v) ∷ each k says (map f l)) (each k says (map f l))) (other v) ∙ each_other k says f other l

first_other : (k : List ℕ) (f : ℕ → Entry) → ((v : ℕ) → has_key k (f v) ≡ false) → (l : List ℕ) (ys : List Entry) → first_with k (map f l ++ ys) ≡ first_with k ys
first_other k f other [] ys = refl
first_other k f other (v ∷ l) ys = ap (λ (b : Bool). cond b (Some (f v)) (first_with k (map f l ++ ys))) (other v) ∙ first_other k f other l ys

append_none : {A : Type 0} (xs : List A) → xs ++ [] ≡ xs
append_none [] = refl
append_none {A} (x ∷ xs) = ap (λ (l : List A). x ∷ l) (append_none xs)

earliest_append : (says : Entry → Option ℕ) (xs ys : List Entry) → earliest says xs ≡ None → earliest says ys ≡ None → earliest says (xs ++ ys) ≡ None
earliest_append says [] ys p q = q
earliest_append says (x ∷ xs) ys p q = let n = none_of (says x) (earliest says xs) p in rw (n.0, earliest_append says xs ys n.1 q) refl

earliest_map : (says : Entry → Option ℕ) (f : ℕ → Entry) → ((v : ℕ) → says (f v) ≡ None) → (l : List ℕ) → earliest says (map f l) ≡ None
earliest_map says f clear [] = refl
earliest_map says f clear (v ∷ l) = rw (clear v, earliest_map says f clear l) refl

-- ---- places
zero_append : (xs ys : List Entry) → map entry_at_zero xs ≡ xs → map entry_at_zero ys ≡ ys → map entry_at_zero (xs ++ ys) ≡ xs ++ ys
zero_append [] ys p q = q
zero_append (x ∷ xs) ys p q =
    let head : entry_at_zero x ≡ x = cc in
    let tail : map entry_at_zero xs ≡ xs = cc in
    ap (λ (y : Entry). y ∷ map entry_at_zero (xs ++ ys)) head ∙ ap (λ (l : List Entry). x ∷ l) (zero_append xs ys tail q)

zero_map : (f : ℕ → Entry) → ((v : ℕ) → entry_at_zero (f v) ≡ f v) → (l : List ℕ) → map entry_at_zero (map f l) ≡ map f l
zero_map f same [] = refl
zero_map f same (v ∷ l) = ap (λ (y : Entry). y ∷ map entry_at_zero (map f l)) (same v) ∙ ap (λ (r : List Entry). f v ∷ r) (zero_map f same l)

zero_entries : (xs : List Entry) → map entry_at_zero xs ≡ xs → at_zero (entries_of xs) ≡ entries_of xs
zero_entries [] p = refl
zero_entries (x ∷ xs) p =
    let head : entry_at_zero x ≡ x = cc in
    let tail : map entry_at_zero xs ≡ xs = cc in
    ap (λ (y : Entry). more y (at_zero (entries_of xs))) head ∙ ap (λ (l : Entries). more x l) (zero_entries xs tail)

zero_labels : (o : Option (List ℕ)) → map entry_at_zero (label_pairs o) ≡ label_pairs o
zero_labels None = refl
zero_labels (Some bs) = refl

zero_order_pair : (names : List ℤ) (es : List ℕ) → entry_at_zero (order_pair names es) ≡ order_pair names es
zero_order_pair names es = ap (λ (l : Entries). entry (codes "order") 0 (list l)) (zero_entries (map (name_pair names) es) (zero_map (name_pair names) (λ e. refl) es))

zero_node_pairs : (z : ℤ) (o : Option (List ℕ)) (names : List ℤ) (es : List ℕ) → map entry_at_zero (int_pair (codes "id") z ∷ (label_pairs o ++ order_pair names es ∷ [])) ≡ int_pair (codes "id") z ∷ (label_pairs o ++ order_pair names es ∷ [])
zero_node_pairs z o names es = ap (λ (l : List Entry). int_pair (codes "id") z ∷ l) (zero_append (label_pairs o) (order_pair names es ∷ []) (zero_labels o) (ap (λ (y : Entry). y ∷ []) (zero_order_pair names es)))

zero_written_node : (g : InputGraph) (v : ℕ) → entry_at_zero (written_node g v) ≡ written_node g v
zero_written_node g v = ap (λ (l : Entries). entry (codes "node") 0 (list l)) (zero_entries (node_pairs g v) (zero_node_pairs (name_of g.vertex_names v) (get_or g.labels v None) g.edge_names (get_or g.orders v [])))

zero_edge_pairs : (a b c : ℤ) (n : ℕ) → map entry_at_zero (int_pair (codes "id") a ∷ int_pair (codes "source") b ∷ int_pair (codes "target") c ∷ length_pairs n) ≡ int_pair (codes "id") a ∷ int_pair (codes "source") b ∷ int_pair (codes "target") c ∷ length_pairs n
zero_edge_pairs a b c n = by (eqb n 1)
  where
    xs : Bool → List Entry
    xs t = int_pair (codes "id") a ∷ int_pair (codes "source") b ∷ int_pair (codes "target") c ∷ cond t [] (int_pair (codes "minlen") (pos n) ∷ [])

    by : (t : Bool) → map entry_at_zero (xs t) ≡ xs t
    by true = refl
    by false = refl

zero_written_edge : (g : InputGraph) (e : ℕ) → entry_at_zero (written_edge g e) ≡ written_edge g e
zero_written_edge g e = ap (λ (l : Entries). entry (codes "edge") 0 (list l)) (zero_entries (edge_pairs g e) (zero_edge_pairs (name_of g.edge_names e) (name_of g.vertex_names (tail_of g.graph.ends e)) (name_of g.vertex_names (head_of g.graph.ends e)) (length_of g e)))

zero_outer_pairs : (names : List ℤ) (o : Option ℕ) → map entry_at_zero (outer_pairs names o) ≡ outer_pairs names o
zero_outer_pairs names None = refl
zero_outer_pairs names (Some d) = refl

zero_written : (g : InputGraph) → map entry_at_zero (written_pairs g) ≡ written_pairs g
unfolding written_pairs
zero_written g =
    let ns = map (written_node g) (range_with_len 0 g.graph.vertices) in
    let es = map (written_edge g) (range_with_len 0 (length g.graph.ends)) in
    let parts : map entry_at_zero (map (written_node g) (range_with_len 0 g.graph.vertices) ++ map (written_edge g) (range_with_len 0 (length g.graph.ends))) ≡ map (written_node g) (range_with_len 0 g.graph.vertices) ++ map (written_edge g) (range_with_len 0 (length g.graph.ends)) =
    zero_append ns es (zero_map (written_node g) (zero_written_node g) (range_with_len 0 g.graph.vertices)) (zero_map (written_edge g) (zero_written_edge g) (range_with_len 0 (length g.graph.ends))) in
    ap (λ (l : List Entry). int_pair (codes "directed") (pos 1) ∷ l) (zero_append (outer_pairs g.edge_names g.outer) (ns ++ es) (zero_outer_pairs g.edge_names g.outer) parts)

-- ---- what the pairs say
abbrev mention_of : List ℤ → ℕ → Mention
mention_of names e = record { at = 0; name = name_of names e }

abbrev made_node : ℤ → List Mention → Node
made_node z ms = record { at = 0; id = Some z; order = Some ms }

abbrev node_of : InputGraph → ℕ → Node
node_of g v = made_node (name_of g.vertex_names v) (map (mention_of g.edge_names) (get_or g.orders v []))

abbrev minlen_said : ℕ → Option Minlen
minlen_said n = cond (eqb n 1) None (Some (record { rows = pos n; at = 0 }))

abbrev made_edge : ℤ → ℤ → ℤ → Option Minlen → Edge
made_edge a b c o = record { id = Some a; source = Some b; target = Some c; minlen = o }

abbrev edge_said : InputGraph → ℕ → Edge
edge_said g e = made_edge (name_of g.edge_names e) (name_of g.vertex_names (tail_of g.graph.ends e)) (name_of g.vertex_names (head_of g.graph.ends e)) (minlen_said (length_of g e))

abbrev outer_said : List ℤ → ℕ → Outer
outer_said names d = record { at = 0; edge = Some (mention_of names (edge_of d)); side = Some (side_of d) }

abbrev outer_option : List ℤ → Option ℕ → Option Outer
outer_option names None = None
outer_option names (Some d) = Some (outer_said names d)

mentions_are : (names : List ℤ) (es : List ℕ) → mentions_in (map (name_pair names) es) ≡ map (mention_of names) es
mentions_are names es = each_these (codes "e") mention_in (name_pair names) (λ e. refl) es

node_says_it : (z : ℤ) (o : Option (List ℕ)) (names : List ℤ) (es : List ℕ) → node_says 0 (int_pair (codes "id") z ∷ (label_pairs o ++ order_pair names es ∷ [])) ≡ made_node z (map (mention_of names) es)
node_says_it z None names es = ap (λ (ms : List Mention). made_node z ms) (ap mentions_in (listed_of (map (name_pair names) es)) ∙ mentions_are names es)
node_says_it z (Some bs) names es = ap (λ (ms : List Mention). made_node z ms) (ap mentions_in (listed_of (map (name_pair names) es)) ∙ mentions_are names es)

node_is : (g : InputGraph) (v : ℕ) → node_in (written_node g v) ≡ node_of g v
node_is g v = ap (node_says 0) (listed_of (node_pairs g v)) ∙ node_says_it (name_of g.vertex_names v) (get_or g.labels v None) g.edge_names (get_or g.orders v [])

-- what an edge says, with and without its length
edge_says_it : (a b c : ℤ) (n : ℕ) → edge_says (int_pair (codes "id") a ∷ int_pair (codes "source") b ∷ int_pair (codes "target") c ∷ length_pairs n) ≡ made_edge a b c (minlen_said n)
edge_says_it a b c n = by (eqb n 1)
  where
    by : (t : Bool) → edge_says (int_pair (codes "id") a ∷ int_pair (codes "source") b ∷ int_pair (codes "target") c ∷ cond t [] (int_pair (codes "minlen") (pos n) ∷ [])) ≡ made_edge a b c (cond t None (Some (record { rows = pos n; at = 0 })))
    by true = refl
    by false = refl

edge_is : (g : InputGraph) (e : ℕ) → edge_in (written_edge g e) ≡ edge_said g e
edge_is g e = ap edge_says (listed_of (edge_pairs g e)) ∙ edge_says_it (name_of g.edge_names e) (name_of g.vertex_names (tail_of g.graph.ends e)) (name_of g.vertex_names (head_of g.graph.ends e)) (length_of g e)

shown_byte_same : (b : ℕ) → IsShownByte b → shown_byte b ≡ b
shown_byte_same b p = grind (arith, nat_tests, p.0, p.1)

bytes_same : (bs : List ℕ) → All IsShownByte bs → map shown_byte bs ≡ bs
bytes_same [] all = refl
bytes_same (b ∷ bs) all = ap (λ (x : ℕ). x ∷ map shown_byte bs) (shown_byte_same b (all 0 0 (omega arith))) ∙ ap (λ (l : List ℕ). b ∷ l) (bytes_same bs (λ k d lt. all (suc k) d (omega arith)))

take_whole : (n : ℕ) (bs : List ℕ) → length bs ≤ n → take n bs ≡ bs
take_whole zero [] le = refl
take_whole zero (b ∷ bs) le = absurd (omega arith)
take_whole (suc n) [] le = refl
take_whole (suc n) (b ∷ bs) le = ap (λ (l : List ℕ). b ∷ l) (take_whole n bs (omega arith))

-- the test whether a label is empty, by its answer
shown_by : (bs : List ℕ) (b : Bool) → b ≡ false → IsLabel bs → cond b None (Some (map shown_byte (take 80 bs))) ≡ Some bs
shown_by bs b q p = ap (λ (x : Bool). cond x None (Some (map shown_byte (take 80 bs)))) q ∙ ap (λ (l : List ℕ). Some l) (ap (map shown_byte) (take_whole 80 bs p.1) ∙ bytes_same bs p.2)

shown_same : (bs : List ℕ) → IsLabel bs → shown bs ≡ Some bs
shown_same bs p =
    let some : length bs ≢ 0 = omega (arith, p.0) in
    shown_by bs (eqb (length bs) 0) (ne_eqb (length bs) 0 some) p

label_says_it : (z : ℤ) (o : Option (List ℕ)) (names : List ℤ) (es : List ℕ) → ((bs : List ℕ) → o ≡ Some bs → IsLabel bs) → label_says (int_pair (codes "id") z ∷ (label_pairs o ++ order_pair names es ∷ [])) ≡ o
label_says_it z None names es p = refl
label_says_it z (Some bs) names es p = shown_same bs (p bs refl)

label_is : (g : InputGraph) → IsConsistent g → (v : ℕ) → v < g.graph.vertices → label_in (written_node g v) ≡ get_or g.labels v None
label_is g I v lt = ap label_says (listed_of (node_pairs g v)) ∙ label_says_it (name_of g.vertex_names v) (get_or g.labels v None) g.edge_names (get_or g.orders v []) shown_at
  where
    shown_at : (bs : List ℕ) → get_or g.labels v None ≡ Some bs → IsLabel bs
    shown_at bs e =
        let within : v < length g.labels = omega (arith, I.labels) in
        I.shown v bs (slice_get-get_or g.labels v None within ∙ ap (λ (o : Option (List ℕ)). Some o) e)

map_range : {A : Type 0} (f h : ℕ → A) (a k m : ℕ) → a + k ≤ m → ((v : ℕ) → v < m → f v ≡ h v) → map f (range_with_len a k) ≡ map h (range_with_len a k)
map_range f h a zero m le same = refl
map_range {A} f h a (suc k) m le same = ap (λ (x : A). x ∷ map f (range_with_len (a + 1) k)) (same a (omega arith)) ∙ ap (λ (l : List A). h a ∷ l) (map_range f h (a + 1) k m (omega arith) same)

map_all : {A : Type 0} (f h : ℕ → A) → ((v : ℕ) → f v ≡ h v) → (l : List ℕ) → map f l ≡ map h l
map_all f h same [] = refl
map_all {A} f h same (v ∷ l) = ap (λ (x : A). x ∷ map f l) (same v) ∙ ap (λ (r : List A). h v ∷ r) (map_all f h same l)

abbrev all_vertices : InputGraph → List ℕ
all_vertices g = range_with_len 0 g.graph.vertices

abbrev all_edges : InputGraph → List ℕ
all_edges g = range_with_len 0 (length g.graph.ends)

abbrev parts_of : InputGraph → Parts
parts_of g = record { nodes = map (node_of g) (all_vertices g); labels = g.labels; edges = map (edge_said g) (all_edges g); outer = outer_option g.edge_names g.outer; paths = [] }

outer_has_no : {A : Type 0} (k : List ℕ) (says : Entry → A) (names : List ℤ) (o : Option ℕ) → has_key k (entry (codes "outer") 0 (list none)) ≡ false → each k says (outer_pairs names o) ≡ []
outer_has_no k says names None p = refl
outer_has_no {A} k says names (Some d) p = ap (λ (b : Bool). cond b (says (entry (codes "outer") 0 (list (entries_of (end_pairs names d)))) ∷ []) []) p

-- the pairs with a key that is neither `directed` nor `outer`
each_written : {A : Type 0} (k : List ℕ) (says : Entry → A) (g : InputGraph) → has_key k (int_pair (codes "directed") (pos 1)) ≡ false → has_key k (entry (codes "outer") 0 (list none)) ≡ false
    → each k says (written_pairs g) ≡ each k says (map (written_node g) (all_vertices g)) ++ each k says (map (written_edge g) (all_edges g))
unfolding written_pairs
each_written {A} k says g p q =
    let ns = map (written_node g) (all_vertices g) in
    let es = map (written_edge g) (all_edges g) in
    let rest = outer_pairs g.edge_names g.outer ++ (ns ++ es) in
    ap (λ (b : Bool). cond b (says (int_pair (codes "directed") (pos 1)) ∷ each k says rest) (each k says rest)) p
    ∙ each_append k says (outer_pairs g.edge_names g.outer) (ns ++ es)
    ∙ ap (λ (l : List A). l ++ each k says (ns ++ es)) (outer_has_no k says g.edge_names g.outer q)
    ∙ each_append k says ns es

nodes_are : (g : InputGraph) → each (codes "node") node_in (written_pairs g) ≡ map (node_of g) (all_vertices g)
nodes_are g = each_written (codes "node") node_in g refl refl
    ∙ ap (λ (l : List Node). each (codes "node") node_in (map (written_node g) (all_vertices g)) ++ l) (each_other (codes "node") node_in (written_edge g) (λ e. refl) (all_edges g))
    ∙ append_none (each (codes "node") node_in (map (written_node g) (all_vertices g)))
    ∙ each_these (codes "node") node_in (written_node g) (λ v. refl) (all_vertices g) ∙ map_all (λ v. node_in (written_node g v)) (node_of g) (node_is g) (all_vertices g)

labels_are : (g : InputGraph) → IsConsistent g → each (codes "node") label_in (written_pairs g) ≡ g.labels
labels_are g I = each_written (codes "node") label_in g refl refl
    ∙ ap (λ (l : List (Option (List ℕ))). each (codes "node") label_in (map (written_node g) (all_vertices g)) ++ l) (each_other (codes "node") label_in (written_edge g) (λ e. refl) (all_edges g))
    ∙ append_none (each (codes "node") label_in (map (written_node g) (all_vertices g)))
    ∙ each_these (codes "node") label_in (written_node g) (λ v. refl) (all_vertices g)
    ∙ map_range (λ v. label_in (written_node g v)) (λ v. get_or g.labels v None) 0 g.graph.vertices g.graph.vertices (omega arith) (label_is g I)
    ∙ sym (fill_by_all (λ v. get_or g.labels v None) g.labels g.graph.vertices None I.labels (λ k lt. refl))

edges_are : (g : InputGraph) → each (codes "edge") edge_in (written_pairs g) ≡ map (edge_said g) (all_edges g)
edges_are g = each_written (codes "edge") edge_in g refl refl
    ∙ ap (λ (l : List Edge). l ++ each (codes "edge") edge_in (map (written_edge g) (all_edges g))) (each_other (codes "edge") edge_in (written_node g) (λ v. refl) (all_vertices g))
    ∙ each_these (codes "edge") edge_in (written_edge g) (λ e. refl) (all_edges g) ∙ map_all (λ e. edge_in (written_edge g e)) (edge_said g) (edge_is g) (all_edges g)

no_paths : (g : InputGraph) → each (codes "path") path_in (written_pairs g) ≡ []
no_paths g = each_written (codes "path") path_in g refl refl
    ∙ ap (λ (l : List (List ℤ)). l ++ each (codes "path") path_in (map (written_edge g) (all_edges g))) (each_other (codes "path") path_in (written_node g) (λ v. refl) (all_vertices g))
    ∙ each_other (codes "path") path_in (written_edge g) (λ e. refl) (all_edges g)

abbrev outer_entry : List ℤ → Option ℕ → Option Entry
outer_entry names None = None
outer_entry names (Some d) = Some (entry (codes "outer") 0 (list (entries_of (end_pairs names d))))

outer_first : (g : InputGraph) → first_with (codes "outer") (written_pairs g) ≡ outer_entry g.edge_names g.outer
unfolding written_pairs
outer_first g = by g.outer
  where
    ns : List Entry
    ns = map (written_node g) (all_vertices g)

    es : List Entry
    es = map (written_edge g) (all_edges g)

    none_here : first_with (codes "outer") (ns ++ es) ≡ None
    none_here = first_other (codes "outer") (written_node g) (λ v. refl) (all_vertices g) es ∙ sym (ap (first_with (codes "outer")) (append_none es)) ∙ first_other (codes "outer") (written_edge g) (λ e. refl) (all_edges g) []

    by : (o : Option ℕ) → first_with (codes "outer") (outer_pairs g.edge_names o ++ (ns ++ es)) ≡ outer_entry g.edge_names o
    by None = none_here
    by (Some d) = refl

outer_is : (names : List ℤ) (o : Option ℕ) → option_map outer_in (outer_entry names o) ≡ outer_option names o
outer_is names None = refl
outer_is names (Some d) = refl

parts_are : (g : InputGraph) → IsConsistent g → parts_say (written_pairs g) ≡ parts_of g
parts_are g I =
    let outer : option_map outer_in (first_with (codes "outer") (written_pairs g)) ≡ outer_option g.edge_names g.outer = ap (option_map outer_in) (outer_first g) ∙ outer_is g.edge_names g.outer in
    rw (nodes_are g, labels_are g I, edges_are g, outer, no_paths g) refl

-- ---- kinds
names_right : (names : List ℤ) (es : List ℕ) → names_wrong (map (name_pair names) es) ≡ None
names_right names es = earliest_map name_wrong_of (name_pair names) (λ e. refl) es

node_says_right : (z : ℤ) (o : Option (List ℕ)) (names : List ℤ) (es : List ℕ) → node_wrong (int_pair (codes "id") z ∷ (label_pairs o ++ order_pair names es ∷ [])) ≡ None
node_says_right z None names es = ap names_wrong (listed_of (map (name_pair names) es)) ∙ names_right names es
node_says_right z (Some bs) names es = ap names_wrong (listed_of (map (name_pair names) es)) ∙ names_right names es

node_right : (g : InputGraph) (v : ℕ) → part_wrong (written_node g v) ≡ None
node_right g v = ap node_wrong (listed_of (node_pairs g v)) ∙ node_says_right (name_of g.vertex_names v) (get_or g.labels v None) g.edge_names (get_or g.orders v [])

edge_says_right : (a b c : ℤ) (n : ℕ) → edge_wrong (int_pair (codes "id") a ∷ int_pair (codes "source") b ∷ int_pair (codes "target") c ∷ length_pairs n) ≡ None
edge_says_right a b c n = by (eqb n 1)
  where
    by : (t : Bool) → edge_wrong (int_pair (codes "id") a ∷ int_pair (codes "source") b ∷ int_pair (codes "target") c ∷ cond t [] (int_pair (codes "minlen") (pos n) ∷ [])) ≡ None
    by true = refl
    by false = refl

edge_right : (g : InputGraph) (e : ℕ) → part_wrong (written_edge g e) ≡ None
edge_right g e = ap edge_wrong (listed_of (edge_pairs g e)) ∙ edge_says_right (name_of g.edge_names e) (name_of g.vertex_names (tail_of g.graph.ends e)) (name_of g.vertex_names (head_of g.graph.ends e)) (length_of g e)

outer_right : (names : List ℤ) (o : Option ℕ) → (inside_of outer_wrong (outer_entry names o) ≡ None) × (earliest part_wrong (outer_pairs names o) ≡ None)
outer_right names None = (refl, refl)
outer_right names (Some d) = (refl, refl)

parts_right : (g : InputGraph) → earliest part_wrong (written_pairs g) ≡ None
unfolding written_pairs
parts_right g = earliest_append part_wrong (outer_pairs g.edge_names g.outer) (map (written_node g) (all_vertices g) ++ map (written_edge g) (all_edges g)) (outer_right g.edge_names g.outer).1
    (earliest_append part_wrong (map (written_node g) (all_vertices g)) (map (written_edge g) (all_edges g)) (earliest_map part_wrong (written_node g) (node_right g) (all_vertices g)) (earliest_map part_wrong (written_edge g) (edge_right g) (all_edges g)))

kinds_right : (g : InputGraph) → graph_wrong (written_pairs g) ≡ None
kinds_right g =
    let outer : inside_of outer_wrong (first_with (codes "outer") (written_pairs g)) ≡ None = ap (inside_of outer_wrong) (outer_first g) ∙ (outer_right g.edge_names g.outer).0 in
    rw (outer, parts_right g) refl

-- ---- names
names_all : (names : List ℤ) (n : ℕ) → length names ≡ n → map (name_of names) (range_with_len 0 n) ≡ names
names_all names n size = sym (fill_by_all (name_of names) names n (pos 0) size (λ k lt. refl))

-- where names differ, each leads to its number
number_known : (names : List ℤ) (v : ℕ) → AreDifferent names → v < length names → number_of names (name_of names v) ≡ Some v
number_known names v differ lt = number_in names (name_of names v) v lt before ((Decides-int_eq (name_of names v) (name_of names v)).1 refl)
  where
    other : (k : ℕ) → k < v → name_of names v ≡ name_of names k → ⊥
    other k l e =
        let small : k < length names = omega arith in
        let found : slice_get names k ≡ Some (name_of names v) = slice_get-get_or names k (pos 0) small ∙ ap (λ (z : ℤ). Some z) (sym e) in
        let same : k ≡ v = differ k v (name_of names v) found (slice_get-get_or names v (pos 0) lt) in
        omega arith

    before : (k : ℕ) → k < v → int_eq (name_of names v) (get_or names k (pos 0)) ≡ false
    before k l = decided_false (int_eq (name_of names v) (get_or names k (pos 0))) (name_of names v ≡ get_or names k (pos 0)) (Decides-int_eq (name_of names v) (get_or names k (pos 0))) (other k l)

node_names_are : (g : InputGraph) (l : List ℕ) → node_names (map (node_of g) l) ≡ map (name_of g.vertex_names) l
node_names_are g [] = refl
node_names_are g (v ∷ l) = ap (λ (r : List ℤ). name_of g.vertex_names v ∷ r) (node_names_are g l)

edge_ids_are : (g : InputGraph) (l : List ℕ) → edge_ids (map (edge_said g) l) ≡ map (name_of g.edge_names) l
edge_ids_are g [] = refl
edge_ids_are g (e ∷ l) = ap (λ (r : List ℤ). name_of g.edge_names e ∷ r) (edge_ids_are g l)

named : (g : InputGraph) (l : List ℕ) → all_named (map (edge_said g) l) ≡ true
named g [] = refl
named g (e ∷ l) = named g l

edge_names_are : (g : InputGraph) → IsConsistent g → edge_names (map (edge_said g) (all_edges g)) ≡ g.edge_names
unfolding edge_names
edge_names_are g I = rw (named g (all_edges g)) (edge_ids_are g (all_edges g) ∙ names_all g.edge_names (length g.graph.ends) I.edge_names)

-- ---- no fault
ids_push : (es : List Edge) (e : Edge) → edge_ids (es ++ e ∷ []) ≡ edge_ids es ++ edge_id e ∷ []
ids_push [] e = refl
ids_push (d ∷ es) e = ap (λ (l : List ℤ). edge_id d ∷ l) (ids_push es e)

no_node : (g : InputGraph) (before : List Node) (l : List ℕ) → AreDifferent (node_names before ++ map (name_of g.vertex_names) l) → first_fault node_fault before (map (node_of g) l) ≡ None
no_node g before [] differ = refl
no_node g before (v ∷ l) differ =
    let z = name_of g.vertex_names v in
    let n = node_of g v in
    let zs = map (name_of g.vertex_names) l in
    let fresh : is_among (node_names before) (name_of g.vertex_names v) ≡ false = fresh_next (node_names before) z zs differ in
    let clear : node_fault before (node_of g v) ≡ None = rw fresh refl in
    let same : node_names before ++ name_of g.vertex_names v ∷ map (name_of g.vertex_names) l ≡ node_names (before ++ node_of g v ∷ []) ++ map (name_of g.vertex_names) l = sym (append_assoc (node_names before) (z ∷ []) zs) ∙ ap (λ (r : List ℤ). r ++ zs) (sym (names_push before n)) in
    none_or (node_fault before n) (first_fault node_fault (before ++ n ∷ []) (map (node_of g) l)) clear (no_node g (before ++ n ∷ []) l (subst AreDifferent same differ))

no_id : (g : InputGraph) (before : List Edge) (l : List ℕ) → AreDifferent (edge_ids before ++ map (name_of g.edge_names) l) → first_fault id_fault before (map (edge_said g) l) ≡ None
no_id g before [] differ = refl
no_id g before (e ∷ l) differ =
    let z = name_of g.edge_names e in
    let n = edge_said g e in
    let zs = map (name_of g.edge_names) l in
    let fresh : is_among (edge_ids before) (name_of g.edge_names e) ≡ false = fresh_next (edge_ids before) z zs differ in
    let clear : id_fault before (edge_said g e) ≡ None = rw fresh refl in
    let same : edge_ids before ++ name_of g.edge_names e ∷ map (name_of g.edge_names) l ≡ edge_ids (before ++ edge_said g e ∷ []) ++ map (name_of g.edge_names) l = sym (append_assoc (edge_ids before) (z ∷ []) zs) ∙ ap (λ (r : List ℤ). r ++ zs) (sym (ids_push before n)) in
    none_or (id_fault before n) (first_fault id_fault (before ++ n ∷ []) (map (edge_said g) l)) clear (no_id g (before ++ n ∷ []) l (subst AreDifferent same differ))

end_known : (names : List ℤ) (i v : ℕ) → AreDifferent names → v < length names → unknown_end_fault names i (name_of names v) ≡ None
end_known names i v differ lt = rw (number_known names v differ lt) refl

-- a length is written so that it is read
length_known : (n : ℕ) → IsLength n → (length_fault (minlen_said n) ≡ None) × (rows_of (minlen_said n) ≡ n)
length_known n p = by (eqb n 1) refl
  where
    fits : is_length (pos n) ≡ true
    fits = grind (arith, nat_tests, p.0, p.1)

    by : (t : Bool) → eqb n 1 ≡ t → (length_fault (minlen_said n) ≡ None) × (rows_of (minlen_said n) ≡ n)
    by true q = (rw q refl, rw q (sym (eqb-true n 1 q)))
    by false q = (rw (q, fits) refl, rw q refl)

length_at : (g : InputGraph) → IsConsistent g → (e : ℕ) → e < length g.graph.ends → IsLength (length_of g e)
length_at g I e lt = I.rows e 1 (omega (arith, lt, I.lengths))

no_end : (g : InputGraph) → IsConsistent g → HasEnds g.graph → (before : List Edge) (a k : ℕ) → a + k ≤ length g.graph.ends → first_fault (edge_fault g.vertex_names) before (map (edge_said g) (range_with_len a k)) ≡ None
no_end g I E before a zero le = refl
no_end g I E before a (suc k) le =
    let names = g.vertex_names in
    let n = edge_said g a in
    let ends = E a (omega arith) in
    let tail = end_known names (length before) (tail_of g.graph.ends a) I.different (omega (arith, ends.0, I.vertex_names)) in
    let head = end_known names (length before) (head_of g.graph.ends a) I.different (omega (arith, ends.1, I.vertex_names)) in
    none_or (edge_fault names before n) (first_fault (edge_fault names) (before ++ n ∷ []) (map (edge_said g) (range_with_len (a + 1) k)))
    (none_or (ends_fault names (length before) n.source n.target) (length_fault n.minlen)
    (none_or (unknown_end_fault names (length before) (name_of names (tail_of g.graph.ends a))) (unknown_end_fault names (length before) (name_of names (head_of g.graph.ends a))) tail head) (length_known (length_of g a) (length_at g I a (omega arith))).0) (no_end g I E (before ++ n ∷ []) (a + 1) k (omega arith))

ids_clear : (g : InputGraph) → IsConsistent g → ids_fault (map (edge_said g) (all_edges g)) ≡ None
ids_clear g I = rw (named g (all_edges g)) (no_id g [] (all_edges g) (subst AreDifferent (sym (names_all g.edge_names (length g.graph.ends) I.edge_names)) I.edges_different))

-- ---- orders
order_known : (names : List ℤ) → AreDifferent names → (es : List ℕ) → ((e : ℕ) → In e es → e < length names) → (order_fault names (map (mention_of names) es) ≡ None) × (edges_in names (map (mention_of names) es) ≡ es)
order_known names differ [] all = (refl, refl)
order_known names differ (e ∷ es) all =
    let rest = order_known names differ es (λ x i. all x (there i)) in
    let known = number_known names e differ (all e (here refl)) in
    let clear : mention_fault names (mention_of names e) ≡ None = rw known refl in
    let same : edge_number names (mention_of names e) ≡ e = rw known refl in (
      none_or (mention_fault names (mention_of names e)) (order_fault names (map (mention_of names) es)) clear rest.0,
      ap (λ (x : ℕ). x ∷ edges_in names (map (mention_of names) es)) same ∙ ap (λ (l : List ℕ). e ∷ l) rest.1,
    )

listed_known : (g : InputGraph) → IsConsistent g → (v : ℕ) → v < g.graph.vertices → (order_fault g.edge_names (map (mention_of g.edge_names) (get_or g.orders v [])) ≡ None) × (edges_in g.edge_names (map (mention_of g.edge_names) (get_or g.orders v [])) ≡ get_or g.orders v [])
listed_known g I v lt = order_known g.edge_names I.edges_different (get_or g.orders v []) (λ e i. let l = I.listed v e lt i in omega (arith, l, I.edge_names))

no_order : (g : InputGraph) → IsConsistent g → (a k : ℕ) → a + k ≤ g.graph.vertices → orders_fault g.edge_names (map (node_of g) (range_with_len a k)) ≡ None
no_order g I a zero le = refl
no_order g I a (suc k) le = none_or _ _ (listed_known g I a (omega arith)).0 (no_order g I (a + 1) k (omega arith))

orders_at : (g : InputGraph) → IsConsistent g → (ends : List (ℕ × ℕ)) (a k : ℕ) → a + k ≤ g.graph.vertices → orders_from g.edge_names ends a (map (node_of g) (range_with_len a k)) ≡ map (λ v. get_or g.orders v []) (range_with_len a k)
orders_at g I ends a zero le = refl
orders_at g I ends a (suc k) le =
    ap (λ (x : List ℕ). x ∷ orders_from g.edge_names ends (a + 1) (map (node_of g) (range_with_len (a + 1) k))) (listed_known g I a (omega arith)).1
    ∙ ap (λ (l : List (List ℕ)). get_or g.orders a [] ∷ l) (orders_at g I ends (a + 1) k (omega arith))

orders_are : (g : InputGraph) → IsConsistent g → (ends : List (ℕ × ℕ)) → full_orders g.edge_names ends (map (node_of g) (all_vertices g)) ≡ g.orders
unfolding full_orders
orders_are g I ends = orders_at g I ends 0 g.graph.vertices (omega arith) ∙ sym (fill_by_all (λ v. get_or g.orders v []) g.orders g.graph.vertices [] I.orders (λ k lt. refl))

-- ---- ends
pair_known : (g : InputGraph) → IsConsistent g → HasEnds g.graph → (e : ℕ) → e < length g.graph.ends → pair_in g.vertex_names (edge_said g e) ≡ get_or g.graph.ends e (0, 0)
unfolding tail_of head_of
pair_known g I E e lt =
    let ends = E e lt in
    rw (number_known g.vertex_names (tail_of g.graph.ends e) I.different (omega (arith, ends.0, I.vertex_names)), number_known g.vertex_names (head_of g.graph.ends e) I.different (omega (arith, ends.1, I.vertex_names))) refl

map_map : {A B : Type 0} (f : A → B) (h : ℕ → A) (l : List ℕ) → map f (map h l) ≡ map (λ v. f (h v)) l
map_map f h [] = refl
map_map {A} {B} f h (v ∷ l) = ap (λ (r : List B). f (h v) ∷ r) (map_map f h l)

ends_are : (g : InputGraph) → IsConsistent g → HasEnds g.graph → ends_in g.vertex_names (map (edge_said g) (all_edges g)) ≡ g.graph.ends
ends_are g I E =
    map_map (pair_in g.vertex_names) (edge_said g) (all_edges g)
    ∙ map_range (λ e. pair_in g.vertex_names (edge_said g e)) (λ e. get_or g.graph.ends e (0, 0)) 0 (length g.graph.ends) (length g.graph.ends) (omega arith) (pair_known g I E)
    ∙ sym (fill_by_all (λ e. get_or g.graph.ends e (0, 0)) g.graph.ends (length g.graph.ends) (0, 0) refl (λ k lt. refl))

rows_are : (g : InputGraph) → IsConsistent g → lengths_in (map (edge_said g) (all_edges g)) ≡ g.lengths
rows_are g I =
    map_map length_in (edge_said g) (all_edges g)
    ∙ map_range (λ e. length_in (edge_said g e)) (λ e. get_or g.lengths e 1) 0 (length g.graph.ends) (length g.graph.ends) (omega arith) (λ e lt. (length_known (length_of g e) (length_at g I e lt)).1)
    ∙ sym (fill_by_all (λ e. get_or g.lengths e 1) g.lengths (length g.graph.ends) 1 I.lengths (λ k lt. refl))

-- ---- the outer face
edge_below : (d m : ℕ) → d < 2 * m → edge_of d < m
unfolding edge_of
edge_below d m lt = omega (arith, lt)

end_again : (d : ℕ) (b : Bool) → is_out d ≡ b → 2 * edge_of d + cond b 0 1 ≡ d
unfolding edge_of is_out
end_again d true q = let even : d % 2 ≡ 0 = eqb-true (d % 2) 0 q in omega (arith, even)
end_again d false q = let odd : d % 2 ≢ 0 = eqb-false (d % 2) 0 q in omega (arith, odd)

outer_known : (names : List ℤ) (o : Option ℕ) → AreDifferent names → IfSome o (λ d. d < 2 * length names) → (outer_fault names (outer_option names o) ≡ None) × (outer_end names (outer_option names o) ≡ o)
outer_known names None differ w = (refl, refl)
outer_known names (Some d) differ w = by (is_out d) refl
  where
    known : number_of names (name_of names (edge_of d)) ≡ Some (edge_of d)
    known = number_known names (edge_of d) differ (edge_below d (length names) w)

    by : (b : Bool) → is_out d ≡ b → (outer_fault names (outer_option names (Some d)) ≡ None) × (outer_end names (outer_option names (Some d)) ≡ Some d)
    by true q = (rw (q, known) refl, rw (q, known) (ap (λ (x : ℕ). Some x) (end_again d true q)))
    by false q = (rw (q, known) refl, rw (q, known) (ap (λ (x : ℕ). Some x) (end_again d false q)))

-- ---- all of it
parts_clear : (g : InputGraph) (max_n max_m : ℕ) → IsConsistent g → HasEnds g.graph → g.graph.vertices ≤ max_n → length g.graph.ends ≤ max_m → parts_fault (parts_of g) max_n max_m ≡ None
parts_clear g max_n max_m I E few_n few_m =
    let ns = map (node_of g) (all_vertices g) in
    let es = map (edge_said g) (all_edges g) in
    let count : length (map (node_of g) (all_vertices g)) ≡ g.graph.vertices = length-map-range_with_len (node_of g) 0 g.graph.vertices in
    let size : length (map (edge_said g) (all_edges g)) ≡ length g.graph.ends = length-map-range_with_len (edge_said g) 0 (length g.graph.ends) in
    let names : node_names (map (node_of g) (all_vertices g)) ≡ g.vertex_names = node_names_are g (all_vertices g) ∙ names_all g.vertex_names g.graph.vertices I.vertex_names in
    let nodes : first_fault node_fault [] (map (node_of g) (all_vertices g)) ≡ None = no_node g [] (all_vertices g) (subst AreDifferent (sym (names_all g.vertex_names g.graph.vertices I.vertex_names)) I.different) in
    let edges : first_fault (edge_fault (node_names (map (node_of g) (all_vertices g)))) [] (map (edge_said g) (all_edges g)) ≡ None = rw names (no_end g I E [] 0 (length g.graph.ends) (omega arith)) in
    let orders : orders_fault (edge_names (map (edge_said g) (all_edges g))) (map (node_of g) (all_vertices g)) ≡ None = rw (edge_names_are g I) (no_order g I 0 g.graph.vertices (omega arith)) in
    let outer : outer_fault (edge_names (map (edge_said g) (all_edges g))) (outer_option g.edge_names g.outer) ≡ None = rw (edge_names_are g I) (outer_known g.edge_names g.outer I.edges_different (subst (λ k. IfSome g.outer (λ d. d < 2 * k)) (sym I.edge_names) I.outer)).0 in
    let few_nodes : length (map (node_of g) (all_vertices g)) ≤ max_n = omega (arith, count) in
    let few_edges : length (map (edge_said g) (all_edges g)) ≤ max_m = omega (arith, size) in
    none_or _ _ nodes (none_or _ _ edges (none_or _ _ (ids_clear g I) (none_or _ _ orders (none_or _ _ outer (limits_clear (length ns) (length es) max_n max_m few_nodes few_edges)))))

same_graph : (g : InputGraph) (n : ℕ) (ends : List (ℕ × ℕ)) (vs es : List ℤ) (ns : List ℕ) (os : List (List ℕ)) (o : Option ℕ) → g.paths ≡ [] → n ≡ g.graph.vertices → ends ≡ g.graph.ends → vs ≡ g.vertex_names → es ≡ g.edge_names → ns ≡ g.lengths → os ≡ g.orders → o ≡ g.outer
    → made (record { vertices = n; ends = ends }) vs es ns g.labels os o [] ≡ g
same_graph g n ends vs es ns os o p e0 e1 e2 e3 e4 e5 e6 = rw (e0, e1, e2, e3, e4, e5, e6, sym p) refl

parts_graph : (g : InputGraph) → IsConsistent g → HasEnds g.graph → g.paths ≡ [] → embedded_in (parts_of g) ≡ g
parts_graph g I E p =
    let ns = map (node_of g) (all_vertices g) in
    let es = map (edge_said g) (all_edges g) in
    let count : length (map (node_of g) (all_vertices g)) ≡ g.graph.vertices = length-map-range_with_len (node_of g) 0 g.graph.vertices in
    let names : node_names (map (node_of g) (all_vertices g)) ≡ g.vertex_names = node_names_are g (all_vertices g) ∙ names_all g.vertex_names g.graph.vertices I.vertex_names in
    let ids : edge_names (map (edge_said g) (all_edges g)) ≡ g.edge_names = edge_names_are g I in
    let ends : ends_in (node_names (map (node_of g) (all_vertices g))) (map (edge_said g) (all_edges g)) ≡ g.graph.ends = rw names (ends_are g I E) in
    let orders : full_orders (edge_names (map (edge_said g) (all_edges g))) (ends_in (node_names (map (node_of g) (all_vertices g))) (map (edge_said g) (all_edges g))) (map (node_of g) (all_vertices g)) ≡ g.orders =
    rw ids (orders_are g I (ends_in (node_names ns) es)) in
    let outer : outer_end (edge_names (map (edge_said g) (all_edges g))) (outer_option g.edge_names g.outer) ≡ g.outer = rw ids (outer_known g.edge_names g.outer I.edges_different (subst (λ k. IfSome g.outer (λ d. d < 2 * k)) (sym I.edge_names) I.outer)).1 in
    same_graph g (length ns) (ends_in (node_names ns) es) (node_names ns) (edge_names es) (lengths_in es) (full_orders (edge_names es) (ends_in (node_names ns) es) ns) (outer_end (edge_names es) (outer_option g.edge_names g.outer)) p count ends names ids (rows_are g I) orders outer

inner_back : (g : InputGraph) (at max_n max_m : ℕ) (es : Entries) → IsConsistent g → HasEnds g.graph → g.paths ≡ [] → g.graph.vertices ≤ max_n → length g.graph.ends ≤ max_m → map entry_at_zero (listed es) ≡ written_pairs g
    → (shape_fault (more (entry (codes "graph") at (list es)) none) max_n max_m ≡ None) × (embedded_graph (more (entry (codes "graph") at (list es)) none) ≡ Some g)
unfolding shape_fault embedded_graph
inner_back g at max_n max_m es I E p few_n few_m is =
    let zeroed : zero_parts (parts_say (listed es)) ≡ parts_of g = sym (zero_parts_say (listed es)) ∙ ap parts_say is ∙ parts_are g I in
    let right : graph_wrong (listed es) ≡ None = zero_kinds (listed es) (subst (λ (l : List Entry). graph_wrong l ≡ None) (sym is) (kinds_right g)) in
    let kinds : text_fault (entry (codes "graph") at (list es) ∷ []) ≡ None = rw right refl in
    let parts : parts_fault (parts_say (listed es)) max_n max_m ≡ None = zero_faults (parts_say (listed es)) max_n max_m (subst (λ (q : Parts). parts_fault q max_n max_m ≡ None) (sym zeroed) (parts_clear g max_n max_m I E few_n few_m)) in
    let graph : embedded_in (parts_say (listed es)) ≡ g = sym (zero_graph (parts_say (listed es))) ∙ ap embedded_in zeroed ∙ parts_graph g I E p in
    (none_or (text_fault (entry (codes "graph") at (list es) ∷ [])) (parts_fault (parts_say (listed es)) max_n max_m) kinds parts, ap (λ (h : InputGraph). Some h) graph)

pub written_back : (g : InputGraph) (text : Entries) (max_n max_m : ℕ) → IsConsistent g → HasEnds g.graph → g.paths ≡ [] → g.graph.vertices ≤ max_n → length g.graph.ends ≤ max_m → at_zero text ≡ at_zero (written_entries g)
    → (shape_fault text max_n max_m ≡ None) × (embedded_graph text ≡ Some g)
unfolding written_entries
written_back g text max_n max_m I E p few_n few_m e =
    graph_inv (λ (t : Entries). (shape_fault t max_n max_m ≡ None) × (embedded_graph t ≡ Some g)) (at_zero (entries_of (written_pairs g)))
    (λ at es is. inner_back g at max_n max_m es I E p few_n few_m (sym (zero_listed es) ∙ ap listed is ∙ zero_listed (entries_of (written_pairs g)) ∙ ap (map entry_at_zero) (listed_of (written_pairs g)) ∙ zero_written g)) text e
