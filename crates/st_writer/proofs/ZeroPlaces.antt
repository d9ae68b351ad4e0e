-- What a text says does not depend on the places of its pairs, but for the places themselves: a text whose places are set
-- to 0 has a fault where the text has one, and has the same graph.
-- Letters: xs pairs, k key, m mention, n node, o outer face, p parts.
use Rattle.std.proofs.Common.{◌≡◌, ◌+◌, ℕ, ℤ, Bool, true, false, cond, List, [], ◌∷◌, ◌++◌, length, map, refl, ap, sym, subst, ◌∙◌, codes, Option, None, Some}
use Rattle.std.specs.Prelude.{bytes_eq, is_some, pos}
use Rattle.std.specs.Option.{option_map, unwrap_or}
use Rattle.std.proofs.lemmas.List.{length-map}
use Rattle.gml_core.specs.Trees.{int, real, str, atom, list, Entry, entry, Entries, none, more, listed}
use Rattle.gml_core.specs.Printing.{at_zero, entry_at_zero, datum_at_zero}
use Rattle.st_parts.specs.Used.{place_of, datum_of, first_with, each, int_in, str_in, list_in, int_of, str_of, list_of, first_int, first_str, first_list}
use Rattle.st_parts.specs.Kinds.{earlier, earliest, wrong, wrong_of, first_wrong, name_wrong_of, names_wrong, inside, inside_of, first_inside, node_wrong, edge_wrong, outer_wrong, part_wrong, graph_wrong}
use Rattle.st_parts.specs.Parts.{shown_label, pairs_in, name_in, mention_in, mentions_in, names_in, minlen_in, minlen_of, label_says, node_in, label_in, edge_in, outer_in, path_in, parts_say}
use Rattle.st_input.specs.Names.{number_of}
use Rattle.st_input.specs.Faults.{or_else, first_fault, node_name, node_names, name_fault, node_fault, ends_fault, is_length, length_fault, edge_fault, rows_of, length_in, lengths_in, pair_in, same_fault, id_fault, ids_fault, all_named, edge_id, edge_ids, edge_names, mention_fault, order_fault, written_fault, orders_fault, edges_in, ends_in}
use Rattle.st_input.specs.Faults.{edge_number}
use Rattle.st_input.specs.Orders.{order_from, orders_from, full_orders}
use Rattle.st_input.specs.Embedding.{written_end, outer_end, embedded_in}
use Rattle.st_input.specs.FirstFault.{is_side, side_fault, outer_fault, limits_fault, parts_fault}
use Rattle.st_input.specs.declared.fault.ShapeFault.{ShapeFault}
use Rattle.st_input.specs.declared.fault.ShapeFault.TheVariants.{BadLength, BadOuter, UnknownEdge}
use Rattle.st_parts.specs.declared.parts.Mention.{Mention}
use Rattle.st_parts.specs.declared.parts.Node.{Node}
use Rattle.st_parts.specs.declared.parts.Minlen.{Minlen}
use Rattle.st_parts.specs.declared.parts.Edge.{Edge}
use Rattle.st_parts.specs.declared.parts.Outer.{Outer}
use Rattle.st_parts.specs.declared.parts.Parts.{Parts}
use Rattle.st_input.proofs.Public.{or_none}
use Rattle.st_writer.proofs.ReadBack.{none_or}

-- ---- parts with each place 0
abbrev pub zero_mention : Mention → Mention
zero_mention m = record { at = 0; name = m.name }

abbrev pub zero_node : Node → Node
zero_node n = record { at = 0; id = n.id; order = option_map (λ (ms : List Mention). map zero_mention ms) n.order }

abbrev pub zero_minlen : Minlen → Minlen
zero_minlen m = record { rows = m.rows; at = 0 }

abbrev pub zero_edge : Edge → Edge
zero_edge e = record { id = e.id; source = e.source; target = e.target; minlen = option_map zero_minlen e.minlen }

abbrev pub zero_outer : Outer → Outer
zero_outer o = record { at = 0; edge = option_map zero_mention o.edge; side = o.side }

abbrev pub zero_parts : Parts → Parts
zero_parts p = record { nodes = map zero_node p.nodes; labels = p.labels; edges = map zero_edge p.edges; outer = option_map zero_outer p.outer; paths = p.paths }

-- ---- pairs
pub zero_listed : (es : Entries) → listed (at_zero es) ≡ map entry_at_zero (listed es)
zero_listed none = refl
zero_listed (more e es) = ap (λ (l : List Entry). entry_at_zero e ∷ l) (zero_listed es)

zero_first : (k : List ℕ) (xs : List Entry) → first_with k (map entry_at_zero xs) ≡ option_map entry_at_zero (first_with k xs)
zero_first k [] = refl
zero_first k (entry j at d ∷ xs) = by (bytes_eq j k) (zero_first k xs)
  where
    by : (b : Bool) → first_with k (map entry_at_zero xs) ≡ option_map entry_at_zero (first_with k xs) → cond b (Some (entry j 0 (datum_at_zero d))) (first_with k (map entry_at_zero xs)) ≡ option_map entry_at_zero (cond b (Some (entry j at d)) (first_with k xs))
    by true rest = refl
    by false rest = rest

zero_int : (e : Entry) → int_in (datum_of (entry_at_zero e)) ≡ int_in (datum_of e)
zero_int (entry j at (atom a)) = refl
zero_int (entry j at (list es)) = refl

zero_pairs : (e : Entry) → pairs_in (entry_at_zero e) ≡ map entry_at_zero (pairs_in e)
zero_pairs (entry j at (atom (int z))) = refl
zero_pairs (entry j at (atom (real bs))) = refl
zero_pairs (entry j at (atom (str bs))) = refl
zero_pairs (entry j at (list es)) = zero_listed es

-- a pair that is found says the same, where what it says has no places
zero_of : {A : Type 0} (says : Entry → A) → ((e : Entry) → says (entry_at_zero e) ≡ says e) → (o : Option Entry) → option_map says (option_map entry_at_zero o) ≡ option_map says o
zero_of says same None = refl
zero_of says same (Some e) = ap (λ x. Some x) (same e)

zero_first_int : (k : List ℕ) (xs : List Entry) → first_int k (map entry_at_zero xs) ≡ first_int k xs
zero_first_int k xs = ap int_of (zero_first k xs) ∙ by (first_with k xs)
  where
    by : (o : Option Entry) → int_of (option_map entry_at_zero o) ≡ int_of o
    by None = refl
    by (Some e) = zero_int e

zero_str : (e : Entry) → str_in (datum_of (entry_at_zero e)) ≡ str_in (datum_of e)
zero_str (entry j at (atom (int z))) = refl
zero_str (entry j at (atom (real bs))) = refl
zero_str (entry j at (atom (str bs))) = refl
zero_str (entry j at (list es)) = refl

zero_first_str : (k : List ℕ) (xs : List Entry) → first_str k (map entry_at_zero xs) ≡ first_str k xs
zero_first_str k xs = ap str_of (zero_first k xs) ∙ by (first_with k xs)
  where
    by : (o : Option Entry) → str_of (option_map entry_at_zero o) ≡ str_of o
    by None = refl
    by (Some e) = zero_str e

zero_list : (e : Entry) → list_in (datum_of (entry_at_zero e)) ≡ option_map (map entry_at_zero) (list_in (datum_of e))
zero_list (entry j at (atom (int z))) = refl
zero_list (entry j at (atom (real bs))) = refl
zero_list (entry j at (atom (str bs))) = refl
zero_list (entry j at (list es)) = ap (λ (l : List Entry). Some l) (zero_listed es)

zero_first_list : (k : List ℕ) (xs : List Entry) → first_list k (map entry_at_zero xs) ≡ option_map (map entry_at_zero) (first_list k xs)
zero_first_list k xs = ap list_of (zero_first k xs) ∙ by (first_with k xs)
  where
    by : (o : Option Entry) → list_of (option_map entry_at_zero o) ≡ option_map (map entry_at_zero) (list_of o)
    by None = refl
    by (Some e) = zero_list e

-- what each pair says, with its places set to 0
zero_each : {A : Type 0} (k : List ℕ) (says : Entry → A) (zero_it : A → A) → ((e : Entry) → says (entry_at_zero e) ≡ zero_it (says e)) → (xs : List Entry) → each k says (map entry_at_zero xs) ≡ map zero_it (each k says xs)
zero_each k says zero_it same [] = refl
zero_each {A} k says zero_it same (entry j at d ∷ xs) = by (bytes_eq j k) (zero_each k says zero_it same xs)
  where
    by : (b : Bool) → each k says (map entry_at_zero xs) ≡ map zero_it (each k says xs) → cond b (says (entry j 0 (datum_at_zero d)) ∷ each k says (map entry_at_zero xs)) (each k says (map entry_at_zero xs)) ≡ map zero_it (cond b (says (entry j at d) ∷ each k says xs) (each k says xs))
    by true rest = ap (λ (x : A). x ∷ each k says (map entry_at_zero xs)) (same (entry j at d)) ∙ ap (λ (l : List A). zero_it (says (entry j at d)) ∷ l) rest
    by false rest = rest

-- the same of what has no places
same_each : {A : Type 0} (k : List ℕ) (says : Entry → A) → ((e : Entry) → says (entry_at_zero e) ≡ says e) → (xs : List Entry) → each k says (map entry_at_zero xs) ≡ each k says xs
same_each k says same [] = refl
same_each {A} k says same (entry j at d ∷ xs) = by (bytes_eq j k) (same_each k says same xs)
  where
    by : (b : Bool) → each k says (map entry_at_zero xs) ≡ each k says xs → cond b (says (entry j 0 (datum_at_zero d)) ∷ each k says (map entry_at_zero xs)) (each k says (map entry_at_zero xs)) ≡ cond b (says (entry j at d) ∷ each k says xs) (each k says xs)
    by true rest = ap (λ (x : A). x ∷ each k says (map entry_at_zero xs)) (same (entry j at d)) ∙ ap (λ (l : List A). says (entry j at d) ∷ l) rest
    by false rest = rest

-- ---- what the pairs say
zero_name : (e : Entry) → name_in (entry_at_zero e) ≡ name_in e
zero_name e = ap (λ (o : Option ℤ). unwrap_or o (pos 0)) (zero_int e)

zero_place : (e : Entry) → place_of (entry_at_zero e) ≡ 0
zero_place (entry j at d) = refl

zero_mention_in : (e : Entry) → mention_in (entry_at_zero e) ≡ zero_mention (mention_in e)
zero_mention_in e = rw (zero_place e, zero_name e) refl

zero_mentions : (xs : List Entry) → mentions_in (map entry_at_zero xs) ≡ map zero_mention (mentions_in xs)
zero_mentions xs = zero_each (codes "e") mention_in zero_mention zero_mention_in xs

zero_order : (o : Option (List Entry)) → option_map mentions_in (option_map (map entry_at_zero) o) ≡ option_map (λ (ms : List Mention). map zero_mention ms) (option_map mentions_in o)
zero_order None = refl
zero_order (Some xs) = ap (λ (l : List Mention). Some l) (zero_mentions xs)

zero_node_in : (e : Entry) → node_in (entry_at_zero e) ≡ zero_node (node_in e)
zero_node_in e =
    let xs = pairs_in e in
    let order : option_map mentions_in (first_list (codes "order") (map entry_at_zero (pairs_in e))) ≡ option_map (λ (ms : List Mention). map zero_mention ms) (option_map mentions_in (first_list (codes "order") (pairs_in e))) =
    ap (λ (o : Option (List Entry)). option_map mentions_in o) (zero_first_list (codes "order") xs) ∙ zero_order (first_list (codes "order") xs) in
    rw (zero_place e, zero_pairs e, zero_first_int (codes "id") xs, order) refl

zero_label_in : (e : Entry) → label_in (entry_at_zero e) ≡ label_in e
zero_label_in e = ap label_says (zero_pairs e) ∙ ap shown_label (zero_first_str (codes "label") (pairs_in e))

zero_minlen_in : (e : Entry) → minlen_in (entry_at_zero e) ≡ option_map zero_minlen (minlen_in e)
zero_minlen_in (entry j at (atom (int z))) = refl
zero_minlen_in (entry j at (atom (real bs))) = refl
zero_minlen_in (entry j at (atom (str bs))) = refl
zero_minlen_in (entry j at (list es)) = refl

zero_minlen_of : (o : Option Entry) → minlen_of (option_map entry_at_zero o) ≡ option_map zero_minlen (minlen_of o)
zero_minlen_of None = refl
zero_minlen_of (Some e) = zero_minlen_in e

zero_edge_in : (e : Entry) → edge_in (entry_at_zero e) ≡ zero_edge (edge_in e)
zero_edge_in e =
    let xs = pairs_in e in
    let minlen : minlen_of (first_with (codes "minlen") (map entry_at_zero (pairs_in e))) ≡ option_map zero_minlen (minlen_of (first_with (codes "minlen") (pairs_in e))) = ap minlen_of (zero_first (codes "minlen") xs) ∙ zero_minlen_of (first_with (codes "minlen") xs) in
    rw (zero_pairs e, zero_first_int (codes "id") xs, zero_first_int (codes "source") xs, zero_first_int (codes "target") xs, minlen) refl

zero_path_in : (e : Entry) → path_in (entry_at_zero e) ≡ path_in e
zero_path_in e = ap names_in (zero_pairs e) ∙ same_each (codes "e") name_in zero_name (pairs_in e)

zero_outer_in : (e : Entry) → outer_in (entry_at_zero e) ≡ zero_outer (outer_in e)
zero_outer_in e =
    let xs = pairs_in e in
    let edge : option_map mention_in (first_with (codes "edge") (map entry_at_zero (pairs_in e))) ≡ option_map zero_mention (option_map mention_in (first_with (codes "edge") (pairs_in e))) = ap (option_map mention_in) (zero_first (codes "edge") xs) ∙ by (first_with (codes "edge") xs) in
    rw (zero_place e, zero_pairs e, edge, zero_first_int (codes "side") xs) refl
  where
    by : (o : Option Entry) → option_map mention_in (option_map entry_at_zero o) ≡ option_map zero_mention (option_map mention_in o)
    by None = refl
    by (Some x) = ap (λ (m : Mention). Some m) (zero_mention_in x)

-- what the pairs say with their places set to 0
pub zero_parts_say : (xs : List Entry) → parts_say (map entry_at_zero xs) ≡ zero_parts (parts_say xs)
zero_parts_say xs =
    let outer : option_map outer_in (first_with (codes "outer") (map entry_at_zero xs)) ≡ option_map zero_outer (option_map outer_in (first_with (codes "outer") xs)) = ap (option_map outer_in) (zero_first (codes "outer") xs) ∙ by (first_with (codes "outer") xs) in
    rw (zero_each (codes "node") node_in zero_node zero_node_in xs, same_each (codes "node") label_in zero_label_in xs, zero_each (codes "edge") edge_in zero_edge zero_edge_in xs, outer, same_each (codes "path") path_in zero_path_in xs) refl
  where
    by : (o : Option Entry) → option_map outer_in (option_map entry_at_zero o) ≡ option_map zero_outer (option_map outer_in o)
    by None = refl
    by (Some x) = ap (λ (m : Outer). Some m) (zero_outer_in x)

-- ---- kinds
pub none_of : (p q : Option ℕ) → earlier p q ≡ None → (p ≡ None) × (q ≡ None)
none_of None q h = (refl, h)
none_of (Some p) None h = absurd (cc)
none_of (Some p) (Some q) h = absurd (cc)

clear_both : (p q r s : Option ℕ) → (r ≡ None → p ≡ None) → (s ≡ None → q ≡ None) → earlier r s ≡ None → earlier p q ≡ None
clear_both p q r s f g h = let n = none_of r s h in rw (f n.0, g n.1) refl

clear_wrong : (e : Entry) → wrong (entry_at_zero e) ≡ None → wrong e ≡ None
clear_wrong e h = by (is_some (int_in (datum_of e))) (place_of (entry_at_zero e)) (subst (λ (o : Option ℤ). cond (is_some o) None (Some (place_of (entry_at_zero e))) ≡ None) (zero_int e) h)
  where
    by : (b : Bool) (at : ℕ) → cond b None (Some at) ≡ None → cond b None (Some (place_of e)) ≡ None
    by true at h = refl
    by false at h = absurd (cc)

clear_first_wrong : (k : List ℕ) (xs : List Entry) → first_wrong k (map entry_at_zero xs) ≡ None → first_wrong k xs ≡ None
clear_first_wrong k xs h = by (first_with k xs) (subst (λ (o : Option Entry). wrong_of o ≡ None) (zero_first k xs) h)
  where
    by : (o : Option Entry) → wrong_of (option_map entry_at_zero o) ≡ None → wrong_of o ≡ None
    by None h = refl
    by (Some e) h = clear_wrong e h

clear_earliest : (says : Entry → Option ℕ) → ((e : Entry) → says (entry_at_zero e) ≡ None → says e ≡ None) → (xs : List Entry) → earliest says (map entry_at_zero xs) ≡ None → earliest says xs ≡ None
clear_earliest says clear [] h = refl
clear_earliest says clear (e ∷ xs) h = clear_both (says e) (earliest says xs) (says (entry_at_zero e)) (earliest says (map entry_at_zero xs)) (clear e) (clear_earliest says clear xs) h

clear_name : (e : Entry) → name_wrong_of (entry_at_zero e) ≡ None → name_wrong_of e ≡ None
clear_name (entry j at d) h = by (bytes_eq j (codes "e")) h
  where
    by : (b : Bool) → cond b (wrong (entry j 0 (datum_at_zero d))) None ≡ None → cond b (wrong (entry j at d)) None ≡ None
    by true h = clear_wrong (entry j at d) h
    by false h = refl

clear_names : (xs : List Entry) → names_wrong (map entry_at_zero xs) ≡ None → names_wrong xs ≡ None
clear_names xs h = clear_earliest name_wrong_of clear_name xs h

clear_inside : (within : List Entry → Option ℕ) → ((xs : List Entry) → within (map entry_at_zero xs) ≡ None → within xs ≡ None) → (e : Entry) → inside within (entry_at_zero e) ≡ None → inside within e ≡ None
clear_inside within clear (entry j at (atom (int z))) h = absurd (cc)
clear_inside within clear (entry j at (atom (real bs))) h = absurd (cc)
clear_inside within clear (entry j at (atom (str bs))) h = absurd (cc)
clear_inside within clear (entry j at (list es)) h = clear (listed es) (subst (λ (l : List Entry). within l ≡ None) (zero_listed es) h)

clear_first_inside : (within : List Entry → Option ℕ) → ((xs : List Entry) → within (map entry_at_zero xs) ≡ None → within xs ≡ None) → (k : List ℕ) (xs : List Entry) → first_inside within k (map entry_at_zero xs) ≡ None → first_inside within k xs ≡ None
clear_first_inside within clear k xs h = by (first_with k xs) (subst (λ (o : Option Entry). inside_of within o ≡ None) (zero_first k xs) h)
  where
    by : (o : Option Entry) → inside_of within (option_map entry_at_zero o) ≡ None → inside_of within o ≡ None
    by None h = refl
    by (Some e) h = clear_inside within clear e h

clear_node_wrong : (xs : List Entry) → node_wrong (map entry_at_zero xs) ≡ None → node_wrong xs ≡ None
clear_node_wrong xs h = clear_both _ _ _ _ (clear_first_wrong (codes "id") xs) (clear_first_inside names_wrong clear_names (codes "order") xs) h

clear_edge_wrong : (xs : List Entry) → edge_wrong (map entry_at_zero xs) ≡ None → edge_wrong xs ≡ None
clear_edge_wrong xs h = clear_both _ _ _ _ (clear_first_wrong (codes "id") xs) (λ q. clear_both _ _ _ _ (clear_first_wrong (codes "source") xs) (λ r. clear_both _ _ _ _ (clear_first_wrong (codes "target") xs) (clear_first_wrong (codes "minlen") xs) r) q) h

clear_outer_wrong : (xs : List Entry) → outer_wrong (map entry_at_zero xs) ≡ None → outer_wrong xs ≡ None
clear_outer_wrong xs h = clear_both _ _ _ _ (clear_first_wrong (codes "edge") xs) (clear_first_wrong (codes "side") xs) h

clear_part : (e : Entry) → part_wrong (entry_at_zero e) ≡ None → part_wrong e ≡ None
clear_part (entry j at d) h = by (bytes_eq j (codes "node")) (bytes_eq j (codes "edge")) (bytes_eq j (codes "path")) h
  where
    by : (a b c : Bool) → cond a (inside node_wrong (entry j 0 (datum_at_zero d))) (cond b (inside edge_wrong (entry j 0 (datum_at_zero d))) (cond c (inside names_wrong (entry j 0 (datum_at_zero d))) None)) ≡ None
        → cond a (inside node_wrong (entry j at d)) (cond b (inside edge_wrong (entry j at d)) (cond c (inside names_wrong (entry j at d)) None)) ≡ None
    by true b c h = clear_inside node_wrong clear_node_wrong (entry j at d) h
    by false true c h = clear_inside edge_wrong clear_edge_wrong (entry j at d) h
    by false false true h = clear_inside names_wrong clear_names (entry j at d) h
    by false false false h = refl

-- each value has its kind where it has with the places set to 0
pub zero_kinds : (xs : List Entry) → graph_wrong (map entry_at_zero xs) ≡ None → graph_wrong xs ≡ None
zero_kinds xs h = clear_both _ _ _ _ (clear_first_inside outer_wrong clear_outer_wrong (codes "outer") xs) (clear_earliest part_wrong clear_part xs) h

-- ---- faults
zero_names : (ns : List Node) → node_names (map zero_node ns) ≡ node_names ns
zero_names [] = refl
zero_names (n ∷ ns) = ap (λ (l : List ℤ). node_name n ∷ l) (zero_names ns)

zero_push : {A : Type 0} (zero_it : A → A) (xs : List A) (x : A) → map zero_it xs ++ zero_it x ∷ [] ≡ map zero_it (xs ++ x ∷ [])
zero_push zero_it [] x = refl
zero_push {A} zero_it (y ∷ xs) x = ap (λ (l : List A). zero_it y ∷ l) (zero_push zero_it xs x)

clear_id : (before : List ℤ) (at : ℕ) (id : Option ℤ) → name_fault before 0 id ≡ None → name_fault before at id ≡ None
clear_id before at None h = absurd (cc)
clear_id before at (Some z) h = h

clear_nodes : (before ns : List Node) → first_fault node_fault (map zero_node before) (map zero_node ns) ≡ None → first_fault node_fault before ns ≡ None
clear_nodes before [] h = refl
clear_nodes before (n ∷ ns) h =
    let both = or_none (node_fault (map zero_node before) (zero_node n)) (first_fault node_fault (map zero_node before ++ zero_node n ∷ []) (map zero_node ns)) h in
    let here : node_fault before n ≡ None = clear_id (node_names before) n.at n.id (subst (λ (l : List ℤ). name_fault l 0 n.id ≡ None) (zero_names before) both.0) in
    let rest : first_fault node_fault (before ++ n ∷ []) ns ≡ None = clear_nodes (before ++ n ∷ []) ns (subst (λ (l : List Node). first_fault node_fault l (map zero_node ns) ≡ None) (zero_push zero_node before n) both.1) in
    rw (here, rest) refl

clear_length : (o : Option Minlen) → length_fault (option_map zero_minlen o) ≡ None → length_fault o ≡ None
clear_length None h = refl
clear_length (Some m) h = by (is_length m.rows) h
  where
    by : (b : Bool) → cond b None (Some (BadLength 0)) ≡ None → cond b None (Some (BadLength m.at)) ≡ None
    by true h = refl
    by false h = absurd (cc)

clear_edges : (vertices : List ℤ) (before es : List Edge) → first_fault (edge_fault vertices) (map zero_edge before) (map zero_edge es) ≡ None → first_fault (edge_fault vertices) before es ≡ None
clear_edges vertices before [] h = refl
clear_edges vertices before (e ∷ es) h =
    let both = or_none (edge_fault vertices (map zero_edge before) (zero_edge e)) (first_fault (edge_fault vertices) (map zero_edge before ++ zero_edge e ∷ []) (map zero_edge es)) h in
    let parts = or_none (ends_fault vertices (length (map zero_edge before)) e.source e.target) (length_fault (option_map zero_minlen e.minlen)) both.0 in
    let ends : ends_fault vertices (length before) e.source e.target ≡ None = subst (λ (k : ℕ). ends_fault vertices k e.source e.target ≡ None) (length-map before zero_edge) parts.0 in
    let here : edge_fault vertices before e ≡ None = none_or (ends_fault vertices (length before) e.source e.target) (length_fault e.minlen) ends (clear_length e.minlen parts.1) in
    let rest : first_fault (edge_fault vertices) (before ++ e ∷ []) es ≡ None = clear_edges vertices (before ++ e ∷ []) es (subst (λ (l : List Edge). first_fault (edge_fault vertices) l (map zero_edge es) ≡ None) (zero_push zero_edge before e) both.1) in
    none_or (edge_fault vertices before e) (first_fault (edge_fault vertices) (before ++ e ∷ []) es) here rest

zero_all_named : (es : List Edge) → all_named (map zero_edge es) ≡ all_named es
zero_all_named [] = refl
zero_all_named (e ∷ es) = ap (λ (b : Bool). cond (is_some e.id) b false) (zero_all_named es)

zero_edge_ids : (es : List Edge) → edge_ids (map zero_edge es) ≡ edge_ids es
zero_edge_ids [] = refl
zero_edge_ids (e ∷ es) = ap (λ (l : List ℤ). edge_id e ∷ l) (zero_edge_ids es)

zero_edge_names : (es : List Edge) → edge_names (map zero_edge es) ≡ edge_names es
unfolding edge_names
zero_edge_names es = rw (zero_all_named es, zero_edge_ids es, length-map es zero_edge) refl

zero_id_fault : (before es : List Edge) → first_fault id_fault (map zero_edge before) (map zero_edge es) ≡ first_fault id_fault before es
zero_id_fault before [] = refl
zero_id_fault before (e ∷ es) =
    ap (λ (l : List ℤ). or_else (same_fault l (edge_id e)) (first_fault id_fault (map zero_edge before ++ zero_edge e ∷ []) (map zero_edge es))) (zero_edge_ids before)
    ∙ ap (λ (l : List Edge). or_else (id_fault before e) (first_fault id_fault l (map zero_edge es))) (zero_push zero_edge before e)
    ∙ ap (λ (f : Option ShapeFault). or_else (id_fault before e) f) (zero_id_fault (before ++ e ∷ []) es)

zero_ids_fault : (es : List Edge) → ids_fault (map zero_edge es) ≡ ids_fault es
zero_ids_fault es = rw (zero_all_named es, zero_id_fault [] es) refl

clear_mention : (names : List ℤ) (m : Mention) → mention_fault names (zero_mention m) ≡ None → mention_fault names m ≡ None
clear_mention names m h = by (is_some (number_of names m.name)) h
  where
    by : (b : Bool) → cond b None (Some (UnknownEdge 0)) ≡ None → cond b None (Some (UnknownEdge m.at)) ≡ None
    by true h = refl
    by false h = absurd (cc)

clear_mentions : (names : List ℤ) (ms : List Mention) → order_fault names (map zero_mention ms) ≡ None → order_fault names ms ≡ None
clear_mentions names [] h = refl
clear_mentions names (m ∷ ms) h =
    let both = or_none (mention_fault names (zero_mention m)) (order_fault names (map zero_mention ms)) h in
    rw (clear_mention names m both.0, clear_mentions names ms both.1) refl

clear_written : (names : List ℤ) (o : Option (List Mention)) → written_fault names (option_map (λ (ms : List Mention). map zero_mention ms) o) ≡ None → written_fault names o ≡ None
clear_written names None h = refl
clear_written names (Some ms) h = clear_mentions names ms h

clear_orders : (names : List ℤ) (ns : List Node) → orders_fault names (map zero_node ns) ≡ None → orders_fault names ns ≡ None
clear_orders names [] h = refl
clear_orders names (n ∷ ns) h =
    let both = or_none (written_fault names (zero_node n).order) (orders_fault names (map zero_node ns)) h in
    rw (clear_written names n.order both.0, clear_orders names ns both.1) refl

clear_side : (names : List ℤ) (at : ℕ) (m : Option Mention) (s : Option ℤ) → side_fault names 0 (option_map zero_mention m) s ≡ None → side_fault names at m s ≡ None
clear_side names at None s h = absurd (cc)
clear_side names at (Some m) None h = absurd (cc)
clear_side names at (Some m) (Some s) h = by (is_side s) h
  where
    by : (b : Bool) → cond b (mention_fault names (zero_mention m)) (Some (BadOuter 0)) ≡ None → cond b (mention_fault names m) (Some (BadOuter at)) ≡ None
    by true h = clear_mention names m h
    by false h = absurd (cc)

clear_outer : (names : List ℤ) (o : Option Outer) → outer_fault names (option_map zero_outer o) ≡ None → outer_fault names o ≡ None
clear_outer names None h = refl
clear_outer names (Some o) h = clear_side names o.at o.edge o.side h

-- no part has a fault where none has with the places set to 0
pub zero_faults : (p : Parts) (a b : ℕ) → parts_fault (zero_parts p) a b ≡ None → parts_fault p a b ≡ None
zero_faults p a b h =
    let zs = map zero_node p.nodes in
    let es = map zero_edge p.edges in
    let names = edge_names es in
    let last = limits_fault (length zs) (length es) a b in
    let h0 = or_none (first_fault node_fault [] zs) (or_else (first_fault (edge_fault (node_names zs)) [] es) (or_else (ids_fault es) (or_else (orders_fault names zs) (or_else (outer_fault names (option_map zero_outer p.outer)) last)))) h in
    let h1 = or_none (first_fault (edge_fault (node_names zs)) [] es) (or_else (ids_fault es) (or_else (orders_fault names zs) (or_else (outer_fault names (option_map zero_outer p.outer)) last))) h0.1 in
    let h2 = or_none (ids_fault es) (or_else (orders_fault names zs) (or_else (outer_fault names (option_map zero_outer p.outer)) last)) h1.1 in
    let h3 = or_none (orders_fault names zs) (or_else (outer_fault names (option_map zero_outer p.outer)) last) h2.1 in
    let h4 = or_none (outer_fault names (option_map zero_outer p.outer)) last h3.1 in
    let same : edge_names (map zero_edge p.edges) ≡ edge_names p.edges = zero_edge_names p.edges in
    let nodes : first_fault node_fault [] p.nodes ≡ None = clear_nodes [] p.nodes h0.0 in
    let edges : first_fault (edge_fault (node_names p.nodes)) [] p.edges ≡ None = clear_edges (node_names p.nodes) [] p.edges (subst (λ (l : List ℤ). first_fault (edge_fault l) [] (map zero_edge p.edges) ≡ None) (zero_names p.nodes) h1.0) in
    let ids : ids_fault p.edges ≡ None = sym (zero_ids_fault p.edges) ∙ h2.0 in
    let orders : orders_fault (edge_names p.edges) p.nodes ≡ None = clear_orders (edge_names p.edges) p.nodes (subst (λ (l : List ℤ). orders_fault l (map zero_node p.nodes) ≡ None) same h3.0) in
    let outer : outer_fault (edge_names p.edges) p.outer ≡ None = clear_outer (edge_names p.edges) p.outer (subst (λ (l : List ℤ). outer_fault l (option_map zero_outer p.outer) ≡ None) same h4.0) in
    let limits : limits_fault (length p.nodes) (length p.edges) a b ≡ None = subst (λ k. limits_fault (length p.nodes) k a b ≡ None) (length-map p.edges zero_edge) (subst (λ k. limits_fault k (length (map zero_edge p.edges)) a b ≡ None) (length-map p.nodes zero_node) h4.1) in
    none_or _ _ nodes (none_or _ _ edges (none_or _ _ ids (none_or _ _ orders (none_or _ _ outer limits))))

-- ---- the graph
zero_edges_in : (names : List ℤ) (ms : List Mention) → edges_in names (map zero_mention ms) ≡ edges_in names ms
zero_edges_in names [] = refl
zero_edges_in names (m ∷ ms) = ap (λ (l : List ℕ). edge_number names m ∷ l) (zero_edges_in names ms)

zero_order_from : (names : List ℤ) (ends : List (ℕ × ℕ)) (v : ℕ) (o : Option (List Mention)) → order_from names ends v (option_map (λ (ms : List Mention). map zero_mention ms) o) ≡ order_from names ends v o
zero_order_from names ends v None = refl
zero_order_from names ends v (Some ms) = zero_edges_in names ms

zero_orders : (names : List ℤ) (ends : List (ℕ × ℕ)) (v : ℕ) (ns : List Node) → orders_from names ends v (map zero_node ns) ≡ orders_from names ends v ns
zero_orders names ends v [] = refl
zero_orders names ends v (n ∷ ns) = ap (λ (l : List ℕ). l ∷ orders_from names ends (v + 1) (map zero_node ns)) (zero_order_from names ends v n.order) ∙ ap (λ (l : List (List ℕ)). order_from names ends v n.order ∷ l) (zero_orders names ends (v + 1) ns)

zero_full : (names : List ℤ) (ends : List (ℕ × ℕ)) (ns : List Node) → full_orders names ends (map zero_node ns) ≡ full_orders names ends ns
unfolding full_orders
zero_full names ends ns = zero_orders names ends 0 ns

zero_end : (names : List ℤ) (o : Option Outer) → outer_end names (option_map zero_outer o) ≡ outer_end names o
zero_end names None = refl
zero_end names (Some o) = by o.edge o.side
  where
    by : (m : Option Mention) (s : Option ℤ) → written_end names (option_map zero_mention m) s ≡ written_end names m s
    by None s = refl
    by (Some m) None = refl
    by (Some m) (Some s) = refl

zero_ends : (vertices : List ℤ) (es : List Edge) → ends_in vertices (map zero_edge es) ≡ ends_in vertices es
zero_ends vertices [] = refl
zero_ends vertices (e ∷ es) = ap (λ (l : List (ℕ × ℕ)). pair_in vertices e ∷ l) (zero_ends vertices es)

zero_rows : (o : Option Minlen) → rows_of (option_map zero_minlen o) ≡ rows_of o
zero_rows None = refl
zero_rows (Some m) = refl

zero_lengths : (es : List Edge) → lengths_in (map zero_edge es) ≡ lengths_in es
zero_lengths [] = refl
zero_lengths (e ∷ es) = ap (λ (n : ℕ). n ∷ lengths_in (map zero_edge es)) (zero_rows e.minlen) ∙ ap (λ (l : List ℕ). length_in e ∷ l) (zero_lengths es)

-- the graph is the same
pub zero_graph : (p : Parts) → embedded_in (zero_parts p) ≡ embedded_in p
zero_graph p = rw (zero_names p.nodes, length-map p.nodes zero_node, zero_edge_names p.edges, zero_ends (node_names p.nodes) p.edges, zero_lengths p.edges, zero_full (edge_names p.edges) (ends_in (node_names p.nodes) p.edges) p.nodes, zero_end (edge_names p.edges) p.outer) refl
